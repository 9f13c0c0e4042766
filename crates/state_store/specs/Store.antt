-- A store on a disk.
use Rattle.std.specs.Prelude.{ℕ, ◌≤◌, List, Option, IfSome, Result, Ok, Err}
use Rattle.ctl_io.specs.Crash.{LeavesShown}
use Rattle.state_store.specs.Slots.{store_size}
use Rattle.state_store.specs.Kept.{standing, number_where}
use Rattle.state_store.specs.Reading.{HasHeads}
use Rattle.state_store.specs.declared.slot.Slot.{Slot}
use Rattle.state_store.specs.declared.slots.Slots.{Slots}

-- the disk of a store
abbrev pub disk_of : {D : Type 0} → Slots D → D
disk_of slots = slots.disk

-- how many bytes an entry has
abbrev pub entry_len_of : {D : Type 0} → Slots D → ℕ
entry_len_of slots = slots.entry_len

-- the slot that stands
abbrev pub slot_of : {D : Type 0} → Slots D → Option Slot
slot_of slots = standing slots.heads

-- the number of what is kept, 0 at the start
abbrev pub number_by : {D : Type 0} → Slots D → ℕ
number_by slots = number_where (standing slots.heads) slots.heads

-- the disk that a call hands back, in a store or by itself
abbrev pub disk_after : {D : Type 0} → Result (Slots D) D → D
disk_after (Ok slots) = slots.disk
disk_after (Err disk) = disk

-- The disk has room for both slots, a crash leaves what it shows, and the slots' heads there are those that the store knows.
pub record IsSettled {D : Type 0} (size : D → ℕ) (contents : D → Option (List ℕ))
    (may_leave : D → List ℕ → Type 0) (slots : Slots D) : Type 0 where
  pub within : store_size slots.entry_len ≤ size slots.disk
  pub lasts : LeavesShown (contents slots.disk) (may_leave slots.disk)
  pub heads : IfSome (contents slots.disk) (HasHeads slots.entry_len slots.heads)
