-- What the steps of a save do to a store's bytes.
use Rattle.std.specs.Prelude.{◌≡◌, ◌⊎◌, ℕ, ◌<◌, Bool, true, List, Option, Some, None}
use Rattle.ctl_io.specs.Disk.{Torn}
use Rattle.state_store.specs.Slots.{in_slot, other, gate_at, number_of}
use Rattle.state_store.specs.Kept.{Start, heads_in, standing, kept_in, saved}
use Rattle.state_store.specs.declared.slot.Slot.{Slot}
use Rattle.state_store.specs.declared.slot.Slot.TheVariants.{First, Second}

-- These contents come from those that the disk showed by such a step.
abbrev pub IsFrom : (List ℕ → List ℕ → Type 0) → Option (List ℕ) → List ℕ → Type 0
IsFrom Step shown new = (old : List ℕ) × (shown ≡ Some old) × Step old new

-- A disk shows its contents now exactly if it did before, and then they come from those by such a step.
abbrev pub ShowsStep : (List ℕ → List ℕ → Type 0) → Option (List ℕ) → Option (List ℕ) → Type 0
ShowsStep Step None None = Unit {0}
ShowsStep Step None (Some new) = ⊥
ShowsStep Step (Some old) None = ⊥
ShowsStep Step (Some old) (Some new) = Step old new

-- A slot has now this gate and this entry, and the other slot has what it had.
pub record Sets (n : ℕ) (slot : Slot) (is_open : Bool) (entry old new : List ℕ) : Type 0 where
  pub this : in_slot n slot new ≡ record { is_open = is_open; entry = entry }
  pub that : in_slot n (other slot) new ≡ in_slot n (other slot) old

-- A slot's gate is this now, and all else is as it was.
abbrev pub SetsGate : ℕ → Slot → Bool → List ℕ → List ℕ → Type 0
SetsGate n slot is_open old new = Sets n slot is_open (in_slot n slot old).entry old new

-- The store keeps what it kept.
abbrev pub KeepsSame : ℕ → List ℕ → List ℕ → Type 0
KeepsSame n old new = kept_in n new ≡ kept_in n old

-- The store keeps what it kept, or this entry.
abbrev pub KeepsSameOr : ℕ → List ℕ → List ℕ → List ℕ → Type 0
KeepsSameOr n entry old new = (kept_in n new ≡ kept_in n old) ⊎ (kept_in n new ≡ saved entry)

-- A slot doesn't stand.
abbrev pub IsSpare : ℕ → Slot → List ℕ → Type 0
IsSpare n slot all = standing (heads_in n all) ≡ Some slot → ⊥

-- The other slot is closed, or its number is less than that of this entry.
abbrev pub IsLater : ℕ → Slot → List ℕ → List ℕ → Type 0
IsLater n slot entry all = (in_slot n (other slot) all).is_open ≡ true
    → number_of (in_slot n (other slot) all).entry < number_of entry

-- A slot's gate is open, or closed.
abbrev pub HasGate : ℕ → Slot → Bool → List ℕ → Type 0
HasGate n slot is_open all = (in_slot n slot all).is_open ≡ is_open

-- The entry of the slot is later than that of the other one.
abbrev pub HoldsLater : ℕ → Slot → List ℕ → Type 0
HoldsLater n slot all = IsLater n slot (in_slot n slot all).entry all

-- The store keeps what it kept, or the entry that the slot had.
abbrev pub KeepsSameOrThis : ℕ → Slot → List ℕ → List ℕ → Type 0
KeepsSameOrThis n slot old new = KeepsSameOr n (in_slot n slot old).entry old new

-- The store keeps this entry.
abbrev pub Keeps : ℕ → List ℕ → List ℕ → List ℕ → Type 0
Keeps n entry old new = kept_in n new ≡ saved entry

-- All but the gates of both slots is as it was.
abbrev pub TearsGates : ℕ → List ℕ → List ℕ → Type 0
TearsGates n old new =
    (mid : List ℕ) × Torn (gate_at n First) 1 old mid × Torn (gate_at n Second) 1 mid new

-- These contents are, but for the gates of both slots, some that a crash might have left.
abbrev pub IsTornFrom : ℕ → (List ℕ → Type 0) → List ℕ → Type 0
IsTornFrom n may_leave new = (old : List ℕ) × may_leave old × TearsGates n old new

-- The store keeps nothing yet.
abbrev pub IsAtStart : ℕ → List ℕ → Type 0
IsAtStart n all = kept_in n all ≡ Start
