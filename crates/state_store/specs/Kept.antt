-- What a store keeps, by its bytes alone.
use Rattle.std.specs.Prelude.{ℕ, nat_lt, Bool, true, false, List, Option, Some, None, if◌then◌else◌}
use Rattle.state_store.specs.Slots.{InSlot, in_slot, other, number_of, text_of}
use Rattle.state_store.specs.declared.slot.Slot.{Slot}
use Rattle.state_store.specs.declared.slot.Slot.TheVariants.{First, Second}
use Rattle.state_store.specs.declared.heads.Head.{Head}
use Rattle.state_store.specs.declared.heads.Heads.{Heads}

-- A store keeps nothing yet, or a text under a number.
pub data Kept : Type 0 where
  Start : Kept
  Saved : ℕ → List ℕ → Kept

-- what an entry keeps
abbrev pub saved : List ℕ → Kept
saved entry = Saved (number_of entry) (text_of entry)

-- the number of what is kept, 0 at the start
abbrev pub number_kept : Kept → ℕ
number_kept Start = 0
number_kept (Saved number text) = number

-- The slot that stands, by whether each gate is open and whether the second number is the greater: of two open slots the
-- one with the greater number, and of equal numbers the first.
abbrev pub standing_when : (first second second_is_later : Bool) → Option Slot
standing_when true true later = Some (if later then Second else First)
standing_when true false later = Some First
standing_when false true later = Some Second
standing_when false false later = None

-- the slot that stands, by the heads of both
abbrev pub standing : Heads → Option Slot
standing heads = standing_when heads.first.is_open heads.second.is_open
    (nat_lt heads.first.number heads.second.number)

-- what is kept if this slot stands and these are the entries
abbrev pub kept_where : Option Slot → (first second : List ℕ) → Kept
kept_where None first second = Start
kept_where (Some First) first second = saved first
kept_where (Some Second) first second = saved second

-- the head of a slot: its gate and its number
abbrev pub head_of : InSlot → Head
head_of slot = record { is_open = slot.is_open; number = number_of slot.entry }

-- the heads of two slots
abbrev pub heads_of : (first second : InSlot) → Heads
heads_of first second = record { first = head_of first; second = head_of second }

-- what two slots keep
abbrev pub kept_of : (first second : InSlot) → Kept
kept_of first second =
    kept_where (standing (heads_of first second)) first.entry second.entry

-- the heads in a store's bytes, for entries of so many bytes
abbrev pub heads_in : ℕ → List ℕ → Heads
heads_in n all = heads_of (in_slot n First all) (in_slot n Second all)

-- what a store's bytes keep: the entry of the slot that stands, or the start if no gate is open
abbrev pub kept_in : ℕ → List ℕ → Kept
kept_in n all = kept_of (in_slot n First all) (in_slot n Second all)

-- the number of the slot that stands, 0 if none does
abbrev pub number_where : Option Slot → Heads → ℕ
number_where None heads = 0
number_where (Some First) heads = heads.first.number
number_where (Some Second) heads = heads.second.number

-- the slot that a save writes: the one that doesn't stand, and the first if none does
abbrev pub spare_where : Option Slot → Slot
spare_where None = First
spare_where (Some slot) = other slot

-- the head of this slot
abbrev pub head_at : Slot → Heads → Head
head_at First heads = heads.first
head_at Second heads = heads.second

-- the heads with another one of this slot
abbrev pub with_head : Slot → Head → Heads → Heads
with_head First head heads = record heads { first = head }
with_head Second head heads = record heads { second = head }
