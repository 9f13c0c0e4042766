-- The bytes of a store: two slots, one behind the other, each a gate and an entry, which is a number and a text.
use Rattle.std.specs.Prelude.{ℕ, ◌+◌, ◌*◌, ◌==◌, Bool, false, List, [], ◌∷◌, take, drop}
use Rattle.std.specs.Int.{w64, from_le_bytes}
use Rattle.state_store.specs.declared.slot.Slot.{Slot}
use Rattle.state_store.specs.declared.slot.Slot.TheVariants.{First, Second}

-- how many bytes a store has for entries of so many bytes
abbrev pub store_size : ℕ → ℕ
store_size n = 2 * (1 + n)

-- the slot beside this one
abbrev pub other : Slot → Slot
other First = Second
other Second = First

-- the place of a slot's gate, which is its first byte
abbrev pub gate_at : ℕ → Slot → ℕ
gate_at n First = 0
gate_at n Second = 1 + n

-- so many bytes from a place on
abbrev pub bytes_at : ℕ → ℕ → List ℕ → List ℕ
bytes_at at n all = take n (drop at all)

-- A gate is open if it is 1, and closed if it is anything else.
abbrev pub gate_is_open : List ℕ → Bool
gate_is_open [] = false
gate_is_open (gate ∷ rest) = gate == 1

-- what a slot has: whether its gate is open, and its entry
pub record InSlot : Type 0 where
  pub is_open : Bool
  pub entry : List ℕ

-- what the bytes of a store have in a slot
abbrev pub in_slot : ℕ → Slot → List ℕ → InSlot
in_slot n slot all = record {
  is_open = gate_is_open (bytes_at (gate_at n slot) 1 all);
  entry = bytes_at (gate_at n slot + 1) n all;
}

-- the number of an entry: its first eight bytes, the low one first
unfoldable pub number_of : List ℕ → ℕ
number_of entry = from_le_bytes w64 (take 8 entry)

-- the text of an entry
abbrev pub text_of : List ℕ → List ℕ
text_of entry = drop 8 entry
