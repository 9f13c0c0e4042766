-- What one byte more does to what a framer keeps.
use Rattle.std.specs.Prelude.{◌≡◌, ℕ, ◌-◌, List, [], ◌∷◌, ◌++◌, length, take, Option}
use Rattle.std.specs.Option.{option_map, option_to_list}
use Rattle.doubled_bytes.specs.declared.state.State.{State}
use Rattle.doubled_bytes.specs.declared.state.State.TheVariants.{Outside, OutsideDle, Inside, InsideDle}
use Rattle.dle_framing.specs.declared.item.Item.{Item}
use Rattle.dle_framing.specs.declared.item.Item.TheVariants.{Good, Bad, Ack, Nak}
use Rattle.dle_framing.specs.Items.{items, rest}
use Rattle.dle_framing.specs.Kept.{Keeps}

-- an item whose DATA stand in the front of a body, without its two last bytes
abbrev pub found_in : {D : Type 0} → List ℕ → Item D → Item (List ℕ)
found_in front (Good _) = Good (take (length front - 2) front)
found_in front Bad = Bad
found_in front Ack = Ack
found_in front Nak = Nak

-- A DLE was taken, and the byte behind it wasn't.
abbrev pub IsBehindDle : State → Type 0
IsBehindDle Outside = ⊥
IsBehindDle OutsideDle = Unit {0}
IsBehindDle Inside = ⊥
IsBehindDle InsideDle = Unit {0}

-- One byte more takes a state and a front to others, and ends this item or none.
unfoldable pub Steps : State → List ℕ → ℕ → Option (Item (Unit {0})) → State
    → List ℕ → Type 0
Steps state front byte item next_state next_front =
    (kept : List ℕ) → Keeps state front kept
    → (items (kept ++ byte ∷ []) ≡ option_to_list (option_map (found_in next_front) item))
    × Keeps next_state next_front (rest (kept ++ byte ∷ []))
