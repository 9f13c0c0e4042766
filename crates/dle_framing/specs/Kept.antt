-- What a framer keeps of the rest of a text.
use Rattle.std.specs.Prelude.{◌≡◌, ℕ, List, [], ◌∷◌, ◌++◌, take}
use Rattle.dle_framing.specs.Numbers.{dle, stx, most_kept}
use Rattle.doubled_bytes.specs.declared.state.State.{State}
use Rattle.doubled_bytes.specs.declared.state.State.TheVariants.{Outside, OutsideDle, Inside, InsideDle}
use Rattle.dle_framing.specs.Frame.{doubled}

-- A state and the front of a body keep a rest: nothing, a DLE alone, or a frame that has started, maybe with a DLE at
-- its end. Of a frame's body so far they keep the first 258 bytes, which tell a good body from a longer one. [profile]
abbrev pub Keeps : State → List ℕ → List ℕ → Type 0
Keeps Outside front kept = kept ≡ []
Keeps OutsideDle front kept = kept ≡ dle ∷ []
Keeps Inside front kept =
    (body : List ℕ) × (front ≡ take most_kept body) × (kept ≡ dle ∷ stx ∷ doubled body)
Keeps InsideDle front kept = (body : List ℕ) × (front ≡ take most_kept body)
    × (kept ≡ dle ∷ stx ∷ (doubled body ++ dle ∷ []))
