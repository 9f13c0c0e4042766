-- What is said of a standby, in parts.
use Rattle.std.proofs.Common.{◌≡◌, ℕ, ◌+◌, zero, suc, sym, arith, append-nil, List, [], ◌∷◌, ◌++◌, ◌∙◌, ap, append_assoc, Some, refl}
use Rattle.std.specs.Prelude.{codes}
use Rattle.std.specs.List.{flat_map, range_with_len}
use Rattle.std.proofs.lemmas.List.Concat.{flat_map-append}
use Rattle.std.specs.Option.{option_map_or, option_and_then}
use Rattle.plant_config.specs.declared.records.Point.{Point}
use Rattle.plant_config.specs.Plant.{PlantData}
use Rattle.plant_config.specs.Sites.{point_of, source_number_of}
use Rattle.crosspoint_state.specs.Crosspoints.{source_of}
use Rattle.plant_core.specs.State.{State}
use Rattle.command_rows.specs.Lines.{line}
use Rattle.command_standby.specs.Standing.{at_line, carried_by, dest_text}

-- the parts of the line of a destination
pub at_parts : (a b c d : List ℕ) → codes "at " ++ (a ++ 32 ∷ (b ++ 32 ∷ (c ++ 32 ∷ (d ++ 10 ∷ [])))) ≡ line (codes "at " ++ a ++ codes " " ++ b ++ codes " " ++ c ++ codes " " ++ d)
at_parts a b c d = simp append_assoc refl

-- the line of a destination that carries a source
pub dest_shown : (state : State) (plant : PlantData) (dest source number : ℕ) (at : Point) → state.plant ≡ plant → point_of plant dest ≡ Some at → source_of state.crosspoints dest ≡ Some source → source_number_of plant source ≡ Some number
    → dest_text state dest ≡ at_line at number
dest_shown state plant dest source number at is placed had numbered =
    λ i. option_map_or (λ at. option_map_or (at_line at) (carried i) []) (there i) []
  where
    carried : carried_by state dest ≡ Some number
    carried = ap (option_and_then (source_number_of state.plant)) had ∙ ap (λ (p : PlantData). source_number_of p source) is ∙ numbered

    there : point_of state.plant dest ≡ Some at
    there = ap (λ (p : PlantData). point_of p dest) is ∙ placed

-- one destination more
range_push : (a n : ℕ) → range_with_len a (suc n) ≡ range_with_len a n ++ (a + n) ∷ []
range_push a zero = ap (λ (k : ℕ). k ∷ []) (omega arith)
range_push a (suc n) = ap (λ (more : List ℕ). a ∷ more) (range_push (a + 1) n ∙ ap (λ (k : ℕ). range_with_len (a + 1) n ++ k ∷ []) (omega arith))

flat_more : (f : ℕ → List ℕ) (n : ℕ) → flat_map f (range_with_len 0 (n + 1)) ≡ flat_map f (range_with_len 0 n) ++ f n
flat_more f n =
    let next : n + 1 ≡ suc n = omega arith in
    let here : 0 + n ≡ n = omega arith in
    ap (λ (k : ℕ). flat_map f (range_with_len 0 k)) next ∙ ap (flat_map f) (range_push 0 n ∙ ap (λ (k : ℕ). range_with_len 0 n ++ k ∷ []) here)
    ∙ flat_map-append f (range_with_len 0 n) (n ∷ []) ∙ ap (λ (t : List ℕ). flat_map f (range_with_len 0 n) ++ t) (append-nil (f n))

pub texts_more : (f : ℕ → List ℕ) (n m : ℕ) (start now new : List ℕ) → now ≡ start ++ flat_map f (range_with_len 0 n) → new ≡ now ++ f m → m ≡ n → new ≡ start ++ flat_map f (range_with_len 0 (n + 1))
texts_more f n m start now new so_far more same =
    more ∙ ap (λ (k : ℕ). now ++ f k) same ∙ ap (λ (t : List ℕ). t ++ f n) so_far ∙ append_assoc start (flat_map f (range_with_len 0 n)) (f n) ∙ ap (λ (t : List ℕ). start ++ t) (sym (flat_more f n))
