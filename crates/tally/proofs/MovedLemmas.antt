-- What moves name is what moved, and what they touch is no more than the bound on reads says.
use Rattle.std.proofs.Common.{◌≡◌, ◌⊎◌, ℕ, ◌<◌, ◌≤◌, ◌==◌, nat_eq, Bool, true, false, not, ◌&&◌, List, [], ◌∷◌, length, map, slice_get, Option, Some, None, suc, inl, inr, refl, sym, ap, subst, arith, eq-eqb, eqb-true, length-append}
use Rattle.std.proofs.lemmas.Bool.{or_left, or_right, and_from, ne_eqb, eqb-false}
use Rattle.std.proofs.lemmas.List.Elements.{Contains-append_cases, Contains-append_right}
use Rattle.std.proofs.lemmas.Map.Keys.{any_passes_from_place, IsDistinct-head, IsDistinct-tail}
use Rattle.std.proofs.lemmas.Option.{slice_get_within, get_or_from_slice_get}
use Rattle.std.specs.List.{All, Contains, AllByRecursion, list_any}
use Rattle.std.specs.Option.{option_eq, option_map_or}
use Rattle.plant_config.specs.declared.records.Bus.{Bus}
use Rattle.plant_config.specs.declared.records.Change.{Change}
use Rattle.plant_config.specs.Plant.{PlantData, destinations_of}
use Rattle.crosspoint_state.specs.Crosspoints.{Crosspoints, NamesOnce}
use Rattle.mixer_effects.specs.Buses.{switched_at, buses_at}
use Rattle.mixer_effects.specs.Live.{live, is_live}
use Rattle.mixer_effects.proofs.AnyLemmas.{any_place}
use Rattle.tally.specs.Touched.{named_by, with_switched, touched_by}
use Rattle.tally.specs.Moved.{has_moved, has_switch_moved, is_disturbed, lost_between}
use Rattle.tally.specs.Update.{AreMoves}
use Rattle.tally.specs.Doubt.{is_affected}
use Rattle.tally.specs.Reads.{moved_and_switched, ReadsAreFew}
use Rattle.tally.specs.Weight.{weights}
use Rattle.tally.proofs.ListLemmas.{first_or_behind, is_kept, bus_among}
use Rattle.tally.proofs.WeightLemmas.{weights_one, weigh_plus}

-- an element that stands in a list is one of its own
stands_among : (xs : List ℕ) (place x : ℕ) → slice_get xs place ≡ Some x → Contains xs x
stands_among xs place x at = (place, slice_get_within xs place x at, get_or_from_slice_get xs place x x at)

-- where a number is apart from all of a list, it is from each
apart_from : (number : ℕ) (xs : List ℕ) → AllByRecursion (λ other. nat_eq number other ≡ false) xs → (x : ℕ) → Contains xs x → nat_eq number x ≡ false
apart_from number [] apart x has = absurd (omega (arith, has.1))
apart_from number (y ∷ ys) apart x has =
    elim (first_or_behind y ys x has) [
      | inl same ↦ subst (λ x. nat_eq number x ≡ false) same apart.0
      | inr behind ↦ apart_from number ys apart.1 x behind
    ]

-- what is so of each change's destination is so of all that they name
pub each_named : (P : ℕ → Type 0) (changes : List Change) → All (λ change. P change.dest) changes → (dest : ℕ) → Contains (named_by changes) dest → P dest
each_named P [] all dest has = absurd (omega (arith, has.1))
each_named P (change ∷ changes) all dest has =
    elim (first_or_behind change.dest (named_by changes) dest has) [
      | inl same ↦ subst P same (all 0 change (omega arith))
      | inr behind ↦ each_named P changes (λ place default below. all (suc place) default (omega (arith, below))) dest behind
    ]

-- the law: the bound is within the counts
pub reads_few : (plant : PlantData) (old new : Crosspoints) (roots : List ℕ) → ReadsAreFew plant old new roots
reads_few plant old new roots =
    let parts = weigh_plus (λ device. length (buses_at plant device)) (is_affected plant old new roots) in
    omega (arith, parts)

-- what changes name weighs no more than what passes a test that all of it does
touched_weigh : (plant : PlantData) (count : ℕ) (changes : List Change) (passes : ℕ → Bool) → NamesOnce changes → ((dest : ℕ) → Contains (named_by changes) dest → (dest < count) × (passes dest ≡ true)) → length (touched_by plant changes) ≤ weights (λ dest. length (with_switched plant dest)) passes count
touched_weigh plant count [] passes once each = omega arith
touched_weigh plant count (change ∷ changes) passes once each =
    let weight : ℕ → ℕ = λ dest. length (with_switched plant dest) in
    let others : ℕ → Bool = λ dest. passes dest && not (dest == change.dest) in
    let here = each change.dest (0, omega arith, refl) in
    let one = weights_one weight passes others change.dest count here.0 here.1
    (lacks (passes change.dest) (change.dest == change.dest) (eq-eqb change.dest change.dest refl))
    (λ dest apart. same (passes dest) (dest == change.dest) (ne_eqb dest change.dest apart)) in
    let rest = touched_weigh plant count changes others (IsDistinct-tail nat_eq change.dest (map (λ (change : Change). change.dest) changes) once)
    (λ dest has.
    let it = each dest (Contains-append_right (change.dest ∷ []) (named_by changes) dest has) in
    let apart : nat_eq change.dest dest ≡ false = apart_from change.dest (named_by changes) (IsDistinct-head nat_eq change.dest (map (λ (change : Change). change.dest) changes) once) dest has in
    (it.0, and_from (passes dest) (not (dest == change.dest)) it.1 (ap not (ne_eqb dest change.dest (λ is. eqb-false change.dest dest apart (sym is)))))) in
    let both = length-append (with_switched plant change.dest) (touched_by plant changes) in
    omega (arith, one, rest, both)
  where
    lacks : (a b : Bool) → b ≡ true → (a && not b) ≡ false
    lacks true true is = refl
    lacks false true is = refl
    lacks a false is = cc

    same : (a b : Bool) → b ≡ false → a ≡ (a && not b)
    same true false is = refl
    same false false is = refl
    same a true is = cc

module _ (plant : PlantData) (old new : Crosspoints) (roots : List ℕ) where
  -- what a bus switches that moved is disturbed
  switched_disturbed : (switch dest : ℕ) → has_moved old new switch ≡ true → Contains (switched_at plant switch) dest → is_disturbed plant old new dest ≡ true
  switched_disturbed switch dest moved has =
      let found = bus_among (λ (bus : Bus). option_eq nat_eq bus.switch (Some switch)) plant.buses dest has in
      or_right (has_moved old new dest) (list_any (λ (bus : Bus). (bus.dest == dest) && has_switch_moved old new bus) plant.buses)
      (any_passes_from_place (λ (bus : Bus). (bus.dest == dest) && has_switch_moved old new bus) plant.buses found.place found.bus found.at
      (and_from (found.bus.dest == dest) (has_switch_moved old new found.bus) (eq-eqb found.bus.dest dest found.is) (by found.bus.switch found.passes)))
    where
      by : (of : Option ℕ) → option_eq nat_eq of (Some switch) ≡ true → option_map_or (has_moved old new) of false ≡ true
      by None is = cc
      by (Some other) is = subst (λ switch. has_moved old new switch ≡ true) (sym (eqb-true other switch is)) moved

  -- what changes touch is disturbed, where each has moved what it names
  touched_disturbed : (changes : List Change) → ((dest : ℕ) → Contains (named_by changes) dest → has_moved old new dest ≡ true) → (dest : ℕ) → Contains (touched_by plant changes) dest → is_disturbed plant old new dest ≡ true
  touched_disturbed [] each dest has = absurd (omega (arith, has.1))
  touched_disturbed (change ∷ changes) each dest has =
      elim (Contains-append_cases (with_switched plant change.dest) (touched_by plant changes) dest has) [
        | inl with ↦ first (first_or_behind change.dest (switched_at plant change.dest) dest with)
        | inr behind ↦ touched_disturbed changes (λ dest has. each dest (Contains-append_right (change.dest ∷ []) (named_by changes) dest has)) dest behind
      ]
    where
      first : (change.dest ≡ dest) ⊎ Contains (switched_at plant change.dest) dest → is_disturbed plant old new dest ≡ true
      first (inl same) = or_left (has_moved old new dest) (list_any (λ (bus : Bus). (bus.dest == dest) && has_switch_moved old new bus) plant.buses) (subst (λ dest. has_moved old new dest ≡ true) same (each change.dest (0, omega arith, refl)))
      first (inr switched) = switched_disturbed change.dest dest (each change.dest (0, omega arith, refl)) switched

  module _ (changes : List Change) (moves : AreMoves old new changes) where
    -- what was live and is touched is lost
    pub lost_lost : (dest : ℕ) → Contains (touched_by plant changes) dest → is_live plant old roots dest ≡ true → Contains (lost_between plant old new roots) dest
    lost_lost dest touched lived =
        let found = any_place (λ other. other == dest) (live plant old roots) lived in
        let among : Contains (live plant old roots) dest = subst (λ dest. Contains (live plant old roots) dest) (eqb-true found.1 dest found.3) (stands_among (live plant old roots) found.0 found.1 found.2) in
        is_kept (is_disturbed plant old new) (live plant old roots) dest among (touched_disturbed changes moves.each dest touched)

    -- what changes touch is no more than what moved and what that switches
    pub touched_moved : ((dest : ℕ) → Contains (named_by changes) dest → dest < destinations_of plant) → length (touched_by plant changes) ≤ moved_and_switched plant old new
    touched_moved below = touched_weigh plant (destinations_of plant) changes (has_moved old new) moves.once (λ dest has. (below dest has, moves.each dest has))
