-- What a dump tells of a level that isn't wide can be spelled.
use Rattle.std.proofs.Common.{◌≡◌, ℕ, ◌+◌, ◌<◌, nat_lt, Bool, true, false, cond, Option, Some, None, inl, inr, refl, sym, ap, subst, ◌∙◌, arith, ltb-true}
use Rattle.std.proofs.lemmas.Bool.{cases_lt, false≢true, lt-ltb, or_parts}
use Rattle.std.specs.Option.{option_map_or, option_and_then}
use Rattle.swp08_messages.specs.declared.point.Point.{Point}
use Rattle.swp08_messages.specs.Text.{IsSource}
use Rattle.plant_config.specs.declared.records.Level.{Level}
use Rattle.plant_config.specs.Plant.{PlantData}
use Rattle.plant_config.specs.Sites.{level_at, dest_at, source_at, source_number_of}
use Rattle.plant_config.proofs.SiteLemmas.{source_at-source_number_of}
use Rattle.crosspoint_state.specs.Crosspoints.{source_of}
use Rattle.plant_core.specs.State.{State, IsValid, standing}
use Rattle.plant_core.specs.Wide.{is_wide, is_wide_at}
use Rattle.plant_core.specs.Step.{dest_count}
use Rattle.plant_core.proofs.Validity.{source_of-spot}
use Rattle.plant_core.proofs.Steps.{one_place}

low_source : (plant : PlantData) (matrix level number source : ℕ) → is_wide_at plant matrix level ≡ false → source_at plant matrix level number ≡ Some source → number < 1023
low_source plant matrix level number source = go (level_at plant matrix level)
  where
    go : (found : Option Level) → option_map_or is_wide found false ≡ false → option_and_then (λ (at : Level). cond (nat_lt number at.sources) (Some (at.first_source + number)) None) found ≡ Some source → number < 1023
    go None narrow some = cc
    go (Some at) narrow some = by (nat_lt number at.sources) refl some
      where
        few : nat_lt 1023 at.sources ≡ false
        few = (or_parts (nat_lt 1024 at.destinations) (nat_lt 1023 at.sources) narrow).1

        by : (b : Bool) → nat_lt number at.sources ≡ b → cond b (Some (at.first_source + number)) None ≡ Some source → number < 1023
        by true below some = elim (cases_lt 1023 at.sources) [
          | inl more ↦ absurd (false≢true (sym few ∙ lt-ltb 1023 at.sources more))
          | inr most ↦ let low = ltb-true number at.sources below in omega (arith, low, most)
        ]
        by false past some = cc

pub dumped-IsSource : (state : State) (at : Point) → IsValid state → is_wide_at state.plant at.matrix at.level ≡ false → IsSource (standing state at)
dumped-IsSource state at valid narrow = of_dest (dest_at state.plant at.matrix at.level at.dest) refl
  where
    of_source : (dest : ℕ) → dest_at state.plant at.matrix at.level at.dest ≡ Some dest → (source : Option ℕ) → source_of state.crosspoints dest ≡ source → IsSource (option_and_then (source_number_of state.plant) source)
    of_source dest found None is = tt
    of_source dest found (Some source) is =
        let spot = source_of-spot state.crosspoints dest source is in
        let stands = valid.is_crosspoint dest spot.0 spot.1 in
        let place : Point = record { matrix = stands.matrix; level = stands.level; dest = stands.dest_number } in
        let same = one_place state.plant at place dest valid.is_plant found stands.dest_is in
        let here : source_at state.plant at.matrix at.level stands.source_number ≡ Some spot.0.source = subst (λ (place : Point). source_at state.plant place.matrix place.level stands.source_number ≡ Some spot.0.source) same stands.source_is in
        let number : source_number_of state.plant source ≡ Some stands.source_number = ap (source_number_of state.plant) (sym spot.2) ∙ source_at-source_number_of state.plant at.matrix at.level stands.source_number spot.0.source valid.is_plant here in
        subst IsSource (sym number) (low_source state.plant at.matrix at.level stands.source_number spot.0.source narrow here)

    of_dest : (dest : Option ℕ) → dest_at state.plant at.matrix at.level at.dest ≡ dest → IsSource (option_and_then (λ (dest : ℕ). option_and_then (source_number_of state.plant) (source_of state.crosspoints dest)) dest)
    of_dest None found = tt
    of_dest (Some dest) found = of_source dest found (source_of state.crosspoints dest) refl

-- each destination that is dumped is of a level that isn't wide
pub dumped-narrow : (plant : PlantData) (matrix level dest : ℕ) → dest < dest_count plant matrix level → is_wide_at plant matrix level ≡ false
dumped-narrow plant matrix level dest = go (level_at plant matrix level)
  where
    go : (found : Option Level) → dest < option_map_or (λ (at : Level). cond (is_wide at) 0 at.destinations) found 0 → option_map_or is_wide found false ≡ false
    go None below = refl
    go (Some at) below = by (is_wide at) below
      where
        by : (b : Bool) → dest < cond b 0 at.destinations → b ≡ false
        by true below = absurd (omega (arith, below))
        by false below = refl
