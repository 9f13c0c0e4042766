-- When a release frees a tie.
use Rattle.std.proofs.Common.{◌≡◌, ℕ, nat_eq, true, not, List, find, Option, Some, None, refl, sym, ap, ◌∙◌, eq-eqb}
use Rattle.std.proofs.lemmas.Bool.{false≢true}
use Rattle.std.specs.Option.{option_eq}
use Rattle.std.specs.FinMap as finite
use Rattle.plant_config.specs.declared.records.Change.{Change}
use Rattle.plant_config.specs.Plant.{PlantData}
use Rattle.crosspoint_state.specs.declared.spot.Spot.{Spot}
use Rattle.crosspoint_state.specs.Crosspoints.{Crosspoints}
use Rattle.crosspoint_state.specs.Ties.{Carries}
use Rattle.crosspoint_state.specs.Applied.{released}
use Rattle.crosspoint_state.specs.Laws.{TiesAreFreedLast}
use Rattle.crosspoint_state.proofs.ChangeLists.{names}
use Rattle.crosspoint_state.proofs.AppliedLemmas.{gone, get-released}
use Rattle.crosspoint_state.proofs.TieLemmas.{remote_origin, any_occupied, has_tie}

-- what is carried after a release was carried before
carried_before : (plant : PlantData) (crosspoints : Crosspoints) (changes : List Change) (dest : ℕ) (spot : Spot) → Carries plant (released crosspoints changes) dest spot → Carries plant crosspoints dest spot
carried_before plant crosspoints changes dest spot carries =
    record { inside = carries.inside; carried = by (find (names dest) changes) (sym (get-released crosspoints changes dest) ∙ carries.carried) }
  where
    by : (found : Option Change) → gone (finite.get crosspoints dest) found ≡ Some spot → finite.get crosspoints dest ≡ Some spot
    by None e = e
    by (Some change) e = cc

pub TiesAreFreedLast-released : (plant : PlantData) (crosspoints : Crosspoints) (changes : List Change) → TiesAreFreedLast plant crosspoints changes
TiesAreFreedLast-released plant crosspoints changes valid pool tie dest other held left held_carries left_carries held_pooled left_pooled tied free same =
    let before = carried_before plant crosspoints changes other left left_carries in
    let share = valid.shared other dest left held before held_carries pool left_pooled held_pooled in
    let left_tied : left.tie ≡ Some tie = share.1 same ∙ tied in
    let origin = remote_origin plant left.source pool left_pooled in
    let passes : option_eq nat_eq left.tie (Some tie) ≡ true = ap (λ o. option_eq nat_eq o (Some tie)) left_tied ∙ eq-eqb tie tie refl in
    let taken = any_occupied plant (released crosspoints changes) pool other left origin.0 (has_tie tie) left_carries left_pooled origin.1 passes in
    false≢true (ap not (sym taken) ∙ free)
