use Rattle.std.proofs.Common.{ℕ, ◌<◌, Option, Some, None, IfSome, sym}
use Rattle.plant_config.specs.Plant.{PlantData, sources_of}
use Rattle.plant_config.specs.IsPlant.{IsPlant}
use Rattle.plant_core.specs.State.{State, IsChangeOf, IsCrosspoint}
use Rattle.plant_core.specs.StateInside.{state_of}
use Rattle.plant_core.proofs.Validity.{IsCrosspoint-below}
use Rattle.plant_core.proofs.StepValidity.{entry-IsChangeOf}
use Rattle.plant_core.proofs.state.PlantState.entry.Goals as goal

source-below : (plant : PlantData) (dest : ℕ) (source : Option ℕ) → IsPlant plant → IfSome source (IsCrosspoint plant dest) → IfSome source (λ source. source < sources_of plant)
source-below plant dest None is of = tt
source-below plant dest (Some source) is of = IsCrosspoint-below plant dest source is of

pub entry_source_number-requires : goal.entry_source_number-requires
entry_source_number-requires c =
    let state : State = state_of c.self.inside.plant c.self.inside.crosspoints c.self.inside.protects c.self.inside.groups c.self.inside.notices c.self.inside.shown in
    let is : IsChangeOf state.plant c.in-Some.entry = entry-IsChangeOf state c.args.salvo _ c.in-Some.entry c.self.invariant.valid (sym c.in-Some.ensures.entry) in
    rw (← c.self.view_is) (source-below state.plant c.in-Some.entry.dest c.in-Some.entry.source c.self.invariant.valid.is_plant is.source)
