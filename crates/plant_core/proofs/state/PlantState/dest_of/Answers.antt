use Rattle.std.proofs.Common.{◌<◌, IfSome, subst}
use Rattle.plant_config.specs.Plant.{destinations_of}
use Rattle.plant_core.specs.State.{State}
use Rattle.plant_core.proofs.Validity.{found-below}
use Rattle.plant_core.proofs.state.PlantState.dest_of.Goals as goal

pub returns-clause-below : goal.returns-clause-below
returns-clause-below c =
    subst (λ (state : State). IfSome c.dest_of.result (λ dest. dest < destinations_of state.plant)) c.self.view_is
    (found-below c.self.inside.plant _ _ _ c.dest_of.result c.self.invariant.valid.is_plant c.dest_of.ensures)
