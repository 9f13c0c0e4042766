use Rattle.std.proofs.Common.{◌<◌, sym, subst}
use Rattle.plant_config.specs.Plant.{sources_of}
use Rattle.plant_core.proofs.Validity.{IsCrosspoint-below, source_of-spot}
use Rattle.plant_core.proofs.state.PlantState.standing.Goals as goal

pub source_number-requires : goal.source_number-requires
source_number-requires c =
    let valid = c.source_at.ensures.valid in
    let spot = source_of-spot c.args.self.now.crosspoints c.in_ok-dest.dest c.in_ok-source.source (sym c.in_ok-source.ensures.source) in
    let below = IsCrosspoint-below c.args.self.now.plant c.in_ok-dest.dest spot.0.source valid.is_plant (valid.is_crosspoint _ spot.0 spot.1) in
    let known = subst (λ n. n < sources_of c.args.self.now.plant) spot.2 below in
    rw (← c.self.view_is) at known
