use Rattle.std.proofs.Common.{◌∙◌, ap, arith}
use Rattle.std.specs.Ordering.{nat_cmp}
use Rattle.std.specs.Option.{option_map}
use Rattle.std.specs.FinMap as finite
use Rattle.crosspoint_state.specs.declared.spot.Spot.{Spot}
use Rattle.crosspoint_state.specs.Crosspoints.{source_of}
use Rattle.plant_core.specs.Answer.{room_of}
use Rattle.plant_core.specs.State.{State}
use Rattle.command_drive.proofs.bench_frame.BenchFrame.new.Goals as goal

pub returns-clause-frame : goal.returns-clause-frame
returns-clause-frame c = record {
  plant = ap (λ (s : State). s.plant) c.in_ok-state.ensures ∙ c.in_ok-plant.ensures;
  free = λ dest. ap (λ (s : State). finite.get s.owners dest) c.in_ok-state.ensures ∙ finite.get-empty nat_cmp dest;
  room = let places = c.in_ok-answers.ensures.places in let room = c.room_of.ensures ∙ ap room_of c.in_ok-plant.ensures in omega (arith, places, room);
}

pub returns-clause-parked : goal.returns-clause-parked
returns-clause-parked c = λ dest few. ap (λ (s : State). source_of s.crosspoints dest) c.in_ok-state.ensures ∙ ap (option_map (λ (spot : Spot). spot.source)) (finite.get-empty nat_cmp dest)
