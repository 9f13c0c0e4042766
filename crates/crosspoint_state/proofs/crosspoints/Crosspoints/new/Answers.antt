use Rattle.std.proofs.Common.{◌∙◌}
use Rattle.crosspoint_state.proofs.TapsLemmas.{taps_empty}
use Rattle.crosspoint_state.proofs.crosspoints.Crosspoints.new.Goals as goal

pub returns-clause-kept : goal.returns-clause-kept
returns-clause-kept c = record {
  room = c.in_ok-spots.ensures.room ∙ c.destination_count-destinations.ensures.count;
  tapped =
      rw c.in_ok-spots.ensures.empty
      (taps_empty c.args.plant.now c.in_ok-taps.taps (rw c.source_count.ensures.count at c.in_ok-taps.ensures.heads) (c.in_ok-taps.ensures.members ∙ c.destination_count-destinations.ensures.count));
}
