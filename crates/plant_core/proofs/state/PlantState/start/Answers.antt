use Rattle.std.proofs.Common.{sym, ap, ◌∙◌}
use Rattle.plant_config.specs.Plant.{destinations_of}
use Rattle.plant_core.proofs.Validity.{IsValid-start}
use Rattle.plant_core.proofs.ShortLemmas.{StaysShort-start}
use Rattle.plant_core.proofs.DuePolls.{kept_start}
use Rattle.plant_core.proofs.state.PlantState.start.Goals as goal

pub invariant_of-result : goal.invariant_of-result
invariant_of-result c = record {
  valid = rw (c.in_ok-crosspoints.ensures.parked, c.in_ok-protects.ensures.free, c.in_ok-groups.ensures, c.in_ok-notices.ensures, c.in_ok-shown.ensures, c.in_ok-plant.ensures.equal) (IsValid-start _ c.copy.ensures.plant);
  short = rw (c.in_ok-crosspoints.ensures.parked, c.in_ok-protects.ensures.free, c.in_ok-groups.ensures, c.in_ok-notices.ensures, c.in_ok-shown.ensures, c.in_ok-plant.ensures.equal) (StaysShort-start _);
  room = record {
    crosspoints = rw c.in_ok-plant.ensures.equal c.in_ok-crosspoints.ensures.kept;
    protects = c.in_ok-protects.ensures.room ∙ c.destination_count-destinations.ensures.count ∙ ap destinations_of (sym c.in_ok-plant.ensures.equal);
  };
  beside = rw (c.in_ok-crosspoints.ensures.parked, c.in_ok-plant.ensures.equal) c.in_ok-indexes.ensures.tables;
  due = rw c.in_ok-plant.ensures.equal (kept_start c.args.plant.now _ _ _ c.in_ok-indexes.ensures.due c.in_ok-indexes.ensures.all);
}
