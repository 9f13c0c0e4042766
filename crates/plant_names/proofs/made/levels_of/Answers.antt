use Rattle.plant_names.specs.NamesInside.{placed}
use Rattle.plant_names.proofs.TableLemmas.{IsTable-push}
use Rattle.plant_names.proofs.made.levels_of.Goals as goal

pub loop-place-preserved : goal.loop-place-preserved
loop-place-preserved c = rw c.in_ok-push.ensures.items (IsTable-push (placed c.args.plant.now) c.loop-place.place c.loop-place.levels.items c.in_ok-names.names c.loop-place.invariant c.in_ok-names.ensures)
