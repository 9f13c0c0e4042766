use Rattle.std.proofs.Common.{length}
use Rattle.state_store.specs.Steps.{IsFrom, KeepsSame}
use Rattle.state_store.proofs.Moments.{widened}
use Rattle.state_store.proofs.StepLemmas.{shows_entry, filling_keeps}
use Rattle.state_store.proofs.steps.fill.Goals as goal

pub returns-clause-set : goal.returns-clause-set
returns-clause-set g c = λ done.
    let disk = c.args.disk.now in
    shows_entry c.args.slot c.args.entry.now c.gate.result (g.D.Disk.size disk) (g.D.Disk.contents disk) _ c.gate.ensures (g.met.D.Disk.as_many disk) c.requires.within c.requires.gate (c.write_synced.ensures.written done)

pub returns-clause-any_moment : goal.returns-clause-any_moment
returns-clause-any_moment g c =
    let n = length c.args.entry.now in
    let shown = g.D.Disk.contents c.args.disk.now in
    widened g.D.Disk.moment g.D.Disk.left_since c.args.disk.now c.write_synced.new.disk _ (IsFrom (KeepsSame n) shown) c.write_synced.ensures.any_moment
    (filling_keeps n c.args.slot c.gate.result shown c.gate.ensures c.requires.gate)
