use Rattle.state_store.specs.Steps.{IsFrom, KeepsSameOrThis}
use Rattle.state_store.proofs.Moments.{widened}
use Rattle.state_store.proofs.StepLemmas.{shows_gate, opening_keeps}
use Rattle.state_store.proofs.steps.open.Goals as goal

pub returns-clause-set : goal.returns-clause-set
returns-clause-set g c = λ done.
    let disk = c.args.disk.now in
    shows_gate c.args.entry_len c.args.slot c.gate.result 1 (g.D.Disk.size disk) (g.D.Disk.contents disk) _ c.gate.ensures (g.met.D.Disk.as_many disk) c.requires.within (c.write_synced.ensures.written done)

pub returns-clause-any_moment : goal.returns-clause-any_moment
returns-clause-any_moment g c =
    let n = c.args.entry_len in
    let shown = g.D.Disk.contents c.args.disk.now in
    widened g.D.Disk.moment g.D.Disk.left_since c.args.disk.now c.write_synced.new.disk _ (IsFrom (KeepsSameOrThis n c.args.slot) shown) c.write_synced.ensures.any_moment
    (opening_keeps n c.args.slot c.gate.result shown c.gate.ensures c.requires.gate c.requires.later)
