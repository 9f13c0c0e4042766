use Rattle.std.proofs.Common.{Bool, subst, IfSome}
use Rattle.state_store.specs.Steps.{IsFrom, KeepsSame, HasGate}
use Rattle.state_store.proofs.Moments.{widened}
use Rattle.state_store.proofs.StepLemmas.{shows_gate, closing_keeps}
use Rattle.state_store.proofs.steps.close.Goals as goal

pub returns-then-is_open-clause-set : goal.returns-then-is_open-clause-set
returns-then-is_open-clause-set g c = λ done.
    let disk = c.args.disk.now in
    shows_gate c.args.entry_len c.args.slot c.gate.result 0 (g.D.Disk.size disk) (g.D.Disk.contents disk) _ c.gate.ensures (g.met.D.Disk.as_many disk) c.requires.within (c.write_synced.ensures.written done)

pub returns-then-is_open-clause-any_moment : goal.returns-then-is_open-clause-any_moment
returns-then-is_open-clause-any_moment g c =
    let n = c.args.entry_len in
    let shown = g.D.Disk.contents c.args.disk.now in
    widened g.D.Disk.moment g.D.Disk.left_since c.args.disk.now c.write_synced.new.disk _ (IsFrom (KeepsSame n) shown) c.write_synced.ensures.any_moment
    (closing_keeps n c.args.slot c.gate.result shown c.gate.ensures c.requires.spare (subst (λ (o : Bool). IfSome shown (HasGate n c.args.slot o)) c.if-is_open.true c.requires.gate))
