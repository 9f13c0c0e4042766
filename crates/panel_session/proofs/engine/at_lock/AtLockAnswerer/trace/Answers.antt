use Rattle.std.proofs.Common.{List, ℕ, refl, ap, ◌∙◌, subst}
use Rattle.ctl_io.specs.Sink.{appended, AppendsPart}
use Rattle.panel_session.proofs.AnsweringLemmas.{part_at, traced_at}
use Rattle.panel_session.proofs.engine.at_lock.AtLockAnswerer.trace.Goals as goal

pub returns-then-take-clause-traced : goal.returns-then-take-clause-traced
returns-then-take-clause-traced g c = λ before entry enters is spelled.
    traced_at enters is c.requires.of_session (spelled refl) refl refl refl c.if-take.ensures.name c.if-take.ensures.count
    (c.if-take.ensures.all ∙ ap (appended (g.K.Drain.written c.args.self.now.trace.now)) c.write.ensures.line)

pub returns-else-take-clause-part : goal.returns-else-take-clause-part
returns-else-take-clause-part g c = λ before entry enters is spelled.
    let Part : List ℕ → Type 0 = λ line. AppendsPart line (g.K.Drain.written c.args.self.now.trace.now) (g.K.Drain.written c.take.new.self) in
    part_at enters is c.requires.of_session (spelled refl) refl refl c.if-take.ensures.name c.if-take.ensures.count (subst Part c.write.ensures.line c.if-take.ensures.part)
