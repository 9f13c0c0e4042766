use Rattle.std.proofs.Common.{subst}
use Rattle.history_lock.specs.History.{IsLegal}
use Rattle.plant_core.specs.State.{State, Fits as Takes}
use Rattle.plant_core.specs.Step.{step}
use Rattle.panel_session.proofs.CalledLemmas.{answer_of}
use Rattle.panel_session.proofs.engine.at_lock.AtLockAnswerer.ask.Goals as goal

pub returns-in-Ok-clause-sayable : goal.returns-in-Ok-clause-sayable
returns-in-Ok-clause-sayable g c =
    let s = c.requires.serves in
    let Legal : State → Type 0 = λ first. IsLegal step Takes first c.call.new.seat.seen in
    (answer_of s.0 c.args.self.now.seat.now c.call.new.seat c.args.request.now c.call.new.out.items s.1.is_plant (subst Legal s.1.first_is c.in-Ok.ensures.legal) c.in-Ok.ensures.seen).sayable

pub returns-in-Ok-clause-few : goal.returns-in-Ok-clause-few
returns-in-Ok-clause-few g c = λ plant serves.
    let Legal : State → Type 0 = λ first. IsLegal step Takes first c.call.new.seat.seen in
    (answer_of plant c.args.self.now.seat.now c.call.new.seat c.args.request.now c.call.new.out.items serves.is_plant (subst Legal serves.first_is c.in-Ok.ensures.legal) c.in-Ok.ensures.seen).within
