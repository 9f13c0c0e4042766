use Rattle.std.proofs.Common.{rules, ne_eqb, ap, ◌∙◌}
use Rattle.history_lock.proofs.Places.{on_false}
use Rattle.history_lock.proofs.turns.take_turn.Goals as goal

pub loop-preserved : goal.loop-preserved
loop-preserved g c =
    let before = c.loop.invariant.3 in
    let told = c.await_turn-serving.ensures.told c.args.ticket c.args.start.now.value.machine.value (ap (λ m. m.0.stage) before ∙ c.requires.waits) (ap (λ m. m.0.first) before ∙ c.requires.first) in
    (tt, tt, search rules, on_false _ _ _ (ne_eqb _ _ c.if-serving-ticket.false) told.2 ∙ before)
