use Rattle.std.proofs.Common.{ap, sym, subst, ◌∙◌, [], ◌∷◌}
use Rattle.history_lock.specs.declared.view.View.{View}
use Rattle.history_lock.specs.ClosingInside.{IsTaken}
use Rattle.history_lock.proofs.Closings.{taken_now, taken_stays}
use Rattle.history_lock.proofs.close.take.Goals as goal

pub returns-clause-taken : goal.returns-clause-taken
returns-clause-taken g c = let seat = c.args.seat in let is = c.seat.view_is in
    subst (λ (v : View g.row.M.Denot g.row.M-Request.Denot g.row.M-Answer.Denot). IsTaken v seat) (sym (ap (λ m. m.0) c.take_seat.ensures.both))
    (taken_now c.args.all.now.me.0 c.seat.inside.place.me.0 seat (c.seat.invariant.one_number ∙ ap (λ s. s.number ∷ []) is) (ap (λ s. s.seen) is) (ap (λ s. s.ticket_full) is) (ap (λ s. s.serving_full) is))

pub returns-clause-others : goal.returns-clause-others
returns-clause-others g c = λ other taken.
    subst (λ (v : View g.row.M.Denot g.row.M-Request.Denot g.row.M-Answer.Denot). IsTaken v other) (sym (ap (λ m. m.0) c.take_seat.ensures.both)) (taken_stays c.args.all.now.me.0 c.seat.inside.place.me.0 other taken)
