use Rattle.std.proofs.Common.{ap, sym, ◌∙◌, [], ◌∷◌}
use Rattle.history_lock.specs.Plays.{number_of}
use Rattle.history_lock.proofs.Meetings.{met}
use Rattle.history_lock.proofs.lock.HistoryLock.meet.Goals as goal

pub returns-clause-own : goal.returns-clause-own
returns-clause-own g c =
    (met c.seat.inside.place.me.0 c.note.inside.place.me.0 c.take_note.new.place.me.0 c.args.seat.now.seen c.args.note.seen c.look.new.place.me.0.seen (number_of c.seat.inside.place.me.0) (ap (λ m. m.0) c.take_note.ensures.both)
    c.look.ensures.seen.1 (sym (ap (λ s. s.seen) c.seat.view_is)) (sym (ap (λ s. s.seen) c.note.view_is)) (ap (λ m. m.0.seen) c.look.ensures.seen.0) c.seat.invariant.one_number).0

pub returns-clause-met : goal.returns-clause-met
returns-clause-met g c =
    (met c.seat.inside.place.me.0 c.note.inside.place.me.0 c.take_note.new.place.me.0 c.args.seat.now.seen c.args.note.seen c.look.new.place.me.0.seen (number_of c.seat.inside.place.me.0) (ap (λ m. m.0) c.take_note.ensures.both)
    c.look.ensures.seen.1 (sym (ap (λ s. s.seen) c.seat.view_is)) (sym (ap (λ s. s.seen) c.note.view_is)) (ap (λ m. m.0.seen) c.look.ensures.seen.0) c.seat.invariant.one_number).1

pub returns-clause-entries : goal.returns-clause-entries
returns-clause-entries g c =
    (met c.seat.inside.place.me.0 c.note.inside.place.me.0 c.take_note.new.place.me.0 c.args.seat.now.seen c.args.note.seen c.look.new.place.me.0.seen c.args.seat.now.number (ap (λ m. m.0) c.take_note.ensures.both)
    c.look.ensures.seen.1 (sym (ap (λ s. s.seen) c.seat.view_is)) (sym (ap (λ s. s.seen) c.note.view_is)) (ap (λ m. m.0.seen) c.look.ensures.seen.0)
    (c.seat.invariant.one_number ∙ ap (λ s. s.number ∷ []) c.seat.view_is)).2
