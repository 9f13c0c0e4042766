use Rattle.std.proofs.Common.{ap, sym, refl, ◌∙◌}
use Rattle.history_lock.specs.Plays.{number_of}
use Rattle.history_lock.specs.Seats.{seat_data}
use Rattle.history_lock.proofs.Made.{has_machine, made}
use Rattle.history_lock.proofs.call.call_at.Goals as goal

pub answer-requires-clause-has : goal.answer-requires-clause-has
answer-requires-clause-has g c = let queued = c.in-Some.ensures.some.1 in let rests = c.requires.rests in
    has_machine g.M.Machine.step g.M.Machine.Fits g.M.Machine.room c.queue.new.place.me _ c.args.start.now.value.machine.value c.in-Some.ticket (number_of c.args.place.now.me.0) c.take_turn.ensures.enters (ap (λ m. m.1) queued ∙ rests.empty)
    (ap (λ m. m.0.numbers) queued ∙ rests.one_number) (ap (λ m. m.0.first) queued ∙ rests.first_is) (ap (λ m. m.0.former) queued ∙ rests.all_seen)

pub returns-clause-made : goal.returns-clause-made
returns-clause-made g c = let queued = c.in-Some.ensures.some.1 in let rests = c.requires.rests in let first = c.args.start.now.value.machine.value in
    made g.M.Machine.step g.M.Machine.Fits g.M.Machine.room c.queue.new.place.me c.take_turn.new.place.me c.answer.new.place.me first c.in-Some.ticket (number_of c.args.place.now.me.0) c.args.request.now c.answer.new.out.items
    (seat_data first c.args.place.now) (seat_data first c.answer.new.place) c.take_turn.ensures.enters (ap (λ m. m.0.numbers) queued ∙ rests.one_number)
    c.requires.fits c.in-Some.ensures.some.0 c.answer.ensures.answers (ap (λ m. m.0) c.answer.ensures.ended) refl refl (sym (ap (λ m. m.0.seen) queued)) refl
