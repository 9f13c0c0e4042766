use Rattle.std.proofs.Common.{rules, ◌≡◌, ap, sym, subst, ◌∙◌, append_assoc, arith, refl, [], ◌∷◌, ◌++◌, All, Contains}
use Rattle.history_lock.specs.Closing.{IsOf}
use Rattle.history_lock.specs.ClosingInside.{Covers, IsTaken}
use Rattle.history_lock.proofs.Places.{All-cons}
use Rattle.history_lock.proofs.Closings.{All-at, behind, covers}
use Rattle.history_lock.proofs.close.gather.Goals as goal

pub take-requires-clause-own : goal.take-requires-clause-own
take-requires-clause-own g c =
    let seat = c.in-Some-pop.seat in let left = c.pop-in-loop-seat.new.self.items in let taken = c.loop-seat.invariant.3.0 in
    let all : c.args.seats.items ≡ left ++ (seat ∷ taken) = c.loop-seat.invariant.3.1 ∙ (ap (λ xs. xs ++ taken) c.in-Some-pop.ensures.items ∙ append_assoc left (seat ∷ []) taken) in
    All-at (IsOf c.args.top.now.table_id) c.args.seats.items seat c.requires.own (subst (λ xs. Contains xs seat) (sym all) (behind left (seat ∷ taken) seat (0, omega arith, refl)))

pub loop-seat-preserved : goal.loop-seat-preserved
loop-seat-preserved g c =
    let seat = c.in-Some-pop.seat in let left = c.pop-in-loop-seat.new.self.items in let taken = c.loop-seat.invariant.3.0 in let rests = c.take.ensures.rests in (
      (rests.0 ∙ c.loop-seat.invariant.0.0, c.requires.table.0, c.requires.table.1),
      rests.1,
      rests.2,
      (
        seat ∷ taken,
        c.loop-seat.invariant.3.1 ∙ (ap (λ xs. xs ++ taken) c.in-Some-pop.ensures.items ∙ append_assoc left (seat ∷ []) taken),
        All-cons (IsTaken c.take.new.all.me.0) seat taken c.take.ensures.taken (λ k d l. c.take.ensures.others _ (c.loop-seat.invariant.3.2 k d l)),
      ),
    )

pub returns-clause-covers : goal.returns-clause-covers
returns-clause-covers g c =
    let taken = c.loop-seat.invariant.3.0 in
    let none_left : c.loop-seat.seats.items ≡ [] = search rules in
    let all : c.args.seats.items ≡ taken = c.loop-seat.invariant.3.1 ∙ ap (λ xs. xs ++ taken) none_left in
    let seen = c.look.ensures.seen in
    subst (All (Covers c.look.new.place.me.0)) (sym all) (λ k d l. covers c.loop-seat.all.me.0 c.look.new.place.me.0 _ seen.1 (ap (λ m. m.0) seen.0) (c.loop-seat.invariant.3.2 k d l))
