use Rattle.std.proofs.Common.{ℕ, All, subst, arith}
use Rattle.history_lock.specs.Closing.{FullByTicket}
use Rattle.drill.proofs.outcome.past_of.Goals as goal

pub returns-clause-few : goal.returns-clause-few
returns-clause-few g c = omega (arith, c.close-past.ensures.entries, c.close-past.ensures.limit)

pub returns-clause-full : goal.returns-clause-full
returns-clause-full g c =
    let Full : ℕ → Type 0 = λ entries. All (FullByTicket entries) c.args.seats.items in
    subst Full c.close-past.ensures.entries c.close-past.ensures.ticket_full
