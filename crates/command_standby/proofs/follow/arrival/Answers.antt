use Rattle.std.proofs.Common.{arith}
use Rattle.command_standby.proofs.FollowLemmas.{same_position}
use Rattle.command_standby.proofs.follow.arrival.Goals as goal

pub returns-in_default-clause-only : goal.returns-in_default-clause-only
returns-in_default-clause-only c = λ arrival tells. c.in_default.ensures.only arrival.position arrival.request tells.told

pub returns-then-position-lt-POSITION_LIMIT-clause-only : goal.returns-then-position-lt-POSITION_LIMIT-clause-only
returns-then-position-lt-POSITION_LIMIT-clause-only c = λ arrival tells. c.in-Some.ensures.only arrival.position arrival.request tells.told

pub returns-else-position-lt-POSITION_LIMIT-clause-only : goal.returns-else-position-lt-POSITION_LIMIT-clause-only
returns-else-position-lt-POSITION_LIMIT-clause-only c = λ arrival tells.
    let same = same_position c.in-Some.position arrival.position c.in-Some.request arrival.request (c.in-Some.ensures.only arrival.position arrival.request tells.told) in
    absurd (omega (arith, c.if-position-lt-POSITION_LIMIT.false, tells.below, same))
