use Rattle.std.proofs.Common.{Bool, subst}
use Rattle.std.specs.Bool.{OnTrue, OnFalse}
use Rattle.standby.specs.Table.{Takes}
use Rattle.standby.specs.declared.took.Took.TheVariants.{Differs}
use Rattle.command_standby.specs.Taking.{TakesOne}
use Rattle.command_standby.specs.FollowInside.{arrival_of}
use Rattle.command_standby.proofs.FollowLemmas.{came_still, came_more, came_differing}
use Rattle.command_standby.proofs.follow.take_next.Goals as goal

pub returns-then-is_some-clause-came : goal.returns-then-is_some-clause-came
returns-then-is_some-clause-came c = λ first arrivals came.
    came_still first arrivals c.args.differing c.args.standby.now c.args.standby.now c.args.passed.now c.args.passed.now (arrival_of c.args.position c.args.request.now) (cc (c.is_some.ensures, c.if-is_some.true)) came

pub returns-then-not-take_one-clause-came : goal.returns-then-not-take_one-clause-came
returns-then-not-take_one-clause-came c = λ first arrivals came.
    came_differing first arrivals c.args.differing c.args.standby.now c.take_one.new.standby c.args.passed.now c.take_one.new.passed c.args.position c.args.request.now (cc (c.is_some.ensures, c.if-is_some.false))
    (subst (λ (b : Bool). OnFalse b (Takes c.args.standby.now c.args.position c.args.request.now Differs c.take_one.new.standby)) c.if-not-take_one.true c.take_one.ensures.differs) came

pub returns-clause-came : goal.returns-clause-came
returns-clause-came c = λ first arrivals came.
    came_more first arrivals c.args.differing c.args.standby.now c.take_one.new.standby c.args.passed.now c.take_one.new.passed (arrival_of c.args.position c.args.request.now) (cc (c.is_some.ensures, c.if-is_some.false))
    (subst (λ (b : Bool). OnTrue b (TakesOne c.args.standby.now c.args.passed.now (arrival_of c.args.position c.args.request.now) c.take_one.new.standby c.take_one.new.passed)) c.if-not-take_one.false c.take_one.ensures.taken) came
