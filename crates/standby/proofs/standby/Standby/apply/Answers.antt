use Rattle.std.proofs.Common.{subst}
use Rattle.standby.specs.StandbyInside.{IsUnderWay}
use Rattle.standby.proofs.StandbyLemmas.{under_way}
use Rattle.standby.proofs.standby.Standby.apply.Goals as goal

pub loop-next-preserved : goal.loop-next-preserved
loop-next-preserved c =
    under_way c.args.self.now c.args.request.now c.in-Some.asked c.loop-next.self c.step.new.self c.move_on-next.new.self c.move_on-next.result
    (subst (λ next. IsUnderWay c.args.self.now c.args.request.now next c.loop-next.self) c.in-Some.is c.loop-next.invariant)
    c.step.ensures.standby c.step.ensures.plant c.move_on-next.ensures
