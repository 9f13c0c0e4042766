use Rattle.standby.proofs.FollowLemmas.{standbys_follow}
use Rattle.standby.proofs.standby.Standby.take.Goals as goal

pub returns-clause-follows : goal.returns-clause-follows
returns-clause-follows c =
    standbys_follow c.args.self.now c.args.position c.args.request.now c.answer.result c.answer.new.self c.answer.ensures.takes
