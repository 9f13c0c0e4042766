use Rattle.std.proofs.Common.{◌+◌, count_by, is_some}
use Rattle.standby.specs.StandbyInside.{IsUnderWay, count_at}
use Rattle.standby.proofs.standby.Standby.apply.Given as goal

abbrev pub invariant-loop-next : goal.invariant-loop-next
invariant-loop-next l = IsUnderWay l.initial.self l.fn.request l.next l.self

abbrev pub decreases-loop-next : goal.decreases-loop-next
decreases-loop-next l = count_by is_some l.self.window + count_at l.next
