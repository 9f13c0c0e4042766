use Rattle.std.proofs.Common.{◌≡◌, length}
use Rattle.panel_session.specs.EngineInside.{GoesOn}
use Rattle.panel_session.specs.declared.session.phase.Phase.TheVariants.{Read}
use Rattle.panel_session.proofs.session.Session.work_items.Given as goal

-- The items so far were worked.
abbrev pub invariant-loop-rest : goal.invariant-loop-rest
invariant-loop-rest g l = record {
  way : GoesOn g.A.Answerer.IsSeat g.A.Answerer.Serves g.A.Answerer.Answers g.A.Answerer.sent_first g.O.Outlet.Given l.fn.piece l.rest l.fn.self l.self l.fn.answerer l.answerer l.fn.out l.out;
  reads : l.self.phase ≡ Read;
  same : g.A.Answerer.IsSame l.fn.answerer l.answerer;
  same_outlet : g.O.Outlet.IsSame l.fn.out l.out;
}

abbrev pub decreases-loop-rest : goal.decreases-loop-rest
decreases-loop-rest g l = length l.rest
