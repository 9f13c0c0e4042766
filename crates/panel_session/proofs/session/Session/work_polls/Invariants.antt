use Rattle.std.proofs.Common.{◌-◌, ◌<◌, []}
use Rattle.plant_core.specs.declared.request.Request.TheVariants.{Poll}
use Rattle.panel_session.specs.declared.session.Session.{Session}
use Rattle.panel_session.specs.Acting.{IsAsking}
use Rattle.panel_session.specs.EngineInside.{GoesTo, IsOnItsWay}
use Rattle.panel_session.specs.WorkInside.{polling_at}
use Rattle.panel_session.proofs.session.Session.work_polls.Given as goal

-- The polls so far were made, and another is asked.
abbrev pub invariant-loop-position : goal.invariant-loop-position
invariant-loop-position g l = record {
  way : (on : IsOnItsWay g.A.Answerer.IsSeat g.A.Answerer.Serves g.A.Answerer.Answers g.A.Answerer.sent_first l.fn.self l.fn.answerer [])
      → (session : Session)
      × (come : GoesTo g.A.Answerer.Answers g.A.Answerer.sent_first g.O.Outlet.Given on.plant on.panel on.seat on.past on.piece on.more on.first l.answerer session [] l.fn.out l.out)
      × IsAsking on.plant on.panel come.now [] (Poll l.self.panel l.self.items l.self.counts.turns) (polling_at l.polls l.self);
  below : l.polls < 32;
  same : g.A.Answerer.IsSame l.fn.answerer l.answerer;
  same_outlet : g.O.Outlet.IsSame l.fn.out l.out;
}

abbrev pub decreases-loop-position : goal.decreases-loop-position
decreases-loop-position g l = 32 - l.polls
