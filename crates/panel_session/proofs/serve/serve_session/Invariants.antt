use Rattle.std.proofs.Common.{◌≡◌, ℕ, ◌-◌, ◌≤◌}
use Rattle.plant_config.specs.Plant.{PlantData}
use Rattle.panel_session.specs.Served.{link_shows, trace_shows}
use Rattle.panel_session.specs.Session.{StandsFor}
use Rattle.panel_session.specs.SoFar.{nothing_yet}
use Rattle.panel_session.proofs.ServedLemmas.{IsServed}
use Rattle.panel_session.proofs.serve.serve_session.Given as goal

-- So many reads were worked, and the seat, the link and the trace are the same.
abbrev pub invariant-loop-worked : goal.invariant-loop-worked
invariant-loop-worked g l = record {
  served : (plant : PlantData) (panel : ℕ) → StandsFor plant panel l.fn.session nothing_yet
      → IsServed plant panel l.idles l.worked l.session l.fn.seat l.seat
      (link_shows g.L.Sink.written g.L.Sink.faults g.L.Sink.read_half l.fn.link)
      (link_shows g.L.Sink.written g.L.Sink.faults g.L.Sink.read_half l.link)
      (trace_shows g.K.Sink.written g.K.Sink.faults l.fn.trace)
      (trace_shows g.K.Sink.written g.K.Sink.faults l.trace);
  within : l.worked ≤ l.turns;
  seat_of : l.seat.lock ≡ l.fn.seat.lock;
  first : l.seat.first ≡ l.fn.seat.first;
  link_name : g.L.Sink.name l.link ≡ g.L.Sink.name l.fn.link;
  trace_name : g.K.Sink.name l.trace ≡ g.K.Sink.name l.fn.trace;
}

abbrev pub decreases-loop-worked : goal.decreases-loop-worked
decreases-loop-worked g l = l.turns - l.worked
