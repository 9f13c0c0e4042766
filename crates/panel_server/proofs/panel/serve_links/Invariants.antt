use Rattle.std.proofs.Common.{◌≡◌, ◌⊎◌, ℕ, ◌+◌, ◌^◌, ◌≤◌, false}
use Rattle.ctl_net.specs.Net.{acceptor_end}
use Rattle.plant_config.specs.Plant.{PlantData}
use Rattle.panel_session.specs.Served.{trace_shows}
use Rattle.panel_server.specs.PanelServedInside.{MayBegin, MayServeOn}
use Rattle.panel_server.proofs.PanelLemmas.{ServesOn}
use Rattle.panel_server.proofs.panel.serve_links.Given as goal

-- So many links were served so far, behind each of which a further one is taken.
abbrev pub invariant-loop-link : goal.invariant-loop-link
invariant-loop-link g l = record {
  served : (plant : PlantData) (panel : ℕ) → MayBegin plant panel l.fn.session
      → ServesOn plant panel l.turns l.done l.fn.seat l.seat
      (acceptor_end panel (g.A.Acceptor.shows l.fn.acceptor))
      (acceptor_end panel (g.A.Acceptor.shows l.acceptor))
      (trace_shows g.K.Sink.written g.K.Sink.faults l.fn.trace)
      (trace_shows g.K.Sink.written g.K.Sink.faults l.trace);
  begins : (plant : PlantData) (panel : ℕ) → MayBegin plant panel l.fn.session → MayBegin plant panel l.session;
  may : MayServeOn l.session l.fn.lock l.seat;
  asked : l.done.refused ≡ false;
  good : l.done.trace_failed ≡ false;
  counted : l.done.sessions + (g.A.Acceptor.shows l.acceptor).sessions ≡ (g.A.Acceptor.shows l.fn.acceptor).sessions;
  few : (l.done.sessions ≡ 0) ⊎ ((g.A.Acceptor.shows l.fn.acceptor).sessions ≤ 2 ^ 63);
  link_faults : l.done.link_faults ≤ l.done.sessions;
  limits : l.done.limits ≤ l.done.sessions;
  opening : (g.A.Acceptor.shows l.acceptor).opening ≡ (g.A.Acceptor.shows l.fn.acceptor).opening;
  trace_name : g.K.Sink.name l.trace ≡ g.K.Sink.name l.fn.trace;
}

abbrev pub decreases-loop-link : goal.decreases-loop-link
decreases-loop-link g l = (g.A.Acceptor.shows l.acceptor).sessions
