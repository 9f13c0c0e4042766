use Rattle.std.proofs.Common.{◌≡◌, ℕ, refl, sym, ap, subst}
use Rattle.ctl_net.specs.Net.{acceptor_end}
use Rattle.plant_file.specs.declared.entries.Server.{Server}
use Rattle.panel_server.specs.declared.worker.Worker.{Worker}
use Rattle.panel_server.specs.PanelServed.{PanelServed}
use Rattle.panel_server.specs.Workers.{HasDoneWork, of_panel, sink_shows, trace_of, worker_shows}
use Rattle.panel_server.proofs.worker.work.Goals as goal

pub returns-in-Panel : goal.returns-in-Panel
returns-in-Panel g c =
    let plant = c.args.plant.now in
    let number = c.in-Panel.panel.number in
    let acceptor = λ (acceptor : g.row.A.Denot). acceptor_end number (g.A.Acceptor.shows acceptor) in
    let trace = sink_shows g.K.Sink.name g.K.Sink.written g.K.Sink.faults in
    let shows = worker_shows g.A.Acceptor.shows g.P.DisplayPort.opening g.K.Sink.name g.K.Sink.written g.K.Sink.faults in
    let turns : c.server.result.now.turns ≡ plant.server.turns = ap (λ (server : Server). server.turns) c.server.ensures.server in
    let Serves = λ (turns : ℕ). PanelServed plant number turns c.serve_panel.result c.serve_panel.new.session c.in-Panel.panel.seat c.serve_panel.new.seat
    (acceptor c.in-Panel.panel.acceptor) (acceptor c.serve_panel.new.acceptor) (trace_of (trace c.in-Panel.panel.trace)) (trace_of (trace c.serve_panel.new.trace)) in
    subst (λ (worker : Worker g.row.A.Denot g.row.P.Denot g.row.K.Denot). HasDoneWork g.P.DisplayPort.was_sent g.P.DisplayPort.faults plant (shows worker) (of_panel (record {
      number = number;
      session = c.serve_panel.new.session;
      seat = c.serve_panel.new.seat;
      acceptor = acceptor c.serve_panel.new.acceptor;
      trace = trace c.serve_panel.new.trace;
      done = c.serve_panel.result;
    }))) (sym c.in-Panel.is) (record {
      number = refl;
      named = refl;
      kept = c.serve_panel.ensures.opening;
      name = c.serve_panel.ensures.trace_name;
      served = λ stands. subst Serves turns (c.serve_panel.ensures.served plant number stands);
    })
