use Rattle.std.proofs.Common.{◌≡◌, ◌+◌, ◌≤◌, ◌++◌, length, map, vec_capacity}
use Rattle.std.specs.Vec.Iter.{into_iter_items, into_iter_len}
use Rattle.panel_server.specs.ServeInside.{MayGiveAll, after_all}
use Rattle.panel_server.specs.Workers.{seat_of, trace_sink_of, sink_shows, worker_shows}
use Rattle.panel_server.proofs.give_back.give_all_back.Given as goal

-- With what the workers that are left give back, all comes out.
abbrev pub invariant-loop-worker : goal.invariant-loop-worker
invariant-loop-worker g l =
    let shows = worker_shows g.N.A.Acceptor.shows g.N.P.DisplayPort.opening g.K.Sink.name g.K.Sink.written g.K.Sink.faults in
    let net = g.N.Net.shows in
    let trace = sink_shows g.K.Sink.name g.K.Sink.written g.K.Sink.faults in
    record {
      counted : into_iter_len l.waiting ≡ length (into_iter_items l.waiting);
      may : MayGiveAll g.N.P.DisplayPort.faults (map shows (into_iter_items l.waiting)) (net l.net);
      given : after_all g.N.P.DisplayPort.faults (map shows (into_iter_items l.waiting)) (net l.net)
          ≡ after_all g.N.P.DisplayPort.faults (map shows l.fn.workers.items) (net l.fn.net);
      seats : l.seats.items ++ map (λ worker. seat_of (shows worker)) (into_iter_items l.waiting)
          ≡ l.fn.seats.items ++ map (λ worker. seat_of (shows worker)) l.fn.workers.items;
      traces : map trace l.traces.items ++ map (λ worker. trace_sink_of (shows worker)) (into_iter_items l.waiting)
          ≡ map trace l.fn.traces.items ++ map (λ worker. trace_sink_of (shows worker)) l.fn.workers.items;
      seat_places : length l.seats.items + length (into_iter_items l.waiting) ≤ vec_capacity l.seats;
      trace_places : length l.traces.items + length (into_iter_items l.waiting) ≤ vec_capacity l.traces;
    }

abbrev pub decreases-loop-worker : goal.decreases-loop-worker
decreases-loop-worker g l = length (into_iter_items l.waiting)
