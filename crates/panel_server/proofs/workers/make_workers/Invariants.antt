use Rattle.std.proofs.Common.{◌≡◌, ◌+◌, ◌≤◌, ◌++◌, length, map, vec_capacity}
use Rattle.std.specs.Vec.Iter.{into_iter_items, into_iter_len}
use Rattle.ctl_net.specs.Net.{port_end}
use Rattle.panel_server.specs.ServeInside.{crew, ends_from}
use Rattle.panel_server.specs.Workers.{sink_shows, worker_shows}
use Rattle.panel_server.proofs.workers.make_workers.Given as goal

-- The workers so far, and those that will be made of what is left, are all.
abbrev pub invariant-loop-acceptor : goal.invariant-loop-acceptor
invariant-loop-acceptor g l =
    let shows = worker_shows g.A.Acceptor.shows g.P.DisplayPort.opening g.K.Sink.name g.K.Sink.written g.K.Sink.faults in
    let ends = ends_from g.A.Acceptor.shows in
    let port = port_end (g.P.DisplayPort.opening l.fn.port) l.fn.port in
    let trace = sink_shows g.K.Sink.name g.K.Sink.written g.K.Sink.faults in
    record {
      counted : into_iter_len l.acceptors ≡ length (into_iter_items l.acceptors);
      sessions_counted : into_iter_len l.sessions ≡ length (into_iter_items l.sessions);
      seats_counted : into_iter_len l.seats ≡ length (into_iter_items l.seats);
      traces_counted : into_iter_len l.traces ≡ length (into_iter_items l.traces);
      sessions_left : length (into_iter_items l.sessions) ≡ length (into_iter_items l.acceptors);
      seats_left : length (into_iter_items l.seats) ≡ length (into_iter_items l.acceptors) + 1;
      traces_left : length (into_iter_items l.traces) ≡ length (into_iter_items l.acceptors) + 1;
      numbered : l.number + length (into_iter_items l.acceptors) ≡ length l.fn.acceptors.items;
      places : length l.workers.items + length (into_iter_items l.acceptors) + 1 ≤ vec_capacity l.workers;
      crewed : map shows l.workers.items ++ crew l.number (into_iter_items l.sessions) (into_iter_items l.seats) (ends l.number (into_iter_items l.acceptors))
          (map trace (into_iter_items l.traces)) port
          ≡ crew 0 l.fn.sessions.items l.fn.seats.items (ends 0 l.fn.acceptors.items) (map trace l.fn.traces.items) port;
    }

abbrev pub decreases-loop-acceptor : goal.decreases-loop-acceptor
decreases-loop-acceptor g l = length (into_iter_items l.acceptors)
