use Rattle.std.proofs.Common.{◌≡◌, map, take}
use Rattle.panel_server.specs.ServeInside.{AreFew, no_sums, sums_from}
use Rattle.panel_server.specs.Workers.{worker_shows}
use Rattle.panel_server.proofs.sums.add_up.Given as goal

-- The workers so far are added.
abbrev pub invariant-loop-place : goal.invariant-loop-place
invariant-loop-place g l = record {
  sums : l.sums ≡ sums_from 0 (take l.place (map (worker_shows g.A.Acceptor.shows g.P.DisplayPort.opening
      g.K.Sink.name g.K.Sink.written g.K.Sink.faults) l.fn.workers)) no_sums;
  few : AreFew l.place l.sums;
}
