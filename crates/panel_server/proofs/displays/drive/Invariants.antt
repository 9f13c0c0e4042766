use Rattle.std.proofs.Common.{◌≡◌, ◌-◌, ◌^◌, ◌≤◌}
use Rattle.panel_server.specs.DrivenInside.{HasRoomFor, IsDriving, outside}
use Rattle.panel_server.specs.Seats.{IsSeatOf}
use Rattle.panel_server.proofs.displays.drive.Given as goal

-- So many polls were made so far, which are no more than a history has entries.
abbrev pub invariant-loop-polled : goal.invariant-loop-polled
invariant-loop-polled g l = record {
  driving : IsDriving g.P.DisplayPort.was_sent g.P.DisplayPort.faults l.fn.plant l.polls l.sent l.failed
      (outside l.fn.seat l.fn.port (g.K.Sink.written l.fn.trace) (g.K.Sink.faults l.fn.trace))
      (outside l.seat l.port (g.K.Sink.written l.trace) (g.K.Sink.faults l.trace));
  few : l.polls ≤ 2 ^ 62;
  sent_few : l.sent ≤ l.polls;
  lost_few : l.failed ≤ l.polls;
  room : HasRoomFor l.fn.plant l.room;
  opening : g.P.DisplayPort.opening l.port ≡ g.P.DisplayPort.opening l.fn.port;
  name : g.K.Sink.name l.trace ≡ g.K.Sink.name l.fn.trace;
  seat : IsSeatOf l.fn.plant l.fn.lock l.seat;
}

abbrev pub decreases-loop-polled : goal.decreases-loop-polled
decreases-loop-polled g l = 2 ^ 62 - l.polls
