use Rattle.std.proofs.Common.{◌≡◌, ◌≤◌, ◌++◌, List, length}
use Rattle.tsl_umd5.specs.Layout.{max_packet}
use Rattle.tsl_umd5.specs.Packet.{Display, messages_text}
use Rattle.record_replay.specs.OutputInside.{Puts}
use Rattle.record_replay.specs.Monitor.{displays_lines}
use Rattle.record_replay.proofs.monitor.put_displays.Given as goal

-- The lines of the displays that were taken were put.
abbrev pub invariant-loop-shown : goal.invariant-loop-shown
invariant-loop-shown g l =
    (length (messages_text l.packet.displays) ≤ max_packet)
    × (done : List Display) × (l.fn.packet.displays ≡ done ++ l.packet.displays) × Puts g.K.Drain.written g.K.Drain.faults (displays_lines done) l.fn.out l.out

abbrev pub decreases-loop-shown : goal.decreases-loop-shown
decreases-loop-shown g l = length l.packet.displays
