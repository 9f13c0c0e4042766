-- Each turn sends some bytes, and what is sent so far stands in the connection.
use Rattle.std.proofs.Common.{length, ◌-◌, ◌≤◌, take}
use Rattle.std.specs.Io.KnownBytes.{Appends}
use Rattle.ctl_net.proofs.system.tcp_link.send_front.Given as goal

abbrev pub invariant-loop-sent : goal.invariant-loop-sent
invariant-loop-sent g l =
    (l.sent ≤ length l.bytes) × Appends (g.S.Write.contents l.initial.stream) (g.S.Write.contents l.stream) (take l.sent l.bytes)

abbrev pub decreases-loop-sent : goal.decreases-loop-sent
decreases-loop-sent g l = length l.bytes - l.sent
