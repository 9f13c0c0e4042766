use Rattle.std.proofs.Common.{◌≡◌, ◌+◌, ◌-◌, ◌*◌, ◌≤◌, length, drop}
use Rattle.panel_session.specs.Text.{frames_of, with_frames}
use Rattle.panel_session.proofs.sending.outgoing.Outgoing.say_first.Given as goal

-- With the answers that are left, all frames are to be sent.
abbrev pub invariant-loop-said : goal.invariant-loop-said
invariant-loop-said l = record {
  within : l.said ≤ length l.answers;
  output : with_frames (frames_of (drop l.said l.answers)) l.self.output ≡ with_frames (frames_of l.answers) l.fn.self.output;
  most : length l.self.output.bytes ≤ length l.fn.self.output.bytes + 24 * l.said;
  same : l.self.room ≡ l.fn.self.room;
}

abbrev pub decreases-loop-said : goal.decreases-loop-said
decreases-loop-said l = length l.answers - l.said
