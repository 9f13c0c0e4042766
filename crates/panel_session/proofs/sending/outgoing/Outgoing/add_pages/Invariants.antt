use Rattle.std.proofs.Common.{◌≡◌, ◌+◌, ◌*◌, ◌≤◌, length, drop}
use Rattle.panel_session.specs.Text.{frames_behind, frames_of, with_frames}
use Rattle.panel_session.proofs.sending.outgoing.Outgoing.add_pages.Given as goal

-- With the answers that are left, all frames are to be sent.
abbrev pub invariant-loop-answer : goal.invariant-loop-answer
invariant-loop-answer l = record {
  output : with_frames (frames_behind l.page (drop l.answer-index l.answers)) l.self.output ≡ with_frames (frames_of l.answers) l.fn.self.output;
  most : length l.self.output.bytes + 24 * length l.page.sources ≤ length l.fn.self.output.bytes + 24 * l.answer-index;
  same : l.self.room ≡ l.fn.self.room;
}
