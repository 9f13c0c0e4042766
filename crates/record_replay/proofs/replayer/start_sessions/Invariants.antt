use Rattle.std.proofs.Common.{◌≡◌, ℕ, ◌<◌, length}
use Rattle.std.specs.Prelude.{slice_index_or, vec_capacity}
use Rattle.panel_session.specs.declared.session.Session.{Session}
use Rattle.panel_session.specs.Session.{StandsFor}
use Rattle.panel_session.specs.SoFar.{nothing_yet}
use Rattle.record_replay.proofs.replayer.start_sessions.Given as goal

-- The sessions of the panels below this one are new, and there is room for all.
abbrev pub invariant-loop-panel : goal.invariant-loop-panel
invariant-loop-panel l = record {
  count : length l.sessions.items ≡ l.panel;
  room : vec_capacity l.sessions ≡ l.panels;
  each : (panel : ℕ) (other : Session) → panel < l.panel → StandsFor l.fn.plant panel (slice_index_or l.sessions.items panel other) nothing_yet;
}
