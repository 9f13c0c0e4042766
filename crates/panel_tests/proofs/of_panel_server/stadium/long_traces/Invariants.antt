use Rattle.std.specs.Prelude.{◌≡◌, length}
use Rattle.panel_tests.proofs.of_panel_server.stadium.long_traces.Given as goal

abbrev pub invariant-loop-place : goal.invariant-loop-place
invariant-loop-place l = length l.traces.items ≡ l._place
