use Rattle.std.proofs.Common.{◌≡◌, map}
use Rattle.std.specs.List.{range_with_len}
use Rattle.command_words.specs.Words.{texts}
use Rattle.command_serve.specs.Traces.{panel_trace}
use Rattle.command_serve.proofs.trace_files.trace_names.Given as goal

abbrev pub invariant-loop-panel : goal.invariant-loop-panel
invariant-loop-panel l = texts l.names.items ≡ map (panel_trace l.prefix) (range_with_len 0 l.panel-counter)
