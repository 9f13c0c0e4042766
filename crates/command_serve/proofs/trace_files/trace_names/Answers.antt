use Rattle.std.proofs.Common.{◌++◌, ◌∷◌, [], List, ℕ, sym, ◌∙◌, ap, map, zero-add}
use Rattle.std.specs.List.{range_with_len}
use Rattle.std.specs.String.{string_bytes}
use Rattle.std.proofs.lemmas.List.{map-append}
use Rattle.std.proofs.lemmas.List.FromFn.{map-range_with_len_more}
use Rattle.command_words.specs.Words.{texts}
use Rattle.command_serve.specs.Traces.{panel_trace}
use Rattle.command_serve.proofs.trace_files.trace_names.Goals as goal

pub loop-panel-preserved : goal.loop-panel-preserved
loop-panel-preserved c =
    let panel = c.loop-panel.panel-counter in
    let trace = panel_trace c.args.prefix.now in
    ap texts c.in_ok-push.ensures.items ∙ map-append string_bytes c.loop-panel.names.items (c.in_ok-name.name ∷ [])
    ∙ ap (λ (ns : List (List ℕ)). ns ++ string_bytes c.in_ok-name.name ∷ []) c.loop-panel.invariant
    ∙ ap (λ (n : List ℕ). map trace (range_with_len 0 panel) ++ n ∷ []) c.in_ok-name.ensures.ok ∙ sym (map-range_with_len_more trace 0 panel panel (zero-add panel))
