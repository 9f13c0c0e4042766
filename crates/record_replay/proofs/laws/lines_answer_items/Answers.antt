use Rattle.std.proofs.Common.{◌∙◌}
use Rattle.record_replay.specs.Laws.{Turned}
use Rattle.record_replay.proofs.ActionsLemmas.{history_answers}
use Rattle.record_replay.proofs.ActionsOnce.{one_history, history-replay}
use Rattle.record_replay.proofs.laws.lines_answer_items.Goals as goal

pub returns : goal.returns
returns c = λ plant script output actions before after panel piece sent entries history is.
    let made = history_answers plant script output (history-replay plant script output actions history) in
    let same = one_history plant script output output made.0 actions made.1 history in
    made.2 before after (Turned panel piece entries sent) (same ∙ is)
