use Rattle.std.proofs.Common.{arith}
use Rattle.record_replay.proofs.FirstLemmas.{by_found, formed_found, not_plain}
use Rattle.record_replay.proofs.first.pass_turn.Goals as goal

pub returns : goal.returns
returns c =
    let begins = c.in_ok-digit.ensures in
    let count = c.count_pairs.ensures in
    by_found c.behind_pairs.result _ _ _ _ c.behind_pairs.ensures (λ ends.
    not_plain c.args.plant.now c.args.text.now c.in_ok-digit.hex.now c.in_ok-digit.digit c.count_pairs.result begins.turn count.digits count.other count.most ends)
    (λ behind ends. formed_found c.args.plant.now c.args.text.now c.in_ok-digit.hex.now behind.now c.in_ok-digit.digit c.in_ok-_panel._panel c.count_pairs.result
    begins.turn c.in_ok-_panel.ensures (omega (arith, begins.long, count.most)) ends.1 count.digits ends.0 count.most)
