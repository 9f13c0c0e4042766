use Rattle.std.proofs.Common.{arith}
use Rattle.record_replay.proofs.FirstLemmas.{none_found, not_plain, turn_found}
use Rattle.record_replay.proofs.first.take_turn.Goals as goal

pub returns-in_err-behind_pairs : goal.returns-in_err-behind_pairs
returns-in_err-behind_pairs c =
    let count = c.read_pairs-count.ensures in
    none_found _ _ _ c.from_residual-in_err-behind_pairs.ensures
    (not_plain c.args.plant.now c.args.text.now c.in_ok-digit.hex.now c.in_ok-digit.digit c.read_pairs-count.result
    c.in_ok-digit.ensures.turn (c.read_pairs-count.new.self, count.read) count.other count.most c.in_err-behind_pairs.ensures)

pub returns : goal.returns
returns c =
    let begins = c.in_ok-digit.ensures in
    let count = c.read_pairs-count.ensures in
    let ends = c.in_ok-behind_pairs.ensures in
    turn_found c.args.plant.now c.args.text.now _ _ c.read_pairs-count.new.self _ c.in_ok-panel.panel c.read_pairs-count.result
    begins.turn c.in_ok-panel.ensures (omega (arith, begins.long, count.most)) ends.1 count.read ends.0 count.most
