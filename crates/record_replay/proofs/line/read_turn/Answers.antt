use Rattle.std.proofs.Common.{◌≡◌, length, ap, arith}
use Rattle.std.proofs.lemmas.Bool.Decides.{nat_tests}
use Rattle.record_replay.proofs.LineInsideLemmas.{no_turn-panel, no_turn-hex, no_turn-bytes}
use Rattle.record_replay.proofs.line.read_turn.Goals as goal
use Rattle.record_replay.proofs.line.read_turn.Goals.{else-read-via-then-read+else-not-is_empty, else-read-via-else-read}

pub returns-in_err-panel : goal.returns-in_err-panel
returns-in_err-panel c =
    rw c.from_residual-in_err-panel.ensures
    (no_turn-panel c.args.plant.now c.args.behind.now c.in_ok-number.number.now c.in_ok-number.hex.now c.in_ok-number.ensures c.in_err-panel.ensures.panel)

pub returns-else-read : goal.returns-else-read
returns-else-read c = elim c.else-read.branch [
  | else-read-via-then-read+else-not-is_empty w ↦
      let empty : length c.read.new.self ≡ 0 = grind (arith, nat_tests, ap length w.bytes.ensures) in
      no_turn-bytes c.args.plant.now c.args.behind.now c.in_ok-number.number.now c.in_ok-number.hex.now _ c.in_ok-number.ensures w.if-read.ensures.spelled empty
  | else-read-via-else-read w ↦
      no_turn-hex c.args.plant.now c.args.behind.now c.in_ok-number.number.now c.in_ok-number.hex.now c.in_ok-number.ensures w.if-read.ensures.refused
]
