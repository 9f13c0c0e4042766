use Rattle.std.proofs.Common.{arith}
use Rattle.std.specs.Prelude.{codes}
use Rattle.record_replay.proofs.LineSpellsLemmas.{not_skipped, with_front, without_front, no_turn, no_take, no_poll, no_leave, turn_spells, take_spells}
use Rattle.record_replay.proofs.SpelledLines.{show_found}
use Rattle.record_replay.proofs.line.read_line.Goals as goal

pub returns-in_err-read_turn : goal.returns-in_err-read_turn
returns-in_err-read_turn c =
    rw c.from_residual.ensures (
      not_skipped c.args.line.now c.in-len1-up.len_at_least c.if-first-eq-HASH.false,
      no_turn c.args.plant.now c.args.line.now c.in-Some.behind.now (with_front (codes "> ") c.args.line.now c.in-Some.behind.now c.in-Some.ensures.cases.0 c.in-Some.ensures.cases.1)
          c.in_err-read_turn.ensures,
    )

pub returns-in-Some : goal.returns-in-Some
returns-in-Some c = (
  not_skipped c.args.line.now c.in-len1-up.len_at_least c.if-first-eq-HASH.false,
  turn_spells c.args.plant.now c.args.line.now c.in-Some.behind.now _ _ (omega (arith, c.if-line-gt-MAX_LINE.false))
      (with_front (codes "> ") c.args.line.now c.in-Some.behind.now c.in-Some.ensures.cases.0 c.in-Some.ensures.cases.1)
      c.in_ok-read_turn.ensures,
)

pub returns-in_err-read_take : goal.returns-in_err-read_take
returns-in_err-read_take c =
    rw c.from_residual-in_err-read_take.ensures (
      not_skipped c.args.line.now c.in-len1-up.len_at_least c.if-first-eq-HASH.false,
      no_take c.args.plant.now c.args.line.now c.in-Some-strip_prefix.behind.now
          (with_front (codes "take ") c.args.line.now c.in-Some-strip_prefix.behind.now c.in-Some-strip_prefix.ensures.cases.0 c.in-Some-strip_prefix.ensures.cases.1)
          c.in_err-read_take.ensures,
    )

pub returns-in-Some-strip_prefix : goal.returns-in-Some-strip_prefix
returns-in-Some-strip_prefix c = (
  not_skipped c.args.line.now c.in-len1-up.len_at_least c.if-first-eq-HASH.false,
  take_spells c.args.plant.now c.args.line.now c.in-Some-strip_prefix.behind.now _ _ (omega (arith, c.if-line-gt-MAX_LINE.false))
      (with_front (codes "take ") c.args.line.now c.in-Some-strip_prefix.behind.now c.in-Some-strip_prefix.ensures.cases.0 c.in-Some-strip_prefix.ensures.cases.1)
      c.in_ok-read_take.ensures,
)

pub returns-in_err-read_panel : goal.returns-in_err-read_panel
returns-in_err-read_panel c =
    rw c.from_residual-in_err-read_panel.ensures (
      not_skipped c.args.line.now c.in-len1-up.len_at_least c.if-first-eq-HASH.false,
      no_poll c.args.plant.now c.args.line.now c.in-Some-strip_prefix-2.number.now
          (with_front (codes "poll ") c.args.line.now c.in-Some-strip_prefix-2.number.now c.in-Some-strip_prefix-2.ensures.cases.0 c.in-Some-strip_prefix-2.ensures.cases.1)
          c.in_err-read_panel.ensures.panel,
    )

pub returns-in_err-read_panel-2 : goal.returns-in_err-read_panel-2
returns-in_err-read_panel-2 c =
    rw c.from_residual-in_err-read_panel-2.ensures (
      not_skipped c.args.line.now c.in-len1-up.len_at_least c.if-first-eq-HASH.false,
      no_leave c.args.plant.now c.args.line.now c.in-Some-strip_prefix-3.number.now
          (with_front (codes "leave ") c.args.line.now c.in-Some-strip_prefix-3.number.now c.in-Some-strip_prefix-3.ensures.cases.0 c.in-Some-strip_prefix-3.ensures.cases.1)
          c.in_err-read_panel-2.ensures.panel,
    )

pub returns-in-Some-strip_prefix-3 : goal.returns-in-Some-strip_prefix-3
returns-in-Some-strip_prefix-3 c = (
  not_skipped c.args.line.now c.in-len1-up.len_at_least c.if-first-eq-HASH.false,
  record {
    digits = c.in-Some-strip_prefix-3.number.now;
    number = c.in_ok-read_panel-2.ensures.panel.0;
    of_plant = c.in_ok-read_panel-2.ensures.panel.1;
    form = with_front (codes "leave ") c.args.line.now c.in-Some-strip_prefix-3.number.now c.in-Some-strip_prefix-3.ensures.cases.0 c.in-Some-strip_prefix-3.ensures.cases.1;
    within = omega (arith, c.if-line-gt-MAX_LINE.false);
  },
)

pub returns : goal.returns
returns c =
    show_found c.args.plant.now c.args.line.now _ c.read_show.result (not_skipped c.args.line.now c.in-len1-up.len_at_least c.if-first-eq-HASH.false)
    (without_front (codes "> ") c.args.line.now c.in_default-strip_prefix.ensures.cases)
    (without_front (codes "take ") c.args.line.now c.in_default-strip_prefix-2.ensures.cases)
    (without_front (codes "poll ") c.args.line.now c.in_default-strip_prefix-3.ensures.cases)
    (without_front (codes "leave ") c.args.line.now c.in_default-strip_prefix-4.ensures.cases)
    c.read_show.ensures
