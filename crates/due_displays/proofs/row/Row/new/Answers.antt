use Rattle.std.proofs.Common.{◌≡◌, ◌+◌, ◌/◌, ◌%◌, min, length, get_or, ◌∙◌, ap, arith}
use Rattle.std.proofs.lemmas.List.{length_push}
use Rattle.std.specs.FinSet.{empty, contains}
use Rattle.due_displays.specs.Row.{Row}
use Rattle.due_displays.proofs.RowLemmas.{no_sets, more_sets}
use Rattle.due_displays.proofs.row.Row.new.Goals as goal

pub loop-set-init : goal.loop-set-init
loop-set-init c = record {
  count = ap length c.new-sets.ensures.items;
  none = no_sets c.new-sets.result.items c.new-sets.ensures.items;
}

pub loop-set-preserved : goal.loop-set-preserved
loop-set-preserved c = record {
  count = ap length c.in_ok-push.ensures.items ∙ length_push c.loop-set.sets.items c.new.result ∙ ap (λ n. n + 1) c.loop-set.invariant.count;
  none = λ set position. ap (λ (row : Row). contains (get_or row set empty) position) c.in_ok-push.ensures.items ∙ more_sets c.loop-set.sets.items c.new.result c.new.ensures c.loop-set.invariant.none set position;
}

pub invariant_of-result : goal.invariant_of-result
invariant_of-result c =
    let many : c.div_ceil-set-end.result ≡ c.args.room / 1024 + min 1 (c.args.room % 1024) = c.div_ceil-set-end.ensures in
    omega (arith, many, c.loop-set.invariant.count, c.loop-set.auto._set-end, c.ranges.room.fits)

pub returns-clause-room : goal.returns-clause-room
returns-clause-room c =
    let many : c.div_ceil-set-end.result ≡ c.args.room / 1024 + min 1 (c.args.room % 1024) = c.div_ceil-set-end.ensures in
    omega (arith, many, c.loop-set.invariant.count, c.loop-set-test.false)

pub returns-clause-none : goal.returns-clause-none
returns-clause-none c position = c.loop-set.invariant.none (position / 1024) (position % 1024)
