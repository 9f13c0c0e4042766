use Rattle.std.proofs.Common.{◌+◌, length, sym, subst, ◌∙◌}
use Rattle.number_tables.specs.SetInside.{ZeroesBelow}
use Rattle.number_tables.proofs.SummaryLemmas.{zeroes_none, zeroes_more, zeroes_kept, zeroes_all}
use Rattle.number_tables.proofs.words.zero_summed.Goals as goal
use Rattle.number_tables.proofs.words.zero_summed.Goals.{then-bits-ne0, else-bits-ne0}

pub loop-group-init : goal.loop-group-init
loop-group-init c = zeroes_none c.args.words.now

pub loop-group-preserved : goal.loop-group-preserved
loop-group-preserved c = elim c.if-bits-ne0.branch [
  | then-bits-ne0 w ↦
      subst (λ words. ZeroesBelow c.args.words.now words (c.loop-group.group + 1)) (sym w.words-is)
      (zeroes_more c.args.words.now c.loop-group.words w.zero_group.new.words c.loop-group.group c.loop-group.invariant w.zero_group.ensures.zeroes)
  | else-bits-ne0 w ↦
      subst (λ words. ZeroesBelow c.args.words.now words (c.loop-group.group + 1)) (sym w.words-is)
      (zeroes_kept c.args.words.now c.loop-group.words c.args.summary.now c.loop-group.group c.loop-group.invariant c.requires.summed w.if-bits-ne0.false)
]

pub returns : goal.returns
returns c =
    zeroes_all c.args.words.now c.loop-group.words c.loop-group.group (length c.args.summary.now) c.loop-group.invariant c.loop-group-test.false
    (c.loop-group.auto.words ∙ c.requires.length)
