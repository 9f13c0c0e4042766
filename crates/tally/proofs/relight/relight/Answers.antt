use Rattle.std.proofs.Common.{sym, ◌∙◌}
use Rattle.tally.proofs.RelitLemmas.{relit_not, relit_light}
use Rattle.tally.proofs.relight.relight.Goals as goal

pub returns-then-not-is_reached-clause-relit : goal.returns-then-not-is_reached-clause-relit
returns-then-not-is_reached-clause-relit g c =
    relit_not c.args.graph.now.plant c.args.graph.now.crosspoints c.args.roots.now c.requires.wired.is_plant c.args.dest c.args.marks.now c.args.waiting.now
    (sym c.is_reached.ensures.is ∙ c.if-not-is_reached.true)

pub returns-clause-relit : goal.returns-clause-relit
returns-clause-relit g c =
    relit_light c.args.graph.now.plant c.args.graph.now.crosspoints c.args.roots.now c.requires.wired.is_plant c.args.dest c.args.marks.now c.args.waiting.now c.light.new.marks c.light.new.waiting
    (sym c.is_reached.ensures.is ∙ c.if-not-is_reached.false)
    c.light.ensures.one c.light.ensures.marks c.light.ensures.turned c.light.ensures.fed c.light.ensures.news
