use Rattle.std.proofs.Common.{is_some, sym, ap, ◌∙◌}
use Rattle.plant_rules.proofs.TwiceLemmas.{has_twice-first}
use Rattle.plant_rules.proofs.twice.has_repeat.Goals as goal

pub returns : goal.returns
returns c = c.is_some.ensures ∙ ap is_some c.in_ok-first_repeat.ensures.first ∙ sym (has_twice-first c.args.names.now)
