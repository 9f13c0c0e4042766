use Rattle.std.proofs.Common.{sym, ◌∙◌}
use Rattle.plant_rules.specs.RulesInside.{earlier}
use Rattle.plant_rules.proofs.PlaceLemmas.{first_place-levels}
use Rattle.plant_rules.proofs.twice.level_place.Goals as goal

pub returns : goal.returns
returns c =
    c.earlier_of.ensures ∙ (λ i. earlier (c.in_ok-level.ensures i) (c.in_ok-names_place.ensures i)) ∙ sym (first_place-levels c.args.levels.now)
