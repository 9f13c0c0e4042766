use Rattle.std.proofs.Common.{◌≡◌, take, drop}
use Rattle.plant_file.specs.declared.fault.Section.TheVariants as sections
use Rattle.plant_rules.specs.RulesInside.{first_place, first_place_from, names_twice}
use Rattle.plant_rules.proofs.twice.names_place.Given as goal

abbrev pub invariant-loop-at : goal.invariant-loop-at
invariant-loop-at l =
    first_place sections.Level (λ _. names_twice) l.levels ≡ first_place_from sections.Level (λ _. names_twice) (take l.at l.levels) (drop l.at l.levels)
