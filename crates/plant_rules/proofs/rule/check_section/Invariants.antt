use Rattle.std.proofs.Common.{◌≡◌}
use Rattle.plant_file.specs.FirstFault.{first_fault}
use Rattle.plant_rules.specs.Rules.{each_faults}
use Rattle.plant_rules.specs.LinksInside.{faults_from}
use Rattle.plant_rules.proofs.rule.check_section.Given as goal

-- the entries in front of this one have no faults
abbrev pub invariant-loop-number : goal.invariant-loop-number
invariant-loop-number g l =
    first_fault (each_faults g.R.Rule.fault l.section (g.R.RuleOf.broken l.rule) l.entries)
    ≡ first_fault (faults_from g.R.Rule.fault l.section (g.R.RuleOf.broken l.rule) l.number l.entries)
