use Rattle.plant_rules.proofs.FileRules.{IsFile-from_none}
use Rattle.plant_rules.proofs.FileHolds.{data_hold}
use Rattle.plant_rules.proofs.laws.the_rules_are_exact.Goals as goal

pub returns : goal.returns
returns c file ranges = (IsFile-from_none file ranges, data_hold file)
