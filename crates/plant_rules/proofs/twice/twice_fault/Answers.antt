use Rattle.std.proofs.Common.{arith}
use Rattle.std.proofs.lemmas.Grind.{common_steps}
use Rattle.plant_rules.proofs.PlaceLemmas.{first_fault-twice_faults}
use Rattle.plant_rules.proofs.twice.twice_fault.Goals as goal

pub returns : goal.returns
returns c = rw (first_fault-twice_faults c.args.file.now) (grind (arith, common_steps))
