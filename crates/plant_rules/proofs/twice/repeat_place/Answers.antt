use Rattle.std.proofs.Common.{arith}
use Rattle.std.proofs.lemmas.Grind.{common_steps}
use Rattle.plant_rules.proofs.TwiceLemmas.{first_place-twice_at}
use Rattle.plant_rules.proofs.twice.repeat_place.Goals as goal

pub returns : goal.returns
returns g c = rw (first_place-twice_at g.T.Keyed.numbers_of c.args.section c.args.field c.args.entries.now) (grind (arith, common_steps))
