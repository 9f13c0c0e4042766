use Rattle.std.proofs.Common.{arith}
use Rattle.std.proofs.lemmas.Grind.{common_steps}
use Rattle.plant_file.proofs.ReadingInside.{text-first}
use Rattle.plant_file.proofs.read.values.text_fault.Goals as goal

pub returns-in-Some-unprintable : goal.returns-in-Some-unprintable
returns-in-Some-unprintable c =
    let first = text-first c.args.at c.args.low c.args.high c.args.text.now in grind (arith, common_steps, first)

pub returns-in-None : goal.returns-in-None
returns-in-None c =
    let first = text-first c.args.at c.args.low c.args.high c.args.text.now in grind (arith, common_steps, first)
