use Rattle.std.proofs.Common.{refl}
use Rattle.command_drive.proofs.BenchLemmas.{made_told}
use Rattle.command_drive.proofs.bench.Bench.made.Goals as goal

pub returns-in-Some-clause-takes : goal.returns-in-Some-clause-takes
returns-in-Some-clause-takes c = λ drive is.
    made_told c.args.self.now _ drive c.args.message.now c.in-Some.told is c.in-Some.ensures.told refl c.take.ensures.made refl c.requires.empty c.put.ensures.put
