use Rattle.std.proofs.Common.{refl, ap, sym, is_some}
use Rattle.command_drive.proofs.BenchLemmas.{come_sent}
use Rattle.command_drive.proofs.bench.Bench.come.Goals as goal

pub returns-in-Some-clause-comes : goal.returns-in-Some-clause-comes
returns-in-Some-clause-comes c = λ drive is.
    come_sent c.args.self.now _ drive c.args.event.now c.in-Some.message is c.in-Some.ensures.answer c.event.ensures.driver refl refl
    (c.requires.empty (sym (ap is_some c.in-Some.ensures.answer))) c.put.ensures.put
