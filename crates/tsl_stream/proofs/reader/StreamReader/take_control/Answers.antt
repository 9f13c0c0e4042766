use Rattle.std.proofs.Common.{arith}
use Rattle.std.proofs.lemmas.Bool.{ne_eqb}
use Rattle.tsl_stream.specs.Numbers.{tsl_dle, tsl_stx}
use Rattle.tsl_stream.proofs.StepLemmas.{control-dle, control-start, control-noise}
use Rattle.tsl_stream.proofs.reader.StreamReader.take_control.Goals as goal

pub returns-in-254 : goal.returns-in-254
returns-in-254 c = rw (c.in-254.is, c.requires) (control-dle c.args.self.now.front)

pub returns-in-2 : goal.returns-in-2
returns-in-2 c = rw (c.in-2.is, c.start.ensures.state, c.start.ensures.front) (control-start c.args.self.now.front)

pub returns-in_default : goal.returns-in_default
returns-in_default c =
    control-noise c.args.self.now.front c.args.byte
    (ne_eqb c.args.byte tsl_dle (λ is. omega arith))
    (ne_eqb c.args.byte tsl_stx (λ is. omega arith))
