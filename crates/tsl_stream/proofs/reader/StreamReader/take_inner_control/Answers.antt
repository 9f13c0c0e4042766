use Rattle.std.proofs.Common.{arith}
use Rattle.std.proofs.lemmas.Bool.{ne_eqb}
use Rattle.tsl_stream.specs.Numbers.{tsl_dle, tsl_stx}
use Rattle.tsl_stream.proofs.StepLemmas.{inner-pair, inner-start, inner-broken}
use Rattle.tsl_stream.proofs.reader.StreamReader.take_inner_control.Goals as goal

pub returns-in-254 : goal.returns-in-254
returns-in-254 c = rw c.in-254.is (inner-pair c.args.self.now.front c.take_piece.result _ _ c.take_piece.ensures.front c.take_piece.ensures.ends)

pub returns-in-2 : goal.returns-in-2
returns-in-2 c = rw (c.in-2.is, c.start.ensures.state, c.start.ensures.front) (inner-start c.args.self.now.front)

pub returns-in_default : goal.returns-in_default
returns-in_default c =
    inner-broken c.args.self.now.front c.args.byte
    (ne_eqb c.args.byte tsl_dle (λ is. omega arith))
    (ne_eqb c.args.byte tsl_stx (λ is. omega arith))
