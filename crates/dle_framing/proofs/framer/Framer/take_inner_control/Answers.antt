use Rattle.std.proofs.Common.{arith}
use Rattle.std.proofs.lemmas.Bool.{ne_eqb}
use Rattle.dle_framing.specs.Numbers.{dle, stx, etx}
use Rattle.dle_framing.proofs.StepLemmas.{inner-pair, inner-start, inner-end, inner-abandoned, keeps_byte}
use Rattle.dle_framing.proofs.framer.Framer.take_inner_control.Goals as goal

pub returns-in-16 : goal.returns-in-16
returns-in-16 c = rw c.in-16.is (inner-pair c.args.self.now.front _ (keeps_byte _ _ _ c.push.ensures))

pub returns-in-2 : goal.returns-in-2
returns-in-2 c = rw (c.in-2.is, c.start.ensures.state, c.start.ensures.front) (inner-start c.args.self.now.front)

pub returns-in-3 : goal.returns-in-3
returns-in-3 c = rw c.in-3.is (inner-end c.args.self.now.front c.ended.result c.ended.ensures)

pub returns-in_default : goal.returns-in_default
returns-in_default c =
    inner-abandoned c.args.self.now.front c.args.byte
    (ne_eqb c.args.byte dle (λ is. omega arith))
    (ne_eqb c.args.byte etx (λ is. omega arith))
    (ne_eqb c.args.byte stx (λ is. omega arith))
