use Rattle.std.proofs.Common.{arith}
use Rattle.std.proofs.lemmas.Bool.{ne_eqb}
use Rattle.dle_framing.specs.Numbers.{dle, stx, ack_byte, nak_byte}
use Rattle.dle_framing.proofs.StepLemmas.{control-dle, control-start, control-ack, control-nak, control-noise}
use Rattle.dle_framing.proofs.framer.Framer.take_control.Goals as goal

pub returns-in-16 : goal.returns-in-16
returns-in-16 c = rw (c.in-16.is, c.requires) (control-dle c.args.self.now.front)

pub returns-in-2 : goal.returns-in-2
returns-in-2 c = rw (c.in-2.is, c.start.ensures.state, c.start.ensures.front) (control-start c.args.self.now.front)

pub returns-in-6 : goal.returns-in-6
returns-in-6 c = rw c.in-6.is (control-ack c.args.self.now.front)

pub returns-in-21 : goal.returns-in-21
returns-in-21 c = rw c.in-21.is (control-nak c.args.self.now.front)

pub returns-in_default : goal.returns-in_default
returns-in_default c =
    control-noise c.args.self.now.front c.args.byte
    (ne_eqb c.args.byte dle (λ is. omega arith))
    (ne_eqb c.args.byte ack_byte (λ is. omega arith))
    (ne_eqb c.args.byte nak_byte (λ is. omega arith))
    (ne_eqb c.args.byte stx (λ is. omega arith))
