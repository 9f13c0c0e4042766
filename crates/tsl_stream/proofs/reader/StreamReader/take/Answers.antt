use Rattle.std.proofs.lemmas.Bool.{ne_eqb}
use Rattle.tsl_stream.specs.Numbers.{tsl_dle}
use Rattle.tsl_stream.proofs.StepLemmas.{outside-dle, outside-noise, inside-dle, inside-byte}
use Rattle.tsl_stream.proofs.reader.StreamReader.take.Goals as goal

pub returns-then-byte-eq-DLE : goal.returns-then-byte-eq-DLE
returns-then-byte-eq-DLE c = rw (c.in-Outside.is, c.if-byte-eq-DLE.true) (outside-dle c.args.self.now.front)

pub returns-else-byte-eq-DLE : goal.returns-else-byte-eq-DLE
returns-else-byte-eq-DLE c = rw c.in-Outside.is (outside-noise c.args.self.now.front c.args.byte (ne_eqb c.args.byte tsl_dle c.if-byte-eq-DLE.false))

pub returns-then-byte-eq-DLE-2 : goal.returns-then-byte-eq-DLE-2
returns-then-byte-eq-DLE-2 c = rw (c.in-Inside.is, c.if-byte-eq-DLE-2.true) (inside-dle c.args.self.now.front)

pub returns-else-byte-eq-DLE-2 : goal.returns-else-byte-eq-DLE-2
returns-else-byte-eq-DLE-2 c =
    rw c.in-Inside.is (inside-byte c.args.self.now.front c.args.byte c.take_piece.result _ _ (ne_eqb c.args.byte tsl_dle c.if-byte-eq-DLE-2.false) c.take_piece.ensures.front c.take_piece.ensures.ends)
