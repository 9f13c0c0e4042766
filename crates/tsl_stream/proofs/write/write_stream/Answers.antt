use Rattle.std.proofs.Common.{arith}
use Rattle.tsl_stream.specs.Numbers.{tsl_dle}
use Rattle.doubled_bytes.proofs.Runs.{length-doubled}
use Rattle.tsl_stream.proofs.LawLemmas.{reads_back_lem}
use Rattle.tsl_stream.proofs.write.write_stream.Goals as goal

pub push_doubled-requires : goal.push_doubled-requires
push_doubled-requires c = grind (arith, length-doubled tsl_dle c.args.packet.now)

pub returns-clause-reads_back : goal.returns-clause-reads_back
returns-clause-reads_back c = reads_back_lem c.args.packet.now c.requires.packet
