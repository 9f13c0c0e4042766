use Rattle.tsl_stream.proofs.Readings.{stream_reading-by_packet_start}
use Rattle.tsl_stream.proofs.LawLemmas.{reading_only}
use Rattle.tsl_stream.proofs.laws.reads_by_start.Goals as goal

pub returns-clause-reads : goal.returns-clause-reads
returns-clause-reads c = stream_reading-by_packet_start

pub returns-clause-only : goal.returns-clause-only
returns-clause-only c = reading_only
