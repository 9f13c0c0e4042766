use Rattle.tsl_stream.specs.Reader.{StandsForStream}
use Rattle.tsl_stream.proofs.StepLemmas.{stream_rest-nil}
use Rattle.tsl_stream.proofs.reader.StreamReader.new.Goals as goal

pub returns : goal.returns
unfolding StandsForStream
returns c = stream_rest-nil
