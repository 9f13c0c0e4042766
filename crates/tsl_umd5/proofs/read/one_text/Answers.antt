use Rattle.tsl_umd5.proofs.ReadingLemmas.{one_text as one_text_lem}
use Rattle.tsl_umd5.proofs.read.one_text.Goals as goal

pub returns : goal.returns
returns c = one_text_lem
