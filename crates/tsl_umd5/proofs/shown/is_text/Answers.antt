use Rattle.tsl_umd5.proofs.MessageLemmas.{is_text as is_text_lem}
use Rattle.tsl_umd5.proofs.shown.is_text.Goals as goal

pub returns : goal.returns
returns c = is_text_lem c.args.bytes.now c.first_unprintable.result _ c.first_unprintable.ensures c.is_none.ensures
