use Rattle.tap_lists.proofs.LawLemmas.{WalksAnswerAll-all}
use Rattle.tap_lists.proofs.laws.walks_answer_all.Goals as goal

pub returns : goal.returns
returns c = WalksAnswerAll-all
