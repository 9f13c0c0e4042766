use Rattle.line_text.proofs.JoinLemmas.{lines-behind, lines-joined}
use Rattle.line_text.proofs.laws.texts_join.Goals as goal

pub returns-clause-joined : goal.returns-clause-joined
returns-clause-joined c front more last = lines-joined front last more

pub returns-clause-behind : goal.returns-clause-behind
returns-clause-behind c = lines-behind
