use Rattle.line_text.proofs.JoinLemmas.{lines-read}
use Rattle.line_text.proofs.laws.whole_lines_are_read.Goals as goal

pub returns : goal.returns
returns c = lines-read
