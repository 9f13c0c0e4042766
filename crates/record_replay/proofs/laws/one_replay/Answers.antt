use Rattle.record_replay.proofs.IsReplayLemmas.{always, one_text, one_line, apart}
use Rattle.record_replay.proofs.laws.one_replay.Goals as goal

pub returns-clause-always : goal.returns-clause-always
returns-clause-always c = always

pub returns-clause-text : goal.returns-clause-text
returns-clause-text c = one_text

pub returns-clause-line : goal.returns-clause-line
returns-clause-line c = one_line

pub returns-clause-apart : goal.returns-clause-apart
returns-clause-apart c = apart
