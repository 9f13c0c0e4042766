use Rattle.trace_audit.proofs.BadLineLemmas.{bad-first, first-named, bad-named}
use Rattle.trace_audit.proofs.laws.bad_lines_spell_none.Goals as goal

pub returns-clause-refused : goal.returns-clause-refused
returns-clause-refused c = bad-first

pub returns-clause-passed : goal.returns-clause-passed
returns-clause-passed c = bad-named

pub returns-clause-named : goal.returns-clause-named
returns-clause-named c = first-named
