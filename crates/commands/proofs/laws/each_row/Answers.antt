use Rattle.command_rows.proofs.RowLawsLemmas.{have_cause, no_usage, write_all, four_cause}
use Rattle.command_rows.proofs.AlwaysLemmas.{told, worked, missing_first}
use Rattle.command_rows.proofs.SoundLemmas.{one_cause, one_silent, known, seven_cause, leave_all}
use Rattle.commands.specs.Rows.{row_of, promise_of, sound_of, silent_of, statuses_of}
use Rattle.commands.proofs.laws.each_row.Goals as goal

pub returns-clause-cause : goal.returns-clause-cause
returns-clause-cause c = λ verb. have_cause (row_of verb).form.parts (row_of verb).form.last (promise_of verb)

pub returns-clause-statuses : goal.returns-clause-statuses
returns-clause-statuses c = λ verb. known (row_of verb).form.parts (row_of verb).form.last (promise_of verb) (statuses_of verb) (sound_of verb)

pub returns-clause-memory : goal.returns-clause-memory
returns-clause-memory c = λ verb. one_cause (row_of verb).form.parts (row_of verb).form.last (promise_of verb) (statuses_of verb) (sound_of verb)

pub returns-clause-silent : goal.returns-clause-silent
returns-clause-silent c = λ verb other. one_silent (row_of verb).form.parts (row_of verb).form.last (promise_of verb) (silent_of verb other)

pub returns-clause-usage : goal.returns-clause-usage
returns-clause-usage c = λ verb. no_usage (row_of verb).form.parts (row_of verb).form.last (promise_of verb)

pub returns-clause-plant : goal.returns-clause-plant
returns-clause-plant c = λ verb. four_cause (row_of verb).form.parts (row_of verb).form.last (promise_of verb)

pub returns-clause-stops : goal.returns-clause-stops
returns-clause-stops c = λ verb. told (row_of verb).form.parts (row_of verb).form.last (promise_of verb)

pub returns-clause-given : goal.returns-clause-given
returns-clause-given c = λ verb. worked (row_of verb).form.parts (row_of verb).form.last (promise_of verb)

pub returns-clause-missing : goal.returns-clause-missing
returns-clause-missing c = λ verb. missing_first (row_of verb).form.parts (row_of verb).form.last (promise_of verb)

pub returns-clause-failed : goal.returns-clause-failed
returns-clause-failed c = λ verb. seven_cause (row_of verb).form.parts (row_of verb).form.last (promise_of verb) (statuses_of verb) (sound_of verb)

pub returns-clause-others : goal.returns-clause-others
returns-clause-others c = λ verb. write_all (row_of verb).form.parts (row_of verb).form.last (promise_of verb)

pub returns-clause-left : goal.returns-clause-left
returns-clause-left c = λ verb. leave_all (row_of verb).form.parts (row_of verb).form.last (promise_of verb) (statuses_of verb) (sound_of verb)
