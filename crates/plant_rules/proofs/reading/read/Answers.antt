use Rattle.std.proofs.Common.{◌≡◌, Err, rules}
use Rattle.plant_rules.proofs.FileAnswer.{sections-fail, data-fails, data-right, right-data}
use Rattle.plant_rules.proofs.reading.read.Goals as goal

pub returns-in_err-file-clause-answer : goal.returns-in_err-file-clause-answer
returns-in_err-file-clause-answer c =
    let is : c.from_residual.result ≡ Err c.in_err-file.field-0.0 = search rules in
    rw is (sections-fail c.args.text.now _ c.in_err-file.ensures.answer)

pub returns-in-Some-clause-answer : goal.returns-in-Some-clause-answer
returns-in-Some-clause-answer c = data-fails c.args.text.now _ _ c.in_ok-file.ensures.answer (rw c.in-Some.is at c.in_ok-fault.ensures)

pub returns-in-None-clause-answer : goal.returns-in-None-clause-answer
returns-in-None-clause-answer c = data-right c.args.text.now _ c.in_ok-file.ensures.answer (rw c.in-None.is at c.in_ok-fault.ensures)

pub returns-in-None-clause-right : goal.returns-in-None-clause-right
returns-in-None-clause-right c = right-data _ c.in_ok-file.ensures.ranges (rw c.in-None.is at c.in_ok-fault.ensures)
