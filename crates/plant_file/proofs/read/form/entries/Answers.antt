use Rattle.std.proofs.Common.{refl, sym, arith}
use Rattle.std.proofs.lemmas.Grind.{common_steps}
use Rattle.toml.specs.View.{table_view}
use Rattle.plant_file.proofs.FormAnswer.{form-absent, form-tables, form-mixed, form-other}
use Rattle.plant_file.proofs.read.form.entries.Goals as goal
use Rattle.plant_file.proofs.read.form.entries.Goals.{in_default-as_array-via-in-Some-as_array+else-are_tables, in_default-as_array-via-in_default-as_array}

pub returns-in-Some-range_fault-clause-answer : goal.returns-in-Some-range_fault-clause-answer
returns-in-Some-range_fault-clause-answer c =
    rw (form-absent c.args.section c.args.least c.args.most (table_view c.args.document.now) (rw c.key.ensures at c.in_default.ensures)) (rw (← c.in-Some-range_fault.ensures) refl)

pub returns-in-None-clause-answer : goal.returns-in-None-clause-answer
returns-in-None-clause-answer c =
    rw (form-absent c.args.section c.args.least c.args.most (table_view c.args.document.now) (rw c.key.ensures at c.in_default.ensures)) (rw (← c.in-None.ensures) refl)

pub returns-in_default-as_array-clause-answer : goal.returns-in_default-as_array-clause-answer
returns-in_default-as_array-clause-answer c =
    let found = rw c.key.ensures at c.in-Some.ensures in
    elim c.in_default-as_array.branch [
      | in_default-as_array-via-in-Some-as_array+else-are_tables w ↦ sym (form-mixed c.args.section c.args.least c.args.most (table_view c.args.document.now) _ _ found w.in-Some-as_array.ensures (sym (rw w.deref.ensures.value at w.if-are_tables.ensures)))
      | in_default-as_array-via-in_default-as_array w ↦ sym (form-other c.args.section c.args.least c.args.most (table_view c.args.document.now) _ found w.in_default-as_array.ensures)
    ]

pub returns-in-Some-range_fault-2-clause-answer : goal.returns-in-Some-range_fault-2-clause-answer
returns-in-Some-range_fault-2-clause-answer c =
    let answer = form-tables c.args.section c.args.least c.args.most (table_view c.args.document.now) _ _ (rw c.key.ensures at c.in-Some.ensures) c.in-Some-as_array.ensures (sym (rw c.deref.ensures.value at c.if-are_tables.ensures)) in
    grind (arith, common_steps, answer)

pub returns-in-None-range_fault-clause-answer : goal.returns-in-None-range_fault-clause-answer
returns-in-None-range_fault-clause-answer c =
    let answer = form-tables c.args.section c.args.least c.args.most (table_view c.args.document.now) _ _ (rw c.key.ensures at c.in-Some.ensures) c.in-Some-as_array.ensures (sym (rw c.deref.ensures.value at c.if-are_tables.ensures)) in
    grind (arith, common_steps, answer)
