use Rattle.std.proofs.Common.{◌≡◌, ◌∙◌, Ok, Err, sym, ap, rules}
use Rattle.toml.specs.View.{table_view}
use Rattle.plant_file.specs.Reading.{bus_entry}
use Rattle.plant_file.proofs.ReadingInside.{keys-Ok, keys-Err, key-value, keys-rest-Ok, keys-rest-value, keys-rest-Err}
use Rattle.plant_file.proofs.read.entries.read_bus.Goals as goal

pub returns-in_err-number : goal.returns-in_err-number
returns-in_err-number c =
    let is : c.from_residual-in_err-number.result ≡ Err c.in_err-number.field-0.0 = search rules in
    is ∙ sym (keys-Ok _ _ _ _ _ _ _ _ c.in_ok-name.ensures ∙ keys-Err _ _ _ _ _ _ _ _ c.in_err-number.ensures.answer)

pub returns-in_err-number-2 : goal.returns-in_err-number-2
returns-in_err-number-2 c =
    let is : c.from_residual-in_err-number-2.result ≡ Err c.in_err-number-2.field-0.0 = search rules in
    is
    ∙ sym (keys-Ok _ _ _ _ _ _ _ _ c.in_ok-name.ensures ∙ keys-Ok _ _ _ _ _ _ _ _ c.in_ok-number.ensures.answer ∙ keys-Err _ _ _ _ _ _ _ _ c.in_err-number-2.ensures.answer)

pub returns-in_err-read_switch : goal.returns-in_err-read_switch
returns-in_err-read_switch c =
    let is : c.from_residual-in_err-read_switch.result ≡ Err c.in_err-read_switch.field-0.0 = search rules in
    is
    ∙ sym (keys-Ok _ _ _ _ _ _ _ _ c.in_ok-name.ensures ∙ keys-Ok _ _ _ _ _ _ _ _ c.in_ok-number.ensures.answer ∙ keys-Ok _ _ _ _ _ _ _ _ c.in_ok-number-2.ensures.answer ∙ keys-rest-Err _ _ _ _ _ _ _ c.in_err-read_switch.ensures)

pub returns : goal.returns
returns c =
    let device = key-value _ _ _ _ _ _ c.in_ok-name.ensures in
    let matrix = key-value _ _ _ _ _ _ c.in_ok-number.ensures.answer in
    let destination = key-value _ _ _ _ _ _ c.in_ok-number-2.ensures.answer in
    let switch = keys-rest-value _ _ _ _ _ _ c.in_ok-read_switch.ensures in
    let read : bus_entry (table_view c.args.entry.now.table.now) ≡ record { device = c.in_ok-name.field-0; matrix = c.in_ok-number.field-0; destination = c.in_ok-number-2.field-0; switch = c.in_ok-read_switch.field-0 } = cc in
    sym (keys-Ok _ _ _ _ _ _ _ _ c.in_ok-name.ensures ∙ keys-Ok _ _ _ _ _ _ _ _ c.in_ok-number.ensures.answer ∙ keys-Ok _ _ _ _ _ _ _ _ c.in_ok-number-2.ensures.answer ∙ keys-rest-Ok _ _ _ _ _ _ _ c.in_ok-read_switch.ensures ∙ ap Ok read)
