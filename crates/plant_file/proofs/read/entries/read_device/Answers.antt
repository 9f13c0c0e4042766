use Rattle.std.proofs.Common.{◌≡◌, ◌∙◌, Err, sym, rules}
use Rattle.plant_file.proofs.ReadingInside.{keys-Ok, keys-Err}
use Rattle.plant_file.proofs.read.entries.read_device.Goals as goal

pub returns-in_err-number : goal.returns-in_err-number
returns-in_err-number c =
    let is : c.from_residual-in_err-number.result ≡ Err c.in_err-number.field-0.0 = search rules in
    is ∙ sym (keys-Ok _ _ _ _ _ _ _ _ c.in_ok-name.ensures ∙ keys-Err _ _ _ _ _ _ _ _ c.in_err-number.ensures.answer)

pub returns-in_err-number-2 : goal.returns-in_err-number-2
returns-in_err-number-2 c =
    let is : c.from_residual-in_err-number-2.result ≡ Err c.in_err-number-2.field-0.0 = search rules in
    is ∙ sym (keys-Ok _ _ _ _ _ _ _ _ c.in_ok-name.ensures ∙ keys-Ok _ _ _ _ _ _ _ _ c.in_ok-number.ensures.answer ∙ keys-Err _ _ _ _ _ _ _ _ c.in_err-number-2.ensures.answer)
