use Rattle.std.proofs.Common.{◌≡◌, Ok, Err, inl, sym, ap, ◌∙◌, rules}
use Rattle.toml.specs.View.{table_view}
use Rattle.plant_file.proofs.OnlyAnswer.{title-answer}
use Rattle.plant_file.proofs.read.server.read_title.Goals as goal

pub returns-in_err-title : goal.returns-in_err-title
returns-in_err-title c =
    let is : c.from_residual.result ≡ Err c.in_err-title.field-0.0 = search rules in
    rw is (inl (c.in_err-title.ensures.answer ∙ sym (title-answer (table_view c.args.document.now))))

pub returns : goal.returns
returns c = inl (ap Ok c.in_ok-of.ensures ∙ c.in_ok-title.ensures.answer ∙ sym (title-answer (table_view c.args.document.now)))
