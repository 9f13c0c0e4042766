use Rattle.std.proofs.Common.{inl, sym, ◌∙◌}
use Rattle.std.proofs.lemmas.Bool.{false≢true}
use Rattle.toml.specs.View.{table_view}
use Rattle.plant_file.proofs.TextAnswer.{document-bytes, document-Ok, document-None}
use Rattle.plant_file.proofs.read.document.parse.Goals as goal

pub returns-in_default : goal.returns-in_default
returns-in_default c = inl (sym (document-bytes c.args.text.now c.in_default.ensures.cases.0))

pub returns-in-Ok-table_from_str : goal.returns-in-Ok-table_from_str
returns-in-Ok-table_from_str c =
    inl (sym (document-Ok c.args.text.now (table_view c.in-Ok-table_from_str.table) c.in-Ok.ensures.cases.1 (rw c.in-Ok.ensures.cases.0 at c.in-Ok-table_from_str.ensures.ok)))

pub returns-else-is_memory : goal.returns-else-is_memory
returns-else-is_memory c =
    let refused = c.in-Err.ensures.refused (λ memory. false≢true (sym c.if-is_memory.false ∙ c.is_memory.ensures.1 memory)) in
    inl (sym (document-None c.args.text.now c.in-Ok.ensures.cases.1 (rw c.in-Ok.ensures.cases.0 at refused)))
