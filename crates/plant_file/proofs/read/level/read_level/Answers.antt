use Rattle.std.proofs.Common.{◌≡◌, ◌∙◌, Ok, Err, inl, sym, ap, rules}
use Rattle.toml.specs.View.{table_view}
use Rattle.plant_file.specs.Document.{found_at}
use Rattle.plant_file.specs.Reading.{level_entry}
use Rattle.plant_file.specs.declared.fault.Field.TheVariants as fields
use Rattle.plant_file.proofs.ReadingInside.{keys-Ok, keys-Err, keys-fails, keys-none, key-value, answered, required}
use Rattle.plant_file.proofs.read.level.read_level.Goals as goal

pub returns-in_err-matrix : goal.returns-in_err-matrix
returns-in_err-matrix c =
    let is : c.from_residual.result ≡ Err c.in_err-matrix.field-0.0 = search rules in
    rw is (inl (sym (keys-Err _ _ _ _ _ _ _ _ c.in_err-matrix.ensures.answer)))

pub returns-in_err-level : goal.returns-in_err-level
returns-in_err-level c =
    let is : c.from_residual-in_err-level.result ≡ Err c.in_err-level.field-0.0 = search rules in
    rw is (inl (sym (keys-Ok _ _ _ _ _ _ _ _ c.in_ok-matrix.ensures.answer ∙ keys-Err _ _ _ _ _ _ _ _ c.in_err-level.ensures.answer)))

pub returns-in_err-sources : goal.returns-in_err-sources
returns-in_err-sources c =
    let is : c.from_residual-in_err-sources.result ≡ Err c.in_err-sources.field-0.0 = search rules in
    rw is (inl (sym (keys-Ok _ _ _ _ _ _ _ _ c.in_ok-matrix.ensures.answer ∙ keys-Ok _ _ _ _ _ _ _ _ c.in_ok-level.ensures.answer ∙ keys-Err _ _ _ _ _ _ _ _ c.in_err-sources.ensures.answer)))

pub returns-in_err-destinations : goal.returns-in_err-destinations
returns-in_err-destinations c =
    let is : c.from_residual-in_err-destinations.result ≡ Err c.in_err-destinations.field-0.0 = search rules in
    rw is (inl (sym (keys-Ok _ _ _ _ _ _ _ _ c.in_ok-matrix.ensures.answer ∙ keys-Ok _ _ _ _ _ _ _ _ c.in_ok-level.ensures.answer ∙ keys-Ok _ _ _ _ _ _ _ _ c.in_ok-sources.ensures.answer ∙ keys-Err _ _ _ _ _ _ _ _ c.in_err-destinations.ensures.answer)))

pub names-requires-clause-limit : goal.names-requires-clause-limit
names-requires-clause-limit c =
    sym (required (found_at fields.Sources (table_view c.args.entry.now.table.now))) ∙ key-value _ _ _ _ _ _ c.in_ok-sources.ensures.answer

pub returns-in_err-source_names : goal.returns-in_err-source_names
returns-in_err-source_names c =
    let is : c.from_residual-in_err-source_names.result ≡ Err c.in_err-source_names.field-0.0 = search rules in
    rw is (keys-fails _ _ _ _ _ _ _ _ _ (keys-Ok _ _ _ _ _ _ _ _ c.in_ok-matrix.ensures.answer ∙ keys-Ok _ _ _ _ _ _ _ _ c.in_ok-level.ensures.answer ∙ keys-Ok _ _ _ _ _ _ _ _ c.in_ok-sources.ensures.answer ∙ keys-Ok _ _ _ _ _ _ _ _ c.in_ok-destinations.ensures.answer) c.in_err-source_names.ensures)

pub names-requires-2-clause-limit : goal.names-requires-2-clause-limit
names-requires-2-clause-limit c =
    sym (required (found_at fields.Destinations (table_view c.args.entry.now.table.now))) ∙ key-value _ _ _ _ _ _ c.in_ok-destinations.ensures.answer

pub returns-in_err-destination_names : goal.returns-in_err-destination_names
returns-in_err-destination_names c =
    let is : c.from_residual-in_err-destination_names.result ≡ Err c.in_err-destination_names.field-0.0 = search rules in
    rw is (keys-fails _ _ _ _ _ _ _ _ _ (keys-Ok _ _ _ _ _ _ _ _ c.in_ok-matrix.ensures.answer ∙ keys-Ok _ _ _ _ _ _ _ _ c.in_ok-level.ensures.answer ∙ keys-Ok _ _ _ _ _ _ _ _ c.in_ok-sources.ensures.answer ∙ keys-Ok _ _ _ _ _ _ _ _ c.in_ok-destinations.ensures.answer ∙ keys-Ok _ _ _ _ _ _ _ _ (answered _ _ c.in_ok-source_names.ensures)) c.in_err-destination_names.ensures)

pub returns : goal.returns
returns c =
    let matrix = key-value _ _ _ _ _ _ c.in_ok-matrix.ensures.answer in
    let level = key-value _ _ _ _ _ _ c.in_ok-level.ensures.answer in
    let sources = key-value _ _ _ _ _ _ c.in_ok-sources.ensures.answer in
    let destinations = key-value _ _ _ _ _ _ c.in_ok-destinations.ensures.answer in
    let source_names = key-value _ _ _ _ _ _ (answered _ _ c.in_ok-source_names.ensures) in
    let destination_names = key-value _ _ _ _ _ _ (answered _ _ c.in_ok-destination_names.ensures) in
    let read : level_entry (table_view c.args.entry.now.table.now) ≡ record { matrix = c.in_ok-matrix.field-0; level = c.in_ok-level.field-0; sources = c.in_ok-sources.field-0; destinations = c.in_ok-destinations.field-0; source_names = c.in_ok-source_names.source_names.items; destination_names = c.in_ok-destination_names.destination_names.items } = cc in
    inl (sym (keys-Ok _ _ _ _ _ _ _ _ c.in_ok-matrix.ensures.answer ∙ keys-Ok _ _ _ _ _ _ _ _ c.in_ok-level.ensures.answer ∙ keys-Ok _ _ _ _ _ _ _ _ c.in_ok-sources.ensures.answer ∙ keys-Ok _ _ _ _ _ _ _ _ c.in_ok-destinations.ensures.answer ∙ keys-Ok _ _ _ _ _ _ _ _ (answered _ _ c.in_ok-source_names.ensures) ∙ keys-Ok _ _ _ _ _ _ _ _ (answered _ _ c.in_ok-destination_names.ensures) ∙ keys-none _ _ _ _ ∙ ap Ok read))
