use Rattle.std.proofs.Common.{◌≡◌, [], ◌∷◌, Ok, Err, inl, ap, sym, ◌∙◌, rules}
use Rattle.toml.specs.View.{table_view}
use Rattle.plant_file.specs.Reading.{names_of}
use Rattle.plant_file.specs.ReadingInside.{read_as}
use Rattle.plant_file.proofs.ReadingInside.{answered}
use Rattle.plant_file.proofs.NamesAnswer.{names-absent, names-found, made-fails}
use Rattle.plant_file.proofs.read.names.names.Goals as goal

pub returns-in_default : goal.returns-in_default
returns-in_default c =
    let absent = names-absent (c.args.letter ∷ []) c.args.count c.args.entry.now.section c.args.entry.now.number (table_view c.args.entry.now.table.now) c.args.field c.args.limit c.in_default.ensures in
    inl (ap Ok (rw c.new.ensures.items at c.in_ok-with_defaults.ensures) ∙ sym absent)

pub returns-in_err-given : goal.returns-in_err-given
returns-in_err-given c =
    let is : c.from_residual-in_err-given.result ≡ Err c.in_err-given.field-0.0 = search rules in
    let found = names-found (c.args.letter ∷ []) c.args.count c.args.entry.now.section c.args.entry.now.number (table_view c.args.entry.now.table.now) c.args.field c.args.limit _ c.in-Some.ensures c.requires.limit in
    rw is (made-fails (names_of (c.args.letter ∷ []) c.args.count) _ _ _ found (rw c.place.ensures at c.in_err-given.ensures))

pub returns : goal.returns
returns c =
    let found = names-found (c.args.letter ∷ []) c.args.count c.args.entry.now.section c.args.entry.now.number (table_view c.args.entry.now.table.now) c.args.field c.args.limit _ c.in-Some.ensures c.requires.limit in
    let given = answered _ _ (rw c.place.ensures at c.in_ok-given.ensures) in
    inl (ap Ok c.in_ok-with_defaults-2.ensures ∙ ap (read_as (names_of (c.args.letter ∷ []) c.args.count)) given ∙ sym found)
