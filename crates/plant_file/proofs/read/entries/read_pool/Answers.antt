use Rattle.std.proofs.Common.{sym, ◌∙◌, arith}
use Rattle.toml.specs.View.{table_view}
use Rattle.plant_file.specs.Document.{found_at}
use Rattle.plant_file.specs.declared.fault.Field.TheVariants as fields
use Rattle.plant_file.proofs.ReadingInside.{keys-Ok, keys-none, key-value, required}
use Rattle.plant_file.proofs.read.entries.read_pool.Goals as goal

-- the ties were read, so they are the bound that the reserve is held to
pub number_up_to_or-requires-clause-limit : goal.number_up_to_or-requires-clause-limit
number_up_to_or-requires-clause-limit c =
    sym (required (found_at fields.Ties (table_view c.args.entry.now.table.now))) ∙ key-value _ _ _ _ _ _ c.in_ok-ties.ensures.answer

pub returns : goal.returns
returns c =
    let from = key-value _ _ _ _ _ _ c.in_ok-from.ensures.answer in
    let to = key-value _ _ _ _ _ _ c.in_ok-to.ensures.answer in
    let level = key-value _ _ _ _ _ _ c.in_ok-level.ensures.answer in
    let ties = key-value _ _ _ _ _ _ c.in_ok-ties.ensures.answer in
    let reserve = key-value _ _ _ _ _ _ c.in_ok-reserve.ensures.answer in
    grind (arith, keys-Ok, keys-none)
