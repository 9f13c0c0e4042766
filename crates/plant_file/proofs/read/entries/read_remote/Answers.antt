use Rattle.std.proofs.Common.{arith}
use Rattle.plant_file.proofs.ReadingInside.{keys-Ok, keys-none, key-value}
use Rattle.plant_file.proofs.read.entries.read_remote.Goals as goal

pub returns : goal.returns
returns c =
    let matrix = key-value _ _ _ _ _ _ c.in_ok-number.ensures.answer in
    let level = key-value _ _ _ _ _ _ c.in_ok-number-2.ensures.answer in
    let source = key-value _ _ _ _ _ _ c.in_ok-number-3.ensures.answer in
    let from = key-value _ _ _ _ _ _ c.in_ok-number-4.ensures.answer in
    let from_source = key-value _ _ _ _ _ _ c.in_ok-number-5.ensures.answer in
    grind (arith, keys-Ok, keys-none)
