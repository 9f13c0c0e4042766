use Rattle.std.proofs.Common.{◌≡◌, pos, length, None, Some, inl, sym, arith}
use Rattle.std.proofs.lemmas.Grind.{common_steps}
use Rattle.toml.specs.View.{view}
use Rattle.plant_file.specs.FirstFault.{first_fault}
use Rattle.plant_file.specs.KeyFaults.{range_faults}
use Rattle.plant_file.proofs.NamesAnswer.{names-array, names-range, names-other}
use Rattle.plant_file.proofs.read.names.name_array.Goals as goal

pub returns-in-None : goal.returns-in-None
returns-in-None c = inl (sym (names-other c.args.at c.args.count (view c.args.value.now) c.in-None.ensures))

pub returns-in-Some-range_fault : goal.returns-in-Some-range_fault
returns-in-Some-range_fault c =
    let wrong : Some c.in-Some-range_fault.fault ≡ first_fault (range_faults c.args.at (pos (length c.in-Some.items.now.items)) 0 c.args.count) = grind (arith, common_steps) in
    inl (sym (names-range c.args.at c.args.count (view c.args.value.now) c.in-Some.items.now.items _ c.in-Some.ensures wrong))

pub returns-in-None-range_fault : goal.returns-in-None-range_fault
returns-in-None-range_fault c =
    let right : None ≡ first_fault (range_faults c.args.at (pos (length c.in-Some.items.now.items)) 0 c.args.count) = grind (arith, common_steps) in
    rw (names-array c.args.at c.args.count (view c.args.value.now) c.in-Some.items.now.items c.in-Some.ensures right) (rw c.as_slice-items.ensures.value at c.read_names.ensures)
