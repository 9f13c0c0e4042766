use Rattle.std.proofs.Common.{◌≡◌, drop}
use Rattle.plant_file.specs.ReadingInside.{texts_answer, texts_going}
use Rattle.plant_file.proofs.read.names.read_names.Given as goal

abbrev pub invariant-loop-item : goal.invariant-loop-item
invariant-loop-item l = texts_answer l.at l.items ≡ texts_going l.at l.names.items (drop l.item-index l.items)
