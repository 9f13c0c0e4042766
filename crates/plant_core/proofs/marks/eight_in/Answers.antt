use Rattle.std.proofs.Common.{subst, sym}
use Rattle.change_boards.specs.declared.sort.Sort.{Sort}
use Rattle.plant_core.specs.MarksInside.{HasMarks}
use Rattle.plant_core.proofs.MarkLemmas.{protects_read}
use Rattle.plant_core.proofs.marks.eight_in.Goals as goal

pub returns-in-Protect : goal.returns-in-Protect
returns-in-Protect c =
    subst (λ (sort : Sort). HasMarks c.args.bytes.now c.args.place sort 8 c.lowest_bits-in-Protect.result) (sym c.in-Protect.is)
    (protects_read c.args.bytes.now c.args.place c.eight_at-eight.result c.lowest_bits-in-Protect.result c.eight_at-eight.ensures c.lowest_bits-in-Protect.ensures)
