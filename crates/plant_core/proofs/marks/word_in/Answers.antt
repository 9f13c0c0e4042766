use Rattle.plant_core.proofs.MarkLemmas.{marks_read}
use Rattle.plant_core.proofs.marks.word_in.Goals as goal

pub returns : goal.returns
returns c =
    marks_read c.args.bytes.now c.args.place c.args.sort _ _ _ _ _ _ _ _ c.from_le_bytes.result
    c.eight_in.type_inv c.eight_in-2.type_inv c.eight_in-3.type_inv c.eight_in-4.type_inv c.eight_in-5.type_inv c.eight_in-6.type_inv c.eight_in-7.type_inv c.eight_in-8.type_inv
    c.eight_in.ensures c.eight_in-2.ensures c.eight_in-3.ensures c.eight_in-4.ensures c.eight_in-5.ensures c.eight_in-6.ensures c.eight_in-7.ensures c.eight_in-8.ensures
    c.from_le_bytes.ensures
