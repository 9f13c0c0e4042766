use Rattle.plant_core.proofs.MarkLemmas.{bytes_read}
use Rattle.plant_core.proofs.marks.eight_at.Goals as goal

pub returns : goal.returns
returns c =
    bytes_read c.args.bytes.now c.args.place _ _ _ _ _ _ _ _ c.from_le_bytes.result
    c.byte_at.type_inv c.byte_at-2.type_inv c.byte_at-3.type_inv c.byte_at-4.type_inv c.byte_at-5.type_inv c.byte_at-6.type_inv c.byte_at-7.type_inv c.byte_at-8.type_inv
    c.byte_at.ensures c.byte_at-2.ensures c.byte_at-3.ensures c.byte_at-4.ensures c.byte_at-5.ensures c.byte_at-6.ensures c.byte_at-7.ensures c.byte_at-8.ensures
    c.from_le_bytes.ensures
