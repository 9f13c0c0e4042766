-- An empty place more changes no row.
use Rattle.std.proofs.Common.{ap, ◌∙◌, arith}
use Rattle.trace_audit.specs.RowsInside.{row_of_table}
use Rattle.trace_audit.proofs.RowLemmas.{row_more}
use Rattle.trace_audit.proofs.rows.lengthen.Goals as goal

pub loop-count-preserved : goal.loop-count-preserved
loop-count-preserved g c = record {
  values = λ other.
      ap (λ items. row_of_table items other) c.push_reserved.ensures.items
      ∙ row_more c.loop-count.table.items other
      ∙ c.loop-count.invariant.values other;
  length = omega (arith, c.push_reserved.ensures.len, c.loop-count.invariant.length);
  room = c.push_reserved.ensures.capacity ∙ c.loop-count.invariant.room;
}
