use Rattle.std.proofs.Common.{◌*◌, ap, length, refl, sym, ◌∙◌, arith}
use Rattle.std.proofs.lemmas.List.{append-nil}
use Rattle.plant_core.specs.WriteInside.{notices_by}
use Rattle.plant_core.proofs.StateTextLemmas.{all_bytes}
use Rattle.plant_core.proofs.NoticeTextLemmas.{four_more}
use Rattle.plant_core.proofs.write_notices.write_bits.Goals as goal

pub loop-quarter-init : goal.loop-quarter-init
loop-quarter-init c = record { text = sym (append-nil _); len = omega arith; room = refl }

pub loop-quarter-preserved : goal.loop-quarter-preserved
loop-quarter-preserved c = record {
  text = four_more _ _ _ _ c.args.source c.args.protect c.loop-quarter.quarter c.loop-quarter.invariant.text c.four_notices-four.ensures c.append.ensures.text;
  len = omega (arith, c.append.ensures.len, c.loop-quarter.invariant.len, ap length c.four_notices-four.ensures);
  room = c.append.ensures.room ∙ c.loop-quarter.invariant.room;
}

pub returns-clause-text : goal.returns-clause-text
returns-clause-text c = all_bytes _ _ (notices_by c.args.source c.args.protect) (4 * c.loop-quarter.quarter) 64 (omega arith) c.loop-quarter.invariant.text
