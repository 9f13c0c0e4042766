use Rattle.std.proofs.Common.{ap, refl, ◌∙◌, arith}
use Rattle.plant_core.specs.StateText.{group_text}
use Rattle.plant_core.proofs.StateTextLemmas.{texts_begin, one_text_more, all_texts}
use Rattle.plant_core.proofs.write_state.write_groups.Goals as goal

pub loop-group-init : goal.loop-group-init
loop-group-init c = record { text = texts_begin _ _; len = omega arith; room = refl }

pub loop-group-preserved : goal.loop-group-preserved
loop-group-preserved c = record {
  text = one_text_more _ _ _ _ _ _ c.loop-group.invariant.text c.write_group.ensures.text (ap group_text c.entries.ensures.entries);
  len = omega (arith, c.write_group.ensures.len, c.loop-group.invariant.len);
  room = c.write_group.ensures.room ∙ c.loop-group.invariant.room;
}

pub returns-clause-text : goal.returns-clause-text
returns-clause-text c = all_texts _ _ _ _ _ (omega arith) c.loop-group.invariant.text
