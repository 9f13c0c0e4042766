use Rattle.std.proofs.Common.{ap, refl, ◌∙◌, arith}
use Rattle.plant_core.specs.StateText.{entry_text}
use Rattle.plant_core.proofs.StateTextLemmas.{texts_begin, one_text_more, all_texts, behind_both}
use Rattle.plant_core.proofs.write_state.write_group.Goals as goal

pub loop-index-init : goal.loop-index-init
loop-index-init c = record { text = texts_begin _ _; len = omega arith; room = refl }

pub loop-index-preserved : goal.loop-index-preserved
loop-index-preserved c = record {
  text =
      one_text_more _ _ _ _ _ _ c.loop-index.invariant.text c.write_entry.ensures.text (ap entry_text c.change_at.ensures);
  len = omega (arith, c.write_entry.ensures.len, c.loop-index.invariant.len);
  room = c.write_entry.ensures.room ∙ c.loop-index.invariant.room;
}

pub returns-clause-text : goal.returns-clause-text
returns-clause-text c = behind_both _ _ _ _ _ c.write_word.ensures.text (all_texts _ _ _ _ _ (omega arith) c.loop-index.invariant.text)
