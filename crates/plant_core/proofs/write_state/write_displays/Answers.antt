use Rattle.std.proofs.Common.{ap, refl, ◌∙◌, arith, length}
use Rattle.change_boards.specs.Shown.{last}
use Rattle.plant_core.specs.StateText.{display_text}
use Rattle.plant_core.proofs.StateTextLemmas.{texts_begin, one_text_more, all_texts}
use Rattle.plant_core.proofs.write_state.write_displays.Goals as goal

pub loop-number-init : goal.loop-number-init
loop-number-init c = record { text = texts_begin _ _; len = omega arith; room = refl }

pub loop-number-preserved : goal.loop-number-preserved
loop-number-preserved c = record {
  text = one_text_more _ _ _ _ _ _ c.loop-number.invariant.text c.write_display.ensures.text (ap display_text (c.last.ensures ∙ ap (last c.args.shown.now) c.of.ensures));
  len = omega (arith, c.write_display.ensures.len, c.loop-number.invariant.len);
  room = c.write_display.ensures.room ∙ c.loop-number.invariant.room;
}

pub returns-clause-text : goal.returns-clause-text
returns-clause-text c = all_texts _ _ _ _ _ (omega (arith, ap length c.displays-number-end.ensures.displays)) c.loop-number.invariant.text
