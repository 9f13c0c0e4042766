use Rattle.std.proofs.Common.{◌+◌, ap, length, refl, ◌∙◌, arith}
use Rattle.plant_config.specs.Plant.{destinations_of}
use Rattle.change_boards.specs.Notices.{board_of}
use Rattle.plant_core.specs.StateText.{panel_text}
use Rattle.plant_core.proofs.StateTextLemmas.{texts_begin, one_text_more, all_texts, one_width_more, room_for_one}
use Rattle.plant_core.proofs.write_state.write_panels.Goals as goal

pub loop-number-init : goal.loop-number-init
loop-number-init c = record { text = texts_begin _ _; len = omega arith; room = refl }

pub write_panel-requires-clause-room : goal.write_panel-requires-clause-room
write_panel-requires-clause-room c =
    omega (arith, c.loop-number.invariant.len, c.loop-number.invariant.room, c.requires.room, room_for_one c.loop-number.number (length c.args.plant.now.panels) (1 + destinations_of c.args.plant.now) (omega (arith, ap length c.panels-number-end.ensures.panels)))

pub loop-number-preserved : goal.loop-number-preserved
loop-number-preserved c = record {
  text = one_text_more _ _ _ _ _ _ c.loop-number.invariant.text c.write_panel.ensures.text (ap (λ panel. panel_text (destinations_of c.args.plant.now) (board_of c.args.notices.now panel)) c.of.ensures);
  len = omega (arith, c.write_panel.ensures.len, c.loop-number.invariant.len, one_width_more c.loop-number.number (1 + destinations_of c.args.plant.now));
  room = c.write_panel.ensures.room ∙ c.loop-number.invariant.room;
}

pub returns-clause-text : goal.returns-clause-text
returns-clause-text c = all_texts _ _ _ _ _ (omega (arith, ap length c.panels-number-end.ensures.panels)) c.loop-number.invariant.text
