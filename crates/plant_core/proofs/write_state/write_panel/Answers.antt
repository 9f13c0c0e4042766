use Rattle.std.proofs.Common.{◌++◌, ◌∷◌, [], ap, ◌∙◌}
use Rattle.plant_config.specs.Plant.{destinations_of}
use Rattle.change_boards.specs.Notices.{board_of}
use Rattle.plant_core.specs.StateText.{notices_of}
use Rattle.plant_core.proofs.StateTextLemmas.{all_bytes, behind_both}
use Rattle.plant_core.proofs.write_state.write_panel.Goals as goal

pub returns-clause-text : goal.returns-clause-text
returns-clause-text c =
    behind_both _ _ _ _ _
    (c.push_reserved.ensures.items ∙ ap (λ byte. c.args.out.now.items ++ byte ∷ []) c.left_of.ensures)
    (all_bytes _ _ (notices_of (board_of c.args.notices.now c.args.panel)) _ (destinations_of c.args.plant.now) c.destination_count.ensures.count c.write_notices.ensures.text)
