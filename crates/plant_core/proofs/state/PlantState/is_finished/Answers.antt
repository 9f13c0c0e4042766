use Rattle.std.proofs.Common.{◌≡◌, true, not, length, sym, ap, ◌∙◌}
use Rattle.std.specs.Prelude.{◌&&◌}
use Rattle.std.specs.List.{list_all, list_any, range_with_len}
use Rattle.change_boards.specs.Board.{Board}
use Rattle.plant_core.specs.State.{State}
use Rattle.plant_core.specs.Displays.{differs}
use Rattle.plant_core.proofs.DisplayLemmas.{left-is}
use Rattle.plant_core.proofs.state.PlantState.is_finished.Goals as goal

pub returns-then-all_left : goal.returns-then-all_left
returns-then-all_left c =
    let left : true ≡ list_all (λ (board : Board). board.left) c.args.self.now.boards =
    sym c.if-all_left.true ∙ left-is c.all_left.result c.self.inside.notices c.all_left.ensures ∙ ap (λ (state : State). list_all (λ (board : Board). board.left) state.boards) c.self.view_is in
    ap not c.some_differs.ensures
    ∙ ap (λ b. b && not (list_any (differs c.args.self.now) (range_with_len 0 (length c.args.self.now.plant.displays)))) left
