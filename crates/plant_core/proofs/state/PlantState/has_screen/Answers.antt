use Rattle.std.proofs.Common.{not, ap, length, ◌∙◌}
use Rattle.std.specs.Prelude.{◌==◌}
use Rattle.change_boards.specs.Screens.{displays_at}
use Rattle.plant_config.specs.Screens.{has_screen}
use Rattle.plant_core.specs.declared.tables.Tables.{Tables}
use Rattle.plant_core.specs.State.{State}
use Rattle.plant_core.proofs.ScreenLemmas.{displays-some}
use Rattle.plant_core.proofs.state.PlantState.has_screen.Goals as goal

pub returns : goal.returns
returns c =
    ap not c.is_empty.ensures
    ∙ ap (λ list. not (length list == 0)) (c.displays.ensures ∙ ap (λ (tables : Tables). displays_at tables.screens c.args.screen) c.deref.ensures ∙ c.self.invariant.beside.screened c.args.screen)
    ∙ displays-some c.self.inside.plant c.args.screen
    ∙ ap (λ (state : State). has_screen state.plant c.args.screen) c.self.view_is
