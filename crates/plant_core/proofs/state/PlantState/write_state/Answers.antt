use Rattle.plant_core.specs.StateInside.{state_of}
use Rattle.plant_core.proofs.StateTextLemmas.{state_behind}
use Rattle.plant_core.proofs.state.PlantState.write_state.Goals as goal

pub returns-clause-text : goal.returns-clause-text
returns-clause-text c =
    let state = state_of c.self.inside.plant c.self.inside.crosspoints c.self.inside.protects c.self.inside.groups c.self.inside.notices c.self.inside.shown in
    rw (← c.self.view_is) (state_behind state _ _ _ _ _ _ c.write_counts.ensures.text c.write_destinations.ensures.text c.write_groups.ensures.text c.write_panels.ensures.text c.write_displays.ensures.text)
