use Rattle.std.proofs.Common.{arith, sym, ◌∙◌}
use Rattle.plant_core.proofs.CountLemmas.{room_within}
use Rattle.plant_core.proofs.DumpLemmas.{level_within}
use Rattle.plant_core.proofs.state.PlantState.dest_count.Goals as goal

pub overflow_cast-result : goal.overflow_cast-result
overflow_cast-result c =
    let within = level_within c.self.inside.plant c.args.matrix c.args.level c.in-Some.at (sym c.is_wide.ensures ∙ c.if-not-is_wide.true) c.in-Some.ensures.at in
    omega (arith, within, room_within c.self.inside.plant c.self.invariant.valid.is_plant)

pub returns-in-Some-clause-within : goal.returns-in-Some-clause-within
returns-in-Some-clause-within c =
    rw (← c.self.view_is) (level_within c.self.inside.plant c.args.matrix c.args.level c.in-Some.at (sym c.is_wide.ensures ∙ c.if-not-is_wide.true) c.in-Some.ensures.at)
