use Rattle.std.proofs.Common.{sym}
use Rattle.plant_core.proofs.Validity.{change_of-IsChangeOf}
use Rattle.plant_core.proofs.state.PlantState.connect.Goals as goal

pub plan-requires : goal.plan-requires
plan-requires c =
    change_of-IsChangeOf c.args.self.now.plant c.args.at c.args.source c.in-Some.change c.in-Some.ensures.valid.is_plant (sym c.in-Some.ensures.change)
