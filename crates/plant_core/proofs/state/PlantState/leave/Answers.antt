use Rattle.plant_core.specs.StateInside.{state_of}
use Rattle.plant_core.proofs.Validity.{IsValid-leave}
use Rattle.plant_core.proofs.ShortLemmas.{StaysShort-leave}
use Rattle.plant_core.proofs.state.PlantState.leave.Goals as goal

pub invariant_of-self : goal.invariant_of-self
invariant_of-self c =
    record {
      valid = rw c.drop_panel.ensures (IsValid-leave (state_of c.self.inside.plant c.self.inside.crosspoints c.self.inside.protects c.self.inside.groups c.self.inside.notices c.self.inside.shown) c.args.panel c.self.invariant.valid);
      short = rw c.drop_panel.ensures (StaysShort-leave (state_of c.self.inside.plant c.self.inside.crosspoints c.self.inside.protects c.self.inside.groups c.self.inside.notices c.self.inside.shown) c.args.panel c.self.invariant.short);
      room = c.self.invariant.room;
      beside = c.self.invariant.beside;
      due = c.self.invariant.due;
    }
