use Rattle.plant_core.specs.StateInside.{state_of}
use Rattle.plant_core.proofs.GroupValidity.{IsValid-clear}
use Rattle.plant_core.proofs.ShortLemmas.{StaysShort-clear}
use Rattle.plant_core.proofs.state.PlantState.empty.Goals as goal

pub invariant_of-self : goal.invariant_of-self
invariant_of-self c =
    record {
      valid = rw c.clear.ensures (IsValid-clear (state_of c.self.inside.plant c.self.inside.crosspoints c.self.inside.protects c.self.inside.groups c.self.inside.notices c.self.inside.shown) c.args.salvo c.self.invariant.valid);
      short = rw c.clear.ensures (StaysShort-clear (state_of c.self.inside.plant c.self.inside.crosspoints c.self.inside.protects c.self.inside.groups c.self.inside.notices c.self.inside.shown) c.args.salvo c.self.invariant.short);
      room = c.self.invariant.room;
      beside = c.self.invariant.beside;
      due = c.self.invariant.due;
    }
