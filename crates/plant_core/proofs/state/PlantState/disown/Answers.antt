use Rattle.std.proofs.Common.{◌∙◌}
use Rattle.plant_core.specs.StateInside.{state_of}
use Rattle.plant_core.proofs.Validity.{IsValid-owners, AreOwners-lifted}
use Rattle.plant_core.proofs.ShortLemmas.{StaysShort-owners, owners-lifted}
use Rattle.plant_core.proofs.state.PlantState.disown.Goals as goal

pub invariant_of-self : goal.invariant_of-self
invariant_of-self c =
    record {
      valid = rw c.lift.ensures.owners (IsValid-owners (state_of c.self.inside.plant c.self.inside.crosspoints c.self.inside.protects c.self.inside.groups c.self.inside.notices c.self.inside.shown) _ c.self.invariant.valid (AreOwners-lifted c.self.inside.plant c.self.inside.protects.entries c.args.device c.args.master c.args.dest c.self.invariant.valid.owners));
      short = rw c.lift.ensures.owners (StaysShort-owners (state_of c.self.inside.plant c.self.inside.crosspoints c.self.inside.protects c.self.inside.groups c.self.inside.notices c.self.inside.shown) _ (owners-lifted (state_of c.self.inside.plant c.self.inside.crosspoints c.self.inside.protects c.self.inside.groups c.self.inside.notices c.self.inside.shown) c.args.device c.args.master c.args.dest c.self.invariant.short) c.self.invariant.short);
      room = record { crosspoints = c.self.invariant.room.crosspoints; protects = c.lift.ensures.room ∙ c.self.invariant.room.protects };
      beside = c.self.invariant.beside;
      due = c.self.invariant.due;
    }
