use Rattle.std.proofs.Common.{◌∙◌}
use Rattle.plant_core.specs.StateInside.{state_of}
use Rattle.plant_core.proofs.Validity.{IsValid-owners, AreOwners-taken}
use Rattle.plant_core.proofs.ShortLemmas.{StaysShort-owners, owners-taken}
use Rattle.plant_core.proofs.state.PlantState.own.Goals as goal

pub invariant_of-self : goal.invariant_of-self
invariant_of-self c =
    let within = rw (← c.self.view_is) at c.requires.dest in
    let named = rw (← c.self.view_is) at c.requires.short in
    record {
      valid = rw c.protect.ensures.owners (IsValid-owners (state_of c.self.inside.plant c.self.inside.crosspoints c.self.inside.protects c.self.inside.groups c.self.inside.notices c.self.inside.shown) _ c.self.invariant.valid (AreOwners-taken c.self.inside.plant c.self.inside.protects.entries c.args.device c.args.dest within c.requires.device c.self.invariant.valid.owners));
      short = rw c.protect.ensures.owners (StaysShort-owners (state_of c.self.inside.plant c.self.inside.crosspoints c.self.inside.protects c.self.inside.groups c.self.inside.notices c.self.inside.shown) _ (owners-taken (state_of c.self.inside.plant c.self.inside.crosspoints c.self.inside.protects c.self.inside.groups c.self.inside.notices c.self.inside.shown) c.args.device c.args.dest named c.self.invariant.short) c.self.invariant.short);
      room = record { crosspoints = c.self.invariant.room.crosspoints; protects = c.protect.ensures.room ∙ c.self.invariant.room.protects };
      beside = c.self.invariant.beside;
      due = c.self.invariant.due;
    }
