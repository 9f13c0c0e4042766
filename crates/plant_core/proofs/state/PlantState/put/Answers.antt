use Rattle.plant_core.specs.StateInside.{state_of}
use Rattle.plant_core.proofs.GroupValidity.{IsValid-store}
use Rattle.plant_core.proofs.ShortLemmas.{StaysShort-store}
use Rattle.plant_core.proofs.state.PlantState.put.Goals as goal

pub invariant_of-self : goal.invariant_of-self
invariant_of-self c =
    let is = rw (← c.self.view_is) at c.requires.change in
    let named = rw (← c.self.view_is) at c.requires.short in
    record {
      valid = rw c.store.ensures.groups (IsValid-store (state_of c.self.inside.plant c.self.inside.crosspoints c.self.inside.protects c.self.inside.groups c.self.inside.notices c.self.inside.shown) c.args.salvo c.args.change c.self.invariant.valid is);
      short = rw c.store.ensures.groups (StaysShort-store (state_of c.self.inside.plant c.self.inside.crosspoints c.self.inside.protects c.self.inside.groups c.self.inside.notices c.self.inside.shown) c.args.salvo c.args.change named c.self.invariant.short);
      room = c.self.invariant.room;
      beside = c.self.invariant.beside;
      due = c.self.invariant.due;
    }
