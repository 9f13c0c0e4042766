use Rattle.plant_core.specs.StateInside.{state_of}
use Rattle.plant_core.proofs.Validity.{IsValid-others}
use Rattle.plant_core.proofs.ShortLemmas.{StaysShort-others}
use Rattle.plant_core.proofs.state.PlantState.give_notice.Goals as goal

pub invariant_of-self : goal.invariant_of-self
invariant_of-self c =
    let within = rw (← c.self.view_is) at c.requires.dest in
    let named = rw (← c.self.view_is) at c.requires.short in
    record {
      valid = rw c.notify_others.ensures (IsValid-others (state_of c.self.inside.plant c.self.inside.crosspoints c.self.inside.protects c.self.inside.groups c.self.inside.notices c.self.inside.shown) c.args.asker c.args.dest c.args.sort within c.self.invariant.valid);
      short = rw c.notify_others.ensures (StaysShort-others (state_of c.self.inside.plant c.self.inside.crosspoints c.self.inside.protects c.self.inside.groups c.self.inside.notices c.self.inside.shown) c.args.asker c.args.dest c.args.sort named c.self.invariant.short);
      room = c.self.invariant.room;
      beside = c.self.invariant.beside;
      due = c.self.invariant.due;
    }
