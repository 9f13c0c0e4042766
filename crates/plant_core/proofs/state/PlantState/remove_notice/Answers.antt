use Rattle.std.proofs.Common.{◌<◌, IfSome, subst}
use Rattle.plant_config.specs.Plant.{destinations_of}
use Rattle.plant_core.specs.State.{State}
use Rattle.plant_core.specs.StateInside.{state_of}
use Rattle.plant_core.proofs.Validity.{IsValid-take}
use Rattle.plant_core.proofs.TellLemmas.{next-below}
use Rattle.plant_core.proofs.ShortLemmas.{StaysShort-take}
use Rattle.plant_core.proofs.state.PlantState.remove_notice.Goals as goal

pub invariant_of-self : goal.invariant_of-self
invariant_of-self c =
    record {
      valid = rw c.remove_lowest.ensures.removed (IsValid-take (state_of c.self.inside.plant c.self.inside.crosspoints c.self.inside.protects c.self.inside.groups c.self.inside.notices c.self.inside.shown) c.args.panel c.self.invariant.valid);
      short = rw c.remove_lowest.ensures.removed (StaysShort-take (state_of c.self.inside.plant c.self.inside.crosspoints c.self.inside.protects c.self.inside.groups c.self.inside.notices c.self.inside.shown) c.args.panel c.self.invariant.short);
      room = c.self.invariant.room;
      beside = c.self.invariant.beside;
      due = c.self.invariant.due;
    }

pub returns-clause-dest : goal.returns-clause-dest
returns-clause-dest c =
    subst (λ (state : State). IfSome c.remove_lowest.result (λ notice. notice.0 < destinations_of state.plant)) c.self.view_is
    (next-below (state_of c.self.inside.plant c.self.inside.crosspoints c.self.inside.protects c.self.inside.groups c.self.inside.notices c.self.inside.shown) c.args.panel c.remove_lowest.result c.self.invariant.valid c.remove_lowest.ensures.next)
