use Rattle.std.proofs.Common.{[], sym, subst}
use Rattle.std.proofs.lemmas.List.Elements.{All-nil, All-push}
use Rattle.due_displays.specs.Due.{Due, AreDueOf}
use Rattle.plant_core.specs.declared.tables.Tables.{Tables}
use Rattle.plant_core.specs.State.{IsChangeOf}
use Rattle.plant_core.specs.StateInside.{state_of}
use Rattle.plant_core.specs.DueInside.{HaveTurned, FollowValues}
use Rattle.plant_core.proofs.Changes.{once-one, busy-one}
use Rattle.plant_core.proofs.StepValidity.{IsValid-one}
use Rattle.plant_core.proofs.TurnLemmas.{kept_followed}
use Rattle.plant_core.proofs.state.PlantState.apply.Goals as goal

pub invariant_of-self : goal.invariant_of-self
invariant_of-self c =
    let is = rw (← c.self.view_is) at c.requires.change in
    let enough = rw (← c.self.view_is) at c.requires.enough in
    let turned : HaveTurned c.self.inside.plant c.self.inside.crosspoints.entries c.make.new.points.entries c.from_ref-changes.result.now c.deref.result.now.tallies =
    subst (λ (tables : Tables). HaveTurned c.self.inside.plant c.self.inside.crosspoints.entries c.make.new.points.entries c.from_ref-changes.result.now tables.tallies) (sym c.deref.ensures) c.make.ensures.turned in
    let follow : FollowValues c.self.inside.plant c.self.inside.crosspoints.entries c.make.new.points.entries c.self.inside.due.value c.follow_changes.new.due =
    subst (λ (due : Due). FollowValues c.self.inside.plant c.self.inside.crosspoints.entries c.make.new.points.entries due c.follow_changes.new.due) c.deref_mut-2.ensures.value (c.follow_changes.ensures c.self.inside.crosspoints.entries turned) in
    record {
      valid = rw (c.make.ensures.made, c.from_ref-changes.ensures.value) (IsValid-one (state_of c.self.inside.plant c.self.inside.crosspoints c.self.inside.protects c.self.inside.groups c.self.inside.notices c.self.inside.shown) c.args.change.now c.self.invariant.valid is enough);
      short = record { owners = c.self.invariant.short.owners; notices = c.self.invariant.short.notices; changes = c.self.invariant.short.changes };
      room = record { crosspoints = c.make.ensures.kept; protects = c.self.invariant.room.protects };
      beside = c.make.ensures.tables;
      due = kept_followed c.self.inside.plant c.self.inside.crosspoints.entries c.make.new.points.entries c.self.inside.shown c.self.inside.due.value c.follow_changes.new.due follow c.self.invariant.due;
    }

pub make-requires : goal.make-requires
make-requires c =
    let is = rw (← c.self.view_is) at c.requires.change in
    let busy = rw (← c.self.view_is) at c.requires.busy in
    let enough = rw (← c.self.view_is) at c.requires.enough in
    record {
      plant = c.self.invariant.valid.is_plant;
      kept = c.self.invariant.room.crosspoints;
      points = c.self.invariant.valid.is_crosspoint;
      ties = c.self.invariant.valid.ties;
      tables = rw c.deref_mut.ensures.value c.self.invariant.beside;
      changes = rw c.from_ref-changes.ensures.value (All-push (IsChangeOf c.self.inside.plant) [] c.args.change.now (All-nil (IsChangeOf c.self.inside.plant)) is);
      busy = rw c.from_ref-changes.ensures.value (busy-one c.self.inside.crosspoints.entries c.args.change.now busy);
      once = rw c.from_ref-changes.ensures.value (once-one c.args.change.now);
      enough = rw c.from_ref-changes.ensures.value enough;
    }

pub follow_changes-requires : goal.follow_changes-requires
follow_changes-requires c = record {
  due = subst (AreDueOf c.self.inside.plant) (sym c.deref_mut-2.ensures.value) c.self.invariant.due.tables;
  tapped = c.make.ensures.kept.tapped;
}
