use Rattle.std.proofs.Common.{List, sym, ap, subst, ◌∙◌}
use Rattle.plant_config.specs.declared.records.Change.{Change}
use Rattle.due_displays.specs.Due.{Due, AreDueOf}
use Rattle.plant_core.specs.declared.tables.Tables.{Tables}
use Rattle.plant_core.specs.StateInside.{state_of}
use Rattle.plant_core.specs.DueInside.{HaveTurned, FollowValues}
use Rattle.plant_core.proofs.StepValidity.{IsValid-taken_whole}
use Rattle.plant_core.proofs.ShortLemmas.{StaysShort-taken_whole}
use Rattle.plant_core.proofs.TurnLemmas.{kept_followed}
use Rattle.plant_core.proofs.state.PlantState.take_whole.Goals as goal

pub invariant_of-self : goal.invariant_of-self
invariant_of-self c =
    let enough = rw (← c.self.view_is) at c.requires.enough in
    let turned : HaveTurned c.self.inside.plant c.self.inside.crosspoints.entries c.make_group.new.points.entries c.as_slice-moved.result.now c.deref.result.now.tallies =
    subst (λ (moved : List Change). HaveTurned c.self.inside.plant c.self.inside.crosspoints.entries c.make_group.new.points.entries moved c.deref.result.now.tallies)
    (sym (c.as_slice-moved.ensures ∙ ap (λ (tables : Tables). tables.moved) c.deref-2.ensures))
    (subst (λ (tables : Tables). HaveTurned c.self.inside.plant c.self.inside.crosspoints.entries c.make_group.new.points.entries c.make_group.new.self.moved tables.tallies) (sym c.deref.ensures) c.make_group.ensures.turned) in
    let follow : FollowValues c.self.inside.plant c.self.inside.crosspoints.entries c.make_group.new.points.entries c.self.inside.due.value c.follow_changes.new.due =
    subst (λ (due : Due). FollowValues c.self.inside.plant c.self.inside.crosspoints.entries c.make_group.new.points.entries due c.follow_changes.new.due) c.deref_mut-2.ensures.value (c.follow_changes.ensures c.self.inside.crosspoints.entries turned) in
    record {
      valid =
          rw (c.clear.ensures, c.make_group.ensures.made, c.notify_moved.ensures, c.entries-entries.ensures.entries)
          (IsValid-taken_whole (state_of c.self.inside.plant c.self.inside.crosspoints c.self.inside.protects c.self.inside.groups c.self.inside.notices c.self.inside.shown) c.args.salvo c.self.invariant.valid enough);
      short = rw (c.clear.ensures, c.make_group.ensures.made, c.notify_moved.ensures, c.entries-entries.ensures.entries) (StaysShort-taken_whole (state_of c.self.inside.plant c.self.inside.crosspoints c.self.inside.protects c.self.inside.groups c.self.inside.notices c.self.inside.shown) c.args.salvo c.self.invariant.short);
      room = record { crosspoints = c.make_group.ensures.kept; protects = c.self.invariant.room.protects };
      beside = c.make_group.ensures.tables;
      due = kept_followed c.self.inside.plant c.self.inside.crosspoints.entries c.make_group.new.points.entries c.self.inside.shown c.self.inside.due.value c.follow_changes.new.due follow c.self.invariant.due;
    }

pub make_group-requires : goal.make_group-requires
make_group-requires c =
    let enough = rw (← c.self.view_is) at c.requires.enough in
    record {
      plant = c.self.invariant.valid.is_plant;
      kept = c.self.invariant.room.crosspoints;
      points = c.self.invariant.valid.is_crosspoint;
      ties = c.self.invariant.valid.ties;
      tables = rw c.deref_mut.ensures.value c.self.invariant.beside;
      changes = rw c.entries-entries.ensures.entries (c.self.invariant.valid.changes c.args.salvo);
      group = c.entries-entries.ensures.group;
      enough = rw c.entries-entries.ensures.entries enough;
    }

pub follow_changes-requires : goal.follow_changes-requires
follow_changes-requires c = record {
  due = subst (AreDueOf c.self.inside.plant) (sym c.deref_mut-2.ensures.value) c.self.invariant.due.tables;
  tapped = c.make_group.ensures.kept.tapped;
}
