use Rattle.std.proofs.Common.{◌≡◌, ◌<◌, ℕ, length, All, sym, ap, subst, ◌∙◌}
use Rattle.change_boards.specs.Screens.{displays_of, displays_at}
use Rattle.change_boards.specs.ShownLaws.{is_in_list}
use Rattle.due_displays.specs.Due.{Due, AreDueOf}
use Rattle.due_displays.specs.Changed.{BecomeDue}
use Rattle.plant_core.specs.declared.tables.Tables.{Tables}
use Rattle.plant_core.specs.StateInside.{state_of}
use Rattle.plant_core.specs.State.{AreShown}
use Rattle.plant_core.proofs.ShownValidity.{AreShown-forgotten}
use Rattle.plant_core.proofs.Validity.{IsValid-shown}
use Rattle.plant_core.proofs.ScreenLemmas.{displays-below}
use Rattle.plant_core.proofs.DuePolls.{kept_forgotten}
use Rattle.plant_core.proofs.state.PlantState.refresh.Goals as goal

pub forget-requires : goal.forget-requires
forget-requires c =
    let are : c.displays-displays.result.now ≡ displays_of c.self.inside.plant c.args.screen =
    c.displays-displays.ensures ∙ ap (λ (tables : Tables). displays_at tables.screens c.args.screen) c.deref.ensures ∙ c.self.invariant.beside.screened c.args.screen in
    subst (λ (n : ℕ). All (λ display. display < n) c.displays-displays.result.now) (sym c.self.invariant.valid.shown.count)
    (subst (All (λ display. display < length c.self.inside.plant.displays)) (sym are) (displays-below c.self.inside.plant c.args.screen))

pub invariant_of-self : goal.invariant_of-self
invariant_of-self c = record {
  valid =
      IsValid-shown (state_of c.self.inside.plant c.self.inside.crosspoints c.self.inside.protects c.self.inside.groups c.self.inside.notices c.self.inside.shown) c.forget.new.self c.self.invariant.valid
      (subst (AreShown c.self.inside.plant) (sym c.forget.ensures) (AreShown-forgotten c.displays-displays.result.now c.self.inside.plant c.self.inside.shown c.self.invariant.valid.shown));
  short = record { owners = c.self.invariant.short.owners; notices = c.self.invariant.short.notices; changes = c.self.invariant.short.changes };
  room = c.self.invariant.room;
  beside = c.self.invariant.beside;
  due =
      rw c.forget.ensures
      (kept_forgotten c.self.inside.plant c.self.inside.crosspoints.entries c.self.inside.shown c.self.inside.due.value c.add_all.new.self c.displays-displays.result.now c.self.invariant.due
      (subst (λ (due : Due). BecomeDue c.self.inside.plant due c.add_all.new.self (is_in_list c.displays-displays.result.now)) c.deref_mut.ensures.value c.add_all.ensures));
}

pub add_all-requires : goal.add_all-requires
add_all-requires c =
    let are : c.displays-displays.result.now ≡ displays_of c.self.inside.plant c.args.screen =
    c.displays-displays.ensures ∙ ap (λ (tables : Tables). displays_at tables.screens c.args.screen) c.deref.ensures ∙ c.self.invariant.beside.screened c.args.screen in
    record {
      kept = subst (AreDueOf c.self.inside.plant) (sym c.deref_mut.ensures.value) c.self.invariant.due.tables;
      displays = subst (All (λ display. display < length c.self.inside.plant.displays)) (sym are) (displays-below c.self.inside.plant c.args.screen);
    }
