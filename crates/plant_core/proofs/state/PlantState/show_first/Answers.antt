use Rattle.std.proofs.Common.{◌≡◌, ℕ, sym, ap, subst, ◌∙◌}
use Rattle.change_boards.specs.Screens.{displays_of, displays_at}
use Rattle.change_boards.specs.Shown.{Shown}
use Rattle.change_boards.specs.declared.value.Value.{Value}
use Rattle.plant_core.specs.declared.tables.Tables.{Tables}
use Rattle.plant_core.specs.State.{State, AreShown}
use Rattle.plant_core.specs.StateInside.{state_of}
use Rattle.plant_core.specs.DueInside.{AreKeptDue}
use Rattle.plant_core.specs.Displays.{value_in, shown_all, lamps_of}
use Rattle.plant_core.specs.DisplaysInside.{first_differing, lit_first}
use Rattle.plant_core.proofs.Validity.{IsValid-shown}
use Rattle.plant_core.proofs.DisplayLemmas.{carried}
use Rattle.plant_core.proofs.ShownValidity.{AreShown-shown_all}
use Rattle.plant_core.proofs.state.PlantState.show_first.Goals as goal

pub show_first-requires-clause-carried : goal.show_first-requires-clause-carried
show_first-requires-clause-carried c = carried c.self.inside.plant c.self.inside.crosspoints.entries c.self.invariant.valid.is_plant c.self.invariant.valid.is_crosspoint

pub show_first-requires-clause-displays : goal.show_first-requires-clause-displays
show_first-requires-clause-displays c =
    c.displays-displays.ensures ∙ ap (λ (tables : Tables). displays_at tables.screens c.args.screen) c.deref-2.ensures ∙ c.self.invariant.beside.screened c.args.screen

pub show_first-requires-clause-due : goal.show_first-requires-clause-due
show_first-requires-clause-due c = subst (AreKeptDue c.self.inside.plant c.self.inside.crosspoints.entries c.self.inside.shown) (sym c.deref_mut.ensures.value) c.self.invariant.due

pub invariant_of-self : goal.invariant_of-self
invariant_of-self c =
    let values : ℕ → Value = value_in c.self.inside.plant c.self.inside.crosspoints.entries in
    record {
      valid =
          IsValid-shown (state_of c.self.inside.plant c.self.inside.crosspoints c.self.inside.protects c.self.inside.groups c.self.inside.notices c.self.inside.shown) c.show_first.new.shown c.self.invariant.valid
          (subst (AreShown c.self.inside.plant) (sym c.show_first.ensures.shown)
          (AreShown-shown_all (first_differing values c.self.inside.shown c.displays-displays.result.now) c.self.inside.plant c.self.inside.crosspoints.entries c.self.inside.shown c.self.invariant.valid.is_crosspoint c.self.invariant.valid.shown));
      short = record { owners = c.self.invariant.short.owners; notices = c.self.invariant.short.notices; changes = c.self.invariant.short.changes };
      room = c.self.invariant.room;
      beside = c.self.invariant.beside;
      due = c.show_first.ensures.due;
    }

pub returns-clause-state : goal.returns-clause-state
returns-clause-state c =
    let before : State = state_of c.self.inside.plant c.self.inside.crosspoints c.self.inside.protects c.self.inside.groups c.self.inside.notices c.self.inside.shown in
    let values : ℕ → Value = value_in c.self.inside.plant c.self.inside.crosspoints.entries in
    let are : c.displays-displays.result.now ≡ displays_of c.self.inside.plant c.args.screen =
    c.displays-displays.ensures ∙ ap (λ (tables : Tables). displays_at tables.screens c.args.screen) c.deref-2.ensures ∙ c.self.invariant.beside.screened c.args.screen in
    ap (λ (shown : Shown). record before { shown = shown })
    (c.show_first.ensures.shown
    ∙ ap (λ displays. shown_all values (first_differing values c.self.inside.shown displays) c.self.inside.shown) are)
    ∙ ap (λ (state : State). (lit_first state c.args.screen).state) c.self.view_is

pub returns-clause-answers : goal.returns-clause-answers
returns-clause-answers c =
    let values : ℕ → Value = value_in c.self.inside.plant c.self.inside.crosspoints.entries in
    let are : c.displays-displays.result.now ≡ displays_of c.self.inside.plant c.args.screen =
    c.displays-displays.ensures ∙ ap (λ (tables : Tables). displays_at tables.screens c.args.screen) c.deref-2.ensures ∙ c.self.invariant.beside.screened c.args.screen in
    c.show_first.ensures.answers
    ∙ ap (λ displays. lamps_of values (first_differing values c.self.inside.shown displays)) are
    ∙ ap (λ (state : State). (lit_first state c.args.screen).answers) c.self.view_is
