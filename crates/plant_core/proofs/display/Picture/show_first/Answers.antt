use Rattle.std.proofs.Common.{◌≡◌, ℕ, ◌<◌, nat_eq, refl, Some, [], ◌++◌, ◌-◌, append-nil, length, slice_get, sym, ap, subst, ◌∙◌, arith}
use Rattle.std.specs.List.{IsDistinct}
use Rattle.std.proofs.lemmas.Option.{slice_get-get_or, get_or_from_slice_get, slice_get_within}
use Rattle.change_boards.specs.declared.value.Value.{Value}
use Rattle.change_boards.specs.Screens.{displays_of}
use Rattle.due_displays.specs.Changed.{IsFirstDue}
use Rattle.plant_core.specs.Displays.{value_in, differing_of, shown_all, lamps_of}
use Rattle.plant_core.proofs.DisplayLemmas.{length-one}
use Rattle.plant_core.proofs.ScreenLemmas.{displays-below, displays-once}
use Rattle.plant_core.proofs.DuePolls.{not_due, looked, looked_due, passed_one, all_skipped, none_left}
use Rattle.plant_core.proofs.display.Picture.show_first.Goals as goal

pub loop-turn-preserved : goal.loop-turn-preserved
loop-turn-preserved c =
    let plant = c.args.self.now.plant.now in
    let values : ℕ → Value = value_in plant c.args.self.now.points.now.entries in
    let kept = c.loop-turn.invariant.due in
    let d : ℕ = c.index-displays-position.result in
    let first : IsFirstDue plant c.loop-turn.due c.args.screen (Some c.in-Some.position) = c.in-Some.ensures plant kept.tables in
    let within : c.in-Some.position < length c.args.displays.now = omega (arith, first.within c.in-Some.position refl, ap length c.requires.displays) in
    let at : slice_get c.args.displays.now c.in-Some.position ≡ Some d = slice_get-get_or c.args.displays.now c.in-Some.position d within ∙ ap Some (sym c.index-displays-position.is) in
    let there : slice_get (displays_of plant c.args.screen) c.in-Some.position ≡ Some d = ap (λ list. slice_get list c.in-Some.position) (sym c.requires.displays) ∙ at in
    let inside : (k e : ℕ) → slice_get (displays_of plant c.args.screen) k ≡ Some e → e < length plant.displays =
    λ k e here. subst (λ n. n < length plant.displays) (get_or_from_slice_get (displays_of plant c.args.screen) k e e here) (displays-below plant c.args.screen k e (slice_get_within (displays_of plant c.args.screen) k e here)) in
    let below : d < length c.loop-turn.shown = omega (arith, inside c.in-Some.position d there, c.loop-turn.invariant.count, c.requires.count) in
    let few : length c.loop-turn.out.items < 64 = omega (arith, ap length c.items.ensures, c.if-items-eq-LAMP_LIMIT.false, c.loop-turn.invariant.few) in
    let once : IsDistinct nat_eq c.args.displays.now = subst (IsDistinct nat_eq) (sym c.requires.displays) (displays-once plant c.args.screen) in
    let leads =
    looked values c.loop-turn.shown c.show.new.shown c.loop-turn.out.items c.show.new.out.items c.args.displays.now c.in-Some.position d once at below few c.show.ensures.shown c.show.ensures.answers
    (λ k e less here.
    let on : slice_get (displays_of plant c.args.screen) k ≡ Some e = ap (λ list. slice_get list k) (sym c.requires.displays) ∙ here in
    not_due plant values c.loop-turn.shown c.loop-turn.due kept.differing e (inside k e on) (first.passed c.in-Some.position k refl less e on)) in
    record {
      lit = leads.lit ∙ c.loop-turn.invariant.lit;
      told = leads.told ∙ c.loop-turn.invariant.told;
      few = leads.few;
      count = length-one c.loop-turn.shown c.show.new.shown d (values d) c.show.ensures.shown ∙ c.loop-turn.invariant.count;
      places = c.show.ensures.places ∙ c.loop-turn.invariant.places;
      due = looked_due plant c.args.self.now.points.now.entries c.loop-turn.shown c.show.new.shown c.loop-turn.due c.remove.new.self d below c.show.ensures.shown kept c.remove.ensures;
      passed = passed_one plant c.loop-turn.due c.remove.new.self c.args.screen c.loop-turn._turn c.in-Some.position d inside first there c.remove.ensures c.loop-turn.invariant.passed;
    }

pub returns-in_default-clause-shown : goal.returns-in_default-clause-shown
returns-in_default-clause-shown c =
    let plant = c.args.self.now.plant.now in
    let values : ℕ → Value = value_in plant c.args.self.now.points.now.entries in
    let kept = c.loop-turn.invariant.due in
    let none : differing_of values c.loop-turn.shown c.args.displays.now ≡ [] = all_skipped values c.loop-turn.shown c.args.displays.now (λ k e here.
    let on : slice_get (displays_of plant c.args.screen) k ≡ Some e = ap (λ list. slice_get list k) (sym c.requires.displays) ∙ here in
    let below : e < length plant.displays = subst (λ n. n < length plant.displays) (get_or_from_slice_get (displays_of plant c.args.screen) k e e on) (displays-below plant c.args.screen k e (slice_get_within (displays_of plant c.args.screen) k e on)) in
    not_due plant values c.loop-turn.shown c.loop-turn.due kept.differing e below ((c.in_default.ensures plant kept.tables).none k refl e on)) in
    ap (λ list. shown_all values list c.loop-turn.shown) (sym (none_left values c.loop-turn.shown c.args.displays.now (64 - length c.loop-turn.out.items) none)) ∙ c.loop-turn.invariant.lit

pub returns-in_default-clause-answers : goal.returns-in_default-clause-answers
returns-in_default-clause-answers c =
    let plant = c.args.self.now.plant.now in
    let values : ℕ → Value = value_in plant c.args.self.now.points.now.entries in
    let kept = c.loop-turn.invariant.due in
    let none : differing_of values c.loop-turn.shown c.args.displays.now ≡ [] = all_skipped values c.loop-turn.shown c.args.displays.now (λ k e here.
    let on : slice_get (displays_of plant c.args.screen) k ≡ Some e = ap (λ list. slice_get list k) (sym c.requires.displays) ∙ here in
    let below : e < length plant.displays = subst (λ n. n < length plant.displays) (get_or_from_slice_get (displays_of plant c.args.screen) k e e on) (displays-below plant c.args.screen k e (slice_get_within (displays_of plant c.args.screen) k e on)) in
    not_due plant values c.loop-turn.shown c.loop-turn.due kept.differing e below ((c.in_default.ensures plant kept.tables).none k refl e on)) in
    sym (append-nil c.loop-turn.out.items) ∙ ap (λ list. c.loop-turn.out.items ++ lamps_of values list) (sym (none_left values c.loop-turn.shown c.args.displays.now (64 - length c.loop-turn.out.items) none)) ∙ c.loop-turn.invariant.told

pub returns-clause-shown : goal.returns-clause-shown
returns-clause-shown c =
    let plant = c.args.self.now.plant.now in
    let values : ℕ → Value = value_in plant c.args.self.now.points.now.entries in
    let kept = c.loop-turn.invariant.due in
    let none : differing_of values c.loop-turn.shown c.args.displays.now ≡ [] = all_skipped values c.loop-turn.shown c.args.displays.now (λ k e here.
    let on : slice_get (displays_of plant c.args.screen) k ≡ Some e = ap (λ list. slice_get list k) (sym c.requires.displays) ∙ here in
    let below : e < length plant.displays = subst (λ n. n < length plant.displays) (get_or_from_slice_get (displays_of plant c.args.screen) k e e on) (displays-below plant c.args.screen k e (slice_get_within (displays_of plant c.args.screen) k e on)) in
    not_due plant values c.loop-turn.shown c.loop-turn.due kept.differing e below (c.loop-turn.invariant.passed k (omega (arith, slice_get_within c.args.displays.now k e here, c.loop-turn-test.false)) e on)) in
    ap (λ list. shown_all values list c.loop-turn.shown) (sym (none_left values c.loop-turn.shown c.args.displays.now (64 - length c.loop-turn.out.items) none)) ∙ c.loop-turn.invariant.lit

pub returns-clause-answers : goal.returns-clause-answers
returns-clause-answers c =
    let plant = c.args.self.now.plant.now in
    let values : ℕ → Value = value_in plant c.args.self.now.points.now.entries in
    let kept = c.loop-turn.invariant.due in
    let none : differing_of values c.loop-turn.shown c.args.displays.now ≡ [] = all_skipped values c.loop-turn.shown c.args.displays.now (λ k e here.
    let on : slice_get (displays_of plant c.args.screen) k ≡ Some e = ap (λ list. slice_get list k) (sym c.requires.displays) ∙ here in
    let below : e < length plant.displays = subst (λ n. n < length plant.displays) (get_or_from_slice_get (displays_of plant c.args.screen) k e e on) (displays-below plant c.args.screen k e (slice_get_within (displays_of plant c.args.screen) k e on)) in
    not_due plant values c.loop-turn.shown c.loop-turn.due kept.differing e below (c.loop-turn.invariant.passed k (omega (arith, slice_get_within c.args.displays.now k e here, c.loop-turn-test.false)) e on)) in
    sym (append-nil c.loop-turn.out.items) ∙ ap (λ list. c.loop-turn.out.items ++ lamps_of values list) (sym (none_left values c.loop-turn.shown c.args.displays.now (64 - length c.loop-turn.out.items) none)) ∙ c.loop-turn.invariant.told

pub show-requires-clause-below : goal.show-requires-clause-below
show-requires-clause-below c =
    let plant = c.args.self.now.plant.now in
    let first : IsFirstDue plant c.loop-turn.due c.args.screen (Some c.in-Some.position) = c.in-Some.ensures plant c.loop-turn.invariant.due.tables in
    let within : c.in-Some.position < length c.args.displays.now = omega (arith, first.within c.in-Some.position refl, ap length c.requires.displays) in
    let at : slice_get (displays_of plant c.args.screen) c.in-Some.position ≡ Some c.index-displays-position.result =
    ap (λ list. slice_get list c.in-Some.position) (sym c.requires.displays) ∙ slice_get-get_or c.args.displays.now c.in-Some.position c.index-displays-position.result within ∙ ap Some (sym c.index-displays-position.is) in
    subst (λ n. n < length plant.displays) (get_or_from_slice_get (displays_of plant c.args.screen) c.in-Some.position c.index-displays-position.result c.index-displays-position.result at)
    (displays-below plant c.args.screen c.in-Some.position c.index-displays-position.result (slice_get_within (displays_of plant c.args.screen) c.in-Some.position c.index-displays-position.result at))

pub remove-requires-clause-display : goal.remove-requires-clause-display
remove-requires-clause-display c =
    let plant = c.args.self.now.plant.now in
    let first : IsFirstDue plant c.loop-turn.due c.args.screen (Some c.in-Some.position) = c.in-Some.ensures plant c.loop-turn.invariant.due.tables in
    let within : c.in-Some.position < length c.args.displays.now = omega (arith, first.within c.in-Some.position refl, ap length c.requires.displays) in
    let at : slice_get (displays_of plant c.args.screen) c.in-Some.position ≡ Some c.index-displays-position.result =
    ap (λ list. slice_get list c.in-Some.position) (sym c.requires.displays) ∙ slice_get-get_or c.args.displays.now c.in-Some.position c.index-displays-position.result within ∙ ap Some (sym c.index-displays-position.is) in
    subst (λ n. n < length plant.displays) (get_or_from_slice_get (displays_of plant c.args.screen) c.in-Some.position c.index-displays-position.result c.index-displays-position.result at)
    (displays-below plant c.args.screen c.in-Some.position c.index-displays-position.result (slice_get_within (displays_of plant c.args.screen) c.in-Some.position c.index-displays-position.result at))
