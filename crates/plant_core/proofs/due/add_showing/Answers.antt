use Rattle.std.proofs.Common.{◌≡◌, ◌<◌, ◌==◌, Some, length, get_or, subst, sym, ap, ◌∙◌, arith}
use Rattle.std.proofs.lemmas.Bool.{both_ways}
use Rattle.std.proofs.lemmas.Option.{slice_get-get_or}
use Rattle.std.specs.Option.{option_and_then}
use Rattle.plant_config.specs.declared.records.Display.{Display}
use Rattle.tap_lists.specs.Lists.{IsUnder}
use Rattle.due_displays.specs.Changed.{BecomeDue}
use Rattle.due_displays.specs.Watchers.{watch_of}
use Rattle.plant_core.proofs.DueLemmas.{stay_self, stay_then, stay_added, added_due, showing_more}
use Rattle.plant_core.proofs.due.add_showing.Goals.{then-carries, else-carries}
use Rattle.plant_core.proofs.due.add_showing.Goals as goal

pub loop-number-preserved : goal.loop-number-preserved
loop-number-preserved c =
    let plant = c.args.plant.now in
    let displays = plant.displays in
    let number = c.loop-number.number in
    let all = c.displays.ensures.displays in
    let d : Display = c.index-displays-number.result in
    let within : number < length displays = omega (arith, c.loop-number-test.true, ap length c.displays-number-end.ensures.displays) in
    let at : d ≡ get_or displays number d = c.index-displays-number.is ∙ ap (λ list. get_or list number d) all in
    let here : watch_of displays number ≡ Some d.watch = ap (option_and_then (λ (d : Display). Some d.watch)) (slice_get-get_or displays number d within ∙ ap Some (sym at)) in
    elim c.if-carries.branch [
      | then-carries w ↦
          let become : BecomeDue plant c.loop-number.due w.add.new.self (λ other. other == number) = subst (λ n. BecomeDue plant c.loop-number.due w.add.new.self (λ other. other == n)) w.of.ensures w.add.ensures in
          let still = stay_added plant c.loop-number.due w.add.new.self number become in
          rw w.due-is (record {
            due = stay_then plant c.args.due.now c.loop-number.due w.add.new.self c.loop-number.invariant.due still;
            shown = showing_more plant c.loop-number.due w.add.new.self c.args.points.now.taps c.args.origin number d.watch here within still (λ under. added_due plant c.loop-number.due w.add.new.self number within become) c.loop-number.invariant.shown;
          })
      | else-carries w ↦
          rw w.due-is (record {
            due = c.loop-number.invariant.due;
            shown = showing_more plant c.loop-number.due c.loop-number.due c.args.points.now.taps c.args.origin number d.watch here within (stay_self plant c.loop-number.due c.loop-number.invariant.due.tables) (λ under. absurd (both_ways c.carries.result w.if-carries.false (c.carries.ensures.1 (subst (λ (d : Display). IsUnder c.args.points.now.taps c.args.origin d.watch) c.index-displays-number.is under)))) c.loop-number.invariant.shown;
          })
    ]
