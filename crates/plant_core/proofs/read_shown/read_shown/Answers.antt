use Rattle.std.proofs.Common.{ℕ, ◌+◌, ◌<◌, length, ap, sym, subst, ◌∙◌, arith}
use Rattle.change_boards.specs.Shown.{Shown, with_shown}
use Rattle.plant_core.proofs.ShownPartLemmas.{AreShownTo, shown_none, value_more, nothing_more, shown_whole, nothing_unless}
use Rattle.plant_core.proofs.read_shown.read_shown.Goals as goal
use Rattle.plant_core.proofs.read_shown.read_shown.Goals.{in-Some, in_default}

pub loop-number-init : goal.loop-number-init
loop-number-init c = shown_none c.args.plant.now c.args.bytes.now _ c.in_ok-shown.ensures

pub loop-number-preserved : goal.loop-number-preserved
loop-number-preserved c =
    let plant = c.args.plant.now in
    let bytes = c.args.bytes.now in
    let number : ℕ = c.loop-number.number in
    let shown : Shown = c.loop-number.shown in
    let below : number < length plant.displays = omega (arith, ap length c.displays-number-end.ensures.displays) in
    elim c.match-value_in.branch [
      | in-Some w ↦
          let same = w.shown-is ∙ w.show.ensures ∙ ap (λ (display : ℕ). with_shown shown display w.in-Some.value) w.of.ensures in
          subst (λ (new : Shown). AreShownTo plant bytes new (number + 1)) (sym same) (value_more plant bytes shown number w.in-Some.value below c.loop-number.invariant w.in-Some.ensures)
      | in_default w ↦ subst (λ (new : Shown). AreShownTo plant bytes new (number + 1)) (sym w.shown-is) (nothing_more plant bytes shown number c.loop-number.invariant (nothing_unless _ _ w.in_default.not-Some c.value_in.ensures))
    ]

pub returns : goal.returns
returns c =
    shown_whole c.args.plant.now c.args.bytes.now c.loop-number.shown c.loop-number.number c.requires.plant c.requires.whole c.requires.size (λ place. omega (arith, c.type_inv.bytes place))
    (omega (arith, ap length c.displays-number-end.ensures.displays)) c.loop-number.invariant
