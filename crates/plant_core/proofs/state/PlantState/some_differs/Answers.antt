use Rattle.std.proofs.Common.{◌≡◌, ◌<◌, ℕ, true, false, length, sym, ap, subst, ◌∙◌, arith}
use Rattle.std.specs.List.{list_any, range_with_len}
use Rattle.plant_core.specs.State.{State}
use Rattle.plant_core.specs.StateInside.{state_of}
use Rattle.plant_core.specs.DueInside.{AreKeptDue}
use Rattle.plant_core.specs.Displays.{differs, value_in}
use Rattle.plant_core.proofs.DisplayLemmas.{none_more, some_at}
use Rattle.plant_core.proofs.DuePolls.{not_due, none_differs}
use Rattle.plant_core.proofs.state.PlantState.some_differs.Goals as goal

pub returns-then-differs : goal.returns-then-differs
returns-then-differs c =
    let here : differs c.args.self.now c.loop-number.number ≡ true = cc in
    let below : c.loop-number.number < length c.args.self.now.plant.displays =
    omega (arith, ap length c.displays.ensures.displays, ap (λ (state : State). length state.plant.displays) c.self.view_is) in
    sym (some_at (differs c.args.self.now) c.loop-number.number (length c.args.self.now.plant.displays) below here)

pub loop-number-preserved : goal.loop-number-preserved
loop-number-preserved c =
    let here : differs c.args.self.now c.loop-number.number ≡ false = cc in
    none_more (differs c.args.self.now) c.loop-number.number c.loop-number.invariant here

pub returns-then-is_empty : goal.returns-then-is_empty
returns-then-is_empty c =
    let before : State = state_of c.self.inside.plant c.self.inside.crosspoints c.self.inside.protects c.self.inside.groups c.self.inside.notices c.self.inside.shown in
    let kept : AreKeptDue c.self.inside.plant c.self.inside.crosspoints.entries c.self.inside.shown c.deref.result.now = subst (AreKeptDue c.self.inside.plant c.self.inside.crosspoints.entries c.self.inside.shown) (sym c.deref.ensures) c.self.invariant.due in
    let none : (n : ℕ) → n < length before.plant.displays → differs before n ≡ false =
    λ n below. not_due before.plant (value_in before.plant before.crosspoints) before.shown c.deref.result.now kept.differing n below ((c.is_empty.ensures before.plant kept.tables).0 c.if-is_empty.true n below) in
    sym (none_differs (differs before) (length before.plant.displays) none)
    ∙ ap (λ (state : State). list_any (differs state) (range_with_len 0 (length state.plant.displays))) c.self.view_is
