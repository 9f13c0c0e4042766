use Rattle.std.proofs.Common.{◌≡◌, ℕ, ◌<◌, Some, None, refl, sym, ap, ◌∙◌, arith}
use Rattle.std.proofs.lemmas.List.{length-map}
use Rattle.std.specs.Option.{option_and_then}
use Rattle.tap_lists.specs.Lists.{without, IsUnder}
use Rattle.tap_lists.proofs.LawLemmas.{UnlinksRemove-all}
use Rattle.plant_config.specs.Plant.{PlantData}
use Rattle.plant_config.specs.IsPlant.{IsPlant}
use Rattle.mixer_effects.specs.Buses.{fed_device}
use Rattle.tally.proofs.DeviceLemmas.{fed_within}
use Rattle.tally.proofs.LitLemmas.{under_below, lit_under}
use Rattle.tally.proofs.ChangeLemmas.{none_carried, head_is_carried, taken_parked, taken_lit, left_none, left_lit, left_dark}
use Rattle.tally.proofs.marks.Marks.take.Goals as goal

pub returns-in_err-origin-clause-marks : goal.returns-in_err-origin-clause-marks
returns-in_err-origin-clause-marks g c = λ points are.
    let marks = rw (← c.self.view_is) at are in
    rw c.remove.ensures (taken_parked c.args.graph.now.plant points c.requires.wired.is_plant _ marks c.args.dest c.self.inside.turned c.in_err-origin.ensures)

pub returns-in_err-origin-clause-device : goal.returns-in_err-origin-clause-device
returns-in_err-origin-clause-device g c = λ points are.
    let marks = rw (← c.self.view_is) at are in
    let marked = rw (← c.self.view_is) at c.requires.marked in
    c.from_residual.ensures
    ∙ sym (ap (option_and_then (fed_device c.args.graph.now.plant)) (none_carried c.args.graph.now.plant points c.requires.wired.is_plant _ marks c.args.dest marked c.in_err-origin.ensures))

pub take_lit-is_lit-requires-clause-under : goal.take_lit-is_lit-requires-clause-under
take_lit-is_lit-requires-clause-under g c = (c.in_ok-origin.ensures c.in_ok-origin.origin).0 refl

pub take_lit-is_lit-requires-clause-limit : goal.take_lit-is_lit-requires-clause-limit
take_lit-is_lit-requires-clause-limit g c =
    let marks = rw (← c.self.view_is) at c.requires.marks.1 in
    let under : IsUnder c.self.inside.lit c.in_ok-origin.origin c.args.dest = (c.in_ok-origin.ensures c.in_ok-origin.origin).0 refl in
    let below = under_below c.self.inside.lit c.in_ok-origin.origin c.args.dest under in
    omega (arith, below, marks.heads, c.requires.wired.is_plant.sources)

pub returns-in_err-device-clause-marks : goal.returns-in_err-device-clause-marks
returns-in_err-device-clause-marks g c = λ points are.
    let marks = rw (← c.self.view_is) at are in
    let plant = c.args.graph.now.plant in
    let origin = c.in_ok-origin.origin in
    let none : None ≡ fed_device plant origin = c.in_err-device.ensures.device plant c.requires.wired ∙ ap (fed_device plant) c.of.ensures in
    let others = rw c.take_lit-is_lit.ensures.lit at c.take_lit-is_lit.ensures.others in
    rw (c.remove.ensures, c.take_lit-is_lit.ensures.lit)
    (taken_lit plant points c.requires.wired.is_plant _ marks c.args.dest _ c.self.inside.fed c.take_lit-is_lit.new.turned
    (UnlinksRemove-all c.self.inside.lit c.args.dest) (length-map c.self.inside.lit.by_head (without c.args.dest)) refl
    (left_none plant points c.requires.wired.is_plant _ marks _ origin others (sym none)))

pub returns-in_err-device-clause-device : goal.returns-in_err-device-clause-device
returns-in_err-device-clause-device g c = λ points are.
    let marks = rw (← c.self.view_is) at are in
    let plant = c.args.graph.now.plant in
    let under : IsUnder c.self.inside.lit c.in_ok-origin.origin c.args.dest = (c.in_ok-origin.ensures c.in_ok-origin.origin).0 refl in
    let none : None ≡ fed_device plant c.in_ok-origin.origin = c.in_err-device.ensures.device plant c.requires.wired ∙ ap (fed_device plant) c.of.ensures in
    c.from_residual-in_err-device.ensures ∙ none
    ∙ sym (ap (option_and_then (fed_device plant)) (head_is_carried plant points c.requires.wired.is_plant _ marks c.args.dest c.in_ok-origin.origin under))

pub returns-then-is_lit-clause-marks : goal.returns-then-is_lit-clause-marks
returns-then-is_lit-clause-marks g c = λ points are.
    let marks = rw (← c.self.view_is) at are in
    let plant = c.args.graph.now.plant in
    let origin = c.in_ok-origin.origin in
    let under : IsUnder c.self.inside.lit origin c.args.dest = (c.in_ok-origin.ensures origin).0 refl in
    let others = rw c.take_lit-is_lit.ensures.lit at c.take_lit-is_lit.ensures.others in
    let still = rw c.take_lit-is_lit.ensures.lit at (sym c.take_lit-is_lit.ensures.is ∙ c.if-is_lit.true) in
    rw (c.remove.ensures, c.take_lit-is_lit.ensures.lit)
    (taken_lit plant points c.requires.wired.is_plant _ marks c.args.dest _ c.self.inside.fed c.take_lit-is_lit.new.turned
    (UnlinksRemove-all c.self.inside.lit c.args.dest) (length-map c.self.inside.lit.by_head (without c.args.dest)) refl
    (left_lit plant points c.requires.wired.is_plant _ marks _ origin others (lit_under c.self.inside.lit origin c.args.dest under) still))

pub returns-then-is_lit-clause-device : goal.returns-then-is_lit-clause-device
returns-then-is_lit-clause-device g c = λ points are.
    let marks = rw (← c.self.view_is) at are in
    let plant = c.args.graph.now.plant in
    let under : IsUnder c.self.inside.lit c.in_ok-origin.origin c.args.dest = (c.in_ok-origin.ensures c.in_ok-origin.origin).0 refl in
    let found : Some c.in_ok-device.device ≡ fed_device plant c.in_ok-origin.origin = c.in_ok-device.ensures.device plant c.requires.wired ∙ ap (fed_device plant) c.of.ensures in
    found ∙ sym (ap (option_and_then (fed_device plant)) (head_is_carried plant points c.requires.wired.is_plant _ marks c.args.dest c.in_ok-origin.origin under))

pub remove-requires-2 : goal.remove-requires-2
remove-requires-2 g c =
    let found : Some c.in_ok-device.device ≡ fed_device c.args.graph.now.plant c.of.result = c.in_ok-device.ensures.device c.args.graph.now.plant c.requires.wired in
    let within = fed_within c.args.graph.now.plant c.of.result c.in_ok-device.device (sym found) in
    omega (arith, within, c.requires.wired.is_plant.linked.devices, c.get.ensures)

pub returns-clause-marks : goal.returns-clause-marks
returns-clause-marks g c = λ points are.
    let marks = rw (← c.self.view_is) at are in
    let plant = c.args.graph.now.plant in
    let origin = c.in_ok-origin.origin in
    let others = rw c.take_lit-is_lit.ensures.lit at c.take_lit-is_lit.ensures.others in
    let dark = rw c.take_lit-is_lit.ensures.lit at (sym c.take_lit-is_lit.ensures.is ∙ c.if-is_lit.false) in
    let found : Some c.in_ok-device.device ≡ fed_device plant origin = c.in_ok-device.ensures.device plant c.requires.wired ∙ ap (fed_device plant) c.of.ensures in
    let device : fed_device plant origin ≡ Some c.get.result = sym found ∙ ap Some (sym c.get.ensures) in
    rw (c.remove.ensures, c.take_lit-is_lit.ensures.lit, c.remove-2.ensures)
    (taken_lit plant points c.requires.wired.is_plant _ marks c.args.dest _ _ c.take_lit-is_lit.new.turned
    (UnlinksRemove-all c.self.inside.lit c.args.dest) (length-map c.self.inside.lit.by_head (without c.args.dest)) refl
    (left_dark plant points c.requires.wired.is_plant _ marks _ origin others c.get.result device dark))

pub returns-clause-device : goal.returns-clause-device
returns-clause-device g c = λ points are.
    let marks = rw (← c.self.view_is) at are in
    let plant = c.args.graph.now.plant in
    let under : IsUnder c.self.inside.lit c.in_ok-origin.origin c.args.dest = (c.in_ok-origin.ensures c.in_ok-origin.origin).0 refl in
    let found : Some c.in_ok-device.device ≡ fed_device plant c.in_ok-origin.origin = c.in_ok-device.ensures.device plant c.requires.wired ∙ ap (fed_device plant) c.of.ensures in
    found ∙ sym (ap (option_and_then (fed_device plant)) (head_is_carried plant points c.requires.wired.is_plant _ marks c.args.dest c.in_ok-origin.origin under))

-- the device that is found is one of few
device_below : (plant : PlantData) (device origin : ℕ) → IsPlant plant → Some device ≡ fed_device plant origin → device < 65536
device_below plant device origin is found =
    let within = fed_within plant origin device (sym found) in
    omega (arith, within, is.linked.devices)

pub returns-then-is_lit-clause-below : goal.returns-then-is_lit-clause-below
returns-then-is_lit-clause-below g c = device_below c.args.graph.now.plant c.in_ok-device.device c.of.result c.requires.wired.is_plant (c.in_ok-device.ensures.device c.args.graph.now.plant c.requires.wired)

pub returns-clause-below : goal.returns-clause-below
returns-clause-below g c = device_below c.args.graph.now.plant c.in_ok-device.device c.of.result c.requires.wired.is_plant (c.in_ok-device.ensures.device c.args.graph.now.plant c.requires.wired)
