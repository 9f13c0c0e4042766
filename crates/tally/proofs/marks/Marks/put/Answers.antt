use Rattle.std.proofs.Common.{◌≡◌, ℕ, ◌<◌, true, ◌∷◌, length, Some, None, refl, sym, ap, subst, ◌∙◌, arith, length-set}
use Rattle.std.proofs.lemmas.Bool.{both_ways}
use Rattle.std.specs.FinSet.{contains}
use Rattle.number_tables.proofs.Members.{contains_inserted}
use Rattle.tap_lists.specs.Lists.{list_of, IsHeadOf}
use Rattle.tap_lists.proofs.LawLemmas.{LinksInsertFirst-all}
use Rattle.plant_config.specs.Plant.{sources_of}
use Rattle.crosspoint_state.specs.Taps.{origin_at}
use Rattle.mixer_effects.specs.Buses.{fed_device}
use Rattle.tally.specs.Marks.{Marks, is_lit}
use Rattle.tally.proofs.DeviceLemmas.{fed_is, fed_within}
use Rattle.tally.proofs.ChangeLemmas.{head_carried, head_below, marked_parked, marked_lit, fed_lit, fed_none, fed_one, either_way}
use Rattle.tally.proofs.marks.Marks.put.Goals as goal

pub returns-in_err-origin-clause-marks : goal.returns-in_err-origin-clause-marks
returns-in_err-origin-clause-marks g c =
    let marks = rw (← c.self.view_is) at c.requires.marks in
    let parked : None ≡ origin_at c.args.graph.now.plant c.args.graph.now.crosspoints c.args.dest = head_carried c.args.graph.now.plant c.args.graph.now.crosspoints c.args.graph.now.taps c.args.graph.now.taps c.args.dest None c.requires.tapped refl (subst (λ (dest : ℕ). IsHeadOf c.args.graph.now.taps dest None) c.of.ensures c.in_err-origin.ensures.head) in
    rw c.insert.ensures (marked_parked c.args.graph.now.plant c.args.graph.now.crosspoints c.requires.wired.is_plant _ marks c.args.dest c.self.inside.turned c.requires.dest (sym parked))

pub put_lit-requires-clause-head : goal.put_lit-requires-clause-head
put_lit-requires-clause-head g c =
    let marks = rw (← c.self.view_is) at c.requires.marks in
    let below = head_below c.args.graph.now.plant c.args.graph.now.crosspoints c.args.graph.now.taps c.args.graph.now.taps c.args.dest c.in_ok-origin.origin c.requires.tapped refl (subst (λ (dest : ℕ). IsHeadOf c.args.graph.now.taps dest (Some c.in_ok-origin.origin)) c.of.ensures c.in_ok-origin.ensures.head) in
    omega (arith, c.get.ensures, below, marks.heads)

pub put_lit-requires-clause-limit : goal.put_lit-requires-clause-limit
put_lit-requires-clause-limit g c =
    let below = head_below c.args.graph.now.plant c.args.graph.now.crosspoints c.args.graph.now.taps c.args.graph.now.taps c.args.dest c.in_ok-origin.origin c.requires.tapped refl (subst (λ (dest : ℕ). IsHeadOf c.args.graph.now.taps dest (Some c.in_ok-origin.origin)) c.of.ensures c.in_ok-origin.ensures.head) in
    omega (arith, c.get.ensures, below, c.requires.wired.is_plant.sources)

pub put_lit-requires-clause-loose : goal.put_lit-requires-clause-loose
put_lit-requires-clause-loose g c head under =
    let marks = rw (← c.self.view_is) at c.requires.marks in
    let dark = rw (← c.self.view_is) at c.requires.dark in
    both_ways (contains c.self.inside.live c.args.dest) dark ((marks.lit head c.args.dest).0 under).0

pub returns-then-put_lit-clause-marks : goal.returns-then-put_lit-clause-marks
returns-then-put_lit-clause-marks g c =
    let marks = rw (← c.self.view_is) at c.requires.marks in
    let plant = c.args.graph.now.plant in
    let points = c.args.graph.now.crosspoints in
    let origin = c.get.result in
    let old = c.self.inside.lit in
    let stands : IsHeadOf c.args.graph.now.taps c.args.dest (Some origin) = rw (c.of.ensures, ← c.get.ensures) at c.in_ok-origin.ensures.head in
    let carried : Some origin ≡ origin_at plant points c.args.dest = head_carried plant points c.args.graph.now.taps c.args.graph.now.taps c.args.dest (Some origin) c.requires.tapped refl stands in
    let below : origin < sources_of plant = head_below plant points c.args.graph.now.taps c.args.graph.now.taps c.args.dest origin c.requires.tapped refl stands in
    let head : origin < length old.by_head = omega (arith, below, marks.heads) in
    let was : is_lit old origin ≡ true = sym c.put_lit.ensures.was ∙ c.if-put_lit.true in
    rw (c.insert.ensures, c.put_lit.ensures.lit)
    (marked_lit plant points c.requires.wired.is_plant _ marks c.args.dest origin _ c.self.inside.fed c.put_lit.new.turned c.requires.dest (sym carried)
    (LinksInsertFirst-all old origin c.args.dest head) (length-set old.by_head origin (c.args.dest ∷ list_of old origin)) refl
    (fed_lit plant points c.requires.wired.is_plant _ marks origin was))

pub returns-in_err-device-clause-marks : goal.returns-in_err-device-clause-marks
returns-in_err-device-clause-marks g c =
    let marks = rw (← c.self.view_is) at c.requires.marks in
    let plant = c.args.graph.now.plant in
    let points = c.args.graph.now.crosspoints in
    let origin = c.get.result in
    let old = c.self.inside.lit in
    let stands : IsHeadOf c.args.graph.now.taps c.args.dest (Some origin) = rw (c.of.ensures, ← c.get.ensures) at c.in_ok-origin.ensures.head in
    let carried : Some origin ≡ origin_at plant points c.args.dest = head_carried plant points c.args.graph.now.taps c.args.graph.now.taps c.args.dest (Some origin) c.requires.tapped refl stands in
    let below : origin < sources_of plant = head_below plant points c.args.graph.now.taps c.args.graph.now.taps c.args.dest origin c.requires.tapped refl stands in
    let head : origin < length old.by_head = omega (arith, below, marks.heads) in
    let none : None ≡ fed_device plant origin = c.in_err-device.ensures.device plant c.requires.wired ∙ ap (fed_device plant) (sym c.get.ensures) in
    rw (c.insert.ensures, c.put_lit.ensures.lit)
    (marked_lit plant points c.requires.wired.is_plant _ marks c.args.dest origin _ c.self.inside.fed c.put_lit.new.turned c.requires.dest (sym carried)
    (LinksInsertFirst-all old origin c.args.dest head) (length-set old.by_head origin (c.args.dest ∷ list_of old origin)) refl
    (fed_none plant points c.requires.wired.is_plant _ marks origin (sym none)))

pub insert-requires-2 : goal.insert-requires-2
insert-requires-2 g c =
    let found : Some c.in_ok-device.device ≡ fed_device c.args.graph.now.plant c.in_ok-origin.origin = c.in_ok-device.ensures.device c.args.graph.now.plant c.requires.wired in
    let within = fed_within c.args.graph.now.plant c.in_ok-origin.origin c.in_ok-device.device (sym found) in
    omega (arith, within, c.requires.wired.is_plant.linked.devices, c.get-2.ensures)

pub returns-clause-fed : goal.returns-clause-fed
returns-clause-fed g c = rw (← c.self.view_is) (λ other. ap (λ set. contains set other) c.insert-2.ensures ∙ contains_inserted c.self.inside.fed c.get-2.result other ∙ either_way other c.get-2.result c.in_ok-device.device (contains c.self.inside.fed other) c.get-2.ensures)

pub returns-clause-marks : goal.returns-clause-marks
returns-clause-marks g c =
    let marks = rw (← c.self.view_is) at c.requires.marks in
    let plant = c.args.graph.now.plant in
    let points = c.args.graph.now.crosspoints in
    let origin = c.get.result in
    let old = c.self.inside.lit in
    let stands : IsHeadOf c.args.graph.now.taps c.args.dest (Some origin) = rw (c.of.ensures, ← c.get.ensures) at c.in_ok-origin.ensures.head in
    let carried : Some origin ≡ origin_at plant points c.args.dest = head_carried plant points c.args.graph.now.taps c.args.graph.now.taps c.args.dest (Some origin) c.requires.tapped refl stands in
    let below : origin < sources_of plant = head_below plant points c.args.graph.now.taps c.args.graph.now.taps c.args.dest origin c.requires.tapped refl stands in
    let head : origin < length old.by_head = omega (arith, below, marks.heads) in
    let found : Some c.in_ok-device.device ≡ fed_device plant origin = c.in_ok-device.ensures.device plant c.requires.wired ∙ ap (fed_device plant) (sym c.get.ensures) in
    let device : fed_device plant origin ≡ Some c.get-2.result = sym found ∙ ap Some (sym c.get-2.ensures) in
    rw (c.insert.ensures, c.put_lit.ensures.lit, c.insert-2.ensures)
    (marked_lit plant points c.requires.wired.is_plant _ marks c.args.dest origin _ _ c.put_lit.new.turned c.requires.dest (sym carried)
    (LinksInsertFirst-all old origin c.args.dest head) (length-set old.by_head origin (c.args.dest ∷ list_of old origin)) refl
    (fed_one plant points c.requires.wired.is_plant _ marks origin c.get-2.result device))

pub returns-clause-device : goal.returns-clause-device
returns-clause-device g c =
    let plant = c.args.graph.now.plant in
    let origin = c.get.result in
    let device = c.in_ok-device.device in
    let found : Some device ≡ fed_device plant origin = c.in_ok-device.ensures.device plant c.requires.wired ∙ ap (fed_device plant) (sym c.get.ensures) in
    record {
      below = fed_within plant origin device (sym found);
      fresh =
          c.requires.marks.fed device origin (fed_is plant origin device (sym found))
          ∙ sym (ap (λ (marks : Marks). is_lit marks.lit origin) c.self.view_is) ∙ sym c.put_lit.ensures.was ∙ c.if-put_lit.false;
    }
