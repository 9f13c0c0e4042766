use Rattle.std.proofs.Common.{ℕ, ◌≡◌, ◌+◌, ◌==◌, if◌then◌else◌, ap, arith}
use Rattle.plant_core.specs.StateFields.{byte_at, place_of_panel, place_of_notices}
use Rattle.plant_core.proofs.FaultLemmas.{notices_few, few_may}
use Rattle.plant_core.proofs.NoticesFaultLemmas.{few_top, notices_short}
use Rattle.plant_core.proofs.notices_fault.hold_at_once.Goals as goal

pub returns-then-most-few : goal.returns-then-most-few
returns-then-most-few c = λ _ more below.
    let plant = c.args.plant.now in
    let bytes = c.args.bytes.now in
    let dest : ℕ = c.args.first + more in
    let at : c.place_of_panel.result + 1 + c.args.first + more ≡ place_of_notices plant c.args.panel dest = omega (arith, c.place_of_panel.ensures.place) in
    notices_few plant bytes c.args.panel dest c.args.few
    (omega (arith, c.greatest-most.ensures more below, ap (byte_at bytes) at, c.if-most-few.true))
    (few_may plant bytes c.args.panel dest c.args.few c.requires.few)

pub returns : goal.returns
returns c = λ short more below.
    let plant = c.args.plant.now in
    let bytes = c.args.bytes.now in
    let dest : ℕ = c.args.first + more in
    let at : c.place_of_panel.result + 1 + c.args.first + more ≡ place_of_notices plant c.args.panel dest = omega (arith, c.place_of_panel.ensures.place) in
    let few : (let most : ℕ = if byte_at bytes (place_of_panel plant c.args.panel) == 1 then 0 else 1 in most) ≡ 1 = omega (arith, c.requires.few, c.if-few-eq0.false, few_top (byte_at bytes (place_of_panel plant c.args.panel) == 1)) in
    notices_short plant bytes c.args.panel dest few (c.are_short.ensures short more below)
    (omega (arith, c.greatest-most.ensures more below, ap (byte_at bytes) at, c.if-most-gt3.false))
