use Rattle.std.proofs.Common.{w64}
use Rattle.std.specs.Fmt.{signed_decimal}
use Rattle.std.proofs.lemmas.Int.{to_z-of_z}
use Rattle.plant_file.specs.FaultText.{place_text, fault_text}
use Rattle.plant_file.proofs.FaultText.{range-line}
use Rattle.plant_file.proofs.fault_text.range_text.Goals as goal

pub returns : goal.returns
unfolding fault_text
returns c =
    let value = to_z-of_z w64 c.args.value c.ranges.value in
    let low = to_z-of_z w64 c.args.low c.ranges.low in
    let high = to_z-of_z w64 c.args.high c.ranges.high in
    let line = range-line (place_text c.args.at) (signed_decimal c.args.value) (signed_decimal c.args.low) (signed_decimal c.args.high) in
    rw c.in_ok-text.ensures.ok (rw c.in_ok-place.ensures (rw (value, low, high) line))
