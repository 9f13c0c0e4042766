use Rattle.std.proofs.Common.{◌≡◌, ◌+◌, ◌<◌, ◌≤◌, true, length, sym, ap, arith}
use Rattle.std.specs.FinSet.{contains, insert}
use Rattle.number_tables.proofs.LowestLemmas.{IsLowest-lowest, empty_from_lowest}
use Rattle.plant_config.specs.Limits.{device_limit}
use Rattle.tally.specs.Tally.{Origins}
use Rattle.tally.specs.Weight.{weigh, device_weight}
use Rattle.tally.proofs.SpreadLemmas.{spread_none, spread_more}
use Rattle.tally.proofs.WeightLemmas.{weigh_inserted, weigh_most}
use Rattle.tally.proofs.doubt.spread_doubt.Goals as goal

pub loop-device-init : goal.loop-device-init
loop-device-init g c = record {
  spread = spread_none c.args.graph.now.plant c.args.roots.now c.args.marks.now c.args.waiting.now c.args.doubted.now c.requires.devices c.requires.none;
  counted = omega arith;
}

pub lose_behind-requires-clause-marks : goal.lose_behind-requires-clause-marks
lose_behind-requires-clause-marks g c = (c.requires.marks.0, c.loop-device.invariant.spread.kept c.requires.marks.0 c.requires.marks.1)

pub loop-device-smaller : goal.loop-device-smaller
loop-device-smaller g c =
    let v = c.in-Some.device in
    let doubted = c.loop-device.doubted in
    let has : contains c.loop-device.waiting v ≡ true = (IsLowest-lowest c.loop-device.waiting v (sym c.in-Some.ensures.lowest)).has in
    let below : v < length c.args.graph.now.plant.devices = c.loop-device.invariant.spread.devices v has in
    let limit : v < device_limit = omega (arith, below, c.requires.wired.is_plant.linked.devices) in
    let more : weigh (λ _. 1) (contains (insert doubted v)) ≡ weigh (λ _. 1) (contains doubted) + 1 = weigh_inserted (λ _. 1) doubted v limit (c.loop-device.invariant.spread.apart v has) in
    let is : weigh (λ _. 1) (contains c.insert.new.self) ≡ weigh (λ _. 1) (contains (insert doubted v)) = ap (λ (set : Origins). weigh (λ _. 1) (contains set)) c.insert.ensures in
    let most : weigh (λ _. 1) (contains c.insert.new.self) ≤ device_limit = weigh_most (contains c.insert.new.self) in
    omega (arith, more, is, most)

pub loop-device-preserved : goal.loop-device-preserved
loop-device-preserved g c =
    let plant = c.args.graph.now.plant in
    let v = c.in-Some.device in
    let waiting = c.loop-device.waiting in
    let doubted = c.loop-device.doubted in
    let has : contains waiting v ≡ true = (IsLowest-lowest waiting v (sym c.in-Some.ensures.lowest)).has in
    let below : v < length plant.devices = c.loop-device.invariant.spread.devices v has in
    let limit : v < device_limit = omega (arith, below, c.requires.wired.is_plant.linked.devices) in
    let lost = rw (c.of-device.ensures, c.remove.ensures, c.insert.ensures) at c.lose_behind.ensures.lost in
    let cost = rw c.of-device.ensures at c.lose_behind.ensures.counted in
    let more : weigh (device_weight plant) (contains (insert doubted v)) ≡ weigh (device_weight plant) (contains doubted) + device_weight plant v = weigh_inserted (device_weight plant) doubted v limit (c.loop-device.invariant.spread.apart v has) in
    let is : weigh (device_weight plant) (contains c.insert.new.self) ≡ weigh (device_weight plant) (contains (insert doubted v)) = ap (λ (set : Origins). weigh (device_weight plant) (contains set)) c.insert.ensures in
    record {
      spread =
          rw c.insert.ensures
          (spread_more plant c.requires.wired.is_plant waiting doubted v has c.args.roots.now c.args.marks.now c.loop-device.marks c.lose_behind.new.marks c.args.waiting.now c.lose_behind.new.waiting c.requires.marks.0 c.requires.marks.1 c.loop-device.invariant.spread lost);
      counted = omega (arith, more, is, cost, c.loop-device.invariant.counted);
    }

pub returns-clause-all : goal.returns-clause-all
returns-clause-all g c = empty_from_lowest c.loop-device.waiting (sym c.in_default.ensures.lowest)
