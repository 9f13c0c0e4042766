use Rattle.std.proofs.Common.{◌≡◌, [], ◌+◌, ◌<◌, ◌≤◌, true, length, sym, arith}
use Rattle.std.specs.FinSet.{contains, remove}
use Rattle.number_tables.proofs.LowestLemmas.{IsLowest-lowest, empty_from_lowest}
use Rattle.plant_config.specs.Limits.{device_limit}
use Rattle.tally.specs.Weight.{weigh, device_weight}
use Rattle.tally.proofs.RelitLemmas.{relit_then, relit_popped, popped_devices}
use Rattle.tally.proofs.WeightLemmas.{weigh_removed, weigh_most}
use Rattle.tally.proofs.relight.relight_waiting.Goals as goal

pub loop-device-smaller : goal.loop-device-smaller
loop-device-smaller g c =
    let v = c.in-Some.device in
    let waiting = c.loop-device.waiting in
    let has : contains waiting v ≡ true = (IsLowest-lowest waiting v (sym c.in-Some.ensures.lowest)).has in
    let below : v < length c.args.graph.now.plant.devices = c.loop-device.invariant.devices v has in
    let limit : v < device_limit = omega (arith, below, c.requires.wired.is_plant.linked.devices) in
    let relit = rw c.remove.ensures at c.relight_behind.ensures.relit in
    let less : weigh (λ _. 1) (contains waiting) ≡ weigh (λ _. 1) (contains (remove waiting v)) + 1 = weigh_removed (λ _. 1) waiting v limit has in
    let work = relit.fed.work (λ _. 1) in
    let was : weigh (λ _. 1) (contains c.loop-device.marks.fed) ≤ device_limit = weigh_most (contains c.loop-device.marks.fed) in
    let now : weigh (λ _. 1) (contains c.relight_behind.new.marks.fed) ≤ device_limit = weigh_most (contains c.relight_behind.new.marks.fed) in
    omega (arith, less, work, was, now)

pub loop-device-preserved : goal.loop-device-preserved
loop-device-preserved g c =
    let plant = c.args.graph.now.plant in
    let points = c.args.graph.now.crosspoints in
    let v = c.in-Some.device in
    let waiting = c.loop-device.waiting in
    let has : contains waiting v ≡ true = (IsLowest-lowest waiting v (sym c.in-Some.ensures.lowest)).has in
    let below : v < length plant.devices = c.loop-device.invariant.devices v has in
    let limit : v < device_limit = omega (arith, below, c.requires.wired.is_plant.linked.devices) in
    let relit = rw (c.of.ensures, c.remove.ensures) at c.relight_behind.ensures.relit in
    let cost = rw c.of.ensures at c.relight_behind.ensures.counted in
    let less : weigh (device_weight plant) (contains waiting) ≡ weigh (device_weight plant) (contains (remove waiting v)) + device_weight plant v = weigh_removed (device_weight plant) waiting v limit has in
    let work = relit.fed.work (device_weight plant) in
    record {
      relit =
          relit_then plant points c.args.roots.now [] [] c.args.marks.now c.loop-device.marks c.relight_behind.new.marks c.args.waiting.now waiting c.relight_behind.new.waiting c.loop-device.invariant.relit
          (relit_popped plant points c.args.roots.now waiting v limit has c.loop-device.marks c.relight_behind.new.marks c.relight_behind.new.waiting relit);
      devices = popped_devices plant points c.args.roots.now waiting v limit has c.loop-device.marks c.relight_behind.new.marks c.relight_behind.new.waiting c.loop-device.invariant.devices relit;
      counted = omega (arith, less, work, cost, c.loop-device.invariant.counted);
    }

pub returns-clause-all : goal.returns-clause-all
returns-clause-all g c = empty_from_lowest c.loop-device.waiting (sym c.in_default.ensures.lowest)
