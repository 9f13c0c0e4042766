use Rattle.std.proofs.Common.{ℕ, ◌<◌, ◌≤◌, List, [], ◌∷◌, take, length, sym, subst, arith}
use Rattle.std.proofs.lemmas.List.{take_all}
use Rattle.mixer_effects.specs.Buses.{buses_at}
use Rattle.tally.specs.Lost.{AreLost, no_roots}
use Rattle.tally.proofs.ListLemmas.{taken_more, past_all, within}
use Rattle.tally.proofs.LostLemmas.{lost_none, lost_then, no_roots_more}
use Rattle.tally.proofs.BusLemmas.{device_bus_below, few_buses}
use Rattle.tally.proofs.losing.lose_behind.Goals as goal

pub loop-place-init : goal.loop-place-init
loop-place-init g c = record {
  lost = lost_none c.args.graph.now.plant c.args.doubted.now c.args.marks.now c.args.waiting.now;
  within = omega arith;
  counted = omega arith;
}

pub returns-in_default-clause-lost : goal.returns-in_default-clause-lost
returns-in_default-clause-lost g c =
    let buses = buses_at c.args.graph.now.plant c.args.device in
    subst (λ (xs : List ℕ). AreLost c.args.graph.now.plant (no_roots c.args.roots.now xs) c.args.marks.now c.loop-place.marks c.args.waiting.now c.loop-place.waiting c.args.doubted.now)
    (take_all c.loop-place.place buses (past_all buses c.loop-place.place (c.in_default.ensures.bus c.args.graph.now.plant c.requires.wired)))
    c.loop-place.invariant.lost

pub lose_bus-requires-clause-bus : goal.lose_bus-requires-clause-bus
lose_bus-requires-clause-bus g c =
    device_bus_below c.args.graph.now.plant c.args.device c.loop-place.place c.in-Some.bus c.requires.wired.is_plant (c.in-Some.ensures.bus c.args.graph.now.plant c.requires.wired)

pub lose_bus-requires-clause-marks : goal.lose_bus-requires-clause-marks
lose_bus-requires-clause-marks g c = (c.requires.marks.0, c.loop-place.invariant.lost.kept c.requires.marks.0 c.requires.marks.1)

pub loop-place-preserved : goal.loop-place-preserved
loop-place-preserved g c =
    let plant = c.args.graph.now.plant in
    let buses = buses_at plant c.args.device in
    let place = c.loop-place.place in
    let bus = c.in-Some.bus in
    let at = c.in-Some.ensures.bus plant c.requires.wired in
    let there : place < length buses = within buses place bus at in
    record {
      lost =
          subst (λ (xs : List ℕ). AreLost plant xs c.args.marks.now c.lose_bus.new.marks c.args.waiting.now c.lose_bus.new.waiting c.args.doubted.now)
          (sym (no_roots_more c.args.roots.now (take place buses) (bus ∷ []) _ (taken_more buses place bus at)))
          (lost_then plant c.args.doubted.now (no_roots c.args.roots.now (take place buses)) (no_roots c.args.roots.now (bus ∷ [])) c.args.marks.now c.loop-place.marks c.lose_bus.new.marks c.args.waiting.now c.loop-place.waiting c.lose_bus.new.waiting c.loop-place.invariant.lost c.lose_bus.ensures.lost);
      within = omega (arith, there);
      counted = omega (arith, c.loop-place.invariant.counted, c.bus.ensures.counted, c.lose_bus.ensures.counted);
    }

pub returns-clause-lost : goal.returns-clause-lost
returns-clause-lost g c =
    let buses = buses_at c.args.graph.now.plant c.args.device in
    let few : length buses ≤ 1024 = few_buses c.args.graph.now.plant c.args.device c.requires.wired.is_plant in
    subst (λ (xs : List ℕ). AreLost c.args.graph.now.plant (no_roots c.args.roots.now xs) c.args.marks.now c.loop-place.marks c.args.waiting.now c.loop-place.waiting c.args.doubted.now)
    (take_all c.loop-place.place buses (omega arith))
    c.loop-place.invariant.lost
