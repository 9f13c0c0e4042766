use Rattle.std.proofs.Common.{ℕ, ◌<◌, ◌≤◌, List, [], ◌∷◌, take, length, sym, subst, arith}
use Rattle.std.proofs.lemmas.List.{take_all}
use Rattle.mixer_effects.specs.Buses.{buses_at}
use Rattle.tally.specs.Relit.{AreRelit}
use Rattle.tally.proofs.ListLemmas.{taken_more, past_all, within}
use Rattle.tally.proofs.RelitLemmas.{relit_none, relit_then}
use Rattle.tally.proofs.BusLemmas.{device_bus_below, few_buses}
use Rattle.tally.proofs.relight.relight_behind.Goals as goal

pub loop-place-init : goal.loop-place-init
loop-place-init g c = record {
  relit = relit_none c.args.graph.now.plant c.args.graph.now.crosspoints c.args.roots.now c.args.marks.now c.args.waiting.now;
  within = omega arith;
  counted = omega arith;
}

pub returns-in_default-clause-relit : goal.returns-in_default-clause-relit
returns-in_default-clause-relit g c =
    let buses = buses_at c.args.graph.now.plant c.args.device in
    subst (λ (xs : List ℕ). AreRelit c.args.graph.now.plant c.args.graph.now.crosspoints c.args.roots.now xs c.args.marks.now c.loop-place.marks c.args.waiting.now c.loop-place.waiting)
    (take_all c.loop-place.place buses (past_all buses c.loop-place.place (c.in_default.ensures.bus c.args.graph.now.plant c.requires.wired)))
    c.loop-place.invariant.relit

pub relight-requires-clause-dest : goal.relight-requires-clause-dest
relight-requires-clause-dest g c =
    device_bus_below c.args.graph.now.plant c.args.device c.loop-place.place c.in-Some.bus c.requires.wired.is_plant (c.in-Some.ensures.bus c.args.graph.now.plant c.requires.wired)

pub loop-place-preserved : goal.loop-place-preserved
loop-place-preserved g c =
    let plant = c.args.graph.now.plant in
    let buses = buses_at plant c.args.device in
    let place = c.loop-place.place in
    let bus = c.in-Some.bus in
    let at = c.in-Some.ensures.bus plant c.requires.wired in
    let there : place < length buses = within buses place bus at in
    record {
      relit =
          subst (λ (xs : List ℕ). AreRelit plant c.args.graph.now.crosspoints c.args.roots.now xs c.args.marks.now c.relight.new.marks c.args.waiting.now c.relight.new.waiting)
          (sym (taken_more buses place bus at))
          (relit_then plant c.args.graph.now.crosspoints c.args.roots.now (take place buses) (bus ∷ []) c.args.marks.now c.loop-place.marks c.relight.new.marks c.args.waiting.now c.loop-place.waiting c.relight.new.waiting c.loop-place.invariant.relit c.relight.ensures.relit);
      within = omega (arith, there);
      counted = omega (arith, c.loop-place.invariant.counted, c.bus.ensures.counted, c.relight.ensures.counted);
    }

pub returns-clause-relit : goal.returns-clause-relit
returns-clause-relit g c =
    let buses = buses_at c.args.graph.now.plant c.args.device in
    let few : length buses ≤ 1024 = few_buses c.args.graph.now.plant c.args.device c.requires.wired.is_plant in
    subst (λ (xs : List ℕ). AreRelit c.args.graph.now.plant c.args.graph.now.crosspoints c.args.roots.now xs c.args.marks.now c.loop-place.marks c.args.waiting.now c.loop-place.waiting)
    (take_all c.loop-place.place buses (omega arith))
    c.loop-place.invariant.relit
