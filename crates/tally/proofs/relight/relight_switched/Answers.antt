use Rattle.std.proofs.Common.{ℕ, ◌<◌, ◌≤◌, List, [], ◌∷◌, take, length, sym, subst, arith}
use Rattle.std.proofs.lemmas.List.{take_all}
use Rattle.mixer_effects.specs.Buses.{switched_at}
use Rattle.tally.specs.Relit.{AreRelit}
use Rattle.tally.proofs.ListLemmas.{taken_more, past_all, within}
use Rattle.tally.proofs.RelitLemmas.{relit_then}
use Rattle.tally.proofs.BusLemmas.{switched_below, few_switched}
use Rattle.tally.proofs.relight.relight_switched.Goals as goal

pub returns-in_default-clause-relit : goal.returns-in_default-clause-relit
returns-in_default-clause-relit g c =
    let buses = switched_at c.args.graph.now.plant c.args.dest in
    subst (λ (xs : List ℕ). AreRelit c.args.graph.now.plant c.args.graph.now.crosspoints c.args.roots.now (c.args.dest ∷ xs) c.args.marks.now c.loop-place.marks c.args.waiting.now c.loop-place.waiting)
    (take_all c.loop-place.place buses (past_all buses c.loop-place.place (c.in_default.ensures.bus c.args.graph.now.plant c.requires.wired)))
    c.loop-place.invariant.relit

pub relight-requires-in-loop-place-clause-dest : goal.relight-requires-in-loop-place-clause-dest
relight-requires-in-loop-place-clause-dest g c =
    switched_below c.args.graph.now.plant c.args.dest c.loop-place.place c.in-Some.bus c.requires.wired.is_plant (c.in-Some.ensures.bus c.args.graph.now.plant c.requires.wired)

pub loop-place-preserved : goal.loop-place-preserved
loop-place-preserved g c =
    let plant = c.args.graph.now.plant in
    let buses = switched_at plant c.args.dest in
    let place = c.loop-place.place in
    let bus = c.in-Some.bus in
    let at = c.in-Some.ensures.bus plant c.requires.wired in
    let there : place < length buses = within buses place bus at in
    record {
      relit =
          subst (λ (xs : List ℕ). AreRelit plant c.args.graph.now.crosspoints c.args.roots.now (c.args.dest ∷ xs) c.args.marks.now c.relight-in-loop-place.new.marks c.args.waiting.now c.relight-in-loop-place.new.waiting)
          (sym (taken_more buses place bus at))
          (relit_then plant c.args.graph.now.crosspoints c.args.roots.now (c.args.dest ∷ take place buses) (bus ∷ []) c.args.marks.now c.loop-place.marks c.relight-in-loop-place.new.marks c.args.waiting.now c.loop-place.waiting c.relight-in-loop-place.new.waiting c.loop-place.invariant.relit c.relight-in-loop-place.ensures.relit);
      within = omega (arith, there);
      counted = omega (arith, c.loop-place.invariant.counted, c.switched_by.ensures.counted, c.relight-in-loop-place.ensures.counted);
    }

pub returns-clause-relit : goal.returns-clause-relit
returns-clause-relit g c =
    let buses = switched_at c.args.graph.now.plant c.args.dest in
    let few : length buses ≤ 1024 = few_switched c.args.graph.now.plant c.args.dest c.requires.wired.is_plant in
    subst (λ (xs : List ℕ). AreRelit c.args.graph.now.plant c.args.graph.now.crosspoints c.args.roots.now (c.args.dest ∷ xs) c.args.marks.now c.loop-place.marks c.args.waiting.now c.loop-place.waiting)
    (take_all c.loop-place.place buses (omega arith))
    c.loop-place.invariant.relit
