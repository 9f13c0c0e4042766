use Rattle.std.proofs.Common.{ℕ, ◌<◌, ◌≤◌, List, [], ◌∷◌, take, length, sym, subst, arith}
use Rattle.std.proofs.lemmas.List.{take_all}
use Rattle.mixer_effects.specs.Buses.{switched_at}
use Rattle.tally.specs.Lost.{AreLost}
use Rattle.tally.proofs.ListLemmas.{taken_more, past_all, within}
use Rattle.tally.proofs.LostLemmas.{lost_one, lost_then}
use Rattle.tally.proofs.BusLemmas.{switched_below, few_switched}
use Rattle.tally.proofs.losing.lose_switched.Goals as goal

pub loop-place-init : goal.loop-place-init
loop-place-init g c = record {
  lost = lost_one c.args.graph.now.plant c.args.doubted.now c.get.result c.args.dest c.args.marks.now c.lose.new.marks c.args.waiting.now c.lose.new.waiting c.get.ensures c.lose.ensures.losing c.lose.ensures.marks c.lose.ensures.dark c.lose.ensures.fewer c.lose.ensures.turned c.lose.ensures.waits;
  within = omega arith;
  counted = omega arith;
}

pub returns-in_default-clause-lost : goal.returns-in_default-clause-lost
returns-in_default-clause-lost g c =
    let buses = switched_at c.args.graph.now.plant c.args.dest in
    subst (λ (xs : List ℕ). AreLost c.args.graph.now.plant (c.args.dest ∷ xs) c.args.marks.now c.loop-place.marks c.args.waiting.now c.loop-place.waiting c.args.doubted.now)
    (take_all c.loop-place.place buses (past_all buses c.loop-place.place (c.in_default.ensures.bus c.args.graph.now.plant c.requires.wired)))
    c.loop-place.invariant.lost

pub lose-requires-in-loop-place-clause-limit : goal.lose-requires-in-loop-place-clause-limit
lose-requires-in-loop-place-clause-limit g c =
    let below = switched_below c.args.graph.now.plant c.args.dest c.loop-place.place c.in-Some.bus c.requires.wired.is_plant (c.in-Some.ensures.bus c.args.graph.now.plant c.requires.wired) in
    omega (arith, below, c.get-in-loop-place.ensures, c.requires.wired.is_plant.destinations)

pub lose-requires-in-loop-place-clause-marks : goal.lose-requires-in-loop-place-clause-marks
lose-requires-in-loop-place-clause-marks g c = (c.requires.marks.0, c.loop-place.invariant.lost.kept c.requires.marks.0 c.requires.marks.1)

pub loop-place-preserved : goal.loop-place-preserved
loop-place-preserved g c =
    let plant = c.args.graph.now.plant in
    let buses = switched_at plant c.args.dest in
    let place = c.loop-place.place in
    let bus = c.in-Some.bus in
    let at = c.in-Some.ensures.bus plant c.requires.wired in
    let lose = c.lose-in-loop-place in
    let there : place < length buses = within buses place bus at in
    record {
      lost =
          subst (λ (xs : List ℕ). AreLost plant (c.args.dest ∷ xs) c.args.marks.now lose.new.marks c.args.waiting.now lose.new.waiting c.args.doubted.now)
          (sym (taken_more buses place bus at))
          (lost_then plant c.args.doubted.now (c.args.dest ∷ take place buses) (bus ∷ []) c.args.marks.now c.loop-place.marks lose.new.marks c.args.waiting.now c.loop-place.waiting lose.new.waiting c.loop-place.invariant.lost
          (lost_one plant c.args.doubted.now c.get-in-loop-place.result bus c.loop-place.marks lose.new.marks c.loop-place.waiting lose.new.waiting c.get-in-loop-place.ensures lose.ensures.losing lose.ensures.marks lose.ensures.dark lose.ensures.fewer lose.ensures.turned lose.ensures.waits));
      within = omega (arith, there);
      counted = omega (arith, c.loop-place.invariant.counted, c.switched_by.ensures.counted, lose.ensures.counted);
    }

pub returns-clause-lost : goal.returns-clause-lost
returns-clause-lost g c =
    let buses = switched_at c.args.graph.now.plant c.args.dest in
    let few : length buses ≤ 1024 = few_switched c.args.graph.now.plant c.args.dest c.requires.wired.is_plant in
    subst (λ (xs : List ℕ). AreLost c.args.graph.now.plant (c.args.dest ∷ xs) c.args.marks.now c.loop-place.marks c.args.waiting.now c.loop-place.waiting c.args.doubted.now)
    (take_all c.loop-place.place buses (omega arith))
    c.loop-place.invariant.lost
