use Rattle.std.proofs.Common.{◌≡◌, ℕ, ◌+◌, ◌<◌, ◌≤◌, List, ◌∷◌, [], length, refl, sym, ap, ◌∙◌, arith, length-append}
use Rattle.number_tables.proofs.LowestLemmas.{IsLowest-lowest, empty_from_lowest}
use Rattle.tally.proofs.DrainLemmas.{drained_none, drained_more, drained_all}
use Rattle.tally.proofs.marks.drain.Goals as goal

pub loop-number-init : goal.loop-number-init
loop-number-init c = record {
  drained = drained_none c.args.numbers.now c.args.list.now.items c.requires.none;
  capacity = refl;
}

pub push_reserved-requires : goal.push_reserved-requires
push_reserved-requires c =
    let v = c.in-Some.number in
    let is = IsLowest-lowest c.loop-number.numbers v (sym c.in-Some.ensures.lowest) in
    let few : length c.loop-number.list.items ≤ v = c.loop-number.invariant.drained.few v is.has in
    let room = c.requires.room v (c.loop-number.invariant.drained.rest v is.has) in
    omega (arith, few, room, c.loop-number.invariant.capacity)

pub loop-number-smaller : goal.loop-number-smaller
loop-number-smaller c =
    let v = c.in-Some.number in
    let is = IsLowest-lowest c.loop-number.numbers v (sym c.in-Some.ensures.lowest) in
    let few : length c.loop-number.list.items ≤ v = c.loop-number.invariant.drained.few v is.has in
    let more : length c.push_reserved.new.self.items ≡ length c.loop-number.list.items + 1 = ap (λ (list : List ℕ). length list) c.push_reserved.ensures.items ∙ length-append c.loop-number.list.items (c.of.result ∷ []) in
    let below : v < 65536 = c.in-Some.ensures.below in
    omega (arith, few, more, below)

pub loop-number-preserved : goal.loop-number-preserved
loop-number-preserved c =
    let v = c.in-Some.number in
    let is = IsLowest-lowest c.loop-number.numbers v (sym c.in-Some.ensures.lowest) in
    record {
      drained = rw (c.remove.ensures, c.push_reserved.ensures.items, c.of.ensures) (drained_more c.args.numbers.now c.loop-number.numbers c.loop-number.list.items v is c.loop-number.invariant.drained);
      capacity = c.push_reserved.ensures.capacity ∙ c.loop-number.invariant.capacity;
    }

pub returns-clause-all : goal.returns-clause-all
returns-clause-all c = empty_from_lowest c.loop-number.numbers (sym c.in_default.ensures.lowest)

pub returns-clause-members : goal.returns-clause-members
returns-clause-members c =
    drained_all c.args.numbers.now c.loop-number.numbers c.loop-number.list.items (empty_from_lowest c.loop-number.numbers (sym c.in_default.ensures.lowest)) c.loop-number.invariant.drained
