use Rattle.std.proofs.Common.{◌≡◌, ℕ, List, true, false, sym, subst, ap, ◌∙◌}
use Rattle.std.specs.FinSet.{contains}
use Rattle.tally.specs.Lost.{AreLost}
use Rattle.tally.proofs.LostLemmas.{lost_none, lost_one, no_root, a_root}
use Rattle.tally.proofs.losing.lose_bus.Goals as goal

pub returns-then-contains-clause-lost : goal.returns-then-contains-clause-lost
returns-then-contains-clause-lost g c =
    let root : contains c.args.roots.now c.args.bus ≡ true = ap (contains c.args.roots.now) (sym c.get.ensures) ∙ sym c.contains.ensures ∙ c.if-contains.true in
    subst (λ (xs : List ℕ). AreLost c.args.graph.now.plant xs c.args.marks.now c.args.marks.now c.args.waiting.now c.args.waiting.now c.args.doubted.now)
    (sym (a_root c.args.roots.now c.args.bus root))
    (lost_none c.args.graph.now.plant c.args.doubted.now c.args.marks.now c.args.waiting.now)

pub returns-clause-lost : goal.returns-clause-lost
returns-clause-lost g c =
    let free : contains c.args.roots.now c.args.bus ≡ false = ap (contains c.args.roots.now) (sym c.get.ensures) ∙ sym c.contains.ensures ∙ c.if-contains.false in
    subst (λ (xs : List ℕ). AreLost c.args.graph.now.plant xs c.args.marks.now c.lose.new.marks c.args.waiting.now c.lose.new.waiting c.args.doubted.now)
    (sym (no_root c.args.roots.now c.args.bus free))
    (lost_one c.args.graph.now.plant c.args.doubted.now c.get-2.result c.args.bus c.args.marks.now c.lose.new.marks c.args.waiting.now c.lose.new.waiting c.get-2.ensures c.lose.ensures.losing c.lose.ensures.marks c.lose.ensures.dark c.lose.ensures.fewer c.lose.ensures.turned c.lose.ensures.waits)
