use Rattle.std.proofs.Common.{rules}
use Rattle.tap_lists.proofs.WalkLemmas.{walked-linked, held-linked}
use Rattle.tap_lists.proofs.EmptyLemmas.{linked_empty}
use Rattle.tap_lists.proofs.taps.Taps.new.Goals as goal

pub invariant_of-result : goal.invariant_of-result
invariant_of-result c =
    rw (c.in_ok-firsts.ensures.items_if_clones_equal (λ y same. search rules), c.in_ok-heads.ensures.items_if_clones_equal (λ y same. search rules), c.in_ok-afters.ensures.items_if_clones_equal (λ y same. search rules), c.in_ok-befores.ensures.items_if_clones_equal (λ y same. search rules))
    (held-linked _ _ _ _ _ (linked_empty _ c.args.members))

pub returns-clause-heads : goal.returns-clause-heads
returns-clause-heads c =
    rw (c.in_ok-firsts.ensures.items_if_clones_equal (λ y same. search rules), c.in_ok-afters.ensures.items_if_clones_equal (λ y same. search rules))
    (walked-linked _ _ _ _ _ (linked_empty _ c.args.members))
