use Rattle.std.proofs.Common.{◌<◌, length, subst, arith, ap, sym, ◌∙◌}
use Rattle.tap_lists.proofs.ListLemmas.{some_number}
use Rattle.tap_lists.proofs.ColumnLemmas.{length-put}
use Rattle.tap_lists.proofs.WalkLemmas.{walked-linked, held-linked}
use Rattle.tap_lists.proofs.UnlinkLemmas.{within_linked, unlinked_member}
use Rattle.tap_lists.proofs.links.take_out.Goals as goal

pub put-requires : goal.put-requires
put-requires c =
    rw (c.head_led.ensures, c.value_at-before.ensures, c.value_at-head.ensures)
    (within_linked _ _ _ _ _ _ c.args.member c.requires.held c.requires.is_linked.1).led

pub put-requires-2 : goal.put-requires-2
put-requires-2 c i e =
    subst (λ i. i < length c.args.heads.now) (some_number c.args.member i e) (within_linked _ _ _ _ _ _ c.args.member c.requires.held c.requires.is_linked.1).member

pub put-requires-3 : goal.put-requires-3
put-requires-3 c i e =
    omega (arith, c.requires.held.afters_count, (within_linked _ _ _ _ _ _ c.args.member c.requires.held c.requires.is_linked.1).before i (sym c.value_at-before.ensures ∙ e))

pub put-requires-4 : goal.put-requires-4
put-requires-4 c i e =
    subst (λ i. i < length c.put-3.new.values) (some_number c.args.member i e)
    (omega (arith, c.requires.held.afters_count, ap length c.put-3.ensures, length-put c.args.afters.now c.value_at-before.result c.value_at-after.result, (within_linked _ _ _ _ _ _ c.args.member c.requires.held c.requires.is_linked.1).member))

pub put-requires-5 : goal.put-requires-5
put-requires-5 c i e =
    omega (arith, c.requires.held.befores_count, (within_linked _ _ _ _ _ _ c.args.member c.requires.held c.requires.is_linked.1).after i (sym c.value_at-after.ensures ∙ e))

pub returns-clause-held : goal.returns-clause-held
returns-clause-held c =
    rw (c.put-5.ensures, c.put-4.ensures, c.put-3.ensures, c.put-2.ensures, c.put.ensures, c.head_led.ensures, c.value_at-before.ensures, c.value_at-after.ensures, c.value_at-head.ensures)
    (held-linked _ _ _ _ _ (unlinked_member _ _ _ _ _ _ c.args.member c.requires.held c.requires.is_linked.1))

pub returns-clause-lists : goal.returns-clause-lists
returns-clause-lists c =
    rw (c.put-4.ensures, c.put-3.ensures, c.put.ensures, c.head_led.ensures, c.value_at-before.ensures, c.value_at-after.ensures, c.value_at-head.ensures)
    (walked-linked _ _ _ _ _ (unlinked_member _ _ _ _ _ _ c.args.member c.requires.held c.requires.is_linked.1))
