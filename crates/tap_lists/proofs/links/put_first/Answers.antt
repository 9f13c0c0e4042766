use Rattle.std.proofs.Common.{sym, ◌∙◌}
use Rattle.tap_lists.proofs.WalkLemmas.{walked-linked, held-linked}
use Rattle.tap_lists.proofs.LinkLemmas.{first_within, linked_first}
use Rattle.tap_lists.proofs.links.put_first.Goals as goal

pub put-requires : goal.put-requires
put-requires c i e = first_within _ _ _ _ _ c.args.head i c.requires.held (sym c.value_at-second.ensures ∙ e)

pub returns-clause-held : goal.returns-clause-held
returns-clause-held c =
    rw (c.put-5.ensures, c.put-4.ensures, c.put-3.ensures, c.put-2.ensures, c.put.ensures, c.value_at-second.ensures)
    (held-linked _ _ _ _ _ (linked_first _ _ _ _ _ c.args.head c.args.member c.requires.held c.requires.is_head c.requires.is_member c.requires.is_loose))

pub returns-clause-lists : goal.returns-clause-lists
returns-clause-lists c =
    rw (c.put-4.ensures, c.put-3.ensures, c.value_at-second.ensures)
    (walked-linked _ _ _ _ _ (linked_first _ _ _ _ _ c.args.head c.args.member c.requires.held c.requires.is_head c.requires.is_member c.requires.is_loose))
