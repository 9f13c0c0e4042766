use Rattle.std.proofs.Common.{ap, sym, ◌∙◌}
use Rattle.number_tables.specs.Numbers.{lowest}
use Rattle.number_tables.proofs.SmallMembers.{zero_from_summary, IsLowest-small}
use Rattle.number_tables.proofs.Members.{members-zero}
use Rattle.number_tables.proofs.LowestLemmas.{lowest-IsLowest, lowest-empty}
use Rattle.number_tables.proofs.small_set.SmallSet.lowest.Goals as goal

pub returns-then-self-eq0-clause-lowest : goal.returns-then-self-eq0-clause-lowest
returns-then-self-eq0-clause-lowest c =
    sym (ap lowest (sym c.self.view_is ∙ members-zero c.self.inside.words (zero_from_summary c.self.inside.words c.self.inside.summary c.self.invariant c.if-self-eq0.true)) ∙ lowest-empty)

pub returns-clause-lowest : goal.returns-clause-lowest
returns-clause-lowest c =
    sym (lowest-IsLowest _ _ (IsLowest-small c.self.inside.words c.self.inside.summary _ _ c.self.invariant c.lowest_bit-word.ensures c.lowest_bit.ensures))
    ∙ ap lowest c.self.view_is
