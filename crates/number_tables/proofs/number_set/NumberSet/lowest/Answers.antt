use Rattle.std.proofs.Common.{ap, sym, ◌∙◌}
use Rattle.number_tables.specs.Numbers.{lowest}
use Rattle.number_tables.specs.SetInside.{IsLowestBit}
use Rattle.number_tables.proofs.SummaryLemmas.{zero_from_top}
use Rattle.number_tables.proofs.Members.{members-zero}
use Rattle.number_tables.proofs.FirstMember.{IsLowest-members}
use Rattle.number_tables.proofs.LowestLemmas.{lowest-IsLowest, lowest-empty}
use Rattle.number_tables.proofs.number_set.NumberSet.lowest.Goals as goal

pub returns-then-self-eq0-clause-lowest : goal.returns-then-self-eq0-clause-lowest
returns-then-self-eq0-clause-lowest c =
    let words = c.self.inside.words.items in
    sym (ap lowest (sym c.self.view_is ∙ members-zero words (zero_from_top words c.self.inside.groups.items c.self.inside.top c.self.invariant c.if-self-eq0.true)) ∙ lowest-empty)

pub returns-clause-lowest : goal.returns-clause-lowest
returns-clause-lowest c =
    let words = c.self.inside.words.items in
    let groups = c.self.inside.groups.items in
    let of_group : IsLowestBit groups c.lowest_bit-group.result c.lowest_bit-word.result = rw c.deref.ensures.value at c.lowest_bit-word.ensures in
    let of_word : IsLowestBit words c.lowest_bit-word.result c.lowest_bit.result = rw c.deref-2.ensures.value at c.lowest_bit.ensures in
    sym (lowest-IsLowest _ _ (IsLowest-members words groups c.self.inside.top _ _ _ c.self.invariant c.lowest_bit-group.ensures of_group of_word))
    ∙ ap lowest c.self.view_is
