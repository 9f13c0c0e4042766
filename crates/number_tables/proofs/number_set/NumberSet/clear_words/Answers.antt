use Rattle.std.proofs.Common.{refl, ap, ◌∙◌, length}
use Rattle.std.proofs.lemmas.List.{with_items_is}
use Rattle.number_tables.proofs.SummaryLemmas.{IsSummed-zero, zero_top}
use Rattle.number_tables.proofs.Members.{members-zero}
use Rattle.number_tables.proofs.number_set.NumberSet.clear_words.Goals as goal

pub invariant_of-self : goal.invariant_of-self
invariant_of-self c =
    rw (with_items_is c.self.inside.words c.zero_summed.new.words (c.zero_summed.auto.words ∙ c.deref_mut.ensures.len), with_items_is c.self.inside.groups c.zero.new.words (c.zero.auto.words ∙ c.deref_mut-2.ensures.len))
    (IsSummed-zero _ _ _ (c.zero_summed.auto.words ∙ ap length c.deref_mut.ensures.value ∙ c.self.invariant.words_length) (c.zero.auto.words ∙ ap length c.deref_mut-2.ensures.value ∙ c.self.invariant.groups_length) refl c.zero_summed.ensures c.zero.ensures zero_top)

pub returns : goal.returns
returns c =
    rw (with_items_is c.self.inside.words c.zero_summed.new.words (c.zero_summed.auto.words ∙ c.deref_mut.ensures.len))
    (members-zero _ c.zero_summed.ensures)
