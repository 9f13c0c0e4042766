use Rattle.std.proofs.Common.{ℕ, ap, ◌∙◌, arith}
use Rattle.std.proofs.lemmas.List.{with_items_is}
use Rattle.std.specs.FinSet.{contains}
use Rattle.number_tables.specs.SetInside.{PutsWord}
use Rattle.number_tables.proofs.SummaryLemmas.{IsSummed-put}
use Rattle.number_tables.proofs.Members.{bits_put, others_put}
use Rattle.number_tables.proofs.number_set.NumberSet.put_word.Goals as goal

pub invariant_of-self : goal.invariant_of-self
invariant_of-self c =
    let words : PutsWord c.self.inside.words.items c.put_word.new.words c.args.place c.args.word = rw c.deref_mut.ensures.value at c.put_word.ensures in
    let groups = rw c.deref_mut-2.ensures.value at c.set_bit.ensures.sets in
    rw (with_items_is c.self.inside.words c.put_word.new.words (c.put_word.ensures.length_kept ∙ c.deref_mut.ensures.len), with_items_is c.self.inside.groups c.set_bit.new.words (c.set_bit.ensures.sets.length_kept ∙ c.deref_mut-2.ensures.len))
    (IsSummed-put c.self.inside.words.items c.self.inside.groups.items c.self.inside.top _ _ _ c.args.place c.args.word c.self.invariant words (omega (arith, c.if-word-eq0.false)) groups c.set_bit-2.ensures.sets)

pub returns-clause-bits : goal.returns-clause-bits
returns-clause-bits c =
    let words : PutsWord c.self.inside.words.items c.put_word.new.words c.args.place c.args.word = rw c.deref_mut.ensures.value at c.put_word.ensures in
    rw (with_items_is c.self.inside.words c.put_word.new.words (c.put_word.ensures.length_kept ∙ c.deref_mut.ensures.len))
    (bits_put c.self.inside.words.items c.put_word.new.words c.args.place c.args.word words)

pub returns-clause-others : goal.returns-clause-others
returns-clause-others c =
    let words : PutsWord c.self.inside.words.items c.put_word.new.words c.args.place c.args.word = rw c.deref_mut.ensures.value at c.put_word.ensures in
    rw (with_items_is c.self.inside.words c.put_word.new.words (c.put_word.ensures.length_kept ∙ c.deref_mut.ensures.len))
    (λ number other. others_put c.self.inside.words.items c.put_word.new.words c.args.place c.args.word number words other ∙ ap (λ s. contains s number) c.self.view_is)
