use Rattle.std.proofs.Common.{◌≡◌, ℕ, ◌/◌, ◌<◌, true, nat_lt, ap, sym, ◌∙◌, ltb-true}
use Rattle.std.proofs.lemmas.List.{with_items_is}
use Rattle.std.specs.FinSet.{insert}
use Rattle.number_tables.specs.SetInside.{SetsBit}
use Rattle.number_tables.proofs.SummaryLemmas.{IsSummed-set, IsSummed-more, IsSummed-more_group}
use Rattle.number_tables.proofs.Members.{members-set}
use Rattle.number_tables.proofs.number_set.NumberSet.insert.Goals as goal

-- a word that isn't 0
some : (word : ℕ) → true ≡ nat_lt 0 word → 0 < word
some word has = ltb-true 0 word (sym has)

pub invariant_of-self : goal.invariant_of-self
invariant_of-self c =
    let words : SetsBit c.self.inside.words.items c.set_bit.new.words c.args.number = rw c.deref_mut.ensures.value at c.set_bit.ensures.sets in
    rw (with_items_is c.self.inside.words c.set_bit.new.words (c.set_bit.ensures.sets.length_kept ∙ c.deref_mut.ensures.len))
    (IsSummed-more c.self.inside.words.items c.self.inside.groups.items c.self.inside.top c.args.number c.self.invariant c.set_bit.new.words words (some _ (rw c.deref_mut.ensures.value at c.if-set_bit.ensures.some)))

pub invariant_of-self-then-set_bit-2 : goal.invariant_of-self-then-set_bit-2
invariant_of-self-then-set_bit-2 c =
    let words : SetsBit c.self.inside.words.items c.set_bit.new.words c.args.number = rw c.deref_mut.ensures.value at c.set_bit.ensures.sets in
    let groups : SetsBit c.self.inside.groups.items c.set_bit-2.new.words (c.args.number / 64) = rw c.deref_mut-2.ensures.value at c.set_bit-2.ensures.sets in
    rw (with_items_is c.self.inside.words c.set_bit.new.words (c.set_bit.ensures.sets.length_kept ∙ c.deref_mut.ensures.len), with_items_is c.self.inside.groups c.set_bit-2.new.words (c.set_bit-2.ensures.sets.length_kept ∙ c.deref_mut-2.ensures.len))
    (IsSummed-more_group c.self.inside.words.items c.self.inside.groups.items c.self.inside.top c.args.number c.self.invariant c.set_bit.new.words c.set_bit-2.new.words words groups (some _ (rw c.deref_mut-2.ensures.value at c.if-set_bit-2.ensures.some)))

pub invariant_of-self-2 : goal.invariant_of-self-2
invariant_of-self-2 c =
    let words : SetsBit c.self.inside.words.items c.set_bit.new.words c.args.number = rw c.deref_mut.ensures.value at c.set_bit.ensures.sets in
    let groups : SetsBit c.self.inside.groups.items c.set_bit-2.new.words (c.args.number / 64) = rw c.deref_mut-2.ensures.value at c.set_bit-2.ensures.sets in
    rw (with_items_is c.self.inside.words c.set_bit.new.words (c.set_bit.ensures.sets.length_kept ∙ c.deref_mut.ensures.len), with_items_is c.self.inside.groups c.set_bit-2.new.words (c.set_bit-2.ensures.sets.length_kept ∙ c.deref_mut-2.ensures.len))
    (IsSummed-set c.self.inside.words.items c.self.inside.groups.items c.self.inside.top c.args.number c.self.invariant _ _ _ words groups c.set_bit-3.ensures.sets)

pub returns-then-set_bit : goal.returns-then-set_bit
returns-then-set_bit c =
    let words : SetsBit c.self.inside.words.items c.set_bit.new.words c.args.number = rw c.deref_mut.ensures.value at c.set_bit.ensures.sets in
    rw (with_items_is c.self.inside.words c.set_bit.new.words (c.set_bit.ensures.sets.length_kept ∙ c.deref_mut.ensures.len))
    (members-set c.self.inside.words.items c.set_bit.new.words c.args.number words ∙ ap (λ s. insert s c.args.number) c.self.view_is)

pub returns-then-set_bit-2 : goal.returns-then-set_bit-2
returns-then-set_bit-2 c =
    let words : SetsBit c.self.inside.words.items c.set_bit.new.words c.args.number = rw c.deref_mut.ensures.value at c.set_bit.ensures.sets in
    rw (with_items_is c.self.inside.words c.set_bit.new.words (c.set_bit.ensures.sets.length_kept ∙ c.deref_mut.ensures.len))
    (members-set c.self.inside.words.items c.set_bit.new.words c.args.number words ∙ ap (λ s. insert s c.args.number) c.self.view_is)

pub returns : goal.returns
returns c =
    let words : SetsBit c.self.inside.words.items c.set_bit.new.words c.args.number = rw c.deref_mut.ensures.value at c.set_bit.ensures.sets in
    rw (with_items_is c.self.inside.words c.set_bit.new.words (c.set_bit.ensures.sets.length_kept ∙ c.deref_mut.ensures.len))
    (members-set c.self.inside.words.items c.set_bit.new.words c.args.number words ∙ ap (λ s. insert s c.args.number) c.self.view_is)
