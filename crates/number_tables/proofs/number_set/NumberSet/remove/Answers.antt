use Rattle.std.proofs.Common.{◌≡◌, ℕ, ◌==◌, ◌/◌, ◌<◌, true, false, ap, sym, ◌∙◌, arith, eqb-true}
use Rattle.std.proofs.lemmas.Bool.{eqb-false}
use Rattle.std.proofs.lemmas.List.{with_items_is}
use Rattle.std.specs.FinSet.{remove}
use Rattle.number_tables.specs.SetInside.{ClearsBit}
use Rattle.number_tables.proofs.SummaryLemmas.{IsSummed-word, IsSummed-group, IsSummed-top}
use Rattle.number_tables.proofs.Members.{members-cleared}
use Rattle.number_tables.proofs.number_set.NumberSet.remove.Goals as goal

-- a word that isn't 0
some : (word : ℕ) → false ≡ (word == 0) → 0 < word
some word other = omega (arith, eqb-false word 0 (sym other))

none : (word : ℕ) → true ≡ (word == 0) → word ≡ 0
none word same = eqb-true word 0 (sym same)

pub invariant_of-self : goal.invariant_of-self
invariant_of-self c =
    let words : ClearsBit c.self.inside.words.items c.clear_bit.new.words c.args.number = rw c.deref_mut.ensures.value at c.clear_bit.ensures.clears in
    rw (with_items_is c.self.inside.words c.clear_bit.new.words (c.clear_bit.ensures.clears.length_kept ∙ c.deref_mut.ensures.len))
    (IsSummed-word c.self.inside.words.items c.self.inside.groups.items c.self.inside.top c.args.number c.self.invariant c.clear_bit.new.words words (some _ c.if-not-clear_bit.ensures.empty))

pub invariant_of-self-then-not-clear_bit-2 : goal.invariant_of-self-then-not-clear_bit-2
invariant_of-self-then-not-clear_bit-2 c =
    let words : ClearsBit c.self.inside.words.items c.clear_bit.new.words c.args.number = rw c.deref_mut.ensures.value at c.clear_bit.ensures.clears in
    let groups : ClearsBit c.self.inside.groups.items c.clear_bit-2.new.words (c.args.number / 64) = rw c.deref_mut-2.ensures.value at c.clear_bit-2.ensures.clears in
    rw (with_items_is c.self.inside.words c.clear_bit.new.words (c.clear_bit.ensures.clears.length_kept ∙ c.deref_mut.ensures.len), with_items_is c.self.inside.groups c.clear_bit-2.new.words (c.clear_bit-2.ensures.clears.length_kept ∙ c.deref_mut-2.ensures.len))
    (IsSummed-group c.self.inside.words.items c.self.inside.groups.items c.self.inside.top c.args.number c.self.invariant c.clear_bit.new.words c.clear_bit-2.new.words words (none _ c.if-not-clear_bit.ensures.empty) groups (some _ c.if-not-clear_bit-2.ensures.empty))

pub invariant_of-self-2 : goal.invariant_of-self-2
invariant_of-self-2 c =
    let words : ClearsBit c.self.inside.words.items c.clear_bit.new.words c.args.number = rw c.deref_mut.ensures.value at c.clear_bit.ensures.clears in
    let groups : ClearsBit c.self.inside.groups.items c.clear_bit-2.new.words (c.args.number / 64) = rw c.deref_mut-2.ensures.value at c.clear_bit-2.ensures.clears in
    rw (with_items_is c.self.inside.words c.clear_bit.new.words (c.clear_bit.ensures.clears.length_kept ∙ c.deref_mut.ensures.len), with_items_is c.self.inside.groups c.clear_bit-2.new.words (c.clear_bit-2.ensures.clears.length_kept ∙ c.deref_mut-2.ensures.len))
    (IsSummed-top c.self.inside.words.items c.self.inside.groups.items c.self.inside.top c.args.number c.self.invariant c.clear_bit.new.words c.clear_bit-2.new.words c.clear_bit-3.new.words words (none _ c.if-not-clear_bit.ensures.empty) groups (none _ c.if-not-clear_bit-2.ensures.empty) c.clear_bit-3.ensures.clears)

pub returns-then-not-clear_bit : goal.returns-then-not-clear_bit
returns-then-not-clear_bit c =
    let words : ClearsBit c.self.inside.words.items c.clear_bit.new.words c.args.number = rw c.deref_mut.ensures.value at c.clear_bit.ensures.clears in
    rw (with_items_is c.self.inside.words c.clear_bit.new.words (c.clear_bit.ensures.clears.length_kept ∙ c.deref_mut.ensures.len))
    (members-cleared c.self.inside.words.items c.clear_bit.new.words c.args.number words ∙ ap (λ s. remove s c.args.number) c.self.view_is)

pub returns-then-not-clear_bit-2 : goal.returns-then-not-clear_bit-2
returns-then-not-clear_bit-2 c =
    let words : ClearsBit c.self.inside.words.items c.clear_bit.new.words c.args.number = rw c.deref_mut.ensures.value at c.clear_bit.ensures.clears in
    rw (with_items_is c.self.inside.words c.clear_bit.new.words (c.clear_bit.ensures.clears.length_kept ∙ c.deref_mut.ensures.len))
    (members-cleared c.self.inside.words.items c.clear_bit.new.words c.args.number words ∙ ap (λ s. remove s c.args.number) c.self.view_is)

pub returns : goal.returns
returns c =
    let words : ClearsBit c.self.inside.words.items c.clear_bit.new.words c.args.number = rw c.deref_mut.ensures.value at c.clear_bit.ensures.clears in
    rw (with_items_is c.self.inside.words c.clear_bit.new.words (c.clear_bit.ensures.clears.length_kept ∙ c.deref_mut.ensures.len))
    (members-cleared c.self.inside.words.items c.clear_bit.new.words c.args.number words ∙ ap (λ s. remove s c.args.number) c.self.view_is)
