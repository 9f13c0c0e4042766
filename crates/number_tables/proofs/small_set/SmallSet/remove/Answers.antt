use Rattle.std.proofs.Common.{◌≡◌, ℕ, ◌==◌, true, ap, sym, ◌∙◌, eqb-true}
use Rattle.std.specs.FinSet.{remove}
use Rattle.number_tables.proofs.SmallMembers.{IsSmallSummed-emptied}
use Rattle.number_tables.proofs.Members.{members-cleared}
use Rattle.number_tables.proofs.small_set.SmallSet.remove.Goals as goal

none : (word : ℕ) → true ≡ (word == 0) → word ≡ 0
none word same = eqb-true word 0 (sym same)

pub invariant_of-self : goal.invariant_of-self
invariant_of-self c =
    IsSmallSummed-emptied c.self.inside.words c.self.inside.summary c.args.number c.self.invariant c.clear_bit.new.words c.clear_bit-then-clear_bit.new.words c.clear_bit.ensures.clears (none _ c.if-clear_bit.ensures.empty) c.clear_bit-then-clear_bit.ensures.clears

pub returns-then-clear_bit : goal.returns-then-clear_bit
returns-then-clear_bit c =
    members-cleared c.self.inside.words c.clear_bit.new.words c.args.number c.clear_bit.ensures.clears
    ∙ ap (λ s. remove s c.args.number) c.self.view_is

pub returns-else-clear_bit : goal.returns-else-clear_bit
returns-else-clear_bit c =
    members-cleared c.self.inside.words c.clear_bit.new.words c.args.number c.clear_bit.ensures.clears
    ∙ ap (λ s. remove s c.args.number) c.self.view_is
