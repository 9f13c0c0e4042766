use Rattle.std.proofs.Common.{ap, sym, ◌∙◌, ltb-true}
use Rattle.std.specs.FinSet.{insert}
use Rattle.number_tables.proofs.SmallMembers.{IsSmallSummed-set, IsSmallSummed-more}
use Rattle.number_tables.proofs.Members.{members-set}
use Rattle.number_tables.proofs.small_set.SmallSet.insert.Goals as goal

pub invariant_of-self : goal.invariant_of-self
invariant_of-self c = IsSmallSummed-more c.self.inside.words c.self.inside.summary c.args.number c.self.invariant c.set_bit.new.words c.set_bit.ensures.sets (ltb-true 0 _ (sym c.if-set_bit.ensures.some))

pub invariant_of-self-2 : goal.invariant_of-self-2
invariant_of-self-2 c = IsSmallSummed-set c.self.inside.words c.self.inside.summary c.args.number c.self.invariant c.set_bit.new.words c.set_bit-2.new.words c.set_bit.ensures.sets c.set_bit-2.ensures.sets

pub returns-then-set_bit : goal.returns-then-set_bit
returns-then-set_bit c =
    members-set c.self.inside.words c.set_bit.new.words c.args.number c.set_bit.ensures.sets
    ∙ ap (λ s. insert s c.args.number) c.self.view_is

pub returns : goal.returns
returns c =
    members-set c.self.inside.words c.set_bit.new.words c.args.number c.set_bit.ensures.sets
    ∙ ap (λ s. insert s c.args.number) c.self.view_is
