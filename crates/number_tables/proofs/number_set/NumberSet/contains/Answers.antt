use Rattle.std.proofs.Common.{ap, sym, ◌∙◌}
use Rattle.std.specs.FinSet.{contains}
use Rattle.number_tables.proofs.Members.{contains-members}
use Rattle.number_tables.proofs.number_set.NumberSet.contains.Goals as goal

pub returns : goal.returns
returns c =
    let has = rw c.deref.ensures.value at c.has_bit.ensures in
    has ∙ sym (contains-members c.self.inside.words.items c.args.number) ∙ ap (λ s. contains s c.args.number) c.self.view_is
