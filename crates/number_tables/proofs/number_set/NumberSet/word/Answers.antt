use Rattle.std.proofs.Common.{ℕ, sym, subst}
use Rattle.number_tables.specs.Numbers.{Numbers, HasBitsOf}
use Rattle.number_tables.specs.SetInside.{members}
use Rattle.number_tables.proofs.Members.{bits_of_word}
use Rattle.number_tables.proofs.number_set.NumberSet.word.Goals as goal

pub returns : goal.returns
returns c =
    let word = rw c.deref.ensures.value at c.word_at.ensures in
    subst (λ (s : Numbers). HasBitsOf s c.args.place c.word_at.result) c.self.view_is
    (subst (λ (word : ℕ). HasBitsOf (members c.self.inside.words.items) c.args.place word) (sym word) (bits_of_word c.self.inside.words.items c.args.place))
