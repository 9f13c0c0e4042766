use Rattle.std.proofs.Common.{length, inl, inr, arith}
use Rattle.std.proofs.lemmas.Bool.{cases_lt}
use Rattle.std.proofs.lemmas.List.{get_or_past}
use Rattle.std.proofs.Math.Facts.{Fits-lt-pow}
use Rattle.number_tables.proofs.Bits.{lowest_of_word}
use Rattle.number_tables.proofs.words.lowest_bit.Goals as goal

pub overflow_add-result : goal.overflow_add-result
overflow_add-result c =
    let is = lowest_of_word c.args.words.now c.args.word c.requires.some (Fits-lt-pow (c.type_inv.words c.args.word)) in
    elim (cases_lt c.args.word (length c.args.words.now)) [
      | inl within ↦ omega (arith, within, is.small)
      | inr past ↦ absurd (omega (arith, c.requires.some, get_or_past c.args.words.now c.args.word 0 past))
    ]

pub returns : goal.returns
returns c = (lowest_of_word c.args.words.now c.args.word c.requires.some (Fits-lt-pow (c.type_inv.words c.args.word))).is
