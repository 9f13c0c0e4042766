-- The bits of a small set, whose words have one summary.
use Rattle.std.proofs.Common.{◌≡◌, ℕ, ◌/◌, ◌<◌, List, get_or, replicate, zero, suc, inl, inr, refl, sym, ◌∙◌, arith}
use Rattle.std.proofs.lemmas.Bool.{cases_eq, ltb-false}
use Rattle.std.proofs.lemmas.List.{get_or_past}
use Rattle.number_tables.specs.SetInside.{members, IsZero, SetsBit, ClearsBit, IsSmallSummed, IsLowestBit}
use Rattle.number_tables.proofs.SummaryLemmas.{bit_within, no_bit, IsSummary-set, IsSummary-more, IsSummary-emptied, summary_bit}
use Rattle.number_tables.proofs.Members.{contains-members}
use Rattle.number_tables.proofs.LowestLemmas.{IsLowest}

pub zero_row : (count : ℕ) → IsZero (replicate count 0)
zero_row zero word = refl
zero_row (suc count) zero = refl
zero_row (suc count) (suc word) = zero_row count word

module _ (words summary : List ℕ) (number : ℕ) (is : IsSmallSummed words summary) where
  pub IsSmallSummed-set : (new_words new_summary : List ℕ) → SetsBit words new_words number → SetsBit summary new_summary (number / 64) → IsSmallSummed new_words new_summary
  IsSmallSummed-set new_words new_summary sets sets_summary = record {
    words_length = sets.length_kept ∙ is.words_length;
    summary_length = sets_summary.length_kept ∙ is.summary_length;
    of_words = IsSummary-set words new_words summary new_summary number is.of_words sets sets_summary;
  }

  -- its word had bits
  pub IsSmallSummed-more : (new_words : List ℕ) → SetsBit words new_words number → 0 < get_or words (number / 64) 0 → IsSmallSummed new_words summary
  IsSmallSummed-more new_words sets some = record {
    words_length = sets.length_kept ∙ is.words_length;
    summary_length = is.summary_length;
    of_words = IsSummary-more words new_words summary number is.of_words sets some;
  }

  -- its word has no other bit
  pub IsSmallSummed-emptied : (new_words new_summary : List ℕ) → ClearsBit words new_words number → get_or new_words (number / 64) 0 ≡ 0 → ClearsBit summary new_summary (number / 64) → IsSmallSummed new_words new_summary
  IsSmallSummed-emptied new_words new_summary clears empty clears_summary = record {
    words_length = clears.length_kept ∙ is.words_length;
    summary_length = clears_summary.length_kept ∙ is.summary_length;
    of_words = IsSummary-emptied words new_words summary new_summary number is.of_words clears empty clears_summary;
  }

-- where the summary is 0, nothing is set
pub zero_from_summary : (words summary : List ℕ) → IsSmallSummed words summary → get_or summary 0 0 ≡ 0 → IsZero words
zero_from_summary words summary is none word =
    omega (arith, ltb-false 0 (get_or words word 0) (sym (is.of_words word) ∙ no_bit summary unset word))
  where
    unset : IsZero summary
    unset word = elim (cases_eq word 0) [
      | inl here ↦ rw here none
      | inr other ↦ get_or_past summary word 0 (omega (arith, is.summary_length, other))
    ]

-- the lowest bit of the summary and that of its word lead to the lowest member
pub IsLowest-small : (words summary : List ℕ) (word number : ℕ) → IsSmallSummed words summary → IsLowestBit summary 0 word → IsLowestBit words word number → IsLowest (members words) number
IsLowest-small words summary word number is of_summary of_word = record {
  has = contains-members words number ∙ of_word.set;
  least = λ n has.
      let bit = sym (contains-members words n) ∙ has in
      let summary_has = summary_bit words summary n is.of_words bit in
      let first : n / 64 / 64 ≡ 0 = omega (arith, bit_within summary (n / 64) summary_has, is.summary_length) in
      let behind = of_summary.lowest (n / 64) summary_has first in
      elim (cases_eq (n / 64) word) [
        | inl same ↦ of_word.lowest n bit same
        | inr other ↦ omega (arith, behind, other, of_word.within)
      ];
}
