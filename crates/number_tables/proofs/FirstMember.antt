-- The three lowest bits, of the top, of its group and of its word, lead to the lowest member.
use Rattle.std.proofs.Common.{◌≡◌, ℕ, ◌/◌, ◌≤◌, List, inl, inr, sym, ◌∙◌, arith}
use Rattle.std.proofs.lemmas.Bool.{cases_eq}
use Rattle.number_tables.specs.SetInside.{members, IsSummed, IsLowestBit}
use Rattle.number_tables.proofs.SummaryLemmas.{bit_within, summary_bit}
use Rattle.number_tables.proofs.Members.{contains-members}
use Rattle.number_tables.proofs.LowestLemmas.{IsLowest}

at_most : (n number word group : ℕ) → group ≤ n / 64 / 64 → (n / 64 / 64 ≡ group → word ≤ n / 64) → (n / 64 ≡ word → number ≤ n) → word / 64 ≡ group → number / 64 ≡ word → number ≤ n
at_most n number word group low in_group in_word word_is number_is =
    elim (cases_eq (n / 64 / 64) group) [
      | inl same_group ↦
          let behind = in_group same_group in
          elim (cases_eq (n / 64) word) [
            | inl same_word ↦ in_word same_word
            | inr other ↦ omega (arith, behind, other, number_is)
          ]
      | inr other ↦ omega (arith, low, other, word_is, number_is)
    ]

pub IsLowest-members : (words groups top : List ℕ) (group word number : ℕ) → IsSummed words groups top → IsLowestBit top 0 group → IsLowestBit groups group word → IsLowestBit words word number →
    IsLowest (members words) number
IsLowest-members words groups top group word number is of_top of_group of_word = record {
  has = contains-members words number ∙ of_word.set;
  least = λ n has.
      let bit = sym (contains-members words n) ∙ has in
      let group_bit = summary_bit words groups n is.of_words bit in
      let top_bit = summary_bit groups top (n / 64) is.of_groups group_bit in
      let first : n / 64 / 64 / 64 ≡ 0 = omega (arith, bit_within top (n / 64 / 64) top_bit, is.top_length) in
      at_most n number word group (of_top.lowest (n / 64 / 64) top_bit first) (of_group.lowest (n / 64) group_bit) (of_word.lowest n bit) of_group.within of_word.within;
}
