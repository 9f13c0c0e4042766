-- Summaries stay true where a bit is set or cleared, and lead from the top to the lowest bit of all.
use Rattle.std.proofs.Common.{◌≡◌, ℕ, ◌+◌, ◌*◌, ◌/◌, ◌%◌, ◌<◌, ◌≤◌, List, [], ◌∷◌, zero, suc, length, get_or, true, false, inl, inr, refl, sym, ◌∙◌, arith, eq-eqb, eqb-true, lt-ltb, ltb-true}
use Rattle.std.proofs.lemmas.Bool.{cases_eq, cases_lt, ne_eqb, ltb-false}
use Rattle.std.proofs.lemmas.List.{get_or_past}
use Rattle.std.proofs.lemmas.Nat.Bits.{bit_at-zero}
use Rattle.std.specs.Int.{bit_at}
use Rattle.number_tables.specs.SetInside.{has_bit, IsZero, SetsBit, ClearsBit, PutsWord, IsSummary, IsSummed, ZeroesGroup, ZeroesBelow}

-- a word in which a bit is set isn't 0
pub word_of_bit : (words : List ℕ) (n : ℕ) → has_bit words n ≡ true → 0 < get_or words (n / 64) 0
word_of_bit words n has =
    elim (cases_eq (get_or words (n / 64) 0) 0) [
      | inl none ↦
          let set = eqb-true (bit_at (get_or words (n / 64) 0) (n % 64)) 1 has in
          let zero : bit_at 0 (n % 64) ≡ 1 = rw none at set in
          absurd (omega (arith, zero, bit_at-zero (n % 64)))
      | inr some ↦ omega (arith, some)
    ]

-- no bit is set behind the last word
pub bit_within : (words : List ℕ) (n : ℕ) → has_bit words n ≡ true → n < 64 * length words
bit_within words n has =
    let some = word_of_bit words n has in
    elim (cases_lt (n / 64) (length words)) [
      | inl within ↦ omega (arith, within)
      | inr past ↦ absurd (omega (arith, some, get_or_past words (n / 64) 0 past))
    ]

pub no_bit : (words : List ℕ) → IsZero words → (n : ℕ) → has_bit words n ≡ false
no_bit words none n = rw (none (n / 64), bit_at-zero (n % 64)) refl

pub IsSummary-zero : (words summary : List ℕ) → IsZero words → IsZero summary → IsSummary words summary
IsSummary-zero words summary none unset word = no_bit summary unset word ∙ rw (none word) refl

pub IsSummary-set : (words new summary news : List ℕ) (number : ℕ) → IsSummary words summary → SetsBit words new number → SetsBit summary news (number / 64) → IsSummary new news
IsSummary-set words new summary news number is sets summed word =
    elim (cases_eq word (number / 64)) [
      | inl here ↦
          let has : has_bit new number ≡ true = sets.bits number ∙ rw (eq-eqb number number refl) refl in
          summed.bits word ∙ rw (here, eq-eqb (number / 64) (number / 64) refl, lt-ltb 0 (get_or new (number / 64) 0) (word_of_bit new number has)) refl
      | inr other ↦ summed.bits word ∙ rw (ne_eqb word (number / 64) other, sets.others word other) (is word)
    ]

-- a word that isn't 0 was put in the place of another
pub IsSummary-put : (words new summary news : List ℕ) (place word : ℕ) → IsSummary words summary → PutsWord words new place word → 0 < word → SetsBit summary news place → IsSummary new news
IsSummary-put words new summary news place word is puts some summed at =
    elim (cases_eq at place) [
      | inl here ↦ summed.bits at ∙ rw (here, eq-eqb place place refl, lt-ltb 0 (get_or new place 0) (omega (arith, puts.here, some))) refl
      | inr other ↦ summed.bits at ∙ rw (ne_eqb at place other, puts.others at other) (is at)
    ]

-- a bit was set in a word that had one
pub IsSummary-more : (words new summary : List ℕ) (number : ℕ) → IsSummary words summary → SetsBit words new number → 0 < get_or words (number / 64) 0 → IsSummary new summary
IsSummary-more words new summary number is sets some word =
    elim (cases_eq word (number / 64)) [
      | inl here ↦
          let has : has_bit new number ≡ true = sets.bits number ∙ rw (eq-eqb number number refl) refl in
          is word ∙ rw (here, lt-ltb 0 (get_or words (number / 64) 0) some, lt-ltb 0 (get_or new (number / 64) 0) (word_of_bit new number has)) refl
      | inr other ↦ is word ∙ rw (sets.others word other) refl
    ]

-- the last bit of a word was cleared, and with it the word's bit
pub IsSummary-emptied : (words new summary news : List ℕ) (number : ℕ) → IsSummary words summary → ClearsBit words new number → get_or new (number / 64) 0 ≡ 0 → ClearsBit summary news (number / 64) → IsSummary new news
IsSummary-emptied words new summary news number is clears empty summed word =
    elim (cases_eq word (number / 64)) [
      | inl here ↦ summed.bits word ∙ rw (here, eq-eqb (number / 64) (number / 64) refl, empty) refl
      | inr other ↦ summed.bits word ∙ rw (ne_eqb word (number / 64) other, clears.others word other) (is word)
    ]

-- a bit was cleared of a word that has others
pub IsSummary-kept : (words new summary : List ℕ) (number : ℕ) → IsSummary words summary → ClearsBit words new number → 0 < get_or new (number / 64) 0 → IsSummary new summary
IsSummary-kept words new summary number is clears some word =
    elim (cases_eq word (number / 64)) [
      | inl here ↦
          is word ∙ rw (here, lt-ltb 0 (get_or words (number / 64) 0) (omega (arith, clears.less, some)), lt-ltb 0 (get_or new (number / 64) 0) some) refl
      | inr other ↦ is word ∙ rw (clears.others word other) refl
    ]

-- what the bits of a summary say
pub summary_word : (words summary : List ℕ) (word : ℕ) → IsSummary words summary → has_bit summary word ≡ true → 0 < get_or words word 0
summary_word words summary word is has = ltb-true 0 (get_or words word 0) (sym (is word) ∙ has)

pub summary_bit : (words summary : List ℕ) (n : ℕ) → IsSummary words summary → has_bit words n ≡ true → has_bit summary (n / 64) ≡ true
summary_bit words summary n is has = is (n / 64) ∙ lt-ltb 0 (get_or words (n / 64) 0) (word_of_bit words n has)

pub IsSummed-zero : (words groups top : List ℕ) → length words ≡ 1024 → length groups ≡ 16 → length top ≡ 1 → IsZero words → IsZero groups → IsZero top → IsSummed words groups top
IsSummed-zero words groups top words_length groups_length top_length no_words no_groups no_top = record {
  words_length = words_length;
  groups_length = groups_length;
  top_length = top_length;
  of_words = IsSummary-zero words groups no_words no_groups;
  of_groups = IsSummary-zero groups top no_groups no_top;
}

pub IsSummed-put : (words groups top new_words new_groups new_top : List ℕ) (place word : ℕ) → IsSummed words groups top → PutsWord words new_words place word → 0 < word → SetsBit groups new_groups place → SetsBit top new_top (place / 64) →
    IsSummed new_words new_groups new_top
IsSummed-put words groups top new_words new_groups new_top place word is puts some sets_group sets_top = record {
  words_length = puts.length_kept ∙ is.words_length;
  groups_length = sets_group.length_kept ∙ is.groups_length;
  top_length = sets_top.length_kept ∙ is.top_length;
  of_words = IsSummary-put words new_words groups new_groups place word is.of_words puts some sets_group;
  of_groups = IsSummary-set groups new_groups top new_top place is.of_groups sets_group sets_top;
}

module _ (words groups top : List ℕ) (number : ℕ) (is : IsSummed words groups top) where
  pub IsSummed-set : (new_words new_groups new_top : List ℕ) → SetsBit words new_words number → SetsBit groups new_groups (number / 64) → SetsBit top new_top (number / 64 / 64) →
      IsSummed new_words new_groups new_top
  IsSummed-set new_words new_groups new_top sets sets_group sets_top = record {
    words_length = sets.length_kept ∙ is.words_length;
    groups_length = sets_group.length_kept ∙ is.groups_length;
    top_length = sets_top.length_kept ∙ is.top_length;
    of_words = IsSummary-set words new_words groups new_groups number is.of_words sets sets_group;
    of_groups = IsSummary-set groups new_groups top new_top (number / 64) is.of_groups sets_group sets_top;
  }

  -- its word had bits
  pub IsSummed-more : (new_words : List ℕ) → SetsBit words new_words number → 0 < get_or words (number / 64) 0 → IsSummed new_words groups top
  IsSummed-more new_words sets some = record {
    words_length = sets.length_kept ∙ is.words_length;
    groups_length = is.groups_length;
    top_length = is.top_length;
    of_words = IsSummary-more words new_words groups number is.of_words sets some;
    of_groups = is.of_groups;
  }

  -- its word had no bits, but its group did
  pub IsSummed-more_group : (new_words new_groups : List ℕ) → SetsBit words new_words number → SetsBit groups new_groups (number / 64) → 0 < get_or groups (number / 64 / 64) 0 → IsSummed new_words new_groups top
  IsSummed-more_group new_words new_groups sets sets_group some = record {
    words_length = sets.length_kept ∙ is.words_length;
    groups_length = sets_group.length_kept ∙ is.groups_length;
    top_length = is.top_length;
    of_words = IsSummary-set words new_words groups new_groups number is.of_words sets sets_group;
    of_groups = IsSummary-more groups new_groups top (number / 64) is.of_groups sets_group some;
  }

  -- its word has other bits
  pub IsSummed-word : (new_words : List ℕ) → ClearsBit words new_words number → 0 < get_or new_words (number / 64) 0 → IsSummed new_words groups top
  IsSummed-word new_words clears some = record {
    words_length = clears.length_kept ∙ is.words_length;
    groups_length = is.groups_length;
    top_length = is.top_length;
    of_words = IsSummary-kept words new_words groups number is.of_words clears some;
    of_groups = is.of_groups;
  }

  -- its word has no other bit, but its group has
  pub IsSummed-group : (new_words new_groups : List ℕ) → ClearsBit words new_words number → get_or new_words (number / 64) 0 ≡ 0 →
      ClearsBit groups new_groups (number / 64) → 0 < get_or new_groups (number / 64 / 64) 0 → IsSummed new_words new_groups top
  IsSummed-group new_words new_groups clears empty clears_group some = record {
    words_length = clears.length_kept ∙ is.words_length;
    groups_length = clears_group.length_kept ∙ is.groups_length;
    top_length = is.top_length;
    of_words = IsSummary-emptied words new_words groups new_groups number is.of_words clears empty clears_group;
    of_groups = IsSummary-kept groups new_groups top (number / 64) is.of_groups clears_group some;
  }

  -- neither its word nor its group has another bit
  pub IsSummed-top : (new_words new_groups new_top : List ℕ) → ClearsBit words new_words number → get_or new_words (number / 64) 0 ≡ 0 →
      ClearsBit groups new_groups (number / 64) → get_or new_groups (number / 64 / 64) 0 ≡ 0 → ClearsBit top new_top (number / 64 / 64) → IsSummed new_words new_groups new_top
  IsSummed-top new_words new_groups new_top clears empty clears_group empty_group clears_top = record {
    words_length = clears.length_kept ∙ is.words_length;
    groups_length = clears_group.length_kept ∙ is.groups_length;
    top_length = clears_top.length_kept ∙ is.top_length;
    of_words = IsSummary-emptied words new_words groups new_groups number is.of_words clears empty clears_group;
    of_groups = IsSummary-emptied groups new_groups top new_top (number / 64) is.of_groups clears_group empty_group clears_top;
  }

-- where the top is 0, nothing is set
pub zero_from_top : (words groups top : List ℕ) → IsSummed words groups top → get_or top 0 0 ≡ 0 → IsZero words
zero_from_top words groups top is none =
    let unset : IsZero top = λ word. elim (cases_eq word 0) [
      | inl here ↦ rw here none
      | inr other ↦ get_or_past top word 0 (omega (arith, is.top_length, other))
    ] in
    zero_below groups words is.of_words (zero_below top groups is.of_groups unset)
  where
    zero_below : (summary words : List ℕ) → IsSummary words summary → IsZero summary → IsZero words
    zero_below summary words is unset word =
        omega (arith, ltb-false 0 (get_or words word 0) (sym (is word) ∙ no_bit summary unset word))

pub zero_top : IsZero (0 ∷ [])
zero_top zero = refl
zero_top (suc n) = refl

-- groups are made 0 one after the other, and those whose summary is 0 are so already
pub zeroes_none : (words : List ℕ) → ZeroesBelow words words 0
zeroes_none words = record { zero = λ word below. absurd (omega arith); others = λ word past. refl }

pub zeroes_more : (old words new : List ℕ) (group : ℕ) → ZeroesBelow old words group → ZeroesGroup words new group → ZeroesBelow old new (group + 1)
zeroes_more old words new group below zeroes = record {
  zero = λ word past. elim (cases_eq (word / 64) group) [
    | inl here ↦ zeroes.zero word here
    | inr other ↦ zeroes.others word other ∙ below.zero word (omega arith)
  ];
  others = λ word past. zeroes.others word (λ here. absurd (omega arith)) ∙ below.others word (omega arith);
}

pub zeroes_kept : (old words summary : List ℕ) (group : ℕ) → ZeroesBelow old words group → IsSummary old summary → get_or summary group 0 ≡ 0 → ZeroesBelow old words (group + 1)
zeroes_kept old words summary group below is none = record {
  zero = λ word past. elim (cases_eq (word / 64) group) [
    | inl here ↦
        let unset : has_bit summary word ≡ false = rw (here, none, bit_at-zero (word % 64)) refl in
        let before : get_or old word 0 ≡ 0 = omega (arith, ltb-false 0 (get_or old word 0) (sym (is word) ∙ unset)) in
        below.others word (omega arith) ∙ before
    | inr other ↦ below.zero word (omega arith)
  ];
  others = λ word past. below.others word (omega arith);
}

pub zeroes_all : (old words : List ℕ) (group groups : ℕ) → ZeroesBelow old words group → groups ≤ group → length words ≡ 64 * groups → IsZero words
zeroes_all old words group groups below all same word =
    elim (cases_lt (word / 64) group) [
      | inl here ↦ below.zero word here
      | inr past ↦ get_or_past words word 0 (omega (arith, past, all, same))
    ]
