-- One bit of a row of words that is set or cleared, and the lowest bit of a word.
use Rattle.std.proofs.Common.{◌≡◌, ℕ, ◌+◌, ◌*◌, ◌/◌, ◌%◌, ◌^◌, ◌<◌, List, length, get_or, set, inl, inr, refl, ap, arith, eq-eqb, eqb-true, w64, get_or-set_same, get_or-set_other}
use Rattle.std.proofs.lemmas.Bool.{cases_eq, cases_lt, ne_eqb}
use Rattle.std.proofs.Math.ListN.{length-set}
use Rattle.std.proofs.lemmas.Nat.{and_le_l}
use Rattle.std.proofs.lemmas.Nat.Bits.{bit_at_set_same, bit_at_set_other, bit_at_clear_same, bit_at_clear_other, bit_at-trailing_zeros}
use Rattle.std.specs.Prelude.{bit_and, bit_or}
use Rattle.std.specs.Int.{bit_at, bit_not, trailing_zeros}
use Rattle.number_tables.specs.SetInside.{SetsBit, ClearsBit, IsLowestBit}

-- two numbers of one word differ in their bits
same_number : (n number : ℕ) → n / 64 ≡ number / 64 → n % 64 ≡ number % 64 → n ≡ number
same_number n number word bit = omega arith

pub SetsBit-or : (words : List ℕ) (number : ℕ) → number / 64 < length words →
    SetsBit words (set words (number / 64) (bit_or (get_or words (number / 64) 0) (1 * 2 ^ (number % 64) % 2 ^ 64))) number
SetsBit-or words number within =
    let old : ℕ = get_or words (number / 64) 0 in
    let new : ℕ = bit_or old (1 * 2 ^ (number % 64) % 2 ^ 64) in
    let low : number % 64 < 64 = omega arith in
    record {
      length_kept = length-set words (number / 64) new;
      bits = λ n. elim (cases_eq (n / 64) (number / 64)) [
        | inl same ↦ elim (cases_eq (n % 64) (number % 64)) [
          | inl bit ↦
              rw (same, get_or-set_same words (number / 64) new 0 within, bit, bit_at_set_same w64 old (number % 64) low, eq-eqb n number (same_number n number same bit)) refl
          | inr bit ↦
              rw (same, get_or-set_same words (number / 64) new 0 within, bit_at_set_other w64 old (number % 64) low (n % 64) bit, ne_eqb n number (λ e. bit (ap (λ n. n % 64) e))) refl
        ]
        | inr other ↦
            rw (get_or-set_other words (number / 64) (n / 64) new 0 other, ne_eqb n number (λ e. other (ap (λ n. n / 64) e))) refl
      ];
      others = λ word other. get_or-set_other words (number / 64) word new 0 other;
    }

pub ClearsBit-and : (words : List ℕ) (number : ℕ) → number / 64 < length words →
    ClearsBit words (set words (number / 64) (bit_and (get_or words (number / 64) 0) (bit_not w64 (1 * 2 ^ (number % 64) % 2 ^ 64)))) number
ClearsBit-and words number within =
    let old : ℕ = get_or words (number / 64) 0 in
    let new : ℕ = bit_and old (bit_not w64 (1 * 2 ^ (number % 64) % 2 ^ 64)) in
    let low : number % 64 < 64 = omega arith in
    record {
      length_kept = length-set words (number / 64) new;
      bits = λ n.
          let small : n % 64 < 64 = omega arith in
          elim (cases_eq (n / 64) (number / 64)) [
            | inl same ↦ elim (cases_eq (n % 64) (number % 64)) [
              | inl bit ↦
                  rw (same, get_or-set_same words (number / 64) new 0 within, bit, bit_at_clear_same w64 old (number % 64) low, eq-eqb n number (same_number n number same bit)) refl
              | inr bit ↦
                  rw (same, get_or-set_same words (number / 64) new 0 within, bit_at_clear_other w64 old (number % 64) low (n % 64) small bit, ne_eqb n number (λ e. bit (ap (λ n. n % 64) e))) refl
            ]
            | inr other ↦
                rw (get_or-set_other words (number / 64) (n / 64) new 0 other, ne_eqb n number (λ e. other (ap (λ n. n / 64) e))) refl
          ];
      others = λ word other. get_or-set_other words (number / 64) word new 0 other;
      less = rw (get_or-set_same words (number / 64) new 0 within) (and_le_l old (bit_not w64 (1 * 2 ^ (number % 64) % 2 ^ 64)));
    }

-- the lowest bit of a word that isn't 0
pub record HasLowestBit (words : List ℕ) (word : ℕ) : Type 0 where
  pub small : trailing_zeros w64 (get_or words word 0) < 64
  pub is : IsLowestBit words word (word * 64 + trailing_zeros w64 (get_or words word 0))

pub lowest_of_word : (words : List ℕ) (word : ℕ) → 0 < get_or words word 0 → get_or words word 0 < 2 ^ 64 → HasLowestBit words word
lowest_of_word words word some fits =
    let value : ℕ = get_or words word 0 in
    let bit : ℕ = trailing_zeros w64 value in
    let is = bit_at-trailing_zeros w64 value some fits in
    let small : bit < 64 = is.0 in
    let here : (word * 64 + bit) / 64 ≡ word = omega arith in
    let low : (word * 64 + bit) % 64 ≡ bit = omega arith in
    record {
      small = small;
      is = record {
        set = rw (here, low, is.1) refl;
        within = here;
        lowest = λ n has same.
            elim (cases_lt (n % 64) bit) [
              | inl less ↦
                  let there = eqb-true (bit_at (get_or words (n / 64) 0) (n % 64)) 1 has in
                  let set : bit_at value (n % 64) ≡ 1 = rw same at there in
                  absurd (omega (arith, is.2 (n % 64) less, set))
              | inr more ↦ omega (arith, same, more)
            ];
      };
    }
