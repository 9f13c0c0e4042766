-- How a set is held: words with a bit for each number, and summaries with a bit for each word.
use Rattle.std.specs.Prelude.{◌≡◌, ◌≢◌, ℕ, ◌*◌, ◌/◌, ◌%◌, ◌<◌, ◌≤◌, ◌==◌, nat_lt, Bool, true, not, ◌&&◌, ◌||◌, List, length, filter, slice_index}
use Rattle.std.specs.List.{range_with_len}
use Rattle.std.specs.Int.{bit_at}
use Rattle.std.specs.FinSet.{from_list}
use Rattle.number_tables.specs.Numbers.{Numbers}

-- whether the bit of this number is set
abbrev pub has_bit : List ℕ → ℕ → Bool
has_bit words number = bit_at (slice_index words (number / 64)) (number % 64) == 1

-- the numbers whose bits are set
unfoldable pub members : List ℕ → Numbers
members words = from_list (filter (has_bit words) (range_with_len 0 (64 * length words)))

-- No bit is set.
abbrev pub IsZero : List ℕ → Type 0
IsZero words = (word : ℕ) → slice_index words word ≡ 0

-- No word changed but this one.
abbrev pub SameWordsBut : List ℕ → List ℕ → ℕ → Type 0
SameWordsBut old new changed =
    (word : ℕ) → word ≢ changed → slice_index new word ≡ slice_index old word

-- One bit was set. No other bit changed, and no other word.
pub record SetsBit (old new : List ℕ) (number : ℕ) : Type 0 where
  pub length_kept : length new ≡ length old
  pub bits : (n : ℕ) → has_bit new n ≡ ((n == number) || has_bit old n)
  pub others : SameWordsBut old new (number / 64)

-- One bit was cleared, so that its word isn't greater than before. No other bit changed, and no other word.
pub record ClearsBit (old new : List ℕ) (number : ℕ) : Type 0 where
  pub length_kept : length new ≡ length old
  pub bits : (n : ℕ) → has_bit new n ≡ (not (n == number) && has_bit old n)
  pub others : SameWordsBut old new (number / 64)
  pub less : slice_index new (number / 64) ≤ slice_index old (number / 64)

-- A word was put in the place of another. No other word changed.
pub record PutsWord (old new : List ℕ) (place word : ℕ) : Type 0 where
  pub length_kept : length new ≡ length old
  pub here : slice_index new place ≡ word
  pub others : SameWordsBut old new place

-- The 64 words of a group are 0, and no other word changed.
pub record ZeroesGroup (old new : List ℕ) (group : ℕ) : Type 0 where
  pub zero : (word : ℕ) → word / 64 ≡ group → slice_index new word ≡ 0
  pub others : (word : ℕ) → word / 64 ≢ group
      → slice_index new word ≡ slice_index old word

-- The lowest bit of a word, by its number in the row: it is set, and no lower one of the word is.
pub record IsLowestBit (words : List ℕ) (word number : ℕ) : Type 0 where
  pub set : has_bit words number ≡ true
  pub within : number / 64 ≡ word
  pub lowest : (n : ℕ) → has_bit words n ≡ true → n / 64 ≡ word → number ≤ n

-- Each bit of the summary says whether the word of its number has a bit that is set.
abbrev pub IsSummary : List ℕ → List ℕ → Type 0
IsSummary words summary = (word : ℕ) → has_bit summary word ≡ nat_lt 0 (slice_index words word)

-- A bit for each of 65,536 numbers, a bit for each of their 1,024 words, and a bit for each of the 16 words of these.
pub record IsSummed (words groups top : List ℕ) : Type 0 where
  pub words_length : length words ≡ 1024
  pub groups_length : length groups ≡ 16
  pub top_length : length top ≡ 1
  pub of_words : IsSummary words groups
  pub of_groups : IsSummary groups top

-- A bit for each of 1,024 numbers, and a bit for each of their 16 words.
pub record IsSmallSummed (words summary : List ℕ) : Type 0 where
  pub words_length : length words ≡ 16
  pub summary_length : length summary ≡ 1
  pub of_words : IsSummary words summary

-- The words of the groups below this one are 0, and the others are as they were.
pub record ZeroesBelow (old new : List ℕ) (group : ℕ) : Type 0 where
  pub zero : (word : ℕ) → word / 64 < group → slice_index new word ≡ 0
  pub others : (word : ℕ) → group ≤ word / 64
      → slice_index new word ≡ slice_index old word
