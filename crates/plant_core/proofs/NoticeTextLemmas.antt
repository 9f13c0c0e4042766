-- The notices of a panel as text, four and 64 at once.
use Rattle.std.proofs.Common.{◌≡◌, ℕ, ◌+◌, ◌*◌, ◌/◌, ◌%◌, ◌^◌, ◌<◌, ◌==◌, ◌&&◌, zero, suc, Bool, true, false, List, [], ◌∷◌, ◌++◌, map, inl, inr, refl, sym, ap, ◌∙◌, arith, eqb-true}
use Rattle.std.proofs.lemmas.Bool.{cases_eq, and_parts, eqb-false}
use Rattle.std.proofs.lemmas.List.{append_assoc, append-nil}
use Rattle.std.proofs.lemmas.List.FromFn.{map-range_with_len_more}
use Rattle.std.proofs.lemmas.Nat.{shr-shr}
use Rattle.std.proofs.lemmas.Nat.Bits.{bit_at-lt}
use Rattle.std.specs.Prelude.{bit_and}
use Rattle.std.specs.Int.{bit_at}
use Rattle.std.specs.List.{range_with_len}
use Rattle.std.specs.FinSet.{contains}
use Rattle.change_boards.specs.Destinations.{Destinations, HasBitsOf}
use Rattle.change_boards.specs.Board.{Board}
use Rattle.plant_core.specs.StateText.{bit, notices_of}
use Rattle.plant_core.specs.WriteInside.{spread, notices_by, four_notices}

-- whether two functions agree below a number
unfoldable pub agree_below : (ℕ → ℕ) → (ℕ → ℕ) → ℕ → Bool
agree_below f g zero = true
agree_below f g (suc n) = f n == g n && agree_below f g n

pub agree_at : (f g : ℕ → ℕ) (n : ℕ) → agree_below f g n ≡ true → (at : ℕ) → at < n → f at ≡ g at
unfolding agree_below
agree_at f g zero all at below = absurd (omega arith)
agree_at f g (suc n) all at below =
    let both = and_parts (f n == g n) (agree_below f g n) all in
    elim (cases_eq at n) [ inl same ↦ rw same (eqb-true (f n) (g n) both.0) | inr other ↦ agree_at f g n both.1 at (omega arith) ]

-- four bits are spread by a product, of which each fourth of a number keeps one bit
pub spread_is : (bits : ℕ) → bits < 16 → bit_and (bits * 2113665) 16843009 ≡ spread bits
unfolding agree_below
spread_is bits below = agree_at (λ bits. bit_and (bits * 2113665) 16843009) spread 16 refl bits below

-- what is written of the numbers behind those that stand
pub bytes_more : (f g : ℕ → ℕ) (start count : ℕ) → ((number : ℕ) → number < count → g number ≡ f (start + number)) → map f (range_with_len 0 (start + count)) ≡ map f (range_with_len 0 start) ++ map g (range_with_len 0 count)
bytes_more f g start zero same =
    ap (λ (number : ℕ). map f (range_with_len 0 number)) (omega arith) ∙ sym (append-nil (map f (range_with_len 0 start)))
bytes_more f g start (suc count) same =
    let all : start + suc count ≡ start + count + 1 = omega arith in
    let next : suc count ≡ count + 1 = omega arith in
    ap (λ (number : ℕ). map f (range_with_len 0 number)) all
    ∙ map-range_with_len_more f 0 (start + count) (start + count) (omega arith)
    ∙ ap (λ front. front ++ f (start + count) ∷ []) (bytes_more f g start count (λ number below. same number (omega (arith, below))))
    ∙ append_assoc (map f (range_with_len 0 start)) (map g (range_with_len 0 count)) (f (start + count) ∷ [])
    ∙ ap (λ (last : ℕ). map f (range_with_len 0 start) ++ (map g (range_with_len 0 count) ++ last ∷ [])) (sym (same count (omega arith)))
    ∙ ap (λ more. map f (range_with_len 0 start) ++ more) (sym (map-range_with_len_more g 0 count count (omega arith)))
    ∙ ap (λ (number : ℕ). map f (range_with_len 0 start) ++ map g (range_with_len 0 number)) (sym next)

-- so many more are put behind those of the first numbers
pub so_many_more : (start items after : List ℕ) (byte : ℕ → ℕ) (first count all : ℕ) → first + count ≡ all → items ≡ start ++ map byte (range_with_len 0 first) → after ≡ items ++ map (λ at. byte (first + at)) (range_with_len 0 count) → after ≡ start ++ map byte (range_with_len 0 all)
so_many_more start items after byte first count all same stand behind =
    behind
    ∙ ap (λ front. front ++ map (λ at. byte (first + at)) (range_with_len 0 count)) stand
    ∙ append_assoc start (map byte (range_with_len 0 first)) (map (λ at. byte (first + at)) (range_with_len 0 count))
    ∙ ap (λ more. start ++ more) (sym (bytes_more byte (λ at. byte (first + at)) first count (λ number below. refl)))
    ∙ ap (λ (number : ℕ). start ++ map byte (range_with_len 0 number)) same

-- the bits behind those that were shifted out
shifted : (word first at : ℕ) → bit_at (word / 2 ^ first) at ≡ bit_at word (first + at)
shifted word first at = ap (λ (number : ℕ). number % 2) (shr-shr word first at)

shifted_notices : (source protect first at : ℕ) → notices_by (source / 2 ^ first) (protect / 2 ^ first) at ≡ notices_by source protect (first + at)
shifted_notices source protect first at = omega (arith, shifted source first at, shifted protect first at)

-- four more are put behind those of the lowest bits
pub four_more : (start items after four : List ℕ) (source protect quarter : ℕ) → items ≡ start ++ map (notices_by source protect) (range_with_len 0 (4 * quarter)) → four ≡ four_notices (source / 2 ^ (4 * quarter)) (protect / 2 ^ (4 * quarter)) → after ≡ items ++ four → after ≡ start ++ map (notices_by source protect) (range_with_len 0 (4 * (quarter + 1)))
four_more start items after four source protect quarter stand is behind =
    let first : ℕ = 4 * quarter in
    let low = notices_by (source / 2 ^ first) (protect / 2 ^ first) in
    let all = notices_by source protect in
    let next : first + 4 ≡ 4 * (quarter + 1) = omega arith in
    behind
    ∙ ap (λ front. front ++ four) stand
    ∙ append_assoc start (map all (range_with_len 0 first)) four
    ∙ ap (λ more. start ++ (map all (range_with_len 0 first) ++ more)) is
    ∙ ap (λ more. start ++ more) (sym (bytes_more all low first 4 (λ at below. shifted_notices source protect first at)))
    ∙ ap (λ (count : ℕ). start ++ map all (range_with_len 0 count)) next

-- the bit of a destination tells whether it has the notice
bit_tells : (numbers : Destinations) (place word at : ℕ) → HasBitsOf numbers place word → at < 64 → bit_at word at ≡ bit (contains numbers (64 * place + at))
bit_tells numbers place word at has below = told (contains numbers (64 * place + at)) (has at below)
  where
    told : (is : Bool) → (bit_at word at == 1) ≡ is → bit_at word at ≡ bit is
    told true one = eqb-true (bit_at word at) 1 one
    told false other = omega (arith, bit_at-lt word at, eqb-false (bit_at word at) 1 other)

pub notices_told : (board : Board) (place source protect at : ℕ) → HasBitsOf board.source place source → HasBitsOf board.protect place protect → at < 64 → notices_by source protect at ≡ notices_of board (64 * place + at)
notices_told board place source protect at sources protects below =
    omega (arith, bit_tells board.source place source at sources below, bit_tells board.protect place protect at protects below)

-- what is written from the bits of two words are the notices of 64 destinations
pub notices_written : (start items : List ℕ) (board : Board) (place source protect : ℕ) → HasBitsOf board.source place source → HasBitsOf board.protect place protect → items ≡ start ++ map (notices_by source protect) (range_with_len 0 64) → items ≡ start ++ map (λ at. notices_of board (64 * place + at)) (range_with_len 0 64)
notices_written start items board place source protect sources protects stand =
    let is = λ (at : ℕ) (below : at < 64). sym (notices_told board place source protect at sources protects below) ∙ ap (notices_by source protect) (zero_first at) in
    stand ∙ ap (λ more. start ++ more) (bytes_more (notices_by source protect) (λ at. notices_of board (64 * place + at)) 0 64 is)
  where
    zero_first : (at : ℕ) → at ≡ 0 + at
    zero_first at = omega arith
