-- The notices of a panel in a text, gathered eight and 64 at once.
use Rattle.std.proofs.Common.{◌≡◌, ℕ, ◌+◌, ◌-◌, ◌*◌, ◌/◌, ◌%◌, ◌^◌, ◌<◌, zero, suc, List, [], ◌∷◌, get_or, refl, sym, ap, subst, ◌∙◌, arith}
use Rattle.std.proofs.lemmas.Nat.{shr-shr, shr_split, and_shr, and_mod, and_mask, and_le_r}
use Rattle.std.proofs.lemmas.Nat.Bits.{bit_at-suc, bit_at-zero, bit_at_cat_low, bit_at_cat_high}
use Rattle.std.specs.Prelude.{bit_and}
use Rattle.std.specs.Int.{w64, bit_at, from_le_bytes}
use Rattle.change_boards.specs.declared.sort.Sort.{Sort}
use Rattle.change_boards.specs.declared.sort.Sort.TheVariants.{Protect}
use Rattle.plant_core.specs.StateFields.{byte_at}
use Rattle.plant_core.specs.MarksInside.{bit_of, HasMarks, HasBytes, HasLowest}
use Rattle.plant_core.proofs.NoticeTextLemmas.{agree_below, agree_at}

-- the number of some bytes, the lowest first
row : List ℕ → ℕ
row [] = 0
row (byte ∷ bytes) = row bytes * 2 ^ 8 + byte

bits_in_row : (bytes : List ℕ) → ((i : ℕ) → get_or bytes i 0 < 256) → (at bit : ℕ) → bit < 8 → bit_at (row bytes) (8 * at + bit) ≡ bit_at (get_or bytes at 0) bit
unfolding row
bits_in_row [] small at bit below = bit_at-zero (8 * at + bit) ∙ sym (bit_at-zero bit)
bits_in_row (byte ∷ bytes) small zero bit below =
    let same : 8 * zero + bit ≡ bit = omega arith in
    ap (bit_at (row bytes * 2 ^ 8 + byte)) same ∙ bit_at_cat_low (row bytes) 8 byte bit below
bits_in_row (byte ∷ bytes) small (suc at) bit below =
    let first : byte < 256 = small 0 in
    let rest : 8 * suc at + bit - 8 ≡ 8 * at + bit = omega arith in
    bit_at_cat_high (row bytes) 8 byte (8 * suc at + bit) (omega (arith, first)) (omega arith)
    ∙ ap (bit_at (row bytes)) rest
    ∙ bits_in_row bytes (λ i. small (suc i)) at bit below

eight_small : (a b c d e f g h : ℕ) → a < 256 → b < 256 → c < 256 → d < 256 → e < 256 → f < 256 → g < 256 → h < 256 → (i : ℕ) → get_or (a ∷ b ∷ c ∷ d ∷ e ∷ f ∷ g ∷ h ∷ []) i 0 < 256
eight_small a b c d e f g h a' b' c' d' e' f' g' h' zero = a'
eight_small a b c d e f g h a' b' c' d' e' f' g' h' (suc zero) = b'
eight_small a b c d e f g h a' b' c' d' e' f' g' h' (suc (suc zero)) = c'
eight_small a b c d e f g h a' b' c' d' e' f' g' h' (suc (suc (suc zero))) = d'
eight_small a b c d e f g h a' b' c' d' e' f' g' h' (suc (suc (suc (suc zero)))) = e'
eight_small a b c d e f g h a' b' c' d' e' f' g' h' (suc (suc (suc (suc (suc zero))))) = f'
eight_small a b c d e f g h a' b' c' d' e' f' g' h' (suc (suc (suc (suc (suc (suc zero)))))) = g'
eight_small a b c d e f g h a' b' c' d' e' f' g' h' (suc (suc (suc (suc (suc (suc (suc zero))))))) = h'
eight_small a b c d e f g h a' b' c' d' e' f' g' h' (suc (suc (suc (suc (suc (suc (suc (suc i)))))))) = omega arith

-- eight numbers have what is said of each
each_of_eight : (P : ℕ → Type 0) → P 0 → P 1 → P 2 → P 3 → P 4 → P 5 → P 6 → P 7 → (at : ℕ) → at < 8 → P at
each_of_eight P a b c d e f g h zero below = a
each_of_eight P a b c d e f g h (suc zero) below = b
each_of_eight P a b c d e f g h (suc (suc zero)) below = c
each_of_eight P a b c d e f g h (suc (suc (suc zero))) below = d
each_of_eight P a b c d e f g h (suc (suc (suc (suc zero)))) below = e
each_of_eight P a b c d e f g h (suc (suc (suc (suc (suc zero))))) below = f
each_of_eight P a b c d e f g h (suc (suc (suc (suc (suc (suc zero)))))) below = g
each_of_eight P a b c d e f g h (suc (suc (suc (suc (suc (suc (suc zero))))))) below = h
each_of_eight P a b c d e f g h (suc (suc (suc (suc (suc (suc (suc (suc at)))))))) below = absurd (omega (arith, below))

-- the bits of a number of eight bytes
pub bits_of_eight : (a b c d e f g h number : ℕ) → a < 256 → b < 256 → c < 256 → d < 256 → e < 256 → f < 256 → g < 256 → h < 256 → number ≡ from_le_bytes w64 (a ∷ b ∷ c ∷ d ∷ e ∷ f ∷ g ∷ h ∷ []) →
    (at bit : ℕ) → bit < 8 → bit_at number (8 * at + bit) ≡ bit_at (get_or (a ∷ b ∷ c ∷ d ∷ e ∷ f ∷ g ∷ h ∷ []) at 0) bit
unfolding row
bits_of_eight a b c d e f g h number a' b' c' d' e' f' g' h' is at bit below =
    let sum : from_le_bytes w64 (a ∷ b ∷ c ∷ d ∷ e ∷ f ∷ g ∷ h ∷ []) ≡ a + b * 256 ^ 1 + c * 256 ^ 2 + d * 256 ^ 3 + e * 256 ^ 4 + f * 256 ^ 5 + g * 256 ^ 6 + h * 256 ^ 7 = refl in
    let same : number ≡ row (a ∷ b ∷ c ∷ d ∷ e ∷ f ∷ g ∷ h ∷ []) = omega (arith, is, sum) in
    ap (λ (n : ℕ). bit_at n (8 * at + bit)) same ∙ bits_in_row (a ∷ b ∷ c ∷ d ∷ e ∷ f ∷ g ∷ h ∷ []) (eight_small a b c d e f g h a' b' c' d' e' f' g' h') at bit below

-- the lowest bits of so many bytes of a number: as a mask keeps them, and side by side
ones : ℕ → ℕ
ones zero = 0
ones (suc count) = 256 * ones count + 1

kept : ℕ → ℕ → ℕ
kept zero number = 0
kept (suc count) number = number % 2 + 256 * kept count (number / 256)

pub side_by_side : ℕ → ℕ → ℕ
side_by_side zero number = 0
side_by_side (suc count) number = number % 2 + 2 * side_by_side count (number / 256)

-- so many bits, each as a byte of its own
apart : ℕ → ℕ → ℕ
apart zero bits = 0
apart (suc count) bits = bits % 2 + 256 * apart count (bits / 2)

mask_step : (number mask : ℕ) → bit_and number (256 * mask + 1) ≡ number % 2 + 256 * bit_and (number / 256) mask
mask_step number mask =
    let all : ℕ = bit_and number (256 * mask + 1) in
    let high : all / 2 ^ 8 ≡ bit_and (number / 256) mask = and_shr number (256 * mask + 1) 8 ∙ ap (λ (m : ℕ). bit_and (number / 256) m) (omega arith) in
    let one : (256 * mask + 1) % 2 ^ 8 ≡ 1 = omega arith in
    let low : all % 2 ^ 8 ≡ number % 256 % 2 = and_mod number (256 * mask + 1) 8 ∙ ap (λ (m : ℕ). bit_and (number % 256) m) one ∙ and_mask (number % 256) 1 in
    omega (arith, shr_split all 8, high, low)

kept_is : (count number : ℕ) → bit_and number (ones count) ≡ kept count number
unfolding ones kept
kept_is zero number = omega (arith, and_le_r number 0)
kept_is (suc count) number = mask_step number (ones count) ∙ ap (λ (rest : ℕ). number % 2 + 256 * rest) (kept_is count (number / 256))

apart_again : (count number : ℕ) → apart count (side_by_side count number) ≡ kept count number
unfolding apart kept side_by_side
apart_again zero number = refl
apart_again (suc count) number =
    let rest : ℕ = side_by_side count (number / 256) in
    let half : (number % 2 + 2 * rest) / 2 ≡ rest = omega arith in
    omega (arith, ap (apart count) half, apart_again count (number / 256))

few_bits : (count number : ℕ) → side_by_side count number < 2 ^ count
unfolding side_by_side
few_bits zero number = omega arith
few_bits (suc count) number = omega (arith, few_bits count (number / 256))

pub bit_beside : (count number at : ℕ) → at < count → bit_at (side_by_side count number) at ≡ bit_at number (8 * at)
unfolding side_by_side
bit_beside zero number at below = absurd (omega (arith, below))
bit_beside (suc count) number zero below = omega arith
bit_beside (suc count) number (suc at) below =
    let rest : ℕ = side_by_side count (number / 256) in
    let half : (number % 2 + 2 * rest) / 2 ≡ rest = omega arith in
    let next : 8 + 8 * at ≡ 8 * suc at = omega arith in
    bit_at-suc (number % 2 + 2 * rest) at
    ∙ ap (λ (n : ℕ). bit_at n at) half
    ∙ bit_beside count (number / 256) at (omega (arith, below))
    ∙ ap (λ (n : ℕ). n % 2) (shr-shr number 8 (8 * at))
    ∙ ap (bit_at number) next

-- The product brings the bits side by side.
product_is : (bits : ℕ) → bits < 256 → apart 8 bits * 72624976668147840 % 2 ^ 64 / 2 ^ 56 ≡ bits
unfolding agree_below apart
product_is bits below = agree_at (λ bits. apart 8 bits * 72624976668147840 % 2 ^ 64 / 2 ^ 56) (λ bits. bits) 256 refl bits below

pub lowest_are : (eight : ℕ) → bit_and eight 72340172838076673 * 72624976668147840 % 2 ^ 64 / 2 ^ 56 ≡ side_by_side 8 eight
unfolding ones
lowest_are eight =
    let bits : ℕ = side_by_side 8 eight in
    let same : bit_and eight 72340172838076673 ≡ apart 8 bits = kept_is 8 eight ∙ sym (apart_again 8 eight) in
    ap (λ (number : ℕ). number * 72624976668147840 % 2 ^ 64 / 2 ^ 56) same ∙ product_is bits (few_bits 8 eight)

-- a number that is made of eight bytes of a text
pub bytes_read : (bytes : List ℕ) (place a b c d e f g h number : ℕ) → a < 256 → b < 256 → c < 256 → d < 256 → e < 256 → f < 256 → g < 256 → h < 256 →
    a ≡ byte_at bytes place → b ≡ byte_at bytes (place + 1) → c ≡ byte_at bytes (place + 2) → d ≡ byte_at bytes (place + 3) → e ≡ byte_at bytes (place + 4) → f ≡ byte_at bytes (place + 5) → g ≡ byte_at bytes (place + 6) → h ≡ byte_at bytes (place + 7) →
    number ≡ from_le_bytes w64 (a ∷ b ∷ c ∷ d ∷ e ∷ f ∷ g ∷ h ∷ []) → HasBytes bytes place number
bytes_read bytes place a b c d e f g h number a' b' c' d' e' f' g' h' a'' b'' c'' d'' e'' f'' g'' h'' is at bit among below =
    let all = a ∷ b ∷ c ∷ d ∷ e ∷ f ∷ g ∷ h ∷ [] in
    let first : place ≡ place + 0 = omega arith in
    bits_of_eight a b c d e f g h number a' b' c' d' e' f' g' h' is at bit below
    ∙ ap (λ (byte : ℕ). bit_at byte bit) (each_of_eight (λ at. get_or all at 0 ≡ byte_at bytes (place + at)) (a'' ∙ ap (byte_at bytes) first) b'' c'' d'' e'' f'' g'' h'' at among)

-- the bits of the protects of eight bytes
pub protects_read : (bytes : List ℕ) (place eight number : ℕ) → HasBytes bytes place eight → HasLowest (eight / 2) number → HasMarks bytes place Protect 8 number
protects_read bytes place eight number has lowest at below =
    let next : 1 + 8 * at ≡ 8 * at + 1 = omega arith in
    lowest at below
    ∙ ap (λ (n : ℕ). n % 2) (shr-shr eight 1 (8 * at))
    ∙ ap (bit_at eight) next
    ∙ has at 1 below (omega arith)

-- a word that is made of the bits of 64 bytes of a text
pub marks_read : (bytes : List ℕ) (place : ℕ) (sort : Sort) (a b c d e f g h word : ℕ) → a < 256 → b < 256 → c < 256 → d < 256 → e < 256 → f < 256 → g < 256 → h < 256 →
    HasMarks bytes place sort 8 a → HasMarks bytes (place + 8) sort 8 b → HasMarks bytes (place + 16) sort 8 c → HasMarks bytes (place + 24) sort 8 d →
    HasMarks bytes (place + 32) sort 8 e → HasMarks bytes (place + 40) sort 8 f → HasMarks bytes (place + 48) sort 8 g → HasMarks bytes (place + 56) sort 8 h →
    word ≡ from_le_bytes w64 (a ∷ b ∷ c ∷ d ∷ e ∷ f ∷ g ∷ h ∷ []) → HasMarks bytes place sort 64 word
marks_read bytes place sort a b c d e f g h word a' b' c' d' e' f' g' h' a'' b'' c'' d'' e'' f'' g'' h'' is at below =
    let all = a ∷ b ∷ c ∷ d ∷ e ∷ f ∷ g ∷ h ∷ [] in
    let which : ℕ = at / 8 in
    let bit : ℕ = at % 8 in
    let parts : at ≡ 8 * which + bit = omega arith in
    let first : place ≡ place + 8 * 0 = omega arith in
    let there : place + 8 * which + bit ≡ place + at = omega (arith, parts) in
    let has : HasMarks bytes (place + 8 * which) sort 8 (get_or all which 0) =
    each_of_eight (λ which. HasMarks bytes (place + 8 * which) sort 8 (get_or all which 0))
    (subst (λ (from : ℕ). HasMarks bytes from sort 8 a) first a'') b'' c'' d'' e'' f'' g'' h'' which (omega (arith, below)) in
    ap (bit_at word) parts
    ∙ bits_of_eight a b c d e f g h word a' b' c' d' e' f' g' h' is which bit (omega arith)
    ∙ has bit (omega arith)
    ∙ ap (λ (from : ℕ). bit_at (byte_at bytes from) (bit_of sort)) there
