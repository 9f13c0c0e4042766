-- A frame spells one body, the body of DATA is good, and how long a frame is.
use Rattle.std.proofs.Common.{◌≡◌, ℕ, ◌+◌, ◌-◌, ◌%◌, ◌≤◌, ◌<◌, ◌==◌, nat_eq, true, false, cond, ⊎_elim, List, [], ◌∷◌, ◌++◌, length, take, drop, sum, count_by, replicate, get_or, refl, sym, ap, ◌∙◌, zero-add, arith}
use Rattle.std.proofs.lemmas.Bool.{cond-false, cases_lt, and_from, le-leb, eq-eqb}
use Rattle.std.proofs.lemmas.Grind.{common_steps}
use Rattle.std.proofs.lemmas.List.{length_push, length-append, take_at, take-append-le, get_or_at, get_or_append_left, same_from_push}
use Rattle.std.proofs.lemmas.List.Sums.{sum_by_push, sum_by-cons, sum_by-append, get_or-le-sum_by, count_by-le-length}
use Rattle.dle_framing.specs.Frame.{IsData, doubled, check_byte, counted, body, enclosed, frame}
use Rattle.doubled_bytes.specs.Doubled.{Run}
use Rattle.dle_framing.specs.Items.{longest_run, is_good}
use Rattle.dle_framing.specs.Numbers.{dle, stx, etx, most_data, least_body, most_body, most_frame}
use Rattle.doubled_bytes.proofs.Runs
use Rattle.doubled_bytes.proofs.Runs.{at_byte, doubled-byte, longest_run-ended}

-- what a body encloses has that body
body-enclosed : (body : List ℕ) → longest_run (doubled body ++ dle ∷ etx ∷ []) ≡ record { spelled = body; behind = dle ∷ etx ∷ [] }
body-enclosed body = longest_run-ended dle body (dle ∷ etx ∷ []) refl

-- one body has a text
pub one_body : (a b : List ℕ) → enclosed a ≡ enclosed b → a ≡ b
one_body a b same = sym (ap (λ (run : Run). run.spelled) (body-enclosed a)) ∙ ap (λ (text : List ℕ). (longest_run (drop 2 text)).spelled) same ∙ ap (λ (run : Run). run.spelled) (body-enclosed b)

-- Two DATA with one frame are equal.
pub one_frame : (a b : List ℕ) → frame a ≡ frame b → a ≡ b
one_frame a b same = (same_from_push a b _ _ (same_from_push (counted a) (counted b) _ _ (one_body (body a) (body b) same)).0).0

pub length-body : (bytes : List ℕ) → length (body bytes) ≡ length bytes + 2
length-body bytes = omega (arith, length_push (counted bytes) (check_byte (counted bytes)), length_push bytes (length bytes))

sum-push : (bytes : List ℕ) (byte : ℕ) → sum (bytes ++ byte ∷ []) ≡ sum bytes + byte
sum-push bytes byte = sum_by_push (λ x. x) bytes byte

-- The body of DATA has their bytes in front, and then their length.
pub data-body : (bytes : List ℕ) → take (length (body bytes) - 2) (body bytes) ≡ bytes
data-body bytes =
    let count : length (body bytes) - 2 ≡ length bytes = omega (arith, length-body bytes) in
    ap (λ (n : ℕ). take n (body bytes)) count
    ∙ take-append-le (length bytes) (counted bytes) (check_byte (counted bytes) ∷ []) (omega (arith, length_push bytes (length bytes)))
    ∙ take_at bytes (length bytes ∷ []) (length bytes) refl

count-body : (bytes : List ℕ) → get_or (body bytes) (length (body bytes) - 2) 0 ≡ length (body bytes) - 2
count-body bytes =
    let count : length (body bytes) - 2 ≡ length bytes = omega (arith, length-body bytes) in
    ap (λ (n : ℕ). get_or (body bytes) n 0) count
    ∙ get_or_append_left (counted bytes) (check_byte (counted bytes) ∷ []) 0 (length bytes) (omega (arith, length_push bytes (length bytes)))
    ∙ get_or_at bytes (length bytes) [] 0 (length bytes) refl
    ∙ sym count

sum-body : (bytes : List ℕ) → sum (body bytes) % 256 ≡ 0
sum-body bytes = omega (arith, sum-push (counted bytes) (check_byte (counted bytes)))

-- the body of DATA is good
pub good-body : (bytes : List ℕ) → IsData bytes → is_good (body bytes) ≡ true
good-body bytes is_data =
    and_from _ _
    (and_from _ _
    (and_from _ _ (le-leb least_body (length (body bytes)) (omega (arith, length-body bytes, is_data.0))) (le-leb (length (body bytes)) most_body (omega (arith, length-body bytes, is_data.1))))
    (eq-eqb (get_or (body bytes) (length (body bytes) - 2) 0) (length (body bytes) - 2) (count-body bytes)))
    (eq-eqb (sum (body bytes) % 256) 0 (sum-body bytes))

-- the frame of a body that is its own spelling
pub frame-single : (bytes spelled : List ℕ) → body bytes ≡ spelled → doubled spelled ≡ spelled → (dle ∷ stx ∷ []) ++ spelled ++ (dle ∷ etx ∷ []) ≡ frame bytes
frame-single bytes spelled is single = ap (λ (inner : List ℕ). (dle ∷ stx ∷ []) ++ inner ++ (dle ∷ etx ∷ [])) (sym single ∙ ap doubled (sym is))

-- five bytes and two, one by one
pub five-two : (bytes ending : List ℕ) → length bytes ≡ 5 → length ending ≡ 2
    → bytes ++ ending ≡ get_or bytes 0 0 ∷ get_or bytes 1 0 ∷ get_or bytes 2 0 ∷ get_or bytes 3 0 ∷ get_or bytes 4 0 ∷ get_or ending 0 0 ∷ get_or ending 1 0 ∷ []
five-two bytes ending five two = grind (arith, common_steps)

-- how many of these bytes are DLE
abbrev pub dles : List ℕ → ℕ
dles bytes = count_by (λ byte. byte == dle) bytes

dles-other : (a : ℕ) (bytes : List ℕ) → nat_eq a dle ≡ false → dles (a ∷ bytes) ≡ dles bytes
dles-other a bytes other = sum_by-cons _ a bytes ∙ ap (λ (n : ℕ). n + dles bytes) (cond-false (nat_eq a dle) 1 0 other) ∙ zero-add (dles bytes)

dles-dle : (bytes : List ℕ) → dles (dle ∷ bytes) ≡ 1 + dles bytes
dles-dle bytes = sum_by-cons _ dle bytes

-- Bytes have one byte more for each DLE among them once each is sent twice.
pub length-doubled : (bytes : List ℕ) → length (doubled bytes) ≡ length bytes + dles bytes
length-doubled [] = refl
length-doubled (a ∷ bytes) =
    at_byte dle (λ a. length (doubled (a ∷ bytes)) ≡ length {A = ℕ} (a ∷ bytes) + dles (a ∷ bytes)) a
    (omega (arith, length-doubled bytes, dles-dle bytes))
    (λ other. omega (arith, ap (length {A = ℕ}) (doubled-byte dle a bytes other), length-doubled bytes, dles-other a bytes other))

-- bytes that have a DLE aren't their own spelling
pub not-single : (bytes : List ℕ) (i : ℕ) → i < length bytes → get_or bytes i 0 ≡ dle → doubled bytes ≡ bytes → ⊥
not-single bytes i within is same =
    let one : 1 ≤ dles bytes = rw is at (get_or-le-sum_by (λ byte. cond (nat_eq byte dle) 1 0) bytes i 0 within) in
    omega (arith, length-doubled bytes, ap (length {A = ℕ}) same)

-- the end of a body has at most two DLE
dles-body : (bytes : List ℕ) → dles (body bytes) ≡ dles bytes + dles (length bytes ∷ []) + dles (check_byte (counted bytes) ∷ [])
dles-body bytes = sum_by-append _ (counted bytes) (check_byte (counted bytes) ∷ []) ∙ ap (λ (n : ℕ). n + dles (check_byte (counted bytes) ∷ [])) (sum_by-append _ bytes (length bytes ∷ []))

dles-one : (byte : ℕ) → dles (byte ∷ []) ≤ 1
dles-one byte = count_by-le-length (λ byte. byte == dle) (byte ∷ [])

pub length-frame : (bytes : List ℕ) → length (frame bytes) ≡ length (doubled (body bytes)) + 4
length-frame bytes = omega (arith, length-append ((dle ∷ stx ∷ []) ++ doubled (body bytes)) (dle ∷ etx ∷ []))

-- bytes that are all DLE
all_dle : (bytes : List ℕ) → length bytes ≤ dles bytes → bytes ≡ replicate (length bytes) dle
all_dle [] = λ all. refl
all_dle (a ∷ bytes) =
    at_byte dle (λ a. length {A = ℕ} (a ∷ bytes) ≤ dles (a ∷ bytes) → a ∷ bytes ≡ replicate (length {A = ℕ} (a ∷ bytes)) dle) a
    (λ all. ap (λ (bytes : List ℕ). dle ∷ bytes) (all_dle bytes (omega (arith, dles-dle bytes))))
    (λ other all. absurd (omega (arith, dles-other a bytes other, count_by-le-length (λ byte. byte == dle) bytes)))

-- the longest frame is that of 255 DLE
longest_frame : (bytes : List ℕ) → length bytes ≡ most_data → length (frame bytes) ≤ most_frame
longest_frame bytes full = ⊎_elim
    (λ (some : dles bytes < most_data).
    let count : dles (length bytes ∷ []) ≡ 0 = ap (λ (n : ℕ). dles (n ∷ [])) full in
    omega (arith, length-frame bytes, length-doubled (body bytes), length-body bytes, dles-body bytes, dles-one (check_byte (counted bytes))))
    (λ (all : most_data ≤ dles bytes).
    let is : bytes ≡ replicate most_data dle = all_dle bytes (omega arith) ∙ ap (λ (n : ℕ). replicate n dle) full in
    let same : length (frame bytes) ≡ most_frame = ap (λ (bytes : List ℕ). length (frame bytes)) is in
    omega arith)
    (cases_lt (dles bytes) most_data)

pub length-frame-le : (bytes : List ℕ) → IsData bytes → length (frame bytes) ≤ most_frame
length-frame-le bytes is_data = ⊎_elim
    (λ (short : length bytes < most_data).
    omega (arith, length-frame bytes, length-doubled (body bytes), length-body bytes, dles-body bytes, dles-one (length bytes), dles-one (check_byte (counted bytes)), count_by-le-length (λ byte. byte == dle) bytes))
    (λ (full : most_data ≤ length bytes). longest_frame bytes (omega (arith, is_data.1)))
    (cases_lt (length bytes) most_data)

-- the part of a text that is doubled so far leaves room for the next byte
pub doubled-room : (bytes : List ℕ) (i : ℕ) → i < length bytes → length (doubled (take i bytes)) + length (doubled (get_or bytes i 0 ∷ [])) ≤ length (doubled bytes)
doubled-room = Runs.doubled-room dle
