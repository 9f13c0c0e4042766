-- A text has no more items than bytes behind a DLE with which one may end.
use Rattle.std.proofs.Common.{◌≡◌, ℕ, zero, suc, ◌+◌, ◌≤◌, ◌<◌, ◌==◌, ◌&&◌, Bool, true, false, if◌then◌else◌, List, [], ◌∷◌, ◌++◌, length, refl, subst, sym, ap, arith}
use Rattle.std.proofs.lemmas.Bool.{eqb-true}
use Rattle.dle_framing.specs.Numbers.{dle, stx, etx, ack_byte, nak_byte}
use Rattle.dle_framing.specs.Frame.{doubled}
use Rattle.dle_framing.specs.declared.item.Item.TheVariants.{Ack, Nak}
use Rattle.dle_framing.specs.Items.{TextReading, by_start, in_frame, item_of, items, longest_run, only_rest, reading, with_item}
use Rattle.dle_framing.proofs.Runs.{Stops, doubled-longest_run, longest_run-stops, length-behind}
use Rattle.dle_framing.proofs.Readings.{reading-by_start}
use Rattle.record_replay.specs.ReplayerInside.{is_end, ends_behind, ends_in}

more_least : (yes : Bool) (n : ℕ) → n ≤ (if yes then suc n else n)
more_least true n = omega arith
more_least false n = omega arith

pub more_most : (yes : Bool) (n : ℕ) → (if yes then suc n else n) ≤ suc n
more_most true n = omega arith
more_most false n = omega arith

more_both : (yes : Bool) (m n k : ℕ) → m ≤ n + k → (if yes then suc m else m) ≤ (if yes then suc n else n) + k
more_both true m n k within = omega (arith, within)
more_both false m n k within = within

-- A DLE before a text makes at most one more of them.
ends_behind-least : (dle_before : Bool) (text : List ℕ) → ends_in text ≤ ends_behind dle_before text
ends_behind-least dle_before [] = omega arith
ends_behind-least dle_before (byte ∷ text) = more_least (dle_before && is_end byte) (ends_behind (byte == dle) text)

ends_behind-most : (dle_before : Bool) (text : List ℕ) → ends_behind dle_before text ≤ suc (ends_in text)
ends_behind-most dle_before [] = omega arith
ends_behind-most dle_before (byte ∷ text) = more_most (dle_before && is_end byte) (ends_behind (byte == dle) text)

pub ends_behind-append : (dle_before : Bool) (text more : List ℕ) → ends_behind dle_before (text ++ more) ≤ ends_behind dle_before text + suc (ends_in more)
ends_behind-append dle_before [] more = omega (arith, ends_behind-most dle_before more)
ends_behind-append dle_before (byte ∷ text) more =
    more_both (dle_before && is_end byte) (ends_behind (byte == dle) (text ++ more)) (ends_behind (byte == dle) text) (suc (ends_in more)) (ends_behind-append (byte == dle) text more)

-- what is behind the first bytes of a text has no more than the text
ends_behind-behind : (dle_before : Bool) (text more : List ℕ) → ends_in more ≤ ends_behind dle_before (text ++ more)
ends_behind-behind dle_before [] more = ends_behind-least dle_before more
ends_behind-behind dle_before (byte ∷ text) more =
    omega (arith, more_least (dle_before && is_end byte) (ends_behind (byte == dle) (text ++ more)), ends_behind-behind (byte == dle) text more)

pub ends_behind-length : (dle_before : Bool) (text : List ℕ) → ends_behind dle_before text ≤ length text
ends_behind-length dle_before [] = omega arith
ends_behind-length dle_before (byte ∷ text) = omega (arith, more_most (dle_before && is_end byte) (ends_behind (byte == dle) text), ends_behind-length (byte == dle) text)

-- a byte behind a DLE with which an item ends
ends_more : (byte end : ℕ) (text : List ℕ) → byte == end ≡ true → is_end end ≡ true → suc (ends_in text) ≤ ends_behind true (byte ∷ text)
ends_more byte end text is ends =
    let yes : is_end byte ≡ true = subst (λ (byte : ℕ). is_end byte ≡ true) (sym (eqb-true byte end is)) ends in
    let one : ends_behind true (byte ∷ text) ≡ suc (ends_behind (byte == dle) text) = ap (λ (yes : Bool). if yes then suc (ends_behind (byte == dle) text) else ends_behind (byte == dle) text) yes in
    omega (arith, one, ends_behind-least (byte == dle) text)

-- what is behind the run of a frame has no more than the frame
ends_in-run : (b : ℕ) (text : List ℕ) → ends_in (longest_run text).behind ≤ ends_behind true (b ∷ text)
ends_in-run b text =
    let run = longest_run text in
    subst (λ (text : List ℕ). ends_in run.behind ≤ ends_behind true (b ∷ text)) (doubled-longest_run dle text) (ends_behind-behind true (b ∷ doubled run.spelled) run.behind)

either_few : (n : ℕ) (yes : Bool) (one other : TextReading) → (yes ≡ true → length one.items ≤ n) → length other.items ≤ n → length (if yes then one else other).items ≤ n
either_few n true one other few_one few_other = few_one refl
either_few n false one other few_one few_other = few_other

frame_few : (goes_on : List ℕ → TextReading) (text spelled behind : List ℕ) (n : ℕ) → Stops dle behind → ends_in behind ≤ n → ((t : List ℕ) → length t ≤ length behind → length (goes_on t).items ≤ ends_in t)
    → length (in_frame goes_on text (record { spelled = spelled; behind = behind })).items ≤ n
frame_few goes_on text spelled [] n stops within few = omega arith
frame_few goes_on text spelled (a ∷ []) n stops within few = omega arith
frame_few goes_on text spelled (a ∷ b ∷ more) n stops within few =
    let all : ends_in (a ∷ b ∷ more) ≡ ends_behind true (b ∷ more) = ap (λ (a : ℕ). ends_in (a ∷ b ∷ more)) stops.0 in
    either_few n (b == etx) (with_item (item_of spelled) (goes_on more)) (if b == stx then goes_on (a ∷ b ∷ more) else goes_on more)
    (λ is. omega (arith, within, all, ends_more b etx more is refl, few more (omega arith)))
    (either_few n (b == stx) (goes_on (a ∷ b ∷ more)) (goes_on more)
    (λ is. omega (arith, within, few (a ∷ b ∷ more) (omega arith)))
    (omega (arith, within, all, ends_behind-behind true (b ∷ []) more, few more (omega arith))))

start_few : (goes_on : List ℕ → TextReading) (text : List ℕ) → ((t : List ℕ) → length t < length text → length (goes_on t).items ≤ ends_in t) → length (by_start goes_on text).items ≤ ends_in text
start_few goes_on [] few = omega arith
start_few goes_on (a ∷ []) few = either_few (ends_in (a ∷ [])) (a == dle) (only_rest (a ∷ [])) (only_rest []) (λ is. omega arith) (omega arith)
start_few goes_on (a ∷ b ∷ text) few =
    let n = ends_in (a ∷ b ∷ text) in
    let next : length (goes_on (b ∷ text)).items ≤ n = omega (arith, ends_behind-least (a == dle) (b ∷ text), few (b ∷ text) (omega arith)) in
    let control = few text (omega arith) in
    let framed =
    if b == stx then in_frame goes_on text (longest_run text) else goes_on (b ∷ text) in
    either_few n (a == dle)
    (if b == ack_byte then with_item Ack (goes_on text) else if b == nak_byte then with_item Nak (goes_on text) else framed)
    (goes_on (b ∷ text))
    (λ dle_is.
    let all : n ≡ ends_behind true (b ∷ text) = ap (λ (dle_before : Bool). ends_behind dle_before (b ∷ text)) dle_is in
    either_few n (b == ack_byte) (with_item Ack (goes_on text)) (if b == nak_byte then with_item Nak (goes_on text) else framed)
    (λ is. omega (arith, control, all, ends_more b ack_byte text is refl))
    (either_few n (b == nak_byte) (with_item Nak (goes_on text)) framed
    (λ is. omega (arith, control, all, ends_more b nak_byte text is refl))
    (either_few n (b == stx) (in_frame goes_on text (longest_run text)) (goes_on (b ∷ text))
    (λ is. frame_few goes_on text (longest_run text).spelled (longest_run text).behind n (longest_run-stops dle text) (omega (arith, all, ends_in-run b text)) (λ t within. few t (omega (arith, within, length-behind dle text))))
    next)))
    next

few_within : (n : ℕ) (text : List ℕ) → length text ≤ n → length (items text) ≤ ends_in text
few_within zero [] within = subst (λ (r : TextReading). length r.items ≤ 0) (sym (reading-by_start [])) (omega arith)
few_within zero (a ∷ text) within = absurd (omega (arith, within))
few_within (suc n) text within =
    subst (λ (r : TextReading). length r.items ≤ ends_in text) (sym (reading-by_start text)) (start_few reading text (λ t shorter. few_within n t (omega (arith, within, shorter))))

pub items-few : (text : List ℕ) → length (items text) ≤ ends_in text
items-few text = few_within (length text) text (omega arith)
