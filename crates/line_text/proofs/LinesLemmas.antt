-- The first line of a text.
use Rattle.std.proofs.Common.{◌≡◌, ◌≢◌, ℕ, zero, suc, ◌+◌, ◌-◌, ◌<◌, ◌==◌, List, [], ◌∷◌, length, get_or, take, drop, ap, ◌∙◌, add-one, arith}
use Rattle.std.proofs.lemmas.List.{take_all, length-drop}
use Rattle.std.proofs.lemmas.Bool.Decides.{nat_tests}
use Rattle.memchr.specs.Find.{Nowhere, Passes, is_byte}
use Rattle.line_text.specs.Lines.{line_feed, lines, in_line}

-- none of the first n bytes ends a line
abbrev pub NoneEnds : List ℕ → ℕ → Type 0
NoneEnds text n = (k : ℕ) → k < n → get_or text k 0 ≢ line_feed

-- A search for LF found none of them.
pub none_ends : (text : List ℕ) (n : ℕ) → Nowhere (Passes (is_byte line_feed) text) 0 n → NoneEnds text n
none_ends text n none k below is = none k (omega arith) below (ap (λ (byte : ℕ). byte == line_feed) is)

pub lines_end : (byte : ℕ) (text : List ℕ) → byte ≡ line_feed → lines (byte ∷ text) ≡ [] ∷ lines text
lines_end byte text is = grind (arith, nat_tests)

pub lines_on : (byte : ℕ) (text : List ℕ) → byte ≢ line_feed → lines (byte ∷ text) ≡ in_line byte (lines text)
lines_on byte text isnt = grind (arith, nat_tests)

pub lines_at : (text : List ℕ) (n : ℕ) → NoneEnds text n → n < length text → get_or text n 0 ≡ line_feed → lines text ≡ take n text ∷ lines (drop (suc n) text)
lines_at [] n none lt is = absurd (omega arith)
lines_at (byte ∷ text) zero none lt is = lines_end byte text is
lines_at (byte ∷ text) (suc n) none lt is =
    lines_on byte text (none 0 (omega arith)) ∙ ap (in_line byte) (lines_at text n (λ k below. none (suc k) (omega arith)) (omega arith) is)

pub lines_whole : (byte : ℕ) (text : List ℕ) → NoneEnds (byte ∷ text) (length (byte ∷ text)) → lines (byte ∷ text) ≡ (byte ∷ text) ∷ []
lines_whole byte [] none = lines_on byte [] (none 0 (omega arith))
lines_whole byte (next ∷ text) none =
    lines_on byte (next ∷ text) (none 0 (omega arith)) ∙ ap (in_line byte) (lines_whole next text (λ k below. none (suc k) (omega arith)))

pub lines_all : (text : List ℕ) → 0 < length text → NoneEnds text (length text) → lines text ≡ text ∷ []
lines_all [] some none = absurd (omega arith)
lines_all (byte ∷ text) some none = lines_whole byte text none

-- the first line of a text, and the text behind its LF as a slice cuts it off
pub first_line : (text : List ℕ) (n : ℕ) → NoneEnds text n → n < length text → get_or text n 0 ≡ line_feed → lines text ≡ take n text ∷ lines (take (length text - (n + 1)) (drop (n + 1) text))
first_line text n none lt is =
    let whole : take (length text - (n + 1)) (drop (n + 1) text) ≡ drop (n + 1) text = take_all _ _ (omega (arith, length-drop (n + 1) text)) in
    rw (whole, add-one) (lines_at text n none lt is)

-- a text without LF is one line, and nothing is behind it
pub only_line : (text : List ℕ) → 0 < length text → NoneEnds text (length text) → lines text ≡ text ∷ lines (take (length text - length text) (drop (length text) text))
only_line text some none =
    let nothing : length text - length text ≡ 0 = omega arith in
    rw nothing (lines_all text some none)
