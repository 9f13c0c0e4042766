-- The lines of texts that are put behind one another.
use Rattle.std.proofs.Common.{◌≡◌, ◌≢◌, ℕ, ◌+◌, ◌-◌, ◌<◌, ◌≤◌, List, [], ◌∷◌, ◌++◌, length, get_or, take, All, refl, sym, ap, ◌∙◌, arith, inl, inr}
use Rattle.std.proofs.lemmas.Bool.{cases_eq}
use Rattle.std.proofs.lemmas.List.{append_assoc, take_more, take_all}
use Rattle.std.proofs.lemmas.List.Elements.{All-head, All-tail}
use Rattle.line_text.specs.Lines.{line_feed, lines, in_line}
use Rattle.line_text.specs.LinesInside.{EndsLine}
use Rattle.line_text.specs.Laws.{IsLine, text_of}
use Rattle.line_text.proofs.LinesLemmas.{lines_end, lines_on}

-- a byte in front of the first of some lines
in_line-append : (byte : ℕ) (some others : List (List ℕ)) → 1 ≤ length some → in_line byte (some ++ others) ≡ in_line byte some ++ others
in_line-append byte [] others least = absurd (omega arith)
in_line-append byte (line ∷ more) others least = refl

in_line-some : (byte : ℕ) (some : List (List ℕ)) → 1 ≤ length (in_line byte some)
in_line-some byte [] = omega arith
in_line-some byte (line ∷ more) = omega arith

-- a text with a byte has a line
lines-some : (text : List ℕ) → 1 ≤ length text → 1 ≤ length (lines text)
lines-some [] least = absurd (omega arith)
lines-some (byte ∷ text) least = elim (cases_eq byte line_feed) [
  | inl same ↦ rw (lines_end byte text same) (omega arith)
  | inr other ↦ rw (lines_on byte text other) (in_line-some byte (lines text))
]

-- behind an LF other lines begin
pub lines-behind : (front more : List ℕ) → lines (front ++ line_feed ∷ more) ≡ lines (front ++ line_feed ∷ []) ++ lines more
lines-behind [] more = lines_end line_feed more refl ∙ sym (ap (λ (all : List (List ℕ)). all ++ lines more) (lines_end line_feed [] refl))
lines-behind (byte ∷ front) more =
    let whole = front ++ line_feed ∷ more in
    let ended = front ++ line_feed ∷ [] in
    elim (cases_eq byte line_feed) [
      | inl same ↦ lines_end byte whole same ∙ ap (λ (all : List (List ℕ)). [] ∷ all) (lines-behind front more)
          ∙ sym (ap (λ (all : List (List ℕ)). all ++ lines more) (lines_end byte ended same))
      | inr other ↦ lines_on byte whole other ∙ ap (in_line byte) (lines-behind front more)
          ∙ in_line-append byte (lines ended) (lines more) (lines-some ended (omega (arith, ended_some front)))
          ∙ sym (ap (λ (all : List (List ℕ)). all ++ lines more) (lines_on byte ended other))
    ]
  where
    ended_some : (front : List ℕ) → 1 ≤ length (front ++ line_feed ∷ [])
    ended_some [] = omega arith
    ended_some (byte ∷ front) = omega arith

-- the LF of the last line changes nothing
pub lines-ended : (front : List ℕ) (last : ℕ) → last ≢ line_feed → lines (front ++ last ∷ line_feed ∷ []) ≡ lines (front ++ last ∷ [])
lines-ended [] last isnt = lines_on last (line_feed ∷ []) isnt ∙ ap (in_line last) (lines_end line_feed [] refl) ∙ sym (lines_on last [] isnt)
lines-ended (byte ∷ front) last isnt = elim (cases_eq byte line_feed) [
  | inl same ↦ lines_end byte (front ++ last ∷ line_feed ∷ []) same ∙ ap (λ (all : List (List ℕ)). [] ∷ all) (lines-ended front last isnt)
      ∙ sym (lines_end byte (front ++ last ∷ []) same)
  | inr other ↦ lines_on byte (front ++ last ∷ line_feed ∷ []) other ∙ ap (in_line byte) (lines-ended front last isnt)
      ∙ sym (lines_on byte (front ++ last ∷ []) other)
]

pub lines-joined : (front : List ℕ) (last : ℕ) (more : List ℕ) → last ≢ line_feed → lines (front ++ last ∷ line_feed ∷ more) ≡ lines (front ++ last ∷ []) ++ lines more
lines-joined front last more isnt =
    ap lines (sym (append_assoc front (last ∷ []) (line_feed ∷ more)))
    ∙ lines-behind (front ++ last ∷ []) more
    ∙ ap (λ (text : List ℕ). lines text ++ lines more) (append_assoc front (last ∷ []) (line_feed ∷ []))
    ∙ ap (λ (all : List (List ℕ)). all ++ lines more) (lines-ended front last isnt)

-- one whole line
line-read : (line : List ℕ) → IsLine line → lines (line ++ line_feed ∷ []) ≡ line ∷ []
line-read [] each = lines_end line_feed [] refl
line-read (byte ∷ line) each =
    lines_on byte (line ++ line_feed ∷ []) (All-head (λ byte. byte ≢ line_feed) byte line each)
    ∙ ap (in_line byte) (line-read line (All-tail (λ byte. byte ≢ line_feed) byte line each))

pub lines-read : (whole : List (List ℕ)) → All IsLine whole → lines (text_of whole) ≡ whole
lines-read [] each = refl
lines-read (line ∷ whole) each =
    ap lines (append_assoc line (line_feed ∷ []) (text_of whole))
    ∙ lines-behind line (text_of whole)
    ∙ ap (λ (all : List (List ℕ)). all ++ lines (text_of whole)) (line-read line (All-head IsLine line whole each))
    ∙ ap (λ (all : List (List ℕ)). line ∷ all) (lines-read whole (All-tail IsLine line whole each))

-- a text by its last byte
by_last : (text : List ℕ) → 0 < length text → text ≡ take (length text - 1) text ++ get_or text (length text - 1) 0 ∷ []
by_last text some =
    let all : length text - 1 + 1 ≡ length text = omega arith in
    sym (take_all (length text) text (omega arith)) ∙ ap (λ (n : ℕ). take n text) (sym all) ∙ take_more text (length text - 1) 0 (omega arith)

-- a text whose last line has its LF
pub EndsLine-stands : (text : List ℕ) → 0 < length text → get_or text (length text - 1) 0 ≡ line_feed → EndsLine text text
EndsLine-stands text some is = record {
  front = take (length text - 1) text;
  new_is = by_last text some ∙ ap (λ (byte : ℕ). take (length text - 1) text ++ byte ∷ []) is;
  same = refl;
}

-- one whose last line lacks it
pub EndsLine-put : (text new : List ℕ) → 0 < length text → get_or text (length text - 1) 0 ≢ line_feed → new ≡ text ++ line_feed ∷ [] → EndsLine text new
EndsLine-put text new some isnt is =
    let front = take (length text - 1) text in
    let last = get_or text (length text - 1) 0 in
    let whole = by_last text some in
    record {
      front = text;
      new_is = is;
      same = ap lines (is ∙ ap (λ (all : List ℕ). all ++ line_feed ∷ []) whole ∙ append_assoc front (last ∷ []) (line_feed ∷ []))
          ∙ lines-ended front last isnt ∙ ap lines (sym whole);
    }

-- lines behind lines that were ended
pub ended-joined : (old mid new more : List ℕ) → EndsLine old mid → new ≡ mid ++ more → lines new ≡ lines old ++ lines more
ended-joined old mid new more ended is =
    ap lines (is ∙ ap (λ (all : List ℕ). all ++ more) ended.new_is ∙ append_assoc ended.front (line_feed ∷ []) more)
    ∙ lines-behind ended.front more
    ∙ ap (λ (all : List (List ℕ)). all ++ lines more) (ap lines (sym ended.new_is) ∙ ended.same)
