-- The first line of a text.
use Rattle.std.proofs.Common.{◌≡◌, ◌≢◌, ◌⊎◌, ℕ, ◌-◌, ◌*◌, ◌+◌, ◌<◌, ◌≤◌, List, [], ◌∷◌, ◌++◌, length, take, slice_index, true, Option, Some, None, Ok, inl, inr, refl, sym, ap, ◌∙◌, subst, length-append, arith}
use Rattle.std.specs.Prelude.{MatchOption}
use Rattle.std.specs.List.{AllPass}
use Rattle.std.proofs.lemmas.Bool.{true≢false, cases_lt}
use Rattle.std.proofs.lemmas.List.{length-take-le, get_or-take}
use Rattle.std.proofs.lemmas.List.Elements.{All-nil, All-cons, All-head, All-tail}
use Rattle.hex.specs.Hex.{decode_of, is_hex_digit}
use Rattle.hex.proofs.HexLemmas.{decode_of-ok, decode_of-digits}
use Rattle.plant_config.specs.Plant.{PlantData}
use Rattle.line_text.specs.Decimal.{IsDigit}
use Rattle.line_text.specs.Laws.{IsLine}
use Rattle.line_text.proofs.DecimalLemmas.{value_more}
use Rattle.line_text.proofs.LinesLemmas.{lines_end, lines_on}
use Rattle.record_replay.specs.Script.{Read, space, line_feed, in_line, lines, NumberSpells}
use Rattle.record_replay.specs.LineInside.{SpellsPanel}
use Rattle.record_replay.specs.PairsInside.{ArePairs, IsNoPair}
use Rattle.record_replay.specs.FirstInside.{IsFirst, BeginsFormed, BeginsWithTurn, BeginsAsTurn, BeginsPlainly, EndsBehind}
use Rattle.record_replay.proofs.DigitsLemmas.{HexSpells-whole}
use Rattle.record_replay.proofs.LineSpellsLemmas.{turn_spells}

-- another byte than an LF
abbrev NoEnd : ℕ → Type 0
NoEnd byte = byte ≢ line_feed

-- a line ends at the first LF
lines-first : (line more : List ℕ) → IsLine line → lines (line ++ line_feed ∷ more) ≡ line ∷ lines more
lines-first [] more each = lines_end line_feed more refl
lines-first (byte ∷ line) more each =
    lines_on byte (line ++ line_feed ∷ more) (All-head NoEnd byte line each) ∙ ap (in_line byte) (lines-first line more (All-tail NoEnd byte line each))

first_line : (text line behind : List ℕ) → IsLine line → text ≡ line ++ line_feed ∷ behind → IsFirst text line behind
first_line text line behind each is =
    let long = ap length is ∙ length-append line (line_feed ∷ behind) in
    record { lines_are = ap lines is ∙ lines-first line behind each; shorter = omega (arith, long); within = omega (arith, long) }

-- no digit is an LF
line-hex : (hex : List ℕ) → AllPass is_hex_digit hex → IsLine hex
line-hex hex each = λ k d below is. true≢false (sym (each k d below) ∙ ap is_hex_digit is)

-- the line of a turn of a panel of one digit
line-turn : (digit : ℕ) (hex : List ℕ) → IsDigit digit → IsLine hex → IsLine (62 ∷ 32 ∷ digit ∷ space ∷ hex)
line-turn digit hex is each =
    All-cons NoEnd 62 (32 ∷ digit ∷ space ∷ hex) (λ same. absurd (omega (arith, same)))
    (All-cons NoEnd 32 (digit ∷ space ∷ hex) (λ same. absurd (omega (arith, same)))
    (All-cons NoEnd digit (space ∷ hex) (λ same. absurd (omega (arith, same, is.0)))
    (All-cons NoEnd space hex (λ same. absurd (omega (arith, same))) each)))

-- one digit spells its value
pub digit_spells : (digit : ℕ) → 48 ≤ digit → digit ≤ 57 → NumberSpells (digit ∷ []) (digit - 48)
digit_spells digit least most = record {
  spelled = record {
    some = omega arith;
    each = All-cons IsDigit digit [] (least, most) (All-nil IsDigit);
    number_is = omega (arith, value_more (digit ∷ []) 0 (omega arith) (least, most));
  };
  few = omega arith;
}

-- A text begins with a turn, by its parts.
turn_of_parts : (plant : PlantData) (text hex behind piece : List ℕ) (digit panel : ℕ) → text ≡ 62 ∷ 32 ∷ digit ∷ space ∷ (hex ++ line_feed ∷ behind) → SpellsPanel plant (digit ∷ []) panel
    → decode_of hex ≡ Ok piece → 1 ≤ length piece → length piece ≤ 256 → BeginsWithTurn plant text panel piece behind
turn_of_parts plant text hex behind piece digit panel is spells read some few =
    let ok = decode_of-ok hex piece read in
    let line : List ℕ = 62 ∷ 32 ∷ digit ∷ space ∷ hex in
    let digits : IsDigit digit = All-head IsDigit digit [] spells.0.spelled.each in (
      line,
      first_line text line behind (line-turn digit hex digits (line-hex hex ok.1)) is,
      (
        refl,
        turn_spells plant line (digit ∷ space ∷ hex) panel piece (omega (arith, ok.2, few)) refl (record {
          digits = digit ∷ [];
          hex = hex;
          place = refl;
          number = spells.0;
          has_panel = spells.1;
          spelled = HexSpells-whole hex piece read;
          some = some;
        }),
      ),
    )

-- the same, by what is found of it
pub turn_found : (plant : PlantData) (text hex behind piece : List ℕ) (digit panel count : ℕ) → BeginsAsTurn text digit hex → SpellsPanel plant (digit ∷ []) panel → 2 * count < length hex → EndsBehind (2 * count) hex behind
    → decode_of (take (2 * count) hex) ≡ Ok piece → 1 ≤ count → count ≤ 256 → BeginsWithTurn plant text panel piece behind
turn_found plant text hex behind piece digit panel count begins spells within ends read some few =
    let ok = decode_of-ok (take (2 * count) hex) piece read in
    let long = length-take-le (2 * count) hex (omega (arith, within)) in
    turn_of_parts plant text (take (2 * count) hex) behind piece digit panel (begins ∙ ap (λ (hex : List ℕ). 62 ∷ 32 ∷ digit ∷ space ∷ hex) ends) spells read
    (omega (arith, ok.2, long, some)) (omega (arith, ok.2, long, few))

-- the same of a turn whose bytes aren't kept
pub formed_found : (plant : PlantData) (text hex behind : List ℕ) (digit panel count : ℕ) → BeginsAsTurn text digit hex → SpellsPanel plant (digit ∷ []) panel → 2 * count < length hex → EndsBehind (2 * count) hex behind
    → ArePairs count hex → 1 ≤ count → count ≤ 256 → BeginsFormed plant text behind
formed_found plant text hex behind digit panel count begins spells within ends (piece, read) some few =
    let turn = turn_found plant text hex behind piece digit panel count begins spells within ends read some few in
    (turn.0, turn.1, inr (Read panel piece, turn.2))

-- what is found of a value, and where there is none
pub by_found : {X : Type 0} (result : Option X) (Else Missed : Type 0) (Found Wanted : X → Type 0) → MatchOption result Else Found → (Else → Missed) → ((x : X) → Found x → Wanted x) → MatchOption result Missed Wanted
by_found None Else Missed Found Wanted found missed wanted = missed found
by_found (Some x) Else Missed Found Wanted found missed wanted = wanted x found

-- nothing is found
pub none_found : {X : Type 0} (result : Option X) (Missed : Type 0) (Wanted : X → Type 0) → result ≡ None → Missed → MatchOption result Missed Wanted
none_found result Missed Wanted none missed = subst (λ found. MatchOption found Missed Wanted) (sym none) missed

-- pairs are digits
pairs_digit : (count k : ℕ) (text : List ℕ) → ArePairs count text → 2 * count ≤ length text → k < 2 * count → is_hex_digit (slice_index text k) ≡ true
pairs_digit count k text (bytes, read) within below =
    let ok = decode_of-ok (take (2 * count) text) bytes read in
    let long = length-take-le (2 * count) text within in
    ap is_hex_digit (sym (get_or-take (2 * count) text k 0 below)) ∙ ok.1 k 0 (omega (arith, long, below))

-- what is no pair isn't among pairs
no_pair_within : (count pairs : ℕ) (text : List ℕ) → IsNoPair count text → ArePairs pairs text → 2 * pairs ≤ length text → count < pairs → ⊥
no_pair_within count pairs text none are within below =
    let high = slice_index text (2 * count) in
    let low = slice_index text (2 * count + 1) in
    let IsHex : ℕ → Type 0 = λ byte. is_hex_digit byte ≡ true in
    let digit = λ (k : ℕ) (is : k < 2 * pairs). pairs_digit pairs k text are within is in
    let read = decode_of-digits (high ∷ low ∷ []) refl
    (All-cons IsHex high (low ∷ []) (digit (2 * count) (omega (arith, below)))
    (All-cons IsHex low [] (digit (2 * count + 1) (omega (arith, below))) (All-nil IsHex))) in
    none read.0 read.1

-- nor is an LF
no_end_within : (k pairs : ℕ) (text : List ℕ) → slice_index text k ≡ line_feed → ArePairs pairs text → 2 * pairs ≤ length text → k < 2 * pairs → ⊥
no_end_within k pairs text is are within below = true≢false (sym (pairs_digit pairs k text are within below) ∙ ap is_hex_digit is)

-- A text whose first pairs end behind so many, with no LF, doesn't begin with a turn as most are.
pub not_plain : (plant : PlantData) (text hex : List ℕ) (digit count : ℕ) → BeginsAsTurn text digit hex → ArePairs count hex → (count < 256 → IsNoPair count hex) → count ≤ 256 → (1 ≤ count → slice_index hex (2 * count) ≢ line_feed) → BeginsPlainly plant text → ⊥
not_plain plant text hex digit count begins pairs other most ends plain = by_first (cases_lt count plain.count)
  where
    same : plain.hex ≡ hex
    same = cc (sym begins ∙ plain.begins)

    within : 512 < length hex
    within = omega (arith, plain.long, ap (length {A = ℕ}) same)

    are : ArePairs plain.count hex
    are = subst (λ (hex : List ℕ). ArePairs plain.count hex) same plain.pairs

    end : slice_index hex (2 * plain.count) ≡ line_feed
    end = ap (λ (hex : List ℕ). slice_index hex (2 * plain.count)) (sym same) ∙ plain.ends

    by_second : plain.count ≤ count → (plain.count < count) ⊎ (count ≤ plain.count) → ⊥
    by_second least (inl more) = no_end_within (2 * plain.count) count hex end pairs (omega (arith, within, most)) (omega (arith, more))
    by_second least (inr both) =
        let count_is : plain.count ≡ count = omega (arith, least, both) in
        ends (omega (arith, count_is, plain.some)) (ap (λ (count : ℕ). slice_index hex (2 * count)) (sym count_is) ∙ end)

    by_first : (count < plain.count) ⊎ (plain.count ≤ count) → ⊥
    by_first (inl fewer) = no_pair_within count plain.count hex (other (omega (arith, fewer, plain.most))) are (omega (arith, within, plain.most)) fewer
    by_first (inr least) = by_second least (cases_lt plain.count count)
