-- A line of a trace has no line's end but its own.
use Rattle.std.proofs.Common.{◌≡◌, ℕ, zero, suc, ◌+◌, ◌/◌, ◌%◌, ◌^◌, ◌<◌, ◌≤◌, ◌==◌, Bool, true, false, not, List, [], ◌∷◌, ◌++◌, All, slice_index, codes, refl, subst, arith}
use Rattle.std.specs.Fmt.{decimal}
use Rattle.std.specs.List.{list_all}
use Rattle.std.proofs.lemmas.Bool.{false≢true}
use Rattle.std.proofs.lemmas.Fmt.{decimal_by_steps}
use Rattle.std.proofs.lemmas.List.Elements.{All-nil, All-cons, All-push, All-append, All-head, All-tail, All-weaker}
use Rattle.std.proofs.lemmas.List.Sums.{AllPass-from_list_all}
use Rattle.hex.specs.Hex.{encode_upper, encode_with, upper_digits}
use Rattle.swp08_messages.specs.Text.{text}
use Rattle.plant_core.specs.declared.request.Request.{Request}
use Rattle.plant_core.specs.declared.request.Request.TheVariants.{Told, Poll, Leave, DisplayPoll}
use Rattle.trace_lines.specs.TraceLine.{trace_limit, request_text, told_bytes, entry_text, MayTrace}

-- a byte that doesn't end a line
abbrev pub NoEnd : ℕ → Type 0
NoEnd byte = byte ≡ 10 → ⊥

abbrev goes_on : ℕ → Bool
goes_on byte = not (byte == 10)

goes_on-is : (byte : ℕ) → goes_on byte ≡ true → NoEnd byte
goes_on-is byte test is = false≢true (subst (λ (code : ℕ). goes_on code ≡ true) is test)

pub literal : (bytes : List ℕ) → list_all goes_on bytes ≡ true → All NoEnd bytes
literal bytes test = All-weaker (λ byte. goes_on byte ≡ true) NoEnd goes_on-is bytes (AllPass-from_list_all goes_on bytes test)

pub join : (a b : List ℕ) → All NoEnd a → All NoEnd b → All NoEnd (a ++ b)
join a b = All-append NoEnd a b

number : (value : ℕ) → value ≤ trace_limit → All NoEnd (decimal value)
number value within = at value (omega arith) where
  at : (value : ℕ) → value < 2 ^ 64 → All NoEnd (decimal value)
  at = decimal_by_steps (λ value digits. All NoEnd digits)
      (λ value below. All-cons NoEnd (48 + value) [] (λ is. omega arith) (All-nil NoEnd))
      (λ value digits many all. All-push NoEnd digits (48 + value % 10) all (λ is. omega arith))

pick : (table : List ℕ) (at : ℕ) → All NoEnd table → NoEnd (slice_index table at)
pick [] at all is = omega arith
pick (byte ∷ bytes) zero all is = All-head NoEnd byte bytes all is
pick (byte ∷ bytes) (suc at) all is = pick bytes at (All-tail NoEnd byte bytes all) is

pub hex : (bytes : List ℕ) → All NoEnd (encode_upper bytes)
unfolding encode_with
hex [] = All-nil NoEnd
hex (byte ∷ bytes) =
    let digits = literal upper_digits refl in
    All-cons NoEnd (slice_index upper_digits (byte / 16)) (slice_index upper_digits (byte % 16) ∷ encode_upper bytes) (pick upper_digits (byte / 16) digits)
    (All-cons NoEnd (slice_index upper_digits (byte % 16)) (encode_upper bytes) (pick upper_digits (byte % 16) digits) (hex bytes))

-- a word and three parts with spaces between them
parts : (word a b c : List ℕ) → All NoEnd word → All NoEnd a → All NoEnd b → All NoEnd c → All NoEnd (word ++ a ++ codes " " ++ b ++ codes " " ++ c)
parts word a b c plain_word plain_a plain_b plain_c =
    let space = literal (codes " ") refl in
    join (word ++ a ++ codes " " ++ b ++ codes " ") c
    (join (word ++ a ++ codes " " ++ b) (codes " ") (join (word ++ a ++ codes " ") b (join (word ++ a) (codes " ") (join word a plain_word plain_a) space) plain_b) space) plain_c

request : (asked : Request) → MayTrace asked → All NoEnd (request_text asked)
request (Told panel item message) may =
    parts (codes "told ") (decimal panel) (decimal item) (encode_upper (text message)) (literal (codes "told ") refl) (number panel may.0) (number item may.1) (hex (text message))
request (Poll panel item turn) may =
    parts (codes "poll ") (decimal panel) (decimal item) (decimal turn) (literal (codes "poll ") refl) (number panel may.0) (number item may.1) (number turn may.2)
request (Leave panel) may = join (codes "leave ") (decimal panel) (literal (codes "leave ") refl) (number panel may)
request (DisplayPoll screen true) may =
    join (codes "show " ++ decimal screen) (codes " 1") (join (codes "show ") (decimal screen) (literal (codes "show ") refl) (number screen may)) (literal (codes " 1") refl)
request (DisplayPoll screen false) may =
    join (codes "show " ++ decimal screen) (codes " 0") (join (codes "show ") (decimal screen) (literal (codes "show ") refl) (number screen may)) (literal (codes " 0") refl)

pub sent : (bytes : List ℕ) → All NoEnd (told_bytes bytes)
sent [] = literal (codes "-") refl
sent (byte ∷ bytes) = hex (byte ∷ bytes)

-- With a reply that has none a line has none but its own.
pub line_ends : (position : ℕ) (asked : Request) (reply : List ℕ) → position ≤ trace_limit → MayTrace asked → All NoEnd reply → All NoEnd (entry_text position asked reply)
line_ends position asked reply within may plain =
    let one = join (decimal position) (codes " ") (number position within) (literal (codes " ") refl) in
    let two = join (decimal position ++ codes " ") (request_text asked) one (request asked may) in
    let three = join (decimal position ++ codes " " ++ request_text asked) (codes " = ") two (literal (codes " = ") refl) in
    join (decimal position ++ codes " " ++ request_text asked ++ codes " = ") reply three plain
