-- No two entries of a trace have one line.
use Rattle.std.proofs.Common.{◌≡◌, ℕ, zero, suc, ◌+◌, ◌%◌, ◌^◌, ◌<◌, ◌≤◌, ◌==◌, true, false, List, [], ◌∷◌, ◌++◌, drop, get_or, All, Result, Ok, refl, sym, ap, ◌∙◌, subst, eq-eqb, arith}
use Rattle.std.specs.Fmt.{decimal}
use Rattle.std.specs.Result.{result_unwrap_or}
use Rattle.std.proofs.lemmas.Bool.{false≢true}
use Rattle.std.proofs.lemmas.Fmt.{decimal_by_steps, decimal_injective}
use Rattle.std.proofs.lemmas.List.{append_assoc}
use Rattle.std.proofs.lemmas.List.Elements.{All-nil, All-cons, All-push, All-head, All-tail, All-weaker}
use Rattle.hex.specs.Hex.{encode_upper, decode_of, is_hex_digit, IsBytes}
use Rattle.hex.specs.declared.error.FromHexError.{FromHexError}
use Rattle.hex.proofs.HexLemmas.{decode_of-encode_upper, decode_of-ok}
use Rattle.swp08_messages.specs.declared.message.Message.{Message}
use Rattle.swp08_messages.specs.Text.{text, InRange}
use Rattle.swp08_messages.proofs.SpelledLemmas.{All-text}
use Rattle.swp08_messages.proofs.ReadingLemmas.{one_text}
use Rattle.plant_core.specs.declared.request.Request.{Request}
use Rattle.plant_core.specs.declared.request.Request.TheVariants.{Told, Poll, Leave, DisplayPoll}
use Rattle.trace_lines.specs.TraceLine.{trace_limit, request_text, MayTrace}
use Rattle.trace_lines.specs.Laws.{OneEntry}

-- a byte that isn't a space
abbrev NoSpace : ℕ → Type 0
NoSpace byte = byte ≡ 32 → ⊥

-- Texts without spaces that are cut off at the first space are the same where all is.
cut : (word other rest more : List ℕ) → All NoSpace word → All NoSpace other → word ++ 32 ∷ rest ≡ other ++ 32 ∷ more → (word ≡ other) × (rest ≡ more)
cut [] [] rest more plain clean same = (refl, ap (λ (line : List ℕ). drop 1 line) same)
cut [] (byte ∷ bytes) rest more plain clean same =
    let is : 32 ≡ byte = ap (λ (line : List ℕ). get_or line 0 0) same in
    absurd (All-head NoSpace byte bytes clean (sym is))
cut (byte ∷ bytes) [] rest more plain clean same =
    let is : byte ≡ 32 = ap (λ (line : List ℕ). get_or line 0 0) same in
    absurd (All-head NoSpace byte bytes plain is)
cut (byte ∷ bytes) (one ∷ others) rest more plain clean same =
    let is : byte ≡ one = ap (λ (line : List ℕ). get_or line 0 0) same in
    let behind : bytes ++ 32 ∷ rest ≡ others ++ 32 ∷ more = ap (λ (line : List ℕ). drop 1 line) same in
    let later = cut bytes others rest more (All-tail NoSpace byte bytes plain) (All-tail NoSpace one others clean) behind in
    let word : bytes ≡ others = later.0 in
    (cc (is, word), later.1)

-- Numbers and hexadecimal have no spaces,
decimal-plain : (number : ℕ) → number ≤ trace_limit → All NoSpace (decimal number)
decimal-plain number within = at number (omega arith) where
  at : (number : ℕ) → number < 2 ^ 64 → All NoSpace (decimal number)
  at = decimal_by_steps (λ number digits. All NoSpace digits)
      (λ number below. All-cons NoSpace (48 + number) [] (λ is. omega arith) (All-nil NoSpace))
      (λ number digits many all. All-push NoSpace digits (48 + number % 10) all (λ is. omega arith))

decimal-one : (number other : ℕ) → number ≤ trace_limit → other ≤ trace_limit → decimal number ≡ decimal other → number ≡ other
decimal-one number other within below same = decimal_injective number other (omega arith) (omega arith) same

digit-plain : (byte : ℕ) → is_hex_digit byte ≡ true → NoSpace byte
digit-plain byte digit is = false≢true (subst (λ (code : ℕ). is_hex_digit code ≡ true) is digit)

hex-plain : (bytes : List ℕ) → IsBytes bytes → All NoSpace (encode_upper bytes)
hex-plain bytes fit =
    let read = decode_of-ok (encode_upper bytes) bytes (decode_of-encode_upper bytes fit) in
    All-weaker (λ byte. is_hex_digit byte ≡ true) NoSpace digit-plain (encode_upper bytes) read.1

-- and hexadecimal is of one list of bytes.
hex-one : (bytes others : List ℕ) → IsBytes bytes → IsBytes others → encode_upper bytes ≡ encode_upper others → bytes ≡ others
hex-one bytes others fit within same =
    let read : decode_of (encode_upper bytes) ≡ Ok others = ap decode_of same ∙ decode_of-encode_upper others within in
    ap (λ (result : Result (List ℕ) FromHexError). result_unwrap_or result []) (sym (decode_of-encode_upper bytes fit) ∙ read)

IsBytes-from_all : (bytes : List ℕ) → All (λ byte. byte < 256) bytes → IsBytes bytes
IsBytes-from_all [] all at = omega arith
IsBytes-from_all (byte ∷ bytes) all zero = All-head (λ byte. byte < 256) byte bytes all
IsBytes-from_all (byte ∷ bytes) all (suc at) = IsBytes-from_all bytes (All-tail (λ byte. byte < 256) byte bytes all) at

message-bytes : (message : Message) → InRange message → IsBytes (text message)
message-bytes message in_range = IsBytes-from_all (text message) (All-text message in_range)

-- Two words, and three, are cut off one after the other.
two : (a b rest c d more : List ℕ) → All NoSpace a → All NoSpace b → All NoSpace c → All NoSpace d
    → a ++ 32 ∷ (b ++ 32 ∷ rest) ≡ c ++ 32 ∷ (d ++ 32 ∷ more) → (a ≡ c) × (b ≡ d) × (rest ≡ more)
two a b rest c d more plain_a plain_b plain_c plain_d same =
    let first = cut a c (b ++ 32 ∷ rest) (d ++ 32 ∷ more) plain_a plain_c same in
    let second = cut b d rest more plain_b plain_d first.1 in
    (first.0, second.0, second.1)

spread : (a b c rest : List ℕ) → a ++ 32 ∷ [] ++ b ++ 32 ∷ [] ++ c ++ 32 ∷ rest ≡ a ++ 32 ∷ (b ++ 32 ∷ (c ++ 32 ∷ rest))
spread a b c rest = simp append_assoc

three : (a b c rest d e f more : List ℕ) → All NoSpace a → All NoSpace b → All NoSpace c → All NoSpace d → All NoSpace e → All NoSpace f
    → a ++ 32 ∷ [] ++ b ++ 32 ∷ [] ++ c ++ 32 ∷ rest ≡ d ++ 32 ∷ [] ++ e ++ 32 ∷ [] ++ f ++ 32 ∷ more
    → (a ≡ d) × (b ≡ e) × (c ≡ f) × (rest ≡ more)
three a b c rest d e f more plain_a plain_b plain_c plain_d plain_e plain_f same =
    let spread_same : a ++ 32 ∷ (b ++ 32 ∷ (c ++ 32 ∷ rest)) ≡ d ++ 32 ∷ (e ++ 32 ∷ (f ++ 32 ∷ more)) = sym (spread a b c rest) ∙ same ∙ spread d e f more in
    let first = two a b (c ++ 32 ∷ rest) d e (f ++ 32 ∷ more) plain_a plain_b plain_d plain_e spread_same in
    let last = cut c f rest more plain_c plain_f first.2 in
    (first.0, first.1, last.0, last.1)

-- the first byte of a line
abbrev first_of_line : List ℕ → ℕ
first_of_line line = get_or line 0 0

unlike : (first second : ℕ) → (first == second) ≡ false → first ≡ second → ⊥
unlike first second differ same = false≢true (sym differ ∙ eq-eqb first second same)

-- Lines that begin with two bytes are two.
apart : (first second : ℕ) (line other : List ℕ) → line ≡ other → first_of_line line ≡ first → first_of_line other ≡ second → (first == second) ≡ false → ⊥
apart first second line other same is_first is_second differ =
    unlike first second differ (sym is_first ∙ ap first_of_line same ∙ is_second)

told-one : (panel item other at : ℕ) (message sent : Message) (rest more : List ℕ) → MayTrace (Told panel item message) → MayTrace (Told other at sent)
    → decimal panel ++ 32 ∷ [] ++ decimal item ++ 32 ∷ [] ++ encode_upper (text message) ++ 32 ∷ rest
    ≡ decimal other ++ 32 ∷ [] ++ decimal at ++ 32 ∷ [] ++ encode_upper (text sent) ++ 32 ∷ more
    → (Told panel item message ≡ Told other at sent) × (rest ≡ more)
told-one panel item other at message sent rest more may might same =
    let bytes = message-bytes message may.2 in
    let codes_sent = message-bytes sent might.2 in
    let is = three (decimal panel) (decimal item) (encode_upper (text message)) rest (decimal other) (decimal at) (encode_upper (text sent)) more
    (decimal-plain panel may.0) (decimal-plain item may.1) (hex-plain (text message) bytes)
    (decimal-plain other might.0) (decimal-plain at might.1) (hex-plain (text sent) codes_sent) same in
    let panels : panel ≡ other = decimal-one panel other may.0 might.0 is.0 in
    let items : item ≡ at = decimal-one item at may.1 might.1 is.1 in
    let messages : message ≡ sent = one_text message sent may.2 might.2 (hex-one (text message) (text sent) bytes codes_sent is.2) in
    (cc (panels, items, messages), is.3)

poll-one : (panel item turn other at later : ℕ) (rest more : List ℕ) → MayTrace (Poll panel item turn) → MayTrace (Poll other at later)
    → decimal panel ++ 32 ∷ [] ++ decimal item ++ 32 ∷ [] ++ decimal turn ++ 32 ∷ rest
    ≡ decimal other ++ 32 ∷ [] ++ decimal at ++ 32 ∷ [] ++ decimal later ++ 32 ∷ more
    → (Poll panel item turn ≡ Poll other at later) × (rest ≡ more)
poll-one panel item turn other at later rest more may might same =
    let is = three (decimal panel) (decimal item) (decimal turn) rest (decimal other) (decimal at) (decimal later) more
    (decimal-plain panel may.0) (decimal-plain item may.1) (decimal-plain turn may.2)
    (decimal-plain other might.0) (decimal-plain at might.1) (decimal-plain later might.2) same in
    let panels : panel ≡ other = decimal-one panel other may.0 might.0 is.0 in
    let items : item ≡ at = decimal-one item at may.1 might.1 is.1 in
    let turns : turn ≡ later = decimal-one turn later may.2 might.2 is.2 in
    (cc (panels, items, turns), is.3)

leave-one : (panel other : ℕ) (rest more : List ℕ) → panel ≤ trace_limit → other ≤ trace_limit
    → decimal panel ++ 32 ∷ rest ≡ decimal other ++ 32 ∷ more → (Leave panel ≡ Leave other) × (rest ≡ more)
leave-one panel other rest more may might same =
    let is = cut (decimal panel) (decimal other) rest more (decimal-plain panel may) (decimal-plain other might) same in
    (ap Leave (decimal-one panel other may might is.0), is.1)

-- Of a display poll the digit behind the screen tells whether it refreshes.
show-cut : (screen other digit number : ℕ) (rest more : List ℕ) → screen ≤ trace_limit → other ≤ trace_limit
    → decimal screen ++ 32 ∷ digit ∷ [] ++ 32 ∷ rest ≡ decimal other ++ 32 ∷ number ∷ [] ++ 32 ∷ more
    → (screen ≡ other) × (digit ≡ number) × (rest ≡ more)
show-cut screen other digit number rest more may might same =
    let behind : decimal screen ++ 32 ∷ digit ∷ 32 ∷ rest ≡ decimal other ++ 32 ∷ number ∷ 32 ∷ more =
    sym (append_assoc (decimal screen) (32 ∷ digit ∷ []) (32 ∷ rest)) ∙ same ∙ append_assoc (decimal other) (32 ∷ number ∷ []) (32 ∷ more) in
    let is = cut (decimal screen) (decimal other) (digit ∷ 32 ∷ rest) (number ∷ 32 ∷ more) (decimal-plain screen may) (decimal-plain other might) behind in (
      decimal-one screen other may might is.0,
      ap first_of_line is.1,
      ap (λ (line : List ℕ). drop 2 line) is.1,
    )

-- What comes behind the word of a line.
behind_word : (count : ℕ) (line other : List ℕ) → line ≡ other → drop count line ≡ drop count other
behind_word count line other same = ap (λ (bytes : List ℕ). drop count bytes) same

-- The request of a line is one, and so is what stands behind it.
request-one : (request asked : Request) (rest more : List ℕ) → MayTrace request → MayTrace asked
    → request_text request ++ 32 ∷ rest ≡ request_text asked ++ 32 ∷ more → (request ≡ asked) × (rest ≡ more)
request-one (Told panel item message) (Told other at sent) rest more may might same =
    told-one panel item other at message sent rest more may might (behind_word 5 _ _ same)
request-one (Poll panel item turn) (Poll other at later) rest more may might same =
    poll-one panel item turn other at later rest more may might (behind_word 5 _ _ same)
request-one (Leave panel) (Leave other) rest more may might same =
    leave-one panel other rest more may might (behind_word 6 _ _ same)
request-one (DisplayPoll screen true) (DisplayPoll other true) rest more may might same =
    let is = show-cut screen other 49 49 rest more may might (behind_word 5 _ _ same) in
    (ap (λ (number : ℕ). DisplayPoll number true) is.0, is.2)
request-one (DisplayPoll screen false) (DisplayPoll other false) rest more may might same =
    let is = show-cut screen other 48 48 rest more may might (behind_word 5 _ _ same) in
    (ap (λ (number : ℕ). DisplayPoll number false) is.0, is.2)
request-one (DisplayPoll screen true) (DisplayPoll other false) rest more may might same =
    let is = show-cut screen other 49 48 rest more may might (behind_word 5 _ _ same) in
    absurd (unlike 49 48 refl is.1)
request-one (DisplayPoll screen false) (DisplayPoll other true) rest more may might same =
    let is = show-cut screen other 48 49 rest more may might (behind_word 5 _ _ same) in
    absurd (unlike 48 49 refl is.1)
request-one (Told panel item message) (Poll other at turn) rest more may might same = absurd (apart 116 112 _ _ same refl refl refl)
request-one (Told panel item message) (Leave other) rest more may might same = absurd (apart 116 108 _ _ same refl refl refl)
request-one (Told panel item message) (DisplayPoll screen refresh) rest more may might same = absurd (apart 116 115 _ _ same refl refl refl)
request-one (Poll panel item turn) (Told other at message) rest more may might same = absurd (apart 112 116 _ _ same refl refl refl)
request-one (Poll panel item turn) (Leave other) rest more may might same = absurd (apart 112 108 _ _ same refl refl refl)
request-one (Poll panel item turn) (DisplayPoll screen refresh) rest more may might same = absurd (apart 112 115 _ _ same refl refl refl)
request-one (Leave panel) (Told other at message) rest more may might same = absurd (apart 108 116 _ _ same refl refl refl)
request-one (Leave panel) (Poll other at turn) rest more may might same = absurd (apart 108 112 _ _ same refl refl refl)
request-one (Leave panel) (DisplayPoll screen refresh) rest more may might same = absurd (apart 108 115 _ _ same refl refl refl)
request-one (DisplayPoll screen refresh) (Told other at message) rest more may might same = absurd (apart 115 116 _ _ same refl refl refl)
request-one (DisplayPoll screen refresh) (Poll other at turn) rest more may might same = absurd (apart 115 112 _ _ same refl refl refl)
request-one (DisplayPoll screen refresh) (Leave other) rest more may might same = absurd (apart 115 108 _ _ same refl refl refl)

-- the line of an entry, cut behind its position and behind its request
entry-spread : (position request reply : List ℕ) → position ++ 32 ∷ [] ++ request ++ 32 ∷ 61 ∷ 32 ∷ [] ++ reply ≡ position ++ 32 ∷ (request ++ 32 ∷ 61 ∷ 32 ∷ reply)
entry-spread position request reply = simp append_assoc

pub one_entry : OneEntry
one_entry position other request asked reply told within below may might same =
    let spread_same : decimal position ++ 32 ∷ (request_text request ++ 32 ∷ 61 ∷ 32 ∷ reply) ≡ decimal other ++ 32 ∷ (request_text asked ++ 32 ∷ 61 ∷ 32 ∷ told) =
    sym (entry-spread (decimal position) (request_text request) reply) ∙ same ∙ entry-spread (decimal other) (request_text asked) told in
    let is = cut (decimal position) (decimal other) (request_text request ++ 32 ∷ 61 ∷ 32 ∷ reply) (request_text asked ++ 32 ∷ 61 ∷ 32 ∷ told)
    (decimal-plain position within) (decimal-plain other below) spread_same in
    let behind = request-one request asked (61 ∷ 32 ∷ reply) (61 ∷ 32 ∷ told) may might is.1 in
    (decimal-one position other within below is.0, behind.0, ap (λ (line : List ℕ). drop 2 line) behind.1)
