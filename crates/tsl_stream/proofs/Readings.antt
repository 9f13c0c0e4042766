-- The reading of a text by its start, and of a text that goes on.
use Rattle.std.proofs.Common.{◌≡◌, ℕ, ◌≤◌, ◌<◌, false, nat_eq, List, [], ◌∷◌, ◌++◌, length, take, refl, sym, ap, ◌∙◌, subst, arith}
use Rattle.std.proofs.lemmas.Bool.{cond-false, cond-true, and_left, le-ltb, lt-ltb, le-leb, lt-leb}
use Rattle.std.proofs.lemmas.List.{length-append, append_assoc, take_at}
use Rattle.tsl_umd5.specs.declared.fault.TslFault.TheVariants.{TooLong}
use Rattle.tsl_umd5.specs.Layout.{max_packet}
use Rattle.tsl_stream.specs.Numbers.{tsl_dle, tsl_stx}
use Rattle.tsl_stream.specs.Stream.{stuffed}
use Rattle.doubled_bytes.specs.Reading.{with_item}
use Rattle.tsl_stream.specs.Items.{Bad, packet_run, behind_pieces, packet_size, StreamReading, item_of_bytes, broken_off, in_packet, by_packet_start, stream_reading}
use Rattle.tsl_stream.specs.Kept.{IsOpen}
use Rattle.doubled_bytes.proofs.Runs.{at_byte, continued, longest_run-stop, longest_run-doubled, longest_run-ended, Stops, length-behind}
use Rattle.doubled_bytes.proofs.Readings.{reading_by-start, followed, GoesOn, goes_on_rest, goes_on_behind, goes_on_item, goes_on_always}
use Rattle.tsl_stream.proofs.Runs.{length-behind_pieces, behind_pieces-body}
use Rattle.tsl_stream.proofs.Packets.{IsWhole, IsTooLong, packet_size-append, packet_size-least, packet_cases}

-- Two readings that agree on what is behind a run agree on what is behind pieces of it.
broken_off-same : (f g : List ℕ → StreamReading) (text behind : List ℕ) → ((t : List ℕ) → length t ≤ length behind → f t ≡ g t) → broken_off f text behind ≡ broken_off g text behind
broken_off-same f g text [] same = refl
broken_off-same f g text (a ∷ []) same = refl
broken_off-same f g text (a ∷ b ∷ more) same = rw (same more (omega arith), same (a ∷ b ∷ more) (omega arith)) refl

in_packet-same : (f g : List ℕ → StreamReading) (text : List ℕ) → ((t : List ℕ) → length t ≤ length text → f t ≡ g t) → in_packet f text (packet_run text) ≡ in_packet g text (packet_run text)
in_packet-same f g text same =
    let run = packet_run text in
    let n = packet_size run.spelled in
    let broken : broken_off f text run.behind ≡ broken_off g text run.behind = broken_off-same f g text run.behind (λ t within. same t (omega (arith, length-behind tsl_dle text))) in
    rw (same (behind_pieces 2 run) (length-behind_pieces 2 text), same (behind_pieces n run) (length-behind_pieces n text), broken) refl

-- Two readings that agree on each shorter text agree on a text by its start.
pub by_packet_start-same : (f g : List ℕ → StreamReading) (text : List ℕ) → ((t : List ℕ) → length t < length text → f t ≡ g t) → by_packet_start f text ≡ by_packet_start g text
by_packet_start-same f g [] same = refl
by_packet_start-same f g (a ∷ []) same = refl
by_packet_start-same f g (a ∷ b ∷ text) same =
    let inner : in_packet f text (packet_run text) ≡ in_packet g text (packet_run text) = in_packet-same f g text (λ t within. same t (omega arith)) in
    rw (inner, same (b ∷ text) (omega arith)) refl

-- The steps are no part of the meaning.
pub stream_reading-by_packet_start : (text : List ℕ) → stream_reading text ≡ by_packet_start stream_reading text
unfolding stream_reading
stream_reading-by_packet_start text = reading_by-start by_packet_start by_packet_start-same text

-- A byte that isn't DLE is noise at the start of a text.
pub stream_reading-noise : (a : ℕ) (text : List ℕ) → nat_eq a tsl_dle ≡ false → stream_reading (a ∷ text) ≡ stream_reading text
stream_reading-noise a [] other = stream_reading-by_packet_start (a ∷ []) ∙ cond-false _ _ _ other ∙ sym (stream_reading-by_packet_start [])
stream_reading-noise a (b ∷ text) other = stream_reading-by_packet_start (a ∷ b ∷ text) ∙ cond-false _ _ _ (and_left (nat_eq a tsl_dle) (nat_eq b tsl_stx) other)

-- So is a DLE before a byte that isn't STX.
pub stream_reading-noise_dle : (b : ℕ) (text : List ℕ) → nat_eq b tsl_stx ≡ false → stream_reading (tsl_dle ∷ b ∷ text) ≡ stream_reading (b ∷ text)
stream_reading-noise_dle b text no_stx = stream_reading-by_packet_start (tsl_dle ∷ b ∷ text) ∙ cond-false _ _ _ no_stx

-- what is behind a start, by the run of pieces of which some are known
stream_reading-packet : (body tail : List ℕ) → stream_reading (tsl_dle ∷ tsl_stx ∷ (stuffed body ++ tail)) ≡ in_packet stream_reading (stuffed body ++ tail) (continued body (packet_run tail))
stream_reading-packet body tail = stream_reading-by_packet_start (tsl_dle ∷ tsl_stx ∷ (stuffed body ++ tail)) ∙ ap (in_packet stream_reading (stuffed body ++ tail)) (longest_run-doubled tsl_dle body tail)

-- a packet that is too long ends with PBC
pub stream_reading-long : (body tail : List ℕ) → IsTooLong body → stream_reading (tsl_dle ∷ tsl_stx ∷ (stuffed body ++ tail)) ≡ with_item (Bad (TooLong (packet_size body))) (stream_reading tail)
stream_reading-long body tail is =
    let spelled = body ++ (packet_run tail).spelled in
    let same : packet_size spelled ≡ packet_size body = packet_size-append body (packet_run tail).spelled (omega (arith, is.counted)) in
    let behind : behind_pieces 2 (continued body (packet_run tail)) ≡ tail = ap (λ (n : ℕ). behind_pieces n (continued body (packet_run tail))) (sym is.counted) ∙ behind_pieces-body body tail in
    stream_reading-packet body tail
    ∙ cond-true _ _ _ (lt-ltb max_packet (packet_size spelled) (omega (arith, same, is.more)))
    ∙ ap (λ (n : ℕ). with_item (Bad (TooLong n)) (stream_reading (behind_pieces 2 (continued body (packet_run tail))))) same
    ∙ ap (λ (behind : List ℕ). with_item (Bad (TooLong (packet_size body))) (stream_reading behind)) behind

-- a whole packet ends with its last byte
pub stream_reading-whole : (body tail : List ℕ) → IsWhole body → stream_reading (tsl_dle ∷ tsl_stx ∷ (stuffed body ++ tail)) ≡ with_item (item_of_bytes body) (stream_reading tail)
stream_reading-whole body tail is =
    let run = continued body (packet_run tail) in
    let same : packet_size run.spelled ≡ length body = packet_size-append body (packet_run tail).spelled (omega (arith, is.all, packet_size-least body)) ∙ sym is.all in
    stream_reading-packet body tail
    ∙ cond-false _ _ _ (le-ltb max_packet (packet_size run.spelled) (omega (arith, same, is.all, is.fits)))
    ∙ cond-true _ _ _ (le-leb (packet_size run.spelled) (length run.spelled) (omega (arith, same, length-append body (packet_run tail).spelled)))
    ∙ ap (λ (n : ℕ). with_item (item_of_bytes (take n run.spelled)) (stream_reading (behind_pieces n run))) same
    ∙ ap (λ (bytes : List ℕ). with_item (item_of_bytes bytes) (stream_reading (behind_pieces (length body) run))) (take_at body (packet_run tail).spelled (length body) refl)
    ∙ ap (λ (behind : List ℕ). with_item (item_of_bytes body) (stream_reading behind)) (behind_pieces-body body tail)

-- a packet that isn't whole, by what is behind its pieces
pub stream_reading-open : (body tail : List ℕ) → IsOpen body → packet_run tail ≡ record { spelled = []; behind = tail } → stream_reading (tsl_dle ∷ tsl_stx ∷ (stuffed body ++ tail)) ≡ broken_off stream_reading (stuffed body ++ tail) tail
stream_reading-open body tail is_open ends =
    stream_reading-by_packet_start (tsl_dle ∷ tsl_stx ∷ (stuffed body ++ tail))
    ∙ ap (in_packet stream_reading (stuffed body ++ tail)) (longest_run-ended tsl_dle body tail ends)
    ∙ cond-false _ _ _ (le-ltb max_packet (packet_size body) is_open.fits)
    ∙ cond-false _ _ _ (lt-leb (packet_size body) (length body) is_open.more)

-- a packet that DLE and another byte than STX break off
pub stream_reading-broken : (body : List ℕ) (b : ℕ) (more : List ℕ) → IsOpen body → nat_eq b tsl_dle ≡ false → nat_eq b tsl_stx ≡ false → stream_reading (tsl_dle ∷ tsl_stx ∷ (stuffed body ++ tsl_dle ∷ b ∷ more)) ≡ stream_reading more
stream_reading-broken body b more is_open no_dle no_stx = stream_reading-open body (tsl_dle ∷ b ∷ more) is_open (longest_run-stop tsl_dle b more no_dle) ∙ cond-false _ _ _ no_stx

-- what was read behind a start, with more behind it
started : (body tail more : List ℕ) → stream_reading ((tsl_dle ∷ tsl_stx ∷ (stuffed body ++ tail)) ++ more) ≡ stream_reading (tsl_dle ∷ tsl_stx ∷ (stuffed body ++ (tail ++ more)))
started body tail more = ap (λ (text : List ℕ). stream_reading (tsl_dle ∷ tsl_stx ∷ text)) (append_assoc (stuffed body) tail more)

-- the same of a packet that isn't whole, by what is behind its pieces
goes_on_open : (more body behind : List ℕ) → IsOpen body → Stops tsl_dle behind → ((t : List ℕ) → length t ≤ length behind → GoesOn stream_reading more t) → GoesOn stream_reading more (tsl_dle ∷ tsl_stx ∷ (stuffed body ++ behind))
goes_on_open more body [] is_open stops shorter = goes_on_rest stream_reading more (tsl_dle ∷ tsl_stx ∷ (stuffed body ++ [])) (stream_reading-open body [] is_open refl)
goes_on_open more body (a ∷ []) is_open stops shorter =
    let P : ℕ → Type 0 = λ a. GoesOn stream_reading more (tsl_dle ∷ tsl_stx ∷ (stuffed body ++ a ∷ [])) in
    subst P (sym stops) (goes_on_rest stream_reading more (tsl_dle ∷ tsl_stx ∷ (stuffed body ++ tsl_dle ∷ [])) (stream_reading-open body (tsl_dle ∷ []) is_open refl))
goes_on_open more body (a ∷ b ∷ behind) is_open stops shorter =
    let P : ℕ → Type 0 = λ a. GoesOn stream_reading more (tsl_dle ∷ tsl_stx ∷ (stuffed body ++ a ∷ b ∷ behind)) in
    subst P (sym stops.0)
    (at_byte tsl_stx (λ b. nat_eq b tsl_dle ≡ false → GoesOn stream_reading more (tsl_dle ∷ tsl_stx ∷ (stuffed body ++ tsl_dle ∷ b ∷ behind))) b
    (λ no_dle. goes_on_behind stream_reading more (tsl_dle ∷ tsl_stx ∷ (stuffed body ++ tsl_dle ∷ tsl_stx ∷ behind)) (tsl_dle ∷ tsl_stx ∷ behind)
    (stream_reading-open body (tsl_dle ∷ tsl_stx ∷ behind) is_open refl)
    (started body (tsl_dle ∷ tsl_stx ∷ behind) more ∙ stream_reading-open body (tsl_dle ∷ tsl_stx ∷ (behind ++ more)) is_open refl)
    (shorter (tsl_dle ∷ tsl_stx ∷ behind) (omega arith)))
    (λ no_stx no_dle. goes_on_behind stream_reading more (tsl_dle ∷ tsl_stx ∷ (stuffed body ++ tsl_dle ∷ b ∷ behind)) behind
    (stream_reading-broken body b behind is_open no_dle no_stx)
    (started body (tsl_dle ∷ b ∷ behind) more ∙ stream_reading-broken body b (behind ++ more) is_open no_dle no_stx)
    (shorter behind (omega arith)))
    stops.1)

-- the same of what is behind a start
goes_on_start : (more text : List ℕ) → ((t : List ℕ) → length t ≤ length text → GoesOn stream_reading more t) → GoesOn stream_reading more (tsl_dle ∷ tsl_stx ∷ text)
goes_on_start more =
    packet_cases (λ (text : List ℕ). ((t : List ℕ) → length t ≤ length text → GoesOn stream_reading more t) → GoesOn stream_reading more (tsl_dle ∷ tsl_stx ∷ text))
    (λ body tail long shorter. goes_on_item stream_reading more (tsl_dle ∷ tsl_stx ∷ (stuffed body ++ tail)) tail (Bad (TooLong (packet_size body)))
    (stream_reading-long body tail long) (started body tail more ∙ stream_reading-long body (tail ++ more) long) (shorter tail (omega (arith, length-append (stuffed body) tail))))
    (λ body tail whole shorter. goes_on_item stream_reading more (tsl_dle ∷ tsl_stx ∷ (stuffed body ++ tail)) tail (item_of_bytes body)
    (stream_reading-whole body tail whole) (started body tail more ∙ stream_reading-whole body (tail ++ more) whole) (shorter tail (omega (arith, length-append (stuffed body) tail))))
    (λ body behind is_open stops shorter. goes_on_open more body behind is_open stops (λ t within. shorter t (omega (arith, length-append (stuffed body) behind))))

goes_on_by : (more text : List ℕ) → ((t : List ℕ) → length t < length text → GoesOn stream_reading more t) → GoesOn stream_reading more text
goes_on_by more [] shorter = goes_on_rest stream_reading more [] (stream_reading-by_packet_start [])
goes_on_by more (a ∷ []) shorter =
    at_byte tsl_dle (λ a. GoesOn stream_reading more (a ∷ [])) a
    (goes_on_rest stream_reading more (tsl_dle ∷ []) (stream_reading-by_packet_start (tsl_dle ∷ [])))
    (λ other. goes_on_behind stream_reading more (a ∷ []) [] (stream_reading-noise a [] other) (stream_reading-noise a more other) (shorter [] (omega arith)))
goes_on_by more (a ∷ b ∷ text) shorter =
    at_byte tsl_dle (λ a. GoesOn stream_reading more (a ∷ b ∷ text)) a
    (at_byte tsl_stx (λ b. ((t : List ℕ) → length t ≤ length {A = ℕ} (b ∷ text) → GoesOn stream_reading more t) → GoesOn stream_reading more (tsl_dle ∷ b ∷ text)) b
    (λ within. goes_on_start more text (λ t few. within t (omega arith)))
    (λ no_stx within. goes_on_behind stream_reading more (tsl_dle ∷ b ∷ text) (b ∷ text) (stream_reading-noise_dle b text no_stx) (stream_reading-noise_dle b (text ++ more) no_stx) (within (b ∷ text) (omega arith)))
    (λ t few. shorter t (omega arith)))
    (λ other. goes_on_behind stream_reading more (a ∷ b ∷ text) (b ∷ text) (stream_reading-noise a (b ∷ text) other) (stream_reading-noise a (b ∷ (text ++ more)) other) (shorter (b ∷ text) (omega arith)))

pub stream_reading-append : (text more : List ℕ) → stream_reading (text ++ more) ≡ followed (stream_reading text) (stream_reading ((stream_reading text).rest ++ more))
stream_reading-append text more = goes_on_always stream_reading goes_on_by text more
