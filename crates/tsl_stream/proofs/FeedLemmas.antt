-- A reader that goes over the bytes of a piece.
use Rattle.std.proofs.Common.{◌≡◌, ℕ, ◌+◌, ◌-◌, ◌≤◌, ◌<◌, true, false, List, [], ◌∷◌, ◌++◌, length, take, drop, get_or, Some, None, refl, sym, ap, ◌∙◌, subst, arith}
use Rattle.std.specs.Option.{option_map, option_to_list, is_some}
use Rattle.std.proofs.lemmas.Bool.{false≢true}
use Rattle.std.proofs.lemmas.List.{append-nil, append_assoc, length-drop, take_more, take_rest, take-take, take-append-drop, drop-take}
use Rattle.std.proofs.lemmas.List.Concat.{flat_map-append}
use Rattle.tsl_stream.specs.Numbers.{tsl_dle, tsl_stx}
use Rattle.tsl_stream.specs.Stream.{stuffed}
use Rattle.tsl_stream.specs.declared.reader.StreamReader.{StreamReader}
use Rattle.doubled_bytes.specs.declared.state.State.{State}
use Rattle.doubled_bytes.specs.declared.state.State.TheVariants.{Outside, Inside}
use Rattle.doubled_bytes.specs.Reading.{only_rest}
use Rattle.tsl_stream.specs.Items.{PacketItem, StreamReading, packet_size, stream_reading, stream_items, stream_rest}
use Rattle.tsl_stream.specs.Kept.{KeepsPacket}
use Rattle.tsl_stream.specs.StepsInside.{found_in, Steps}
use Rattle.tsl_stream.specs.Reader.{StandsForStream}
use Rattle.tsl_stream.specs.ReaderInside.{PassesOver}
use Rattle.tsl_stream.specs.Feeding.{FeedsStream}
use Rattle.doubled_bytes.proofs.Feeds.{feeds_item}
use Rattle.tsl_stream.proofs.Packets.{open-append}
use Rattle.tsl_stream.proofs.LawLemmas.{reads_on_lem}
use Rattle.tsl_stream.proofs.StepLemmas.{Found, stream_reading-kept}

pub take-add : (n m : ℕ) (bytes : List ℕ) → take (n + m) bytes ≡ take n bytes ++ take m (drop n bytes)
take-add n m bytes =
    sym (take-append-drop n (take (n + m) bytes))
    ∙ ap (λ (front : List ℕ). front ++ drop n (take (n + m) bytes)) (take-take n (n + m) bytes (omega arith))
    ∙ ap (λ (back : List ℕ). take n bytes ++ back) (drop-take n m bytes)

pub passes_append : (first second : List ℕ) (a b c : StreamReader) → PassesOver first a b → PassesOver second b c → PassesOver (first ++ second) a c
passes_append first second a b c before behind text stands =
    let there = before text stands in
    let on = behind (text ++ first) there.1 in
    let P : List ℕ → Type 0 = λ whole. (stream_items whole ≡ stream_items text) × StandsForStream c whole in
    subst P (append_assoc text first second) (on.0 ∙ there.0, on.1)

-- the same of a front of a piece, and a front of the part behind it
pub passes_to : (piece part : List ℕ) (used n : ℕ) (a b c : StreamReader) → PassesOver (take used piece) a b → part ≡ drop used piece → PassesOver (take n part) b c → PassesOver (take (used + n) piece) a c
passes_to piece part used n a b c before is behind =
    let P : List ℕ → Type 0 = λ front. PassesOver front a c in
    subst P (ap (λ (part : List ℕ). take used piece ++ take n part) is ∙ sym (take-add used n piece)) (passes_append (take used piece) (take n part) a b c before behind)

-- the same, where the part is all of the piece behind the front
pub passes_rest : (piece : List ℕ) (used n : ℕ) (a b c : StreamReader) → PassesOver (take used piece) a b → PassesOver (take n (take (length piece - used) (drop used piece))) b c → PassesOver (take (used + n) piece) a c
passes_rest piece used n a b c before behind = passes_to piece (take (length piece - used) (drop used piece)) used n a b c before (take_rest piece used) behind

pub within_rest : (piece : List ℕ) (used n : ℕ) → used ≤ length piece → n ≤ length (take (length piece - used) (drop used piece)) → used + n ≤ length piece
within_rest piece used n within few = omega (arith, ap (length {A = ℕ}) (take_rest piece used), length-drop used piece)

-- the same of a front of a piece, and the byte behind it
pub passes_byte : (piece : List ℕ) (used byte : ℕ) (a b c : StreamReader) → used < length piece → byte ≡ get_or piece used 0 → PassesOver (take used piece) a b → PassesOver (byte ∷ []) b c → PassesOver (take (used + 1) piece) a c
passes_byte piece used byte a b c within is before behind =
    let P : List ℕ → Type 0 = λ front. PassesOver front a c in
    subst P (ap (λ (byte : ℕ). take used piece ++ byte ∷ []) is ∙ sym (take_more piece used 0 within)) (passes_append (take used piece) (byte ∷ []) a b c before behind)

-- bytes that are all noise pass outside a packet
pub passes_noise : (bytes : List ℕ) (reader : StreamReader) → reader.state ≡ Outside → stream_reading bytes ≡ only_rest [] → PassesOver bytes reader reader
unfolding StandsForStream
passes_noise bytes reader outside noise text stands =
    let Kept : List ℕ → Type 0 = λ kept. KeepsPacket reader.state reader.front kept in
    let none : stream_rest text ≡ [] = (let P : State → Type 0 = λ state. KeepsPacket state reader.front (stream_rest text) in subst P outside stands) in
    let on = reads_on_lem text bytes in
    let behind : stream_reading (stream_rest text ++ bytes) ≡ only_rest [] = ap (λ (kept : List ℕ). stream_reading (kept ++ bytes)) none ∙ noise in (
      on.items_go_on ∙ ap (λ (behind : StreamReading). stream_items text ++ behind.items) behind ∙ append-nil (stream_items text),
      subst Kept (none ∙ sym (on.rest_goes_on ∙ ap (λ (behind : StreamReading). behind.rest) behind)) stands,
    )

-- bytes of a packet that are their own spelling, and fewer than it wants, pass in it
pub passes_body : (bytes : List ℕ) (before after : StreamReader) → before.state ≡ Inside → after.state ≡ Inside → stuffed bytes ≡ bytes → length before.front + length bytes < packet_size before.front → after.front ≡ before.front ++ bytes → PassesOver bytes before after
unfolding StandsForStream
passes_body bytes before after inside still single few grown text stands =
    let kept : KeepsPacket Inside before.front (stream_rest text) = (let P : State → Type 0 = λ state. KeepsPacket state before.front (stream_rest text) in subst P inside stands) in
    let front = before.front ++ bytes in
    let is_open = open-append before.front bytes kept.0 few in
    let on = reads_on_lem text bytes in
    let spelled : stream_rest text ++ bytes ≡ tsl_dle ∷ tsl_stx ∷ stuffed front =
    ap (λ (rest : List ℕ). rest ++ bytes) kept.1
    ∙ ap (λ (bytes : List ℕ). tsl_dle ∷ tsl_stx ∷ (stuffed before.front ++ bytes)) (sym single)
    ∙ ap (λ (text : List ℕ). tsl_dle ∷ tsl_stx ∷ text) (sym (flat_map-append _ before.front bytes)) in
    let behind : stream_reading (stream_rest text ++ bytes) ≡ only_rest (tsl_dle ∷ tsl_stx ∷ stuffed front) = ap stream_reading spelled ∙ stream_reading-kept front is_open in
    let keeps : KeepsPacket Inside front (stream_rest (text ++ bytes)) = (is_open, on.rest_goes_on ∙ ap (λ (behind : StreamReading). behind.rest) behind) in (
      on.items_go_on ∙ ap (λ (behind : StreamReading). stream_items text ++ behind.items) behind ∙ append-nil (stream_items text),
      (let P : State → Type 0 = λ state. KeepsPacket state after.front (stream_rest (text ++ bytes)) in
          let Q : List ℕ → Type 0 = λ front. KeepsPacket Inside front (stream_rest (text ++ bytes)) in
          subst P (sym still) (subst Q (sym grown) keeps)),
    )

-- no bytes pass
pub passes_none : (reader : StreamReader) → PassesOver [] reader reader
passes_none reader text stands = let P : List ℕ → Type 0 = λ text. StandsForStream reader text in (ap stream_items (append-nil text), subst P (sym (append-nil text)) stands)

-- a step, at each text that the reader stands for
pub steps_at : (byte : ℕ) (item : Found) (before after : StreamReader) → Steps before.state before.front byte item after.state after.front
    → (text : List ℕ) → StandsForStream before text → (stream_items (text ++ byte ∷ []) ≡ stream_items text ++ option_to_list (option_map (found_in after.front) item)) × StandsForStream after (text ++ byte ∷ [])
unfolding StandsForStream Steps
steps_at byte item before after steps text stands =
    let on = reads_on_lem text (byte ∷ []) in
    let step = steps (stream_rest text) stands in
    let Kept : List ℕ → Type 0 = KeepsPacket after.state after.front in
    (on.items_go_on ∙ ap (λ (more : List PacketItem). stream_items text ++ more) step.0, subst Kept (sym on.rest_goes_on) step.1)

pub passes_step : (byte : ℕ) (before after : StreamReader) → Steps before.state before.front byte None after.state after.front → PassesOver (byte ∷ []) before after
passes_step byte before after steps text stands =
    let step = steps_at byte None before after steps text stands in
    (step.0 ∙ append-nil (stream_items text), step.1)

-- A piece whose items end with a byte behind a front in which none ends, by a step there.
pub feeds_step : (piece : List ℕ) (used byte : ℕ) (item : Found) (a b c : StreamReader) → used < length piece → byte ≡ get_or piece used 0 → PassesOver (take used piece) a b
    → Steps b.state b.front byte item c.state c.front → is_some item ≡ true → (text : List ℕ) → StandsForStream a text
    → FeedsStream text piece (used + 1) (option_map (found_in c.front) item) × StandsForStream c (text ++ take (used + 1) piece)
feeds_step piece used byte None a b c within is passes steps some text stands = absurd (false≢true some)
feeds_step piece used byte (Some item) a b c within is passes steps some text stands =
    let before = passes text stands in
    let step = steps_at byte (Some item) b c steps (text ++ take used piece) before.1 in
    let front : (text ++ take used piece) ++ byte ∷ [] ≡ text ++ take (used + 1) piece =
    append_assoc text (take used piece) (byte ∷ []) ∙ ap (λ (front : List ℕ). text ++ front) (ap (λ (byte : ℕ). take used piece ++ byte ∷ []) is ∙ sym (take_more piece used 0 within)) in
    let P : List ℕ → Type 0 = StandsForStream c in
    (feeds_item stream_reading reads_on_lem text piece used byte (found_in c.front item) within is before.0 step.0, subst P front step.1)

pub none_from_test : (item : Found) → is_some item ≡ false → item ≡ None
none_from_test None none = refl
none_from_test (Some item) none = cc
