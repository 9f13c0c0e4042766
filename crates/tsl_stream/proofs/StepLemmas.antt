-- What one byte more does to the rest that a reader keeps.
use Rattle.std.proofs.Common.{◌≡◌, ℕ, false, nat_eq, List, [], ◌∷◌, ◌++◌, Option, Some, None, Result, refl, sym, ap, ◌∙◌, subst, arith}
use Rattle.std.specs.Option.{option_map, option_to_list}
use Rattle.std.proofs.lemmas.List.{append-nil, append_assoc}
use Rattle.tsl_umd5.specs.declared.fault.TslFault.{TslFault}
use Rattle.tsl_stream.specs.Numbers.{tsl_dle, tsl_stx}
use Rattle.tsl_stream.specs.Stream.{stuffed}
use Rattle.doubled_bytes.specs.declared.state.State.{State}
use Rattle.doubled_bytes.specs.declared.state.State.TheVariants.{Outside, OutsideDle, Inside, InsideDle}
use Rattle.doubled_bytes.specs.Reading.{only_rest, with_item}
use Rattle.tsl_stream.specs.Items.{StreamReading, stream_reading, stream_items, stream_rest}
use Rattle.tsl_stream.specs.Kept.{IsOpen, KeepsPacket}
use Rattle.tsl_stream.specs.StepsInside.{found_in, EndsSo, Steps}
use Rattle.doubled_bytes.proofs.Runs.{doubled-push, doubled-push_dle}
use Rattle.tsl_stream.proofs.Readings.{stream_reading-by_packet_start, stream_reading-noise, stream_reading-noise_dle, stream_reading-open, stream_reading-broken}

-- a packet that isn't whole is all rest
pub stream_reading-kept : (body : List ℕ) → IsOpen body → stream_reading (tsl_dle ∷ tsl_stx ∷ stuffed body) ≡ only_rest (tsl_dle ∷ tsl_stx ∷ stuffed body)
stream_reading-kept body is_open = let P : List ℕ → Type 0 = λ text. stream_reading (tsl_dle ∷ tsl_stx ∷ text) ≡ only_rest (tsl_dle ∷ tsl_stx ∷ text) in subst P (append-nil (stuffed body)) (stream_reading-open body [] is_open refl)

-- a packet has just started
pub open-none : IsOpen []
open-none = record { more = omega arith; fits = omega arith }

abbrev pub Found : Type 0
Found = Option (Result (Unit {0}) TslFault)

-- a step by the reading of what was kept and the byte
stepped : (text : List ℕ) (item : Found) (state : State) (front kept : List ℕ)
    → stream_reading text ≡ record { items = option_to_list (option_map (found_in front) item); rest = kept } → KeepsPacket state front kept
    → (stream_items text ≡ option_to_list (option_map (found_in front) item)) × KeepsPacket state front (stream_rest text)
stepped text item state front kept reads keeps = (
  ap (λ (reading : StreamReading). reading.items) reads,
  (let P : List ℕ → Type 0 = KeepsPacket state front in subst P (sym (ap (λ (reading : StreamReading). reading.rest) reads)) keeps),
)

-- the same, behind what a state kept
step_at : (kept is : List ℕ) (byte : ℕ) (item : Found) (state : State) (front : List ℕ) → kept ≡ is
    → (stream_items (is ++ byte ∷ []) ≡ option_to_list (option_map (found_in front) item)) × KeepsPacket state front (stream_rest (is ++ byte ∷ []))
    → (stream_items (kept ++ byte ∷ []) ≡ option_to_list (option_map (found_in front) item)) × KeepsPacket state front (stream_rest (kept ++ byte ∷ []))
step_at kept is byte item state front same step =
    let P : List ℕ → Type 0 = λ kept. (stream_items (kept ++ byte ∷ []) ≡ option_to_list (option_map (found_in front) item)) × KeepsPacket state front (stream_rest (kept ++ byte ∷ [])) in
    subst P (sym same) step

pub outside-dle : (front : List ℕ) → Steps Outside front tsl_dle None OutsideDle front
unfolding Steps
outside-dle front kept keeps =
    step_at kept [] tsl_dle None OutsideDle front keeps (stepped (tsl_dle ∷ []) None OutsideDle front (tsl_dle ∷ []) (stream_reading-by_packet_start (tsl_dle ∷ [])) refl)

pub outside-noise : (front : List ℕ) (byte : ℕ) → nat_eq byte tsl_dle ≡ false → Steps Outside front byte None Outside front
unfolding Steps
outside-noise front byte other kept keeps =
    step_at kept [] byte None Outside front keeps (stepped (byte ∷ []) None Outside front [] (stream_reading-noise byte [] other ∙ stream_reading-by_packet_start []) refl)

pub control-dle : (front : List ℕ) → Steps OutsideDle front tsl_dle None OutsideDle front
unfolding Steps
control-dle front kept keeps =
    step_at kept (tsl_dle ∷ []) tsl_dle None OutsideDle front keeps
    (stepped (tsl_dle ∷ tsl_dle ∷ []) None OutsideDle front (tsl_dle ∷ []) (stream_reading-by_packet_start (tsl_dle ∷ tsl_dle ∷ []) ∙ stream_reading-by_packet_start (tsl_dle ∷ [])) refl)

pub control-start : (front : List ℕ) → Steps OutsideDle front tsl_stx None Inside []
unfolding Steps
control-start front kept keeps =
    step_at kept (tsl_dle ∷ []) tsl_stx None Inside [] keeps
    (stepped (tsl_dle ∷ tsl_stx ∷ []) None Inside [] (tsl_dle ∷ tsl_stx ∷ []) (stream_reading-kept [] open-none) (open-none, refl))

pub control-noise : (front : List ℕ) (byte : ℕ) → nat_eq byte tsl_dle ≡ false → nat_eq byte tsl_stx ≡ false → Steps OutsideDle front byte None Outside front
unfolding Steps
control-noise front byte no_dle no_stx kept keeps =
    step_at kept (tsl_dle ∷ []) byte None Outside front keeps
    (stepped (tsl_dle ∷ byte ∷ []) None Outside front [] (stream_reading-noise_dle byte [] no_stx ∙ stream_reading-noise byte [] no_dle ∙ stream_reading-by_packet_start []) refl)

pub inside-dle : (front : List ℕ) → Steps Inside front tsl_dle None InsideDle front
unfolding Steps
inside-dle front kept keeps =
    step_at kept (tsl_dle ∷ tsl_stx ∷ stuffed front) tsl_dle None InsideDle front keeps.1
    (stepped (tsl_dle ∷ tsl_stx ∷ (stuffed front ++ tsl_dle ∷ [])) None InsideDle front (tsl_dle ∷ tsl_stx ∷ (stuffed front ++ tsl_dle ∷ []))
    (stream_reading-open front (tsl_dle ∷ []) keeps.0 refl)
    (keeps.0, refl))

-- what a packet's front has come to, as a step
ended : (front : List ℕ) (item : Found) (state : State) → EndsSo front item state
    → (stream_items (tsl_dle ∷ tsl_stx ∷ stuffed front) ≡ option_to_list (option_map (found_in front) item)) × KeepsPacket state front (stream_rest (tsl_dle ∷ tsl_stx ∷ stuffed front))
ended front None state ends =
    let P : State → Type 0 = λ state. (stream_items (tsl_dle ∷ tsl_stx ∷ stuffed front) ≡ []) × KeepsPacket state front (stream_rest (tsl_dle ∷ tsl_stx ∷ stuffed front)) in
    subst P (sym ends.1) (stepped (tsl_dle ∷ tsl_stx ∷ stuffed front) None Inside front (tsl_dle ∷ tsl_stx ∷ stuffed front) (stream_reading-kept front ends.0) (ends.0, refl))
ended front (Some item) state ends =
    let P : State → Type 0 = λ state. (stream_items (tsl_dle ∷ tsl_stx ∷ stuffed front) ≡ found_in front item ∷ []) × KeepsPacket state front (stream_rest (tsl_dle ∷ tsl_stx ∷ stuffed front)) in
    let reads : stream_reading (tsl_dle ∷ tsl_stx ∷ stuffed front) ≡ with_item (found_in front item) (only_rest []) =
    sym (ap (λ (text : List ℕ). stream_reading (tsl_dle ∷ tsl_stx ∷ text)) (append-nil (stuffed front))) ∙ ends.0 [] ∙ ap (with_item (found_in front item)) (stream_reading-by_packet_start []) in
    subst P (sym ends.1) (stepped (tsl_dle ∷ tsl_stx ∷ stuffed front) (Some item) Outside front [] reads refl)

-- the same, where the last byte was sent so
ended_by : (front sent : List ℕ) (item : Found) (state : State) → tsl_dle ∷ tsl_stx ∷ stuffed front ≡ sent → EndsSo front item state
    → (stream_items sent ≡ option_to_list (option_map (found_in front) item)) × KeepsPacket state front (stream_rest sent)
ended_by front sent item state same ends =
    let P : List ℕ → Type 0 = λ sent. (stream_items sent ≡ option_to_list (option_map (found_in front) item)) × KeepsPacket state front (stream_rest sent) in
    subst P same (ended front item state ends)

pub inside-byte : (front : List ℕ) (byte : ℕ) (item : Found) (state : State) (next : List ℕ) → nat_eq byte tsl_dle ≡ false → next ≡ front ++ byte ∷ [] → EndsSo next item state → Steps Inside front byte item state next
unfolding Steps
inside-byte front byte item state next other grown ends kept keeps =
    step_at kept (tsl_dle ∷ tsl_stx ∷ stuffed front) byte item state next keeps.1
    (ended_by next ((tsl_dle ∷ tsl_stx ∷ stuffed front) ++ byte ∷ []) item state
    (ap (λ (front : List ℕ). tsl_dle ∷ tsl_stx ∷ stuffed front) grown ∙ sym (ap (λ (text : List ℕ). tsl_dle ∷ tsl_stx ∷ text) (doubled-push tsl_dle front byte other))) ends)

-- what was kept in a packet behind a DLE, and the byte
inner : (body : List ℕ) (byte : ℕ) → (tsl_dle ∷ tsl_stx ∷ (stuffed body ++ tsl_dle ∷ [])) ++ byte ∷ [] ≡ tsl_dle ∷ tsl_stx ∷ (stuffed body ++ tsl_dle ∷ byte ∷ [])
inner body byte = ap (λ (text : List ℕ). tsl_dle ∷ tsl_stx ∷ text) (append_assoc (stuffed body) (tsl_dle ∷ []) (byte ∷ []))

pub inner-pair : (front : List ℕ) (item : Found) (state : State) (next : List ℕ) → next ≡ front ++ tsl_dle ∷ [] → EndsSo next item state → Steps InsideDle front tsl_dle item state next
unfolding Steps
inner-pair front item state next grown ends kept keeps =
    step_at kept (tsl_dle ∷ tsl_stx ∷ (stuffed front ++ tsl_dle ∷ [])) tsl_dle item state next keeps.1
    (ended_by next ((tsl_dle ∷ tsl_stx ∷ (stuffed front ++ tsl_dle ∷ [])) ++ tsl_dle ∷ []) item state
    (ap (λ (front : List ℕ). tsl_dle ∷ tsl_stx ∷ stuffed front) grown ∙ sym (inner front tsl_dle ∙ ap (λ (text : List ℕ). tsl_dle ∷ tsl_stx ∷ text) (doubled-push_dle tsl_dle front))) ends)

pub inner-start : (front : List ℕ) → Steps InsideDle front tsl_stx None Inside []
unfolding Steps
inner-start front kept keeps =
    step_at kept (tsl_dle ∷ tsl_stx ∷ (stuffed front ++ tsl_dle ∷ [])) tsl_stx None Inside [] keeps.1
    (stepped ((tsl_dle ∷ tsl_stx ∷ (stuffed front ++ tsl_dle ∷ [])) ++ tsl_stx ∷ []) None Inside [] (tsl_dle ∷ tsl_stx ∷ [])
    (ap stream_reading (inner front tsl_stx) ∙ stream_reading-open front (tsl_dle ∷ tsl_stx ∷ []) keeps.0 refl ∙ stream_reading-kept [] open-none)
    (open-none, refl))

pub inner-broken : (front : List ℕ) (byte : ℕ) → nat_eq byte tsl_dle ≡ false → nat_eq byte tsl_stx ≡ false → Steps InsideDle front byte None Outside front
unfolding Steps
inner-broken front byte no_dle no_stx kept keeps =
    step_at kept (tsl_dle ∷ tsl_stx ∷ (stuffed front ++ tsl_dle ∷ [])) byte None Outside front keeps.1
    (stepped ((tsl_dle ∷ tsl_stx ∷ (stuffed front ++ tsl_dle ∷ [])) ++ byte ∷ []) None Outside front []
    (ap stream_reading (inner front byte) ∙ stream_reading-broken front byte [] keeps.0 no_dle no_stx ∙ stream_reading-by_packet_start [])
    refl)

-- the empty text has no rest
pub stream_rest-nil : stream_rest [] ≡ []
stream_rest-nil = ap (λ (reading : StreamReading). reading.rest) (stream_reading-by_packet_start [])
