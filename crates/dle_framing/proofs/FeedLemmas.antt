-- A framer that goes over the bytes of a piece.
use Rattle.std.proofs.Common.{◌≡◌, ℕ, ◌+◌, ◌-◌, ◌≤◌, ◌<◌, nat_eq, true, false, List, [], ◌∷◌, ◌++◌, length, take, drop, get_or, Option, Some, None, refl, sym, ap, ◌∙◌, subst, arith}
use Rattle.std.specs.Option.{option_map, option_to_list, is_some}
use Rattle.std.proofs.lemmas.Bool.{cond-true, false≢true}
use Rattle.std.proofs.lemmas.List.{append-nil, append_assoc, length-append, length-drop, length-take-le, take_at, take_more, take-take, take-append-drop, drop-take}
use Rattle.dle_framing.specs.Numbers.{dle, stx, etx, most_kept}
use Rattle.dle_framing.specs.declared.framer.Framer.{Framer}
use Rattle.doubled_bytes.specs.declared.state.State.{State}
use Rattle.doubled_bytes.specs.declared.state.State.TheVariants.{Outside, OutsideDle, Inside}
use Rattle.std.proofs.lemmas.List.Concat.{flat_map-append}
use Rattle.dle_framing.specs.declared.item.Item.{Item}
use Rattle.dle_framing.specs.declared.item.Item.TheVariants.{Good}
use Rattle.dle_framing.specs.Frame.{doubled, enclosed}
use Rattle.dle_framing.specs.Items.{TextReading, only_rest, with_item, item_of, is_good, reading, items, rest}
use Rattle.dle_framing.specs.Kept.{Keeps}
use Rattle.dle_framing.specs.StepsInside.{found_in, Steps}
use Rattle.dle_framing.specs.Framer.{StandsFor}
use Rattle.dle_framing.specs.FramerInside.{PassesOver}
use Rattle.dle_framing.specs.Feeding.{Feeds}
use Rattle.dle_framing.proofs.Readings.{reading-by_start, reading-noise, reading-frame, reading-append}
use Rattle.doubled_bytes.proofs.Readings.{followed}
use Rattle.doubled_bytes.proofs.Feeds.{none_before, feeds_item}
use Rattle.dle_framing.proofs.LawLemmas.{reads_on_lem, reading-enclosed}
use Rattle.dle_framing.proofs.StepLemmas.{take-take_append, reading-open, outside-dle, control-start}

pub take-add : (n m : ℕ) (bytes : List ℕ) → take (n + m) bytes ≡ take n bytes ++ take m (drop n bytes)
take-add n m bytes =
    sym (take-append-drop n (take (n + m) bytes))
    ∙ ap (λ (front : List ℕ). front ++ drop n (take (n + m) bytes)) (take-take n (n + m) bytes (omega arith))
    ∙ ap (λ (back : List ℕ). take n bytes ++ back) (drop-take n m bytes)

pub passes_append : (first second : List ℕ) (a b c : Framer) → PassesOver first a b → PassesOver second b c → PassesOver (first ++ second) a c
passes_append first second a b c before behind text stands =
    let there = before text stands in
    let on = behind (text ++ first) there.1 in
    let P : List ℕ → Type 0 = λ whole. (items whole ≡ items text) × StandsFor c whole in
    subst P (append_assoc text first second) (on.0 ∙ there.0, on.1)

-- the same of a front of a piece, and a front of the part behind it
pub passes_to : (piece part : List ℕ) (used n : ℕ) (a b c : Framer) → PassesOver (take used piece) a b → part ≡ drop used piece → PassesOver (take n part) b c → PassesOver (take (used + n) piece) a c
passes_to piece part used n a b c before is behind =
    let P : List ℕ → Type 0 = λ front. PassesOver front a c in
    subst P (ap (λ (part : List ℕ). take used piece ++ take n part) is ∙ sym (take-add used n piece)) (passes_append (take used piece) (take n part) a b c before behind)

-- the same of a front of a piece, and the byte behind it
pub passes_byte : (piece : List ℕ) (used byte : ℕ) (a b c : Framer) → used < length piece → byte ≡ get_or piece used 0 → PassesOver (take used piece) a b → PassesOver (byte ∷ []) b c → PassesOver (take (used + 1) piece) a c
passes_byte piece used byte a b c within is before behind =
    let P : List ℕ → Type 0 = λ front. PassesOver front a c in
    subst P (ap (λ (byte : ℕ). take used piece ++ byte ∷ []) is ∙ sym (take_more piece used 0 within)) (passes_append (take used piece) (byte ∷ []) a b c before behind)

-- bytes that are all noise pass outside a frame
pub passes_noise : (bytes : List ℕ) (framer : Framer) → framer.state ≡ Outside → reading bytes ≡ only_rest [] → PassesOver bytes framer framer
unfolding StandsFor
passes_noise bytes framer outside noise text stands =
    let Kept : List ℕ → Type 0 = λ kept. Keeps framer.state framer.front kept in
    let none : rest text ≡ [] = (let P : State → Type 0 = λ state. Keeps state framer.front (rest text) in subst P outside stands) in
    let on = reads_on_lem text bytes in
    let behind : reading (rest text ++ bytes) ≡ only_rest [] = ap (λ (kept : List ℕ). reading (kept ++ bytes)) none ∙ noise in (
      on.items_go_on ∙ ap (λ (behind : TextReading). items text ++ behind.items) behind ∙ append-nil (items text),
      subst Kept (none ∙ sym (on.rest_goes_on ∙ ap (λ (behind : TextReading). behind.rest) behind)) stands,
    )

-- bytes of a body, which are their own spelling, pass in a frame
pub passes_body : (bytes : List ℕ) (before after : Framer) → before.state ≡ Inside → after.state ≡ Inside → doubled bytes ≡ bytes → after.front ≡ take most_kept (before.front ++ bytes) → PassesOver bytes before after
unfolding StandsFor
passes_body bytes before after inside still single grown text stands =
    let kept : Keeps Inside before.front (rest text) = (let P : State → Type 0 = λ state. Keeps state before.front (rest text) in subst P inside stands) in
    let on = reads_on_lem text bytes in
    let spelled : rest text ++ bytes ≡ dle ∷ stx ∷ doubled (kept.0 ++ bytes) =
    ap (λ (rest : List ℕ). rest ++ bytes) kept.2
    ∙ ap (λ (bytes : List ℕ). dle ∷ stx ∷ (doubled kept.0 ++ bytes)) (sym single)
    ∙ ap (λ (text : List ℕ). dle ∷ stx ∷ text) (sym (flat_map-append _ kept.0 bytes)) in
    let behind : reading (rest text ++ bytes) ≡ only_rest (dle ∷ stx ∷ doubled (kept.0 ++ bytes)) = ap reading spelled ∙ reading-open (kept.0 ++ bytes) in
    let Kept : State → List ℕ → Type 0 = λ state kept. Keeps state after.front kept in
    let keeps : Keeps Inside after.front (rest (text ++ bytes)) = (
      kept.0 ++ bytes,
      grown ∙ ap (λ (front : List ℕ). take most_kept (front ++ bytes)) kept.1 ∙ take-take_append kept.0 bytes,
      on.rest_goes_on ∙ ap (λ (behind : TextReading). behind.rest) behind,
    ) in (
      on.items_go_on ∙ ap (λ (behind : TextReading). items text ++ behind.items) behind ∙ append-nil (items text),
      (let P : State → Type 0 = λ state. Keeps state after.front (rest (text ++ bytes)) in subst P (sym still) keeps),
    )

-- a step, at each text that the framer stands for
pub steps_at : (byte : ℕ) (item : Option (Item (Unit {0}))) (before after : Framer) → Steps before.state before.front byte item after.state after.front
    → (text : List ℕ) → StandsFor before text → (items (text ++ byte ∷ []) ≡ items text ++ option_to_list (option_map (found_in after.front) item)) × StandsFor after (text ++ byte ∷ [])
unfolding StandsFor Steps
steps_at byte item before after steps text stands =
    let on = reads_on_lem text (byte ∷ []) in
    let step = steps (rest text) stands in
    let Kept : List ℕ → Type 0 = Keeps after.state after.front in
    (on.items_go_on ∙ ap (λ (more : List (Item (List ℕ))). items text ++ more) step.0, subst Kept (sym on.rest_goes_on) step.1)

pub passes_step : (byte : ℕ) (before after : Framer) → Steps before.state before.front byte None after.state after.front → PassesOver (byte ∷ []) before after
passes_step byte before after steps text stands =
    let step = steps_at byte None before after steps text stands in
    (step.0 ∙ append-nil (items text), step.1)

-- bytes, and the DLE behind them
pub passes_dle : (piece : List ℕ) (count : ℕ) (a b c : Framer) → count < length piece → get_or piece count 0 ≡ dle → PassesOver (take count piece) a b → Steps b.state b.front dle None c.state c.front → PassesOver (take (count + 1) piece) a c
passes_dle piece count a b c within is before steps = passes_byte piece count dle a b c within (sym is) before (passes_step dle b c steps)

-- the start of a frame, and bytes that pass behind it
pub passes_start : (piece body : List ℕ) (n : ℕ) (a c d : Framer) → piece ≡ dle ∷ stx ∷ body → a.state ≡ Outside → c.state ≡ Inside → c.front ≡ [] → PassesOver (take n body) c d → PassesOver (take (2 + n) piece) a d
passes_start piece body n a c d is outside inside none behind =
    let b : Framer = record a { state = OutsideDle } in
    let first : Steps a.state a.front dle None b.state b.front = rw outside (outside-dle a.front) in
    let second : Steps b.state b.front stx None c.state c.front = rw (inside, none) (control-start a.front) in
    let start = passes_append (dle ∷ []) (stx ∷ []) a b c (passes_step dle a b first) (passes_step stx b c second) in
    let whole : (dle ∷ stx ∷ []) ++ take n body ≡ take (2 + n) piece = sym (ap (take (2 + n)) is ∙ take-add 2 n (dle ∷ stx ∷ body)) in
    let P : List ℕ → Type 0 = λ front. PassesOver front a d in
    subst P whole (passes_append (dle ∷ stx ∷ []) (take n body) a c d start behind)

-- a text of noise, and one byte of noise more
pub noise_more : (text : List ℕ) (byte : ℕ) → reading text ≡ only_rest [] → nat_eq byte dle ≡ false → reading (text ++ byte ∷ []) ≡ only_rest []
noise_more text byte noise other =
    reading-append text (byte ∷ [])
    ∙ ap (λ (before : TextReading). followed before (reading (before.rest ++ byte ∷ []))) noise
    ∙ reading-noise byte [] other
    ∙ reading-by_start []

pub noise_none : reading [] ≡ only_rest []
noise_none = reading-by_start []

-- A piece whose items end with a byte behind a front in which none ends, by a step there.
pub feeds_step : (piece : List ℕ) (used byte : ℕ) (item : Option (Item (Unit {0}))) (a b c : Framer) → used < length piece → byte ≡ get_or piece used 0 → PassesOver (take used piece) a b
    → Steps b.state b.front byte item c.state c.front → is_some item ≡ true → (text : List ℕ) → StandsFor a text
    → Feeds text piece (used + 1) (option_map (found_in c.front) item) × StandsFor c (text ++ take (used + 1) piece)
feeds_step piece used byte None a b c within is passes steps some text stands = absurd (false≢true some)
feeds_step piece used byte (Some item) a b c within is passes steps some text stands =
    let before = passes text stands in
    let step = steps_at byte (Some item) b c steps (text ++ take used piece) before.1 in
    let front : (text ++ take used piece) ++ byte ∷ [] ≡ text ++ take (used + 1) piece =
    append_assoc text (take used piece) (byte ∷ []) ∙ ap (λ (front : List ℕ). text ++ front) (ap (λ (byte : ℕ). take used piece ++ byte ∷ []) is ∙ sym (take_more piece used 0 within)) in
    let P : List ℕ → Type 0 = StandsFor c in
    (feeds_item reading reads_on_lem text piece used byte (found_in c.front item) within is before.0 step.0, subst P front step.1)

pub none_from_test : (item : Option (Item (Unit {0}))) → is_some item ≡ false → item ≡ None
none_from_test None none = refl
none_from_test (Some item) none = cc

-- The same behind bytes that were skipped: `part` is what was left of the piece before them.
pub within_piece : (piece part : List ℕ) (used n : ℕ) → part ≡ drop used piece → used ≤ length piece → n ≤ length part → (used + n ≡ length piece → ⊥) → used + n < length piece
within_piece piece part used n is in_piece in_part more = omega (arith, ap (length {A = ℕ}) is, length-drop used piece)

-- a piece that starts with a good frame, outside of one
pub feeds_whole : (piece body : List ℕ) (used : ℕ) (before after : Framer) → before.state ≡ Outside → after.state ≡ Outside → used ≤ length piece → take used piece ≡ enclosed body → is_good body ≡ true → (text : List ℕ) → StandsFor before text
    → Feeds text piece used (Some (Good (take (length body - 2) body))) × StandsFor after (text ++ take used piece)
unfolding StandsFor
feeds_whole piece body used before after outside still within is good text stands =
    let none : rest text ≡ [] = (let P : State → Type 0 = λ state. Keeps state before.front (rest text) in subst P outside stands) in
    let item : Item (List ℕ) = Good (take (length body - 2) body) in
    let whole : TextReading = record { items = item ∷ []; rest = [] } in
    let on = reads_on_lem text (take used piece) in
    let behind : reading (rest text ++ take used piece) ≡ whole =
    ap (λ (kept : List ℕ). reading (kept ++ take used piece)) none
    ∙ ap reading is
    ∙ reading-enclosed body
    ∙ ap (with_item (item_of body)) (reading-by_start [])
    ∙ ap (λ (item : Item (List ℕ)). record { items = item ∷ []; rest = [] }) (cond-true _ _ _ good) in
    let sent : List ℕ = dle ∷ stx ∷ (doubled body ++ dle ∷ []) in
    let split : take used piece ≡ sent ++ etx ∷ [] = is ∙ sym (ap (λ (text : List ℕ). dle ∷ stx ∷ text) (append_assoc (doubled body) (dle ∷ []) (etx ∷ []))) in
    let count : used ≡ length sent + 1 = omega (arith, length-take-le used piece within, ap (length {A = ℕ}) split, length-append sent (etx ∷ [])) in
    let front : take (length sent) piece ≡ sent = sym (take-take (length sent) used piece (omega arith)) ∙ ap (take (length sent)) split ∙ take_at sent (etx ∷ []) (length sent) refl in
    let passes : items (text ++ take (length sent) piece) ≡ items text =
    (reads_on_lem text (take (length sent) piece)).items_go_on
    ∙ ap (λ (kept : List ℕ). items text ++ items (kept ++ take (length sent) piece)) none
    ∙ ap (λ (front : List ℕ). items text ++ items front) front
    ∙ ap (λ (reading : TextReading). items text ++ reading.items) (reading-frame body (dle ∷ []) refl)
    ∙ append-nil (items text) in
    let keeps : Keeps Outside after.front (rest (text ++ take used piece)) = on.rest_goes_on ∙ ap (λ (behind : TextReading). behind.rest) behind in (
      record {
        within = within;
        adds = on.items_go_on ∙ ap (λ (behind : TextReading). items text ++ behind.items) behind;
        is_first = λ k below. none_before reading reads_on_lem text piece k (length sent) (omega arith) passes;
        uses_all = λ is_none. cc;
      },
      (let P : State → Type 0 = λ state. Keeps state after.front (rest (text ++ take used piece)) in subst P (sym still) keeps),
    )
