-- What one byte more does to the rest that a framer keeps.
use Rattle.std.proofs.Common.{◌≡◌, ℕ, ◌≤◌, ◌<◌, ⊎_elim, false, nat_eq, nat_le, List, [], ◌∷◌, ◌++◌, length, take, Option, Some, None, refl, sym, ap, ◌∙◌, subst, arith}
use Rattle.std.specs.Option.{option_map, option_to_list}
use Rattle.std.proofs.lemmas.Bool.{cond-false, cases_lt, and_left, and_right, lt-leb}
use Rattle.std.proofs.lemmas.List.{append-nil, append_assoc, length-take-le, take_all, take-append-le, take-take}
use Rattle.dle_framing.specs.Numbers.{dle, stx, etx, ack_byte, nak_byte, most_body, most_kept}
use Rattle.doubled_bytes.specs.declared.state.State.{State}
use Rattle.doubled_bytes.specs.declared.state.State.TheVariants.{Outside, OutsideDle, Inside, InsideDle}
use Rattle.dle_framing.specs.declared.item.Item.{Item}
use Rattle.dle_framing.specs.declared.item.Item.TheVariants.{Ack, Nak}
use Rattle.dle_framing.specs.Frame.{doubled}
use Rattle.dle_framing.specs.Items.{TextReading, only_rest, with_item, item_of, is_good, reading, items, rest}
use Rattle.dle_framing.specs.Kept.{Keeps}
use Rattle.dle_framing.specs.StepsInside.{found_in, Steps}
use Rattle.doubled_bytes.proofs.Runs.{doubled-push_dle}
use Rattle.dle_framing.proofs.Readings.{reading-by_start, reading-noise, reading-noise_dle, reading-frame, reading-abandoned}

-- a body of more bytes than a good one has
not_good : (body : List ℕ) → most_body < length body → is_good body ≡ false
not_good body long = and_left _ _ (and_left _ _ (and_right (nat_le 3 (length body)) (nat_le (length body) most_body) (lt-leb (length body) most_body long)))

-- The front of a body tells its item.
pub item_of-take : (body : List ℕ) → item_of (take most_kept body) ≡ item_of body
item_of-take body = ⊎_elim
    (λ (long : most_body < length body). cond-false _ _ _ (not_good (take most_kept body) (omega (arith, length-take-le most_kept body (omega arith)))) ∙ sym (cond-false _ _ _ (not_good body long)))
    (λ (short : length body ≤ most_body). ap item_of (take_all most_kept body (omega arith)))
    (cases_lt most_body (length body))

-- a frame that isn't over is all rest
pub reading-open : (body : List ℕ) → reading (dle ∷ stx ∷ doubled body) ≡ only_rest (dle ∷ stx ∷ doubled body)
reading-open body = let P : List ℕ → Type 0 = λ text. reading (dle ∷ stx ∷ text) ≡ only_rest (dle ∷ stx ∷ text) in subst P (append-nil (doubled body)) (reading-frame body [] refl)

-- a step by the reading of what was kept and the byte
stepped : (text : List ℕ) (item : Option (Item (Unit {0}))) (state : State) (front kept : List ℕ)
    → reading text ≡ record { items = option_to_list (option_map (found_in front) item); rest = kept } → Keeps state front kept
    → (items text ≡ option_to_list (option_map (found_in front) item)) × Keeps state front (rest text)
stepped text item state front kept reads keeps = (
  ap (λ (reading : TextReading). reading.items) reads,
  (let P : List ℕ → Type 0 = Keeps state front in subst P (sym (ap (λ (reading : TextReading). reading.rest) reads)) keeps),
)

-- the same, behind what a state kept
step_at : (kept is : List ℕ) (byte : ℕ) (item : Option (Item (Unit {0}))) (state : State) (front : List ℕ) → kept ≡ is
    → (items (is ++ byte ∷ []) ≡ option_to_list (option_map (found_in front) item)) × Keeps state front (rest (is ++ byte ∷ []))
    → (items (kept ++ byte ∷ []) ≡ option_to_list (option_map (found_in front) item)) × Keeps state front (rest (kept ++ byte ∷ []))
step_at kept is byte item state front same step =
    let P : List ℕ → Type 0 = λ kept. (items (kept ++ byte ∷ []) ≡ option_to_list (option_map (found_in front) item)) × Keeps state front (rest (kept ++ byte ∷ [])) in
    subst P (sym same) step

pub outside-dle : (front : List ℕ) → Steps Outside front dle None OutsideDle front
unfolding Steps
outside-dle front kept keeps =
    step_at kept [] dle None OutsideDle front keeps (stepped (dle ∷ []) None OutsideDle front (dle ∷ []) (reading-by_start (dle ∷ [])) refl)

pub control-dle : (front : List ℕ) → Steps OutsideDle front dle None OutsideDle front
unfolding Steps
control-dle front kept keeps =
    step_at kept (dle ∷ []) dle None OutsideDle front keeps
    (stepped (dle ∷ dle ∷ []) None OutsideDle front (dle ∷ []) (reading-by_start (dle ∷ dle ∷ []) ∙ reading-by_start (dle ∷ [])) refl)

pub control-start : (front : List ℕ) → Steps OutsideDle front stx None Inside []
unfolding Steps
control-start front kept keeps =
    step_at kept (dle ∷ []) stx None Inside [] keeps
    (stepped (dle ∷ stx ∷ []) None Inside [] (dle ∷ stx ∷ []) (reading-open []) ([], refl, refl))

pub control-ack : (front : List ℕ) → Steps OutsideDle front ack_byte (Some Ack) Outside front
unfolding Steps
control-ack front kept keeps =
    step_at kept (dle ∷ []) ack_byte (Some Ack) Outside front keeps
    (stepped (dle ∷ ack_byte ∷ []) (Some Ack) Outside front [] (reading-by_start (dle ∷ ack_byte ∷ []) ∙ ap (with_item Ack) (reading-by_start [])) refl)

pub control-nak : (front : List ℕ) → Steps OutsideDle front nak_byte (Some Nak) Outside front
unfolding Steps
control-nak front kept keeps =
    step_at kept (dle ∷ []) nak_byte (Some Nak) Outside front keeps
    (stepped (dle ∷ nak_byte ∷ []) (Some Nak) Outside front [] (reading-by_start (dle ∷ nak_byte ∷ []) ∙ ap (with_item Nak) (reading-by_start [])) refl)

pub control-noise : (front : List ℕ) (byte : ℕ) → nat_eq byte dle ≡ false → nat_eq byte ack_byte ≡ false → nat_eq byte nak_byte ≡ false → nat_eq byte stx ≡ false
    → Steps OutsideDle front byte None Outside front
unfolding Steps
control-noise front byte no_dle no_ack no_nak no_stx kept keeps =
    step_at kept (dle ∷ []) byte None Outside front keeps
    (stepped (dle ∷ byte ∷ []) None Outside front [] (reading-noise_dle byte [] no_ack no_nak no_stx ∙ reading-noise byte [] no_dle ∙ reading-by_start []) refl)

-- a front that keeps one byte more of each body that it is the front of
abbrev pub KeepsByte : List ℕ → ℕ → List ℕ → Type 0
KeepsByte front byte next_front = (body : List ℕ) → front ≡ take most_kept body → next_front ≡ take most_kept (body ++ byte ∷ [])

pub inside-dle : (front : List ℕ) → Steps Inside front dle None InsideDle front
unfolding Steps
inside-dle front kept keeps =
    let body = keeps.0 in
    step_at kept (dle ∷ stx ∷ doubled body) dle None InsideDle front keeps.2
    (stepped (dle ∷ stx ∷ (doubled body ++ dle ∷ [])) None InsideDle front (dle ∷ stx ∷ (doubled body ++ dle ∷ []))
    (reading-frame body (dle ∷ []) refl)
    (body, keeps.1, refl))

-- what was kept in a frame behind a DLE, and the byte
inner : (body : List ℕ) (byte : ℕ) → (dle ∷ stx ∷ (doubled body ++ dle ∷ [])) ++ byte ∷ [] ≡ dle ∷ stx ∷ (doubled body ++ dle ∷ byte ∷ [])
inner body byte = ap (λ (text : List ℕ). dle ∷ stx ∷ text) (append_assoc (doubled body) (dle ∷ []) (byte ∷ []))

pub inner-pair : (front next_front : List ℕ) → KeepsByte front dle next_front → Steps InsideDle front dle None Inside next_front
unfolding Steps
inner-pair front next_front keeps_byte kept keeps =
    let body = keeps.0 in
    let text = inner body dle ∙ ap (λ (text : List ℕ). dle ∷ stx ∷ text) (doubled-push_dle dle body) in
    step_at kept (dle ∷ stx ∷ (doubled body ++ dle ∷ [])) dle None Inside next_front keeps.2
    (stepped ((dle ∷ stx ∷ (doubled body ++ dle ∷ [])) ++ dle ∷ []) None Inside next_front (dle ∷ stx ∷ doubled (body ++ dle ∷ []))
    (ap reading text ∙ reading-open (body ++ dle ∷ []))
    (body ++ dle ∷ [], keeps_byte body keeps.1, refl))

pub inner-start : (front : List ℕ) → Steps InsideDle front stx None Inside []
unfolding Steps
inner-start front kept keeps =
    let body = keeps.0 in
    step_at kept (dle ∷ stx ∷ (doubled body ++ dle ∷ [])) stx None Inside [] keeps.2
    (stepped ((dle ∷ stx ∷ (doubled body ++ dle ∷ [])) ++ stx ∷ []) None Inside [] (dle ∷ stx ∷ [])
    (ap reading (inner body stx) ∙ reading-frame body (dle ∷ stx ∷ []) refl ∙ reading-open [])
    ([], refl, refl))

pub inner-end : (front : List ℕ) (item : Item (Unit {0})) → found_in front item ≡ item_of front → Steps InsideDle front etx (Some item) Outside front
unfolding Steps
inner-end front item ends kept keeps =
    let body = keeps.0 in
    let is : item_of body ≡ found_in front item = sym (item_of-take body) ∙ ap item_of (sym keeps.1) ∙ sym ends in
    step_at kept (dle ∷ stx ∷ (doubled body ++ dle ∷ [])) etx (Some item) Outside front keeps.2
    (stepped ((dle ∷ stx ∷ (doubled body ++ dle ∷ [])) ++ etx ∷ []) (Some item) Outside front []
    (ap reading (inner body etx) ∙ reading-frame body (dle ∷ etx ∷ []) refl ∙ ap (with_item (item_of body)) (reading-by_start []) ∙ ap (λ (item : Item (List ℕ)). record { items = item ∷ []; rest = [] }) is)
    refl)

pub inner-abandoned : (front : List ℕ) (byte : ℕ) → nat_eq byte dle ≡ false → nat_eq byte etx ≡ false → nat_eq byte stx ≡ false → Steps InsideDle front byte None Outside front
unfolding Steps
inner-abandoned front byte no_dle no_etx no_stx kept keeps =
    let body = keeps.0 in
    step_at kept (dle ∷ stx ∷ (doubled body ++ dle ∷ [])) byte None Outside front keeps.2
    (stepped ((dle ∷ stx ∷ (doubled body ++ dle ∷ [])) ++ byte ∷ []) None Outside front []
    (ap reading (inner body byte) ∙ reading-abandoned body byte [] no_dle no_etx no_stx ∙ reading-by_start [])
    refl)

-- the empty text has no rest
pub rest-nil : rest [] ≡ []
rest-nil = ap (λ (reading : TextReading). reading.rest) (reading-by_start [])

-- The front of a body that goes on is that of its front.
pub take-take_append : (body more : List ℕ) → take most_kept (take most_kept body ++ more) ≡ take most_kept (body ++ more)
take-take_append body more = ⊎_elim
    (λ (long : most_kept < length body).
    take-append-le most_kept (take most_kept body) more (omega (arith, length-take-le most_kept body (omega arith)))
    ∙ take-take most_kept most_kept body (omega arith)
    ∙ sym (take-append-le most_kept body more (omega arith)))
    (λ (short : length body ≤ most_kept). ap (λ (front : List ℕ). take most_kept (front ++ more)) (take_all most_kept body short))
    (cases_lt most_kept (length body))

-- the same of one byte, as a front that keeps it
pub keeps_byte : (front : List ℕ) (byte : ℕ) (next : List ℕ) → next ≡ take most_kept (front ++ byte ∷ []) → KeepsByte front byte next
keeps_byte front byte next grown body is = grown ∙ ap (λ (front : List ℕ). take most_kept (front ++ byte ∷ [])) is ∙ take-take_append body (byte ∷ [])
