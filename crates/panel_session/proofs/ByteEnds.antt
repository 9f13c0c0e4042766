-- Each byte of a stream ends one item or none.
use Rattle.std.proofs.Common.{◌≡◌, ℕ, ◌-◌, inl, inr, true, false, nat_eq, if◌then◌else◌, List, [], ◌∷◌, ◌++◌, length, take, Option, Some, None, refl, sym, ap, ◌∙◌, subst}
use Rattle.std.specs.Option.{option_map, option_to_list}
use Rattle.std.proofs.lemmas.Bool.Decides.{eqb_tells}
use Rattle.std.proofs.lemmas.List.{append-nil, append_assoc}
use Rattle.dle_framing.specs.Numbers.{dle, stx, etx, ack_byte, nak_byte, most_kept}
use Rattle.doubled_bytes.proofs.Runs.{doubled-push}
use Rattle.doubled_bytes.specs.declared.state.State.{State}
use Rattle.doubled_bytes.specs.declared.state.State.TheVariants.{Outside, OutsideDle, Inside, InsideDle}
use Rattle.dle_framing.specs.declared.item.Item.{Item}
use Rattle.dle_framing.specs.declared.item.Item.TheVariants.{Good, Bad, Ack, Nak}
use Rattle.dle_framing.specs.Frame.{doubled}
use Rattle.dle_framing.specs.Items.{TextReading, only_rest, item_of, is_good, reading, items, rest}
use Rattle.dle_framing.specs.Kept.{Keeps}
use Rattle.dle_framing.specs.StepsInside.{found_in, Steps}
use Rattle.dle_framing.proofs.Readings.{reading-noise}
use Rattle.dle_framing.proofs.LawLemmas.{reads_on_lem}
use Rattle.dle_framing.proofs.FeedLemmas.{noise_none}
use Rattle.dle_framing.proofs.StepLemmas.{outside-dle, control-dle, control-start, control-ack, control-nak, control-noise, inside-dle, inner-pair, inner-start, inner-end}
use Rattle.dle_framing.proofs.StepLemmas.{inner-abandoned, reading-open, keeps_byte, rest-nil}

-- One byte behind a text of which this is kept makes a step.
record StepsSo (state : State) (front : List ℕ) (byte : ℕ) : Type 0 where
  item : Option (Item (Unit {0}))
  next : State
  next_front : List ℕ
  steps : Steps state front byte item next next_front

-- the step of a byte that is this one
steps_so : (state : State) (front : List ℕ) (byte is : ℕ) (item : Option (Item (Unit {0}))) (next : State) (next_front : List ℕ)
    → byte ≡ is → Steps state front is item next next_front → StepsSo state front byte
steps_so state front byte is item next next_front same steps =
    let P : ℕ → Type 0 = λ byte. Steps state front byte item next next_front in
    record { item = item; next = next; next_front = next_front; steps = subst P (sym same) steps }

-- a text of which nothing is an item, and this is the rest
stepped : (text kept : List ℕ) → reading text ≡ only_rest kept → (items text ≡ []) × (rest text ≡ kept)
stepped text kept reads = (ap (λ (reading : TextReading). reading.items) reads, ap (λ (reading : TextReading). reading.rest) reads)

-- a byte of noise
outside-noise : (front : List ℕ) (byte : ℕ) → nat_eq byte dle ≡ false → Steps Outside front byte None Outside front
unfolding Steps
outside-noise front byte other kept keeps =
    stepped (kept ++ byte ∷ []) [] (ap (λ (kept : List ℕ). reading (kept ++ byte ∷ [])) keeps ∙ reading-noise byte [] other ∙ noise_none)

-- a byte of a body
inside-byte : (front : List ℕ) (byte : ℕ) → nat_eq byte dle ≡ false → Steps Inside front byte None Inside (take most_kept (front ++ byte ∷ []))
unfolding Steps
inside-byte front byte other kept keeps =
    let body = keeps.0 in
    let text : kept ++ byte ∷ [] ≡ dle ∷ stx ∷ doubled (body ++ byte ∷ []) =
    ap (λ (kept : List ℕ). kept ++ byte ∷ []) keeps.2 ∙ ap (λ (text : List ℕ). dle ∷ stx ∷ text) (doubled-push dle body byte other) in
    let step = stepped (kept ++ byte ∷ []) (dle ∷ stx ∷ doubled (body ++ byte ∷ [])) (ap reading text ∙ reading-open (body ++ byte ∷ [])) in
    (step.0, (body ++ byte ∷ [], keeps_byte front byte (take most_kept (front ++ byte ∷ [])) refl body keeps.1, step.1))

-- the item of a frame, its DATA in the front
ended_item : (front : List ℕ) → (item : Item (Unit {0})) × (found_in front item ≡ item_of front)
ended_item front = elim (is_good front) as (λ test. (item : Item (Unit {0})) × (found_in front item ≡ (if test then Good (take (length front - 2) front) else Bad))) [
  | true ↦ (Good tt, refl)
  | false ↦ (Bad, refl)
]

-- Each byte makes a step, whatever was kept.
byte_steps : (state : State) (front : List ℕ) (byte : ℕ) → StepsSo state front byte
byte_steps Outside front byte = elim (eqb_tells byte dle) [
  | (inl is) ↦ steps_so Outside front byte dle None OutsideDle front is.1 (outside-dle front)
  | (inr other) ↦ steps_so Outside front byte byte None Outside front refl (outside-noise front byte other.0)
]
byte_steps OutsideDle front byte = elim (eqb_tells byte dle) [
  | (inl is) ↦ steps_so OutsideDle front byte dle None OutsideDle front is.1 (control-dle front)
  | (inr no_dle) ↦ elim (eqb_tells byte ack_byte) [
    | (inl is) ↦ steps_so OutsideDle front byte ack_byte (Some Ack) Outside front is.1 (control-ack front)
    | (inr no_ack) ↦ elim (eqb_tells byte nak_byte) [
      | (inl is) ↦ steps_so OutsideDle front byte nak_byte (Some Nak) Outside front is.1 (control-nak front)
      | (inr no_nak) ↦ elim (eqb_tells byte stx) [
        | (inl is) ↦ steps_so OutsideDle front byte stx None Inside [] is.1 (control-start front)
        | (inr no_stx) ↦ steps_so OutsideDle front byte byte None Outside front refl (control-noise front byte no_dle.0 no_ack.0 no_nak.0 no_stx.0)
      ]
    ]
  ]
]
byte_steps Inside front byte = elim (eqb_tells byte dle) [
  | (inl is) ↦ steps_so Inside front byte dle None InsideDle front is.1 (inside-dle front)
  | (inr other) ↦ steps_so Inside front byte byte None Inside (take most_kept (front ++ byte ∷ [])) refl (inside-byte front byte other.0)
]
byte_steps InsideDle front byte = elim (eqb_tells byte dle) [
  | (inl is) ↦ steps_so InsideDle front byte dle None Inside (take most_kept (front ++ dle ∷ [])) is.1
      (inner-pair front (take most_kept (front ++ dle ∷ [])) (keeps_byte front dle (take most_kept (front ++ dle ∷ [])) refl))
  | (inr no_dle) ↦ elim (eqb_tells byte etx) [
    | (inl is) ↦ (let ended = ended_item front in steps_so InsideDle front byte etx (Some ended.0) Outside front is.1 (inner-end front ended.0 ended.1))
    | (inr no_etx) ↦ elim (eqb_tells byte stx) [
      | (inl is) ↦ steps_so InsideDle front byte stx None Inside [] is.1 (inner-start front)
      | (inr no_stx) ↦ steps_so InsideDle front byte byte None Outside front refl (inner-abandoned front byte no_dle.0 no_etx.0 no_stx.0)
    ]
  ]
]

-- Of each text something is kept.
record IsKept (text : List ℕ) : Type 0 where
  state : State
  front : List ℕ
  keeps : Keeps state front (rest text)

-- What one byte more ends, and what is kept then.
record Ends (text : List ℕ) (byte : ℕ) : Type 0 where
  ended : Option (Item (List ℕ))
  adds : items (text ++ byte ∷ []) ≡ items text ++ option_to_list ended
  kept : IsKept (text ++ byte ∷ [])

-- the step of a byte behind a text
ends : (text : List ℕ) (byte : ℕ) → IsKept text → Ends text byte
unfolding Steps
ends text byte kept =
    let on = reads_on_lem text (byte ∷ []) in
    let so = byte_steps kept.state kept.front byte in
    let step = so.steps (rest text) kept.keeps in
    let KeptThen : List ℕ → Type 0 = Keeps so.next so.next_front in
    record {
      ended = option_map (found_in so.next_front) so.item;
      adds = on.items_go_on ∙ ap (λ (more : List (Item (List ℕ))). items text ++ more) step.0;
      kept = record { state = so.next; front = so.next_front; keeps = subst KeptThen (sym on.rest_goes_on) step.1 };
    }

-- bytes more, one by one
kept_behind : (text more : List ℕ) → IsKept text → IsKept (text ++ more)
kept_behind text [] kept = subst IsKept (sym (append-nil text)) kept
kept_behind text (byte ∷ more) kept = subst IsKept (append_assoc text (byte ∷ []) more) (kept_behind (text ++ byte ∷ []) more (ends text byte kept).kept)

-- A byte more of a stream ends one item or none.
pub byte_ends : (text : List ℕ) (byte : ℕ) → (item : Option (Item (List ℕ))) × (items (text ++ byte ∷ []) ≡ items text ++ option_to_list item)
byte_ends text byte =
    let e = ends text byte (kept_behind [] text (record { state = Outside; front = []; keeps = rest-nil })) in
    (e.ended, e.adds)
