-- The reading of a text by its start, and of a text that goes on.
use Rattle.std.proofs.Common.{◌≡◌, ℕ, ◌+◌, ◌≤◌, ◌<◌, false, nat_eq, List, [], ◌∷◌, ◌++◌, length, refl, sym, ap, ◌∙◌, subst, arith}
use Rattle.std.proofs.lemmas.Bool.{cond-false}
use Rattle.std.proofs.lemmas.List.{append_assoc}
use Rattle.dle_framing.specs.declared.item.Item.TheVariants.{Ack, Nak}
use Rattle.dle_framing.specs.Numbers.{dle, stx, etx, ack_byte, nak_byte}
use Rattle.dle_framing.specs.Frame.{doubled}
use Rattle.dle_framing.specs.Items.{longest_run, TextReading, item_of, in_frame, by_start, reading}
use Rattle.doubled_bytes.proofs.Runs.{at_byte, longest_run-stop, longest_run-ended, doubled-longest_run, Stops, longest_run-stops, length-behind}
use Rattle.doubled_bytes.proofs.Readings.{reading_by-start, followed, GoesOn, goes_on_rest, goes_on_behind, goes_on_item, goes_on_always}

-- Two readings that agree on what is behind a run agree on the frame.
in_frame-same : (f g : List ℕ → TextReading) (text spelled behind : List ℕ) → ((t : List ℕ) → length t ≤ length behind → f t ≡ g t)
    → in_frame f text (record { spelled = spelled; behind = behind }) ≡ in_frame g text (record { spelled = spelled; behind = behind })
in_frame-same f g text spelled [] same = refl
in_frame-same f g text spelled (a ∷ []) same = refl
in_frame-same f g text spelled (a ∷ b ∷ more) same = rw (same more (omega arith), same (a ∷ b ∷ more) (omega arith)) refl

-- Two readings that agree on each shorter text agree on a text by its start.
pub by_start-same : (f g : List ℕ → TextReading) (text : List ℕ) → ((t : List ℕ) → length t < length text → f t ≡ g t) → by_start f text ≡ by_start g text
by_start-same f g [] same = refl
by_start-same f g (a ∷ []) same = refl
by_start-same f g (a ∷ b ∷ text) same =
    let framed : in_frame f text (longest_run text) ≡ in_frame g text (longest_run text) =
    in_frame-same f g text (longest_run text).spelled (longest_run text).behind (λ t shorter. same t (omega (arith, length-behind dle text))) in
    rw (same text (omega arith), same (b ∷ text) (omega arith), framed) refl

-- The steps are no part of the meaning.
pub reading-by_start : (text : List ℕ) → reading text ≡ by_start reading text
unfolding reading
reading-by_start text = reading_by-start by_start by_start-same text

-- A byte that isn't DLE is noise at the start of a text.
pub reading-noise : (a : ℕ) (text : List ℕ) → nat_eq a dle ≡ false → reading (a ∷ text) ≡ reading text
reading-noise a [] other = reading-by_start (a ∷ []) ∙ cond-false _ _ _ other ∙ sym (reading-by_start [])
reading-noise a (b ∷ text) other = reading-by_start (a ∷ b ∷ text) ∙ cond-false _ _ _ other

-- So is a DLE before a byte that makes no control with it.
pub reading-noise_dle : (b : ℕ) (text : List ℕ) → nat_eq b ack_byte ≡ false → nat_eq b nak_byte ≡ false → nat_eq b stx ≡ false → reading (dle ∷ b ∷ text) ≡ reading (b ∷ text)
reading-noise_dle b text no_ack no_nak no_stx = reading-by_start (dle ∷ b ∷ text) ∙ cond-false _ _ _ no_ack ∙ cond-false _ _ _ no_nak ∙ cond-false _ _ _ no_stx

-- a frame by its run, which a text with no piece at its start ends
pub reading-frame : (body tail : List ℕ) → longest_run tail ≡ record { spelled = []; behind = tail }
    → reading (dle ∷ stx ∷ (doubled body ++ tail)) ≡ in_frame reading (doubled body ++ tail) (record { spelled = body; behind = tail })
reading-frame body tail ends = reading-by_start (dle ∷ stx ∷ (doubled body ++ tail)) ∙ ap (in_frame reading (doubled body ++ tail)) (longest_run-ended dle body tail ends)

-- a frame that DLE with another byte abandons
pub reading-abandoned : (body : List ℕ) (b : ℕ) (more : List ℕ) → nat_eq b dle ≡ false → nat_eq b etx ≡ false → nat_eq b stx ≡ false
    → reading (dle ∷ stx ∷ (doubled body ++ dle ∷ b ∷ more)) ≡ reading more
reading-abandoned body b more no_dle no_etx no_stx =
    reading-frame body (dle ∷ b ∷ more) (longest_run-stop dle b more no_dle) ∙ cond-false _ _ _ no_etx ∙ cond-false _ _ _ no_stx

-- the same of a frame, by what is behind its run
goes_on_frame : (more body behind : List ℕ) → Stops dle behind → ((t : List ℕ) → length t ≤ length behind → GoesOn reading more t) → GoesOn reading more (dle ∷ stx ∷ (doubled body ++ behind))
goes_on_frame more body [] stops shorter = goes_on_rest reading more (dle ∷ stx ∷ (doubled body ++ [])) (reading-frame body [] refl)
goes_on_frame more body (a ∷ []) stops shorter =
    let P : ℕ → Type 0 = λ a. GoesOn reading more (dle ∷ stx ∷ (doubled body ++ a ∷ [])) in
    subst P (sym stops) (goes_on_rest reading more (dle ∷ stx ∷ (doubled body ++ dle ∷ [])) (reading-frame body (dle ∷ []) refl))
goes_on_frame more body (a ∷ b ∷ behind) stops shorter =
    let P : ℕ → Type 0 = λ a. GoesOn reading more (dle ∷ stx ∷ (doubled body ++ a ∷ b ∷ behind)) in
    let joins : (b : ℕ) → reading ((dle ∷ stx ∷ (doubled body ++ dle ∷ b ∷ behind)) ++ more) ≡ reading (dle ∷ stx ∷ (doubled body ++ dle ∷ b ∷ (behind ++ more))) =
    λ b. ap (λ (text : List ℕ). reading (dle ∷ stx ∷ text)) (append_assoc (doubled body) (dle ∷ b ∷ behind) more) in
    subst P (sym stops.0)
    (at_byte etx (λ b. nat_eq b dle ≡ false → GoesOn reading more (dle ∷ stx ∷ (doubled body ++ dle ∷ b ∷ behind))) b
    (λ no_dle. goes_on_item reading more (dle ∷ stx ∷ (doubled body ++ dle ∷ etx ∷ behind)) behind (item_of body)
    (reading-frame body (dle ∷ etx ∷ behind) refl)
    (joins etx ∙ reading-frame body (dle ∷ etx ∷ (behind ++ more)) refl)
    (shorter behind (omega arith)))
    (λ no_etx. at_byte stx (λ b. nat_eq b etx ≡ false → nat_eq b dle ≡ false → GoesOn reading more (dle ∷ stx ∷ (doubled body ++ dle ∷ b ∷ behind))) b
    (λ no_etx no_dle. goes_on_behind reading more (dle ∷ stx ∷ (doubled body ++ dle ∷ stx ∷ behind)) (dle ∷ stx ∷ behind)
    (reading-frame body (dle ∷ stx ∷ behind) refl)
    (joins stx ∙ reading-frame body (dle ∷ stx ∷ (behind ++ more)) refl)
    (shorter (dle ∷ stx ∷ behind) (omega arith)))
    (λ no_stx no_etx no_dle. goes_on_behind reading more (dle ∷ stx ∷ (doubled body ++ dle ∷ b ∷ behind)) behind
    (reading-abandoned body b behind no_dle no_etx no_stx)
    (joins b ∙ reading-abandoned body b (behind ++ more) no_dle no_etx no_stx)
    (shorter behind (omega arith)))
    no_etx)
    stops.1)

-- the same of a DLE with another byte
goes_on_control : (more : List ℕ) (b : ℕ) (text : List ℕ) → ((t : List ℕ) → length t < 2 + length text → GoesOn reading more t) → GoesOn reading more (dle ∷ b ∷ text)
goes_on_control more b text shorter =
    at_byte ack_byte (λ b. GoesOn reading more (dle ∷ b ∷ text)) b
    (goes_on_item reading more (dle ∷ ack_byte ∷ text) text Ack (reading-by_start (dle ∷ ack_byte ∷ text)) (reading-by_start (dle ∷ ack_byte ∷ (text ++ more))) (shorter text (omega arith)))
    (λ no_ack. at_byte nak_byte (λ b. nat_eq b ack_byte ≡ false → GoesOn reading more (dle ∷ b ∷ text)) b
    (λ no_ack. goes_on_item reading more (dle ∷ nak_byte ∷ text) text Nak (reading-by_start (dle ∷ nak_byte ∷ text)) (reading-by_start (dle ∷ nak_byte ∷ (text ++ more))) (shorter text (omega arith)))
    (λ no_nak no_ack. at_byte stx (λ b. nat_eq b ack_byte ≡ false → nat_eq b nak_byte ≡ false → GoesOn reading more (dle ∷ b ∷ text)) b
    (λ no_ack no_nak.
    let run = longest_run text in
    let P : List ℕ → Type 0 = λ text. GoesOn reading more (dle ∷ stx ∷ text) in
    subst P (doubled-longest_run dle text)
    (goes_on_frame more run.spelled run.behind (longest_run-stops dle text) (λ t within. shorter t (omega (arith, length-behind dle text)))))
    (λ no_stx no_ack no_nak. goes_on_behind reading more (dle ∷ b ∷ text) (b ∷ text)
    (reading-noise_dle b text no_ack no_nak no_stx)
    (reading-noise_dle b (text ++ more) no_ack no_nak no_stx)
    (shorter (b ∷ text) (omega arith)))
    no_ack no_nak)
    no_ack)

goes_on_start : (more text : List ℕ) → ((t : List ℕ) → length t < length text → GoesOn reading more t) → GoesOn reading more text
goes_on_start more [] shorter = goes_on_rest reading more [] (reading-by_start [])
goes_on_start more (a ∷ []) shorter =
    at_byte dle (λ a. GoesOn reading more (a ∷ [])) a
    (goes_on_rest reading more (dle ∷ []) (reading-by_start (dle ∷ [])))
    (λ other. goes_on_behind reading more (a ∷ []) [] (reading-noise a [] other) (reading-noise a more other) (shorter [] (omega arith)))
goes_on_start more (a ∷ b ∷ text) shorter =
    at_byte dle (λ a. GoesOn reading more (a ∷ b ∷ text)) a
    (goes_on_control more b text (λ t within. shorter t (omega arith)))
    (λ other. goes_on_behind reading more (a ∷ b ∷ text) (b ∷ text) (reading-noise a (b ∷ text) other) (reading-noise a (b ∷ (text ++ more)) other) (shorter (b ∷ text) (omega arith)))

pub reading-append : (text more : List ℕ) → reading (text ++ more) ≡ followed (reading text) (reading ((reading text).rest ++ more))
reading-append text more = goes_on_always reading goes_on_start text more
