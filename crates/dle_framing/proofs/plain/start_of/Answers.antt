use Rattle.std.proofs.Common.{◌≡◌, ℕ, List, [], ◌∷◌, length, refl, sym, ap, ◌∙◌, subst, arith}
use Rattle.std.proofs.lemmas.Bool.{ne_eqb}
use Rattle.dle_framing.specs.Numbers.{dle, stx, ack_byte, nak_byte}
use Rattle.dle_framing.specs.Items.{only_rest, reading}
use Rattle.dle_framing.proofs.Readings.{reading-by_start, reading-noise, reading-noise_dle}
use Rattle.dle_framing.proofs.plain.start_of.Goals as goal

-- a text by its two first bytes
split : (text behind both : List ℕ) (a b k : ℕ) → text ≡ a ∷ behind → a ≡ dle → behind ≡ b ∷ both → b ≡ k → text ≡ dle ∷ k ∷ both
split text behind both a b k first is_dle second is = first ∙ ap (λ (a : ℕ). a ∷ behind) is_dle ∙ ap (λ (behind : List ℕ). dle ∷ behind) (second ∙ ap (λ (b : ℕ). b ∷ both) is)

-- a text that is a rest
is_rest : (text is : List ℕ) → text ≡ is → reading is ≡ only_rest is → reading text ≡ only_rest text
is_rest text is same known = let P : List ℕ → Type 0 = λ text. reading text ≡ only_rest text in subst P (sym same) known

pub returns-in_default : goal.returns-in_default
returns-in_default c = is_rest c.args.text.now [] c.in_default.ensures (reading-by_start [])

pub returns-then-first-ne-DLE : goal.returns-then-first-ne-DLE
returns-then-first-ne-DLE c =
    let first = c.in-Some.first in
    let behind = c.in-Some.behind.now in (
      ap reading c.in-Some.ensures ∙ reading-noise first behind (ne_eqb first dle c.if-first-ne-DLE.true),
      omega (arith, ap (length {A = ℕ}) c.in-Some.ensures),
    )

pub returns-in_default-first_byte : goal.returns-in_default-first_byte
returns-in_default-first_byte c =
    is_rest c.args.text.now (dle ∷ [])
    (c.in-Some.ensures ∙ ap (λ (behind : List ℕ). c.in-Some.first ∷ behind) c.in_default-first_byte.ensures ∙ ap (λ (a : ℕ). a ∷ []) c.if-first-ne-DLE.false)
    (reading-by_start (dle ∷ []))

pub returns-in-6 : goal.returns-in-6
returns-in-6 c =
    let both = c.in-Some-first_byte.behind_both.now in
    let is = split c.args.text.now c.in-Some.behind.now both c.in-Some.first c.in-Some-first_byte.second ack_byte c.in-Some.ensures c.if-first-ne-DLE.false c.in-Some-first_byte.ensures c.in-6.is in
    (ap reading is ∙ reading-by_start (dle ∷ ack_byte ∷ both), omega (arith, ap (length {A = ℕ}) is))

pub returns-in-21 : goal.returns-in-21
returns-in-21 c =
    let both = c.in-Some-first_byte.behind_both.now in
    let is = split c.args.text.now c.in-Some.behind.now both c.in-Some.first c.in-Some-first_byte.second nak_byte c.in-Some.ensures c.if-first-ne-DLE.false c.in-Some-first_byte.ensures c.in-21.is in
    (ap reading is ∙ reading-by_start (dle ∷ nak_byte ∷ both), omega (arith, ap (length {A = ℕ}) is))

pub returns-in_default-second : goal.returns-in_default-second
returns-in_default-second c =
    let second = c.in-Some-first_byte.second in
    let both = c.in-Some-first_byte.behind_both.now in
    let is = split c.args.text.now c.in-Some.behind.now both c.in-Some.first second second c.in-Some.ensures c.if-first-ne-DLE.false c.in-Some-first_byte.ensures refl in (
      ap reading is ∙ reading-noise_dle second both (ne_eqb second ack_byte (λ same. omega arith)) (ne_eqb second nak_byte (λ same. omega arith)) (ne_eqb second stx (λ same. omega arith)) ∙ ap reading (sym c.in-Some-first_byte.ensures),
      omega (arith, ap (length {A = ℕ}) c.in-Some.ensures),
    )
