-- What two slots keep where one of them is set.
use Rattle.std.proofs.Common.{◌≡◌, ℕ, nat_lt, Bool, true, false, List, Some, refl, sym, ◌∙◌, ap, arith}
use Rattle.std.proofs.lemmas.Bool.{lt-ltb, le-ltb}
use Rattle.state_store.specs.Slots.{InSlot, in_slot, number_of}
use Rattle.state_store.specs.Kept.{standing_when, kept_where, saved, kept_of, kept_in}
use Rattle.state_store.specs.Steps.{Sets, IsSpare, IsLater}
use Rattle.state_store.specs.declared.slot.Slot.{Slot}
use Rattle.state_store.specs.declared.slot.Slot.TheVariants.{First, Second}

-- A slot that doesn't stand is closed: what stands stands as before.
closed_first : (o p t u : Bool) (e f g : List ℕ) → (standing_when o p t ≡ Some First → ⊥) → kept_where (standing_when false p u) f g ≡ kept_where (standing_when o p t) e g
closed_first true true true u e f g spare = refl
closed_first true true false u e f g spare = absurd (spare refl)
closed_first true false t u e f g spare = absurd (spare refl)
closed_first false true t u e f g spare = refl
closed_first false false t u e f g spare = refl

closed_second : (o p t u : Bool) (e f g : List ℕ) → (standing_when o p t ≡ Some Second → ⊥) → kept_where (standing_when o false u) g f ≡ kept_where (standing_when o p t) g e
closed_second true true true u e f g spare = absurd (spare refl)
closed_second true true false u e f g spare = refl
closed_second true false t u e f g spare = refl
closed_second false true t u e f g spare = absurd (spare refl)
closed_second false false t u e f g spare = refl

-- A slot is open and later than the other one: it stands.
opened_first : (p t : Bool) (e g : List ℕ) → (p ≡ true → t ≡ false) → kept_where (standing_when true p t) e g ≡ saved e
opened_first true t e g later = ap (λ (t : Bool). kept_where (standing_when true true t) e g) (later refl)
opened_first false t e g later = refl

opened_second : (o t : Bool) (e g : List ℕ) → (o ≡ true → t ≡ true) → kept_where (standing_when o true t) g e ≡ saved e
opened_second true t e g later = ap (λ (t : Bool). kept_where (standing_when true true t) g e) (later refl)
opened_second false t e g later = refl

-- what is kept where a spare slot is set and closed
pub keeps_closed : (n : ℕ) (slot : Slot) (entry old new : List ℕ) → IsSpare n slot old → Sets n slot false entry old new → kept_in n new ≡ kept_in n old
keeps_closed n First entry old new spare sets =
    let a = in_slot n First old in
    let b = in_slot n Second old in
    let it : InSlot = record { is_open = false; entry = entry } in
    let here : kept_in n new ≡ kept_of it b = ap (λ (s : InSlot). kept_of s (in_slot n Second new)) sets.this ∙ ap (kept_of it) sets.that in
    here ∙ closed_first a.is_open b.is_open (nat_lt (number_of a.entry) (number_of b.entry)) (nat_lt (number_of entry) (number_of b.entry)) a.entry entry b.entry spare
keeps_closed n Second entry old new spare sets =
    let a = in_slot n Second old in
    let b = in_slot n First old in
    let it : InSlot = record { is_open = false; entry = entry } in
    let here : kept_in n new ≡ kept_of b it = ap (λ (s : InSlot). kept_of (in_slot n First new) s) sets.this ∙ ap (λ (s : InSlot). kept_of s it) sets.that in
    here ∙ closed_second b.is_open a.is_open (nat_lt (number_of b.entry) (number_of a.entry)) (nat_lt (number_of b.entry) (number_of entry)) a.entry entry b.entry spare

-- where one is set and opened over a later entry
pub keeps_opened : (n : ℕ) (slot : Slot) (entry old new : List ℕ) → IsLater n slot entry old → Sets n slot true entry old new → kept_in n new ≡ saved entry
keeps_opened n First entry old new later sets =
    let b = in_slot n Second old in
    let it : InSlot = record { is_open = true; entry = entry } in
    let here : kept_in n new ≡ kept_of it b = ap (λ (s : InSlot). kept_of s (in_slot n Second new)) sets.this ∙ ap (kept_of it) sets.that in
    here ∙ opened_first b.is_open (nat_lt (number_of entry) (number_of b.entry)) entry b.entry (λ is. le-ltb (number_of entry) (number_of b.entry) (let less = later is in omega arith))
keeps_opened n Second entry old new later sets =
    let b = in_slot n First old in
    let it : InSlot = record { is_open = true; entry = entry } in
    let here : kept_in n new ≡ kept_of b it = ap (λ (s : InSlot). kept_of (in_slot n First new) s) sets.this ∙ ap (λ (s : InSlot). kept_of s it) sets.that in
    here ∙ opened_second b.is_open (nat_lt (number_of b.entry) (number_of entry)) entry b.entry (λ is. lt-ltb (number_of b.entry) (number_of entry) (later is))

-- and where it is set to what it was
pub keeps_same : (n : ℕ) (slot : Slot) (old new : List ℕ) → Sets n slot (in_slot n slot old).is_open (in_slot n slot old).entry old new → kept_in n new ≡ kept_in n old
keeps_same n First old new sets = ap (λ (s : InSlot). kept_of s (in_slot n Second new)) sets.this ∙ ap (kept_of (in_slot n First old)) sets.that
keeps_same n Second old new sets = ap (λ (s : InSlot). kept_of (in_slot n First new) s) sets.this ∙ ap (λ (s : InSlot). kept_of s (in_slot n Second old)) sets.that

-- a closed slot doesn't stand
closed_spare_first : (p t : Bool) → standing_when false p t ≡ Some First → ⊥
closed_spare_first true t is = cc
closed_spare_first false t is = cc

closed_spare_second : (o t : Bool) → standing_when o false t ≡ Some Second → ⊥
closed_spare_second true t is = cc
closed_spare_second false t is = cc

pub closed_is_spare : (n : ℕ) (slot : Slot) (all : List ℕ) → (in_slot n slot all).is_open ≡ false → IsSpare n slot all
closed_is_spare n First all is = λ stands.
    let b = in_slot n Second all in
    let t = nat_lt (number_of (in_slot n First all).entry) (number_of b.entry) in
    closed_spare_first b.is_open t (sym (ap (λ (o : Bool). standing_when o b.is_open t) is) ∙ stands)
closed_is_spare n Second all is = λ stands.
    let b = in_slot n First all in
    let t = nat_lt (number_of b.entry) (number_of (in_slot n Second all).entry) in
    closed_spare_second b.is_open t (sym (ap (λ (o : Bool). standing_when b.is_open o t) is) ∙ stands)
