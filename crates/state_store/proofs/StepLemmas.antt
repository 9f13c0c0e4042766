-- What the writes of a save do to the slots, torn or whole.
use Rattle.std.proofs.Common.{◌≡◌, inl, inr, ⊎_elim, ℕ, ◌+◌, ◌<◌, ◌≤◌, Bool, true, false, List, [], ◌∷◌, length, Option, Some, None, IfSome, refl, sym, ◌∙◌, ap, subst, arith}
use Rattle.std.proofs.lemmas.Bool.{cases_Bool}
use Rattle.ctl_io.specs.Disk.{overlaid, shown_with, Torn}
use Rattle.ctl_io.proofs.DiskLemmas.{torn_overlaid}
use Rattle.state_store.specs.Slots.{InSlot, in_slot, other, gate_at, gate_is_open, bytes_at, store_size, number_of}
use Rattle.state_store.specs.Kept.{saved}
use Rattle.state_store.specs.Steps.{IsFrom, ShowsStep, Sets, SetsGate, KeepsSame, KeepsSameOr, KeepsSameOrThis, HasGate, IsSpare, IsLater, HoldsLater}
use Rattle.state_store.specs.declared.slot.Slot.{Slot}
use Rattle.state_store.specs.declared.slot.Slot.TheVariants.{First, Second}
use Rattle.state_store.proofs.Contents.{torn_before, torn_behind, written_here}
use Rattle.state_store.proofs.KeptLemmas.{keeps_closed, keeps_opened, keeps_same, closed_is_spare}

-- a slot with this gate and this entry
abbrev made : Bool → List ℕ → InSlot
made is_open entry = record { is_open = is_open; entry = entry }

-- what a slot has, from its bytes
slot_is : (n : ℕ) (slot : Slot) (old new : List ℕ) → bytes_at (gate_at n slot) 1 new ≡ bytes_at (gate_at n slot) 1 old → bytes_at (gate_at n slot + 1) n new ≡ bytes_at (gate_at n slot + 1) n old → in_slot n slot new ≡ in_slot n slot old
slot_is n slot old new gate entry = cc

-- a write in one slot leaves the other one
other_same : (n : ℕ) (slot : Slot) (at k : ℕ) (old new : List ℕ) → Torn at k old new → gate_at n slot ≤ at → at + k ≤ gate_at n slot + 1 + n → in_slot n (other slot) new ≡ in_slot n (other slot) old
other_same n First at k old new torn from to =
    slot_is n Second old new (torn_behind at k (1 + n) 1 old new torn (omega arith)) (torn_behind at k (1 + n + 1) n old new torn (omega arith))
other_same n Second at k old new torn from to =
    slot_is n First old new (torn_before at k 0 1 old new torn (omega arith)) (torn_before at k 1 n old new torn (omega arith))

-- a torn gate
torn_gate : (n : ℕ) (slot : Slot) (old new : List ℕ) → Torn (gate_at n slot) 1 old new → SetsGate n slot (in_slot n slot new).is_open old new
torn_gate n slot old new torn =
    let entry = torn_behind (gate_at n slot) 1 (gate_at n slot + 1) n old new torn (omega arith) in
    record {
      this = ap (λ (e : List ℕ). made (in_slot n slot new).is_open e) entry;
      that = other_same n slot (gate_at n slot) 1 old new torn (omega arith) (omega arith);
    }

-- a torn entry
torn_entry : (n : ℕ) (slot : Slot) (old new : List ℕ) → Torn (gate_at n slot + 1) n old new → Sets n slot (in_slot n slot old).is_open (in_slot n slot new).entry old new
torn_entry n slot old new torn =
    let gate = torn_before (gate_at n slot + 1) n (gate_at n slot) 1 old new torn (omega arith) in
    record {
      this = ap (λ (g : List ℕ). made (gate_is_open g) (in_slot n slot new).entry) gate;
      that = other_same n slot (gate_at n slot + 1) n old new torn (omega arith) (omega arith);
    }

-- a gate that is written whole
set_gate : (n : ℕ) (slot : Slot) (gate : ℕ) (old : List ℕ) → gate_at n slot + 1 ≤ length old → SetsGate n slot (gate_is_open (gate ∷ [])) old (overlaid (gate_at n slot) (gate ∷ []) old)
set_gate n slot gate old within =
    let new = overlaid (gate_at n slot) (gate ∷ []) old in
    let sets = torn_gate n slot old new (torn_overlaid (gate_at n slot) (gate ∷ []) old within) in
    record {
      this = sets.this ∙ ap (λ (g : List ℕ). made (gate_is_open g) (in_slot n slot old).entry) (written_here (gate_at n slot) (gate ∷ []) old within);
      that = sets.that;
    }

-- an entry that is written whole
set_entry : (slot : Slot) (entry old : List ℕ) → gate_at (length entry) slot + 1 + length entry ≤ length old → Sets (length entry) slot (in_slot (length entry) slot old).is_open entry old (overlaid (gate_at (length entry) slot + 1) entry old)
set_entry slot entry old within =
    let n = length entry in
    let sets = torn_entry n slot old (overlaid (gate_at n slot + 1) entry old) (torn_overlaid (gate_at n slot + 1) entry old within) in
    record {
      this = sets.this ∙ ap (λ (e : List ℕ). made (in_slot n slot old).is_open e) (written_here (gate_at n slot + 1) entry old within);
      that = sets.that;
    }

-- both slots have room in a store's bytes
slot_fits : (n : ℕ) (slot : Slot) (size : ℕ) → store_size n ≤ size → gate_at n slot + 1 + n ≤ size
slot_fits n First size fits = omega arith
slot_fits n Second size fits = omega arith

-- what a disk shows, where it is known
at_shown : (P : List ℕ → Type 0) (shown : Option (List ℕ)) (all : List ℕ) → shown ≡ Some all → IfSome shown P → P all
at_shown P shown all is holds = subst (λ (s : Option (List ℕ)). IfSome s P) is holds

-- where a step leads
stepped : (Step : List ℕ → List ℕ → Type 0) (a b : Option (List ℕ)) (new : List ℕ) → b ≡ Some new → ShowsStep Step a b → IsFrom Step a new
stepped Step None None new is step = absurd cc
stepped Step None (Some all) new is step = absurd step
stepped Step (Some old) None new is step = absurd step
stepped Step (Some old) (Some all) new is step = (old, refl, subst (Step old) (let same : all ≡ new = cc in same) step)

-- two steps
shows_both : (R S T : List ℕ → List ℕ → Type 0) (a b c : Option (List ℕ)) → ShowsStep R a b → ShowsStep S b c → ((x y z : List ℕ) → R x y → S y z → T x z) → ShowsStep T a c
shows_both R S T None None None r s so = tt
shows_both R S T None None (Some z) r s so = s
shows_both R S T None (Some y) c r s so = absurd r
shows_both R S T (Some x) None c r s so = absurd r
shows_both R S T (Some x) (Some y) None r s so = s
shows_both R S T (Some x) (Some y) (Some z) r s so = so x y z r s

-- what holds after a step
after_step : (Step : List ℕ → List ℕ → Type 0) (P : List ℕ → Type 0) (a b : Option (List ℕ)) → ShowsStep Step a b → ((x y : List ℕ) → a ≡ Some x → Step x y → P y) → IfSome b P
after_step Step P None None step so = tt
after_step Step P None (Some y) step so = absurd step
after_step Step P (Some x) None step so = tt
after_step Step P (Some x) (Some y) step so = so x y refl step

-- a whole write of a gate, where the disk shows it
pub shows_gate : (n : ℕ) (slot : Slot) (at gate size : ℕ) (a b : Option (List ℕ)) → at ≡ gate_at n slot → IfSome a (λ all. length all ≡ size) → store_size n ≤ size → b ≡ shown_with at (gate ∷ []) a
    → ShowsStep (SetsGate n slot (gate_is_open (gate ∷ []))) a b
shows_gate n slot at gate size None b here long fits is = subst (ShowsStep (SetsGate n slot (gate_is_open (gate ∷ []))) None) (sym is) tt
shows_gate n slot at gate size (Some old) b here long fits is =
    let within = slot_fits n slot size fits in
    let set = subst (λ (at : ℕ). SetsGate n slot (gate_is_open (gate ∷ [])) old (overlaid at (gate ∷ []) old)) (sym here) (set_gate n slot gate old (omega arith)) in
    subst (ShowsStep (SetsGate n slot (gate_is_open (gate ∷ []))) (Some old)) (sym is) set

-- and of an entry
pub shows_entry : (slot : Slot) (entry : List ℕ) (at size : ℕ) (a b : Option (List ℕ)) → at ≡ gate_at (length entry) slot → IfSome a (λ all. length all ≡ size) → store_size (length entry) ≤ size
    → IfSome a (HasGate (length entry) slot false) → b ≡ shown_with (at + 1) entry a → ShowsStep (Sets (length entry) slot false entry) a b
shows_entry slot entry at size None b here long fits closed is = subst (ShowsStep (Sets (length entry) slot false entry) None) (sym is) tt
shows_entry slot entry at size (Some old) b here long fits closed is =
    let within = slot_fits (length entry) slot size fits in
    let n = length entry in
    let set = subst (λ (at : ℕ). Sets n slot (in_slot n slot old).is_open entry old (overlaid (at + 1) entry old)) (sym here) (set_entry slot entry old (omega arith)) in
    subst (ShowsStep (Sets n slot false entry) (Some old)) (sym is) (subst (λ (o : Bool). Sets n slot o entry old (overlaid (at + 1) entry old)) closed set)

-- a gate that is closed already
pub shows_closed : (n : ℕ) (slot : Slot) (a : Option (List ℕ)) → IfSome a (HasGate n slot false) → ShowsStep (SetsGate n slot false) a a
shows_closed n slot None closed = tt
shows_closed n slot (Some old) closed = record { this = ap (λ (o : Bool). made o (in_slot n slot old).entry) closed; that = refl }

-- While an open gate is closed, the store keeps what it kept.
pub closing_keeps : (n : ℕ) (slot : Slot) (at : ℕ) (shown : Option (List ℕ)) → at ≡ gate_at n slot → IfSome shown (IsSpare n slot) → IfSome shown (HasGate n slot true)
    → (c : List ℕ) → IsFrom (Torn at 1) shown c → IsFrom (KeepsSame n) shown c
closing_keeps n slot at shown here spare open_now c from =
    let old = from.0 in
    let sets = torn_gate n slot old c (subst (λ (at : ℕ). Torn at 1 old c) here from.2) in
    let entry = (in_slot n slot old).entry in
    let was : (in_slot n slot old).is_open ≡ true = at_shown (HasGate n slot true) shown old from.1 open_now in (
      old,
      from.1,
      elim (cases_Bool (in_slot n slot c).is_open) [
        | inl still ↦ keeps_same n slot old c (subst (λ (o : Bool). Sets n slot o entry old c) (still ∙ sym was) sets)
        | inr closed ↦ keeps_closed n slot entry old c (at_shown (IsSpare n slot) shown old from.1 spare) (subst (λ (o : Bool). Sets n slot o entry old c) closed sets)
      ],
    )

-- While a closed slot is written, too.
pub filling_keeps : (n : ℕ) (slot : Slot) (at : ℕ) (shown : Option (List ℕ)) → at ≡ gate_at n slot → IfSome shown (HasGate n slot false)
    → (c : List ℕ) → IsFrom (Torn (at + 1) n) shown c → IsFrom (KeepsSame n) shown c
filling_keeps n slot at shown here closed c from =
    let old = from.0 in
    let was = at_shown (HasGate n slot false) shown old from.1 closed in
    let entry = (in_slot n slot c).entry in
    (old, from.1, keeps_closed n slot entry old c (closed_is_spare n slot old was) (subst (λ (o : Bool). Sets n slot o entry old c) was (torn_entry n slot old c (subst (λ (at : ℕ). Torn (at + 1) n old c) here from.2))))

-- While its gate is opened, the store keeps what it kept, or its entry.
pub opening_keeps : (n : ℕ) (slot : Slot) (at : ℕ) (shown : Option (List ℕ)) → at ≡ gate_at n slot → IfSome shown (HasGate n slot false) → IfSome shown (HoldsLater n slot)
    → (c : List ℕ) → IsFrom (Torn at 1) shown c → IsFrom (KeepsSameOrThis n slot) shown c
opening_keeps n slot at shown here closed later c from =
    let old = from.0 in
    let sets = torn_gate n slot old c (subst (λ (at : ℕ). Torn at 1 old c) here from.2) in
    let entry = (in_slot n slot old).entry in
    let was = at_shown (HasGate n slot false) shown old from.1 closed in (
      old,
      from.1,
      elim (cases_Bool (in_slot n slot c).is_open) [
        | inl opened ↦ inr (keeps_opened n slot entry old c (at_shown (HoldsLater n slot) shown old from.1 later) (subst (λ (o : Bool). Sets n slot o entry old c) opened sets))
        | inr still ↦ inl (keeps_closed n slot entry old c (closed_is_spare n slot old was) (subst (λ (o : Bool). Sets n slot o entry old c) still sets))
      ],
    )

-- A slot that was set and closed is closed, and doesn't stand.
pub set_closed : (n : ℕ) (slot : Slot) (a b : Option (List ℕ)) → ShowsStep (SetsGate n slot false) a b → IfSome b (HasGate n slot false)
set_closed n slot a b step = after_step (SetsGate n slot false) (HasGate n slot false) a b step (λ x y is sets. ap (λ (s : InSlot). s.is_open) sets.this)

pub filled_closed : (n : ℕ) (slot : Slot) (entry : List ℕ) (a b : Option (List ℕ)) → ShowsStep (Sets n slot false entry) a b → IfSome b (HasGate n slot false)
filled_closed n slot entry a b step = after_step (Sets n slot false entry) (HasGate n slot false) a b step (λ x y is sets. ap (λ (s : InSlot). s.is_open) sets.this)

-- closed and then filled
pub closed_filled : (n : ℕ) (slot : Slot) (entry : List ℕ) (a b c : Option (List ℕ)) → ShowsStep (SetsGate n slot false) a b → ShowsStep (Sets n slot false entry) b c → ShowsStep (Sets n slot false entry) a c
closed_filled n slot entry a b c closed filled =
    shows_both (SetsGate n slot false) (Sets n slot false entry) (Sets n slot false entry) a b c closed filled (λ x y z r s. record { this = s.this; that = s.that ∙ r.that })

-- and then opened
pub filled_opened : (n : ℕ) (slot : Slot) (entry : List ℕ) (a b c : Option (List ℕ)) → ShowsStep (Sets n slot false entry) a b → ShowsStep (SetsGate n slot true) b c → ShowsStep (Sets n slot true entry) a c
filled_opened n slot entry a b c filled opened =
    shows_both (Sets n slot false entry) (SetsGate n slot true) (Sets n slot true entry) a b c filled opened
    (λ x y z r s. record { this = s.this ∙ ap (λ (i : InSlot). made true i.entry) r.this; that = s.that ∙ r.that })

-- The entry that was filled in is later than the other one.
pub filled_later : (n : ℕ) (slot : Slot) (entry : List ℕ) (a b : Option (List ℕ)) → ShowsStep (Sets n slot false entry) a b → IfSome a (IsLater n slot entry) → IfSome b (HoldsLater n slot)
filled_later n slot entry a b step later = after_step (Sets n slot false entry) (HoldsLater n slot) a b step (λ x y is sets.
    let was : IsLater n slot entry x = at_shown (IsLater n slot entry) a x is later in
    let here : InSlot → InSlot → Type 0 = λ this that. that.is_open ≡ true → number_of that.entry < number_of this.entry in
    subst (λ (i : InSlot). here i (in_slot n (other slot) y)) (sym sets.this) (subst (here (made false entry)) (sym sets.that) was))

-- What is kept after the slot was closed, or closed and filled, was kept before.
pub kept_closed : (n : ℕ) (slot : Slot) (a b : Option (List ℕ)) → IfSome a (IsSpare n slot) → ShowsStep (SetsGate n slot false) a b → (c : List ℕ) → IsFrom (KeepsSame n) b c → IsFrom (KeepsSame n) a c
kept_closed n slot a b spare step c from =
    let back = stepped (SetsGate n slot false) a b from.0 from.1 step in
    (back.0, back.1, from.2 ∙ keeps_closed n slot (in_slot n slot back.0).entry back.0 from.0 (at_shown (IsSpare n slot) a back.0 back.1 spare) back.2)

-- What is kept while the slot is opened that was closed and filled, was kept before, or it is the entry.
pub kept_opened : (n : ℕ) (slot : Slot) (entry : List ℕ) (a b : Option (List ℕ)) → IfSome a (IsSpare n slot) → ShowsStep (Sets n slot false entry) a b → (c : List ℕ) → IsFrom (KeepsSameOrThis n slot) b c → IsFrom (KeepsSameOr n entry) a c
kept_opened n slot entry a b spare step c from =
    let back = stepped (Sets n slot false entry) a b from.0 from.1 step in
    let was = keeps_closed n slot entry back.0 from.0 (at_shown (IsSpare n slot) a back.0 back.1 spare) back.2 in
    (back.0, back.1, ⊎_elim (λ same. inl (same ∙ was)) (λ new. inr (new ∙ ap (λ (i : InSlot). saved i.entry) back.2.this)) from.2)

-- what keeps the same keeps the same or an entry
pub or_this : (n : ℕ) (entry : List ℕ) (shown : Option (List ℕ)) (c : List ℕ) → IsFrom (KeepsSame n) shown c → IsFrom (KeepsSameOr n entry) shown c
or_this n entry shown c from = (from.0, from.1, inl from.2)
