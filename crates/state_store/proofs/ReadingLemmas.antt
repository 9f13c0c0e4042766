-- What is read of a store's bytes, and what it tells.
use Rattle.std.proofs.Common.{◌≡◌, ℕ, zero, suc, nat_eq, ◌+◌, ◌≤◌, Bool, List, [], ◌∷◌, length, get_or, take, drop, Option, Some, None, IfSome, refl, sym, ◌∙◌, ap, arith, drop-cons}
use Rattle.std.proofs.lemmas.List.{take-take, drop-drop, drop-take}
use Rattle.std.specs.Int.{w64, from_le_bytes}
use Rattle.ctl_io.specs.Disk.{AreAt}
use Rattle.state_store.specs.Slots.{in_slot, gate_at, gate_is_open, bytes_at, number_of}
use Rattle.state_store.specs.Kept.{standing, kept_where, kept_in, number_kept, number_where, head_of, heads_in}
use Rattle.state_store.specs.Reading.{leading_head, kept_by, HasHead, HasHeads, HasNumber, HasRead}
use Rattle.state_store.specs.declared.slot.Slot.{Slot}
use Rattle.state_store.specs.declared.slot.Slot.TheVariants.{First, Second}
use Rattle.state_store.specs.declared.heads.Head.{Head}
use Rattle.state_store.specs.declared.heads.Heads.{Heads}

-- the elements of a list from a place on
abbrev pub elements : ℕ → ℕ → List ℕ → List ℕ
elements i zero xs = []
elements i (suc k) xs = get_or xs i 0 ∷ elements (suc i) k xs

elements_are : (k i : ℕ) (xs : List ℕ) → i + k ≤ length xs → take k (drop i xs) ≡ elements i k xs
elements_are zero i xs long = refl
elements_are (suc k) i xs long = ap (take (suc k)) (drop-cons xs i 0 (omega arith)) ∙ ap (λ (l : List ℕ). get_or xs i 0 ∷ l) (elements_are k (suc i) xs (omega arith))

gate_first : (bytes : List ℕ) → nat_eq (get_or bytes 0 0) 1 ≡ gate_is_open bytes
gate_first [] = refl
gate_first (gate ∷ rest) = refl

-- the head that nine bytes say, by each of them
pub head_says : (bytes : List ℕ) (number : ℕ) → length bytes ≡ 9 → number ≡ from_le_bytes w64 (elements 1 8 bytes) → record { is_open = nat_eq (get_or bytes 0 0) 1; number = number } ≡ leading_head bytes
unfolding number_of
head_says bytes number nine is =
    let all : take 8 (drop 1 bytes) ≡ elements 1 8 bytes = elements_are 8 1 bytes (omega arith) in
    let counts : number ≡ from_le_bytes w64 (take 8 (drop 1 bytes)) = is ∙ ap (from_le_bytes w64) (sym all) in
    ap (λ (o : Bool). record { is_open = o; number = number }) (gate_first bytes) ∙ ap (λ (m : ℕ). record { is_open = gate_is_open bytes; number = m }) counts

gate_leads : (all : List ℕ) → gate_is_open (take 9 all) ≡ gate_is_open (take 1 all)
gate_leads [] = refl
gate_leads (gate ∷ rest) = refl

number_leads : (n at : ℕ) (all : List ℕ) → 8 ≤ n → number_of (drop 1 (bytes_at at 9 all)) ≡ number_of (bytes_at (at + 1) n all)
unfolding number_of
number_leads n at all long =
    let short : take 8 (drop 1 (take 9 (drop at all))) ≡ take 8 (take n (drop (at + 1) all)) =
    ap (take 8) (drop-take 1 8 (drop at all)) ∙ take-take 8 8 (drop 1 (drop at all)) (omega arith) ∙ ap (take 8) (drop-drop 1 at all) ∙ sym (take-take 8 n (drop (at + 1) all) long) in
    cc

-- the head that a slot's first nine bytes say
pub head_leads : (n : ℕ) (slot : Slot) (at : ℕ) (bytes : List ℕ) (shown : Option (List ℕ)) → 8 ≤ n → at ≡ gate_at n slot → length bytes ≡ 9 → AreAt at bytes shown → IfSome shown (HasHead n slot (leading_head bytes))
head_leads n slot at bytes None long here nine are = tt
head_leads n slot at bytes (Some all) long here nine are =
    let is : bytes ≡ bytes_at (gate_at n slot) 9 all = are ∙ ap (λ k. take k (drop at all)) nine ∙ ap (λ i. bytes_at i 9 all) here in
    let gate = ap gate_is_open is ∙ gate_leads (drop (gate_at n slot) all) in
    let number = ap (λ (b : List ℕ). number_of (drop 1 b)) is ∙ number_leads n (gate_at n slot) all long in
    cc

-- the heads of both slots
pub heads_are : (n : ℕ) (heads : Heads) (shown : Option (List ℕ)) → IfSome shown (HasHead n First heads.first) → IfSome shown (HasHead n Second heads.second) → IfSome shown (HasHeads n heads)
heads_are n heads None first second = tt
heads_are n heads (Some all) first second =
    ap (λ (h : Head). record { first = h; second = head_of (in_slot n Second all) }) first ∙ ap (λ (h : Head). record { first = heads.first; second = h }) second

-- what is kept, by the heads
kept_is : (n : ℕ) (heads : Heads) (all : List ℕ) → HasHeads n heads all → kept_in n all ≡ kept_where (standing heads) (in_slot n First all).entry (in_slot n Second all).entry
kept_is n heads all has = ap (λ (h : Heads). kept_where (standing h) (in_slot n First all).entry (in_slot n Second all).entry) has

entry_kept : (n : ℕ) (slot : Slot) (entry all : List ℕ) → entry ≡ (in_slot n slot all).entry → kept_where (Some slot) (in_slot n First all).entry (in_slot n Second all).entry ≡ kept_by (Some slot) entry
entry_kept n First entry all is = ap (kept_by (Some First)) (sym is)
entry_kept n Second entry all is = ap (kept_by (Some Second)) (sym is)

-- no slot stands
pub none_read : (n : ℕ) (heads : Heads) (entry : List ℕ) (shown : Option (List ℕ)) → standing heads ≡ None → IfSome shown (HasHeads n heads) → IfSome shown (HasRead n (standing heads) entry)
none_read n heads entry None stands known = tt
none_read n heads entry (Some all) stands known =
    kept_is n heads all known ∙ ap (λ (s : Option Slot). kept_where s (in_slot n First all).entry (in_slot n Second all).entry) stands ∙ ap (λ (s : Option Slot). kept_by s entry) (sym stands)

-- a slot stands whose entry was read
pub entry_read : (n : ℕ) (heads : Heads) (slot : Slot) (at : ℕ) (entry : List ℕ) (shown : Option (List ℕ)) → standing heads ≡ Some slot → at ≡ gate_at n slot → length entry ≡ n → AreAt (at + 1) entry shown → IfSome shown (HasHeads n heads) → IfSome shown (HasRead n (standing heads) entry)
entry_read n heads slot at entry None stands here long are known = tt
entry_read n heads slot at entry (Some all) stands here long are known =
    let is : entry ≡ (in_slot n slot all).entry = are ∙ ap (λ k. take k (drop (at + 1) all)) long ∙ ap (λ i. bytes_at (i + 1) n all) here in
    kept_is n heads all known ∙ ap (λ (s : Option Slot). kept_where s (in_slot n First all).entry (in_slot n Second all).entry) stands ∙ entry_kept n slot entry all is ∙ ap (λ (s : Option Slot). kept_by s entry) (sym stands)

-- the number of what is kept, by the heads
number_counts : (n : ℕ) (all : List ℕ) (slot : Option Slot) → number_where slot (heads_in n all) ≡ number_kept (kept_where slot (in_slot n First all).entry (in_slot n Second all).entry)
number_counts n all None = refl
number_counts n all (Some First) = refl
number_counts n all (Some Second) = refl

pub number_is : (n : ℕ) (heads : Heads) (shown : Option (List ℕ)) → IfSome shown (HasHeads n heads) → IfSome shown (HasNumber n (number_where (standing heads) heads))
number_is n heads None known = tt
number_is n heads (Some all) known = ap (λ (h : Heads). number_where (standing h) h) (sym known) ∙ number_counts n all (standing (heads_in n all))
