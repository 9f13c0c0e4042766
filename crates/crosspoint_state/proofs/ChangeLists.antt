-- Which change of a list names a destination.
use Rattle.std.proofs.Common.{◌≡◌, ◌≢◌, ◌⊎◌, ℕ, ◌==◌, nat_eq, Bool, true, false, cond, List, [], ◌∷◌, map, filter, find, drop, Contains, Option, Some, None, zero, suc, inl, inr, refl, sym, ap, subst, ◌∙◌, arith, eq-eqb, eqb-true}
use Rattle.std.proofs.lemmas.Bool.{ne_eqb, eqb-false}
use Rattle.std.proofs.lemmas.Map.Keys.{IsDistinct-head, IsDistinct-tail, IsDistinct-cons}
use Rattle.std.specs.List.{AllByRecursion, IsDistinct}
use Rattle.plant_config.specs.declared.records.Change.{Change}
use Rattle.crosspoint_state.specs.Crosspoints.{NamesOnce}
use Rattle.crosspoint_state.specs.Laws.{NoneNames}

-- whether a change names a destination
abbrev pub names : ℕ → Change → Bool
names dest change = change.dest == dest

abbrev dests : List Change → List ℕ
dests changes = map (λ change. change.dest) changes

pub NamesOnce-nil : NamesOnce []
unfolding IsDistinct
NamesOnce-nil = tt

-- one destination, and two that differ
pub IsDistinct-one : (dest : ℕ) → IsDistinct nat_eq (dest ∷ [])
IsDistinct-one dest = IsDistinct-cons nat_eq dest [] tt NamesOnce-nil

pub IsDistinct-two : (first second : ℕ) → first ≢ second → IsDistinct nat_eq (first ∷ second ∷ [])
IsDistinct-two first second other =
    IsDistinct-cons nat_eq first (second ∷ []) (ne_eqb first second other, tt) (IsDistinct-one second)

pub NamesOnce-tail : (change : Change) (changes : List Change) → NamesOnce (change ∷ changes) → NamesOnce changes
NamesOnce-tail change changes once = IsDistinct-tail nat_eq change.dest (dests changes) once

pub NamesOnce-drop : (count : ℕ) (changes : List Change) → NamesOnce changes → NamesOnce (drop count changes)
NamesOnce-drop zero changes once = once
NamesOnce-drop (suc count) [] once = once
NamesOnce-drop (suc count) (change ∷ changes) once = NamesOnce-drop count changes (NamesOnce-tail change changes once)

-- where all destinations of a list are other ones, no change names this one
find_apart : (dest : ℕ) (changes : List Change) → AllByRecursion (λ other. nat_eq dest other ≡ false) (dests changes) → find (names dest) changes ≡ None
find_apart dest [] apart = refl
find_apart dest (change ∷ changes) apart =
    let other : (change.dest == dest) ≡ false = ne_eqb change.dest dest (λ same. eqb-false dest change.dest apart.0 (sym same)) in
    rw other (find_apart dest changes apart.1)

-- behind the first change no other one names its destination
pub find-tail : (change : Change) (changes : List Change) → NamesOnce (change ∷ changes) → find (names change.dest) changes ≡ None
find-tail change changes once = find_apart change.dest changes (IsDistinct-head nat_eq change.dest (dests changes) once)

-- those that pass a test are named at most once where all are
apart_filter : (keep : Change → Bool) (dest : ℕ) (changes : List Change) → AllByRecursion (λ other. nat_eq dest other ≡ false) (dests changes) → AllByRecursion (λ other. nat_eq dest other ≡ false) (dests (filter keep changes))
apart_filter keep dest [] apart = tt
apart_filter keep dest (change ∷ changes) apart =
    elim (keep change) as (λ b. AllByRecursion (λ other. nat_eq dest other ≡ false) (dests (cond b (change ∷ filter keep changes) (filter keep changes)))) [
      | true ↦ (apart.0, apart_filter keep dest changes apart.1)
      | false ↦ apart_filter keep dest changes apart.1
    ]

pub NamesOnce-filter : (keep : Change → Bool) (changes : List Change) → NamesOnce changes → NamesOnce (filter keep changes)
NamesOnce-filter keep [] once = NamesOnce-nil
NamesOnce-filter keep (change ∷ changes) once =
    let rest = NamesOnce-filter keep changes (NamesOnce-tail change changes once) in
    elim (keep change) as (λ b. NamesOnce (cond b (change ∷ filter keep changes) (filter keep changes))) [
      | true ↦ IsDistinct-cons nat_eq change.dest (dests (filter keep changes)) (apart_filter keep change.dest changes (IsDistinct-head nat_eq change.dest (dests changes) once)) rest
      | false ↦ rest
    ]

-- a found change that passes a test, or none
abbrev pub passing : (Change → Bool) → Option Change → Option Change
passing keep None = None
passing keep (Some change) = cond (keep change) (Some change) None

pub find-filter : (keep : Change → Bool) (dest : ℕ) (changes : List Change) → NamesOnce changes → find (names dest) (filter keep changes) ≡ passing keep (find (names dest) changes)
find-filter keep dest [] once = refl
find-filter keep dest (change ∷ changes) once =
    let behind = find-filter keep dest changes (NamesOnce-tail change changes once) in
    elim (change.dest == dest) as (λ b. (change.dest == dest) ≡ b → find (names dest) (filter keep (change ∷ changes)) ≡ passing keep (cond b (Some change) (find (names dest) changes))) [
      | true ↦ λ here. found here behind
      | false ↦ λ there. rest there ∙ behind
    ] refl
  where
    rest : (change.dest == dest) ≡ false → find (names dest) (filter keep (change ∷ changes)) ≡ find (names dest) (filter keep changes)
    rest there =
        elim (keep change) as (λ k. find (names dest) (cond k (change ∷ filter keep changes) (filter keep changes)) ≡ find (names dest) (filter keep changes)) [
          | true ↦ ap (λ b. cond b (Some change) (find (names dest) (filter keep changes))) there
          | false ↦ refl
        ]

    none : (change.dest == dest) ≡ true → find (names dest) (filter keep changes) ≡ passing keep (find (names dest) changes) → find (names dest) (filter keep changes) ≡ None
    none here behind =
        let same : change.dest ≡ dest = eqb-true change.dest dest here in
        behind ∙ ap (passing keep) (subst (λ d. find (names d) changes ≡ None) same (find-tail change changes once))

    found : (change.dest == dest) ≡ true → find (names dest) (filter keep changes) ≡ passing keep (find (names dest) changes) → find (names dest) (filter keep (change ∷ changes)) ≡ cond (keep change) (Some change) None
    found here behind =
        elim (keep change) as (λ k. find (names dest) (cond k (change ∷ filter keep changes) (filter keep changes)) ≡ cond k (Some change) None) [
          | true ↦ ap (λ b. cond b (Some change) (find (names dest) (filter keep changes))) here
          | false ↦ none here behind
        ]

-- a change of a list is the first, or one behind it
contains_cases : (first change : Change) (changes : List Change) → Contains (first ∷ changes) change → (first ≡ change) ⊎ Contains changes change
contains_cases first change changes (zero, within, is) = inl is
contains_cases first change changes (suc k, within, is) = inr (k, omega arith, is)

-- the change that names its destination
pub find-contained : (change : Change) (changes : List Change) → NamesOnce changes → Contains changes change → find (names change.dest) changes ≡ Some change
find-contained change [] once has = absurd (omega (arith, has.1))
find-contained change (first ∷ changes) once has =
    elim (contains_cases first change changes has) [
      | inl is ↦
          let here : (first.dest == change.dest) ≡ true = eq-eqb first.dest change.dest (ap (λ (c : Change). c.dest) is) in
          ap (λ b. cond b (Some first) (find (names change.dest) changes)) here ∙ ap Some is
      | inr behind ↦
          let found : find (names change.dest) changes ≡ Some change = find-contained change changes (NamesOnce-tail first changes once) behind in
          let there : (first.dest == change.dest) ≡ false = ne_eqb first.dest change.dest (λ same.
          let none : find (names change.dest) changes ≡ None = subst (λ d. find (names d) changes ≡ None) same (find-tail first changes once) in
          let both : None ≡ Some change = sym none ∙ found in
          cc) in
          ap (λ b. cond b (Some first) (find (names change.dest) changes)) there ∙ found
    ]

-- a change that is found is of the list and names the destination
pub found-is : (dest : ℕ) (change : Change) (changes : List Change) → find (names dest) changes ≡ Some change → Contains changes change × (change.dest ≡ dest)
found-is dest change [] found = cc
found-is dest change (first ∷ changes) found =
    elim (first.dest == dest) as (λ b. (first.dest == dest) ≡ b → cond b (Some first) (find (names dest) changes) ≡ Some change → Contains (first ∷ changes) change × (change.dest ≡ dest)) [
      | true ↦ λ here is.
          let same : first ≡ change = cc in
          ((0, omega arith, same), ap (λ (c : Change). c.dest) (sym same) ∙ eqb-true first.dest dest here)
      | false ↦ λ there is.
          let behind = found-is dest change changes is in
          ((suc behind.0.0, omega (arith, behind.0.1), behind.0.2), behind.1)
    ] refl found

-- where no change names a destination, none is found
pub find-unnamed : (dest : ℕ) (changes : List Change) → NoneNames changes dest → find (names dest) changes ≡ None
find-unnamed dest changes unnamed = go (find (names dest) changes) refl
  where
    go : (found : Option Change) → find (names dest) changes ≡ found → find (names dest) changes ≡ None
    go None e = e
    go (Some change) e =
        let is = found-is dest change changes e in
        let named : change.dest ≡ dest = is.1 in
        let other : change.dest ≢ dest = subst (λ (c : Change). c.dest ≢ dest) is.0.2 (unnamed is.0.0 change is.0.1) in
        absurd (other named)
