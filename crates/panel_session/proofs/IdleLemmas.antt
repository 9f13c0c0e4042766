-- Reads that were idle, one behind the other.
use Rattle.std.proofs.Common.{◌≡◌, ◌≢◌, ◌⊎◌, ℕ, zero, suc, ◌+◌, ◌<◌, ◌≤◌, List, [], ◌∷◌, ◌++◌, length, Some, inl, inr, refl, sym, ap, ◌∙◌, subst, arith}
use Rattle.std.proofs.lemmas.List.{append_assoc, append-nil, length-append, same_from_push}
use Rattle.std.proofs.lemmas.List.Elements.{All-nil, All-pop, All-push}
use Rattle.panel_session.specs.Served.{EndsIdle}

-- A list is empty, or has a last element.
last_of : {A : Type 0} (xs : List A) → (xs ≡ []) ⊎ ((front : List A) × (last : A) × (xs ≡ front ++ last ∷ []))
last_of [] = inl refl
last_of {A} (x ∷ xs) = elim (last_of xs) [
  | (inl none) ↦ inr ([], x, ap (λ (rest : List A). x ∷ rest) none)
  | (inr some) ↦ inr (x ∷ some.0, some.1, ap (λ (rest : List A). x ∷ rest) some.2)
]

ends_none : (reads : List (List ℕ)) → EndsIdle 0 reads
ends_none reads = record { before = reads; idle = []; reads_are = sym (append-nil reads); all_idle = All-nil _; counted = refl }

ends_more : (count : ℕ) (reads : List (List ℕ)) (read : List ℕ) → read ≡ [] → EndsIdle count reads → EndsIdle (count + 1) (reads ++ read ∷ [])
ends_more count reads read is ends = record {
  before = ends.before;
  idle = ends.idle ++ read ∷ [];
  reads_are = ap (λ (reads : List (List ℕ)). reads ++ read ∷ []) ends.reads_are ∙ append_assoc ends.before ends.idle (read ∷ []);
  all_idle = All-push (λ (read : List ℕ). read ≡ []) ends.idle read ends.all_idle is;
  counted = omega (arith, length-append ends.idle (read ∷ []), ends.counted);
}

-- Where one read more ends so many idle ones, these are none, or it is the last of them.
last_idle : (count : ℕ) (reads : List (List ℕ)) (read : List ℕ) → EndsIdle count (reads ++ read ∷ []) → (count ≡ 0) ⊎ ((read ≡ []) × (fewer : ℕ) × (count ≡ fewer + 1) × EndsIdle fewer reads)
last_idle count reads read ends = elim (last_of ends.idle) [
  | (inl none) ↦ inl (sym ends.counted ∙ ap (length {A = List ℕ}) none)
  | (inr some) ↦
      let split = same_from_push reads (ends.before ++ some.0) read some.1
      (ends.reads_are ∙ ap (λ (idle : List (List ℕ)). ends.before ++ idle) some.2 ∙ sym (append_assoc ends.before some.0 (some.1 ∷ []))) in
      let idle = All-pop (λ (read : List ℕ). read ≡ []) ends.idle some.0 (Some some.1) some.2 ends.all_idle in
      inr (
        split.1 ∙ idle.1,
        length some.0,
        omega (arith, ends.counted, ap (length {A = List ℕ}) some.2, length-append some.0 (some.1 ∷ [])),
        record { before = ends.before; idle = some.0; reads_are = split.0; all_idle = idle.0; counted = refl },
      )
]

-- So many reads are idle at the end, fewer than the limit, and never were there as many.
pub record StaysBelow (limit count : ℕ) (reads : List (List ℕ)) : Type 0 where
  pub ends : EndsIdle count reads
  pub most : (other : ℕ) → EndsIdle other reads → other ≤ count
  pub below : count < limit
  pub never : (front more : List (List ℕ)) → reads ≡ front ++ more → EndsIdle limit front → ⊥

pub below_begins : (limit : ℕ) → 1 ≤ limit → StaysBelow limit 0 []
below_begins limit some = record {
  ends = ends_none [];
  most = λ other ends. omega (arith, ends.counted, ap (length {A = List ℕ}) ends.reads_are, length-append ends.before ends.idle);
  below = omega (arith, some);
  never = λ front more is ends. absurd (omega (
    arith,
    some,
    ends.counted,
    ap (length {A = List ℕ}) ends.reads_are,
    length-append ends.before ends.idle,
    ap (length {A = List ℕ}) is,
    length-append front more,
  ));
}

-- With one read more only all reads may end with so many idle ones.
pub below_last : (limit count : ℕ) (reads : List (List ℕ)) (read : List ℕ) → StaysBelow limit count reads → (front more : List (List ℕ)) → reads ++ read ∷ [] ≡ front ++ more → EndsIdle limit front → more ≡ []
below_last limit count reads read below front more is ends = elim (last_of more) [
  | (inl none) ↦ none
  | (inr some) ↦
      let split = same_from_push reads (front ++ some.0) read some.1
      (is ∙ ap (λ (more : List (List ℕ)). front ++ more) some.2 ∙ sym (append_assoc front some.0 (some.1 ∷ []))) in
      absurd (below.never front some.0 split.0 ends)
]

-- how many are idle at the end with one read more, which gave so many bytes
pub record CountsIdle (count used later : ℕ) : Type 0 where
  pub idle : used ≡ 0 → later ≡ count + 1
  pub other : 0 < used → later ≡ 0

most_later : (limit count later : ℕ) (reads : List (List ℕ)) (read : List ℕ) → StaysBelow limit count reads → CountsIdle count (length read) later → (other : ℕ) → EndsIdle other (reads ++ read ∷ []) → other ≤ later
most_later limit count later reads read below counts other ends = elim (last_idle other reads read ends) [
  | (inl none) ↦ omega (arith, none)
  | (inr some) ↦
      let now : later ≡ count + 1 = counts.idle (ap (length {A = ℕ}) some.0) in
      omega (arith, now, some.2, below.most some.1 some.3)
]

ends_later : (count later : ℕ) (reads : List (List ℕ)) (read : List ℕ) → CountsIdle count (length read) later → EndsIdle count reads → EndsIdle later (reads ++ read ∷ [])
ends_later count later reads [] counts ends =
    let At : ℕ → Type 0 = λ later. EndsIdle later (reads ++ [] ∷ []) in
    subst At (sym (counts.idle refl)) (ends_more count reads [] refl ends)
ends_later count later reads (byte ∷ bytes) counts ends =
    let At : ℕ → Type 0 = λ later. EndsIdle later (reads ++ (byte ∷ bytes) ∷ []) in
    subst At (sym (counts.other (omega arith))) (ends_none (reads ++ (byte ∷ bytes) ∷ []))

-- They are as many as the limit,
pub below_over : (limit count later : ℕ) (reads : List (List ℕ)) (read : List ℕ) → StaysBelow limit count reads → CountsIdle count (length read) later → later ≡ limit → EndsIdle limit (reads ++ read ∷ [])
below_over limit count later reads read below counts is =
    let At : ℕ → Type 0 = λ later. EndsIdle later (reads ++ read ∷ []) in
    subst At is (ends_later count later reads read counts below.ends)

-- or stay below it.
pub below_later : (limit count later : ℕ) (reads : List (List ℕ)) (read : List ℕ) → StaysBelow limit count reads → CountsIdle count (length read) later → later ≢ limit → StaysBelow limit later (reads ++ read ∷ [])
below_later limit count later reads read below counts apart =
    let most = most_later limit count later reads read below counts in
    let fewer = less later limit (within (length read) refl) apart in
    record {
      ends = ends_later count later reads read counts below.ends;
      most = most;
      below = fewer;
      never = λ front more is ends.
          let none = below_last limit count reads read below front more is ends in
          let At : List (List ℕ) → Type 0 = λ reads. EndsIdle limit reads in
          let all : front ≡ reads ++ read ∷ [] = sym (is ∙ ap (λ (more : List (List ℕ)). front ++ more) none ∙ append-nil front) in
          absurd (omega (arith, most limit (subst At all ends), fewer));
    }
  where
    less : (later limit : ℕ) → later ≤ limit → later ≢ limit → later < limit
    less later limit within apart = omega (arith, within, apart)

    within : (used : ℕ) → length read ≡ used → later ≤ limit
    within zero is = omega (arith, counts.idle is, below.below)
    within (suc used) is = (let some : 0 < length read = omega (arith, is) in omega (arith, counts.other some, below.below))
