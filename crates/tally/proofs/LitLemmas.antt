-- What is lit after one destination more is marked, or one less.
use Rattle.std.proofs.Common.{◌≡◌, ◌≢◌, ◌⊎◌, ℕ, ◌<◌, ◌≤◌, ◌==◌, nat_lt, Bool, true, false, not, ◌&&◌, ◌||◌, List, [], ◌∷◌, length, slice_get, Option, Some, None, suc, inl, inr, refl, sym, ap, subst, ◌∙◌, arith, eq-eqb}
use Rattle.std.proofs.lemmas.Bool.{cases_eq, cases_lt, ne_eqb}
use Rattle.std.proofs.lemmas.Bool.Decides.{nat_tests}
use Rattle.std.proofs.lemmas.Option.{slice_get_past}
use Rattle.std.specs.List.{Contains}
use Rattle.std.specs.Option.{unwrap_or, is_some}
use Rattle.std.specs.FinSet.{contains, insert, remove}
use Rattle.number_tables.proofs.Members.{contains_inserted, contains_removed}
use Rattle.tap_lists.specs.Lists.{Lists, list_of, IsUnder, IsHeadOf, StandOnce}
use Rattle.tap_lists.specs.Laws.{PutsFirst, TakesOut}
use Rattle.tally.specs.Tally.{Origins}
use Rattle.tally.specs.Marks.{is_lit, are_unlike}
use Rattle.tally.specs.MarksInside.{Toggles, Turns}

-- a head under which something stands is one of the heads
pub under_below : (lists : Lists) (head member : ℕ) → IsUnder lists head member → head < length lists.by_head
under_below lists head member under = by (cases_lt head (length lists.by_head))
  where
    by : (head < length lists.by_head) ⊎ (length lists.by_head ≤ head) → head < length lists.by_head
    by (inl below) = below
    by (inr past) =
        let none : list_of lists head ≡ [] = ap (λ (found : Option (List ℕ)). unwrap_or found []) (slice_get_past lists.by_head head past) in
        let c : Contains [] member = subst (λ (list : List ℕ). Contains list member) none under in
        absurd (omega (arith, c.1))

-- a member has one head
pub head_is : (lists : Lists) (member : ℕ) (one other : Option ℕ) → IsHeadOf lists member one → IsHeadOf lists member other → one ≡ other
head_is lists member None None first second = refl
head_is lists member None (Some head) first second = (first head).1 ((second head).0 refl)
head_is lists member (Some head) other first second = sym ((second head).1 ((first head).0 refl))

-- a list with a member is lit, and so is one that grew
pub lit_under : (lists : Lists) (origin dest : ℕ) → IsUnder lists origin dest → is_lit lists origin ≡ true
lit_under lists origin dest under = lit (length (list_of lists origin)) under.0 under.1
  where
    lit : (count place : ℕ) → place < count → nat_lt 0 count ≡ true
    lit count place within = grind (arith, nat_tests)

first_lit : (xs ys : List ℕ) (x : ℕ) → xs ≡ x ∷ ys → nat_lt 0 (length xs) ≡ true
first_lit xs ys x is = ap (λ (list : List ℕ). nat_lt 0 (length list)) is ∙ some (length ys)
  where
    some : (n : ℕ) → nat_lt 0 (suc n) ≡ true
    some n = grind (arith, nat_tests)

pub lit_linked : (old new : Lists) (origin dest other : ℕ) → PutsFirst old new origin dest → is_lit new other ≡ ((other == origin) || is_lit old other)
lit_linked old new origin dest other puts = by (cases_eq other origin)
  where
    by : (other ≡ origin) ⊎ (other ≢ origin) → is_lit new other ≡ ((other == origin) || is_lit old other)
    by (inl same) =
        ap (is_lit new) same ∙ first_lit (list_of new origin) (list_of old origin) dest puts.here
        ∙ sym (ap (λ b. b || is_lit old other) (eq-eqb other origin same))
    by (inr apart) =
        ap (λ (list : List ℕ). nat_lt 0 (length list)) (puts.others other apart)
        ∙ sym (ap (λ b. b || is_lit old other) (ne_eqb other origin apart))

-- what one destination that goes dark leaves lit
pub lit_unlinked : (old new : Lists) (origin dest other : ℕ) → StandOnce old → IsUnder old origin dest → TakesOut old new dest → other ≢ origin → is_lit new other ≡ is_lit old other
lit_unlinked old new origin dest other once under takes apart =
    ap (λ (list : List ℕ). nat_lt 0 (length list)) (takes.others other (λ there. apart (once.one_head other origin dest there under)))

-- a toggle of what was lit or went dark
same_or_turned : (c b : Bool) → c ≡ are_unlike c (are_unlike b b)
same_or_turned true true = refl
same_or_turned true false = refl
same_or_turned false true = refl
same_or_turned false false = refl

pub turns_same : (old new : Lists) (set : Origins) → ((origin : ℕ) → is_lit new origin ≡ is_lit old origin) → Turns old new set set
turns_same old new set same origin =
    same_or_turned (contains set origin) (is_lit old origin)
    ∙ ap (λ b. are_unlike (contains set origin) (are_unlike (is_lit old origin) b)) (sym (same origin))

pub turns_toggled : (old new : Lists) (before after : Origins) (origin : ℕ) → Toggles before after origin → is_lit new origin ≡ not (is_lit old origin) → ((other : ℕ) → other ≢ origin → is_lit new other ≡ is_lit old other) → Turns old new before after
turns_toggled old new before after origin toggles turned others other = by (cases_eq other origin)
  where
    here : (c b : Bool) → are_unlike true c ≡ are_unlike c (are_unlike b (not b))
    here true true = refl
    here true false = refl
    here false true = refl
    here false false = refl

    by : (other ≡ origin) ⊎ (other ≢ origin) → contains after other ≡ are_unlike (contains before other) (are_unlike (is_lit old other) (is_lit new other))
    by (inl same) =
        toggles other
        ∙ ap (λ b. are_unlike b (contains before other)) (eq-eqb other origin same)
        ∙ here (contains before other) (is_lit old other)
        ∙ ap (λ b. are_unlike (contains before other) (are_unlike (is_lit old other) b)) (sym (subst (λ o. is_lit new o ≡ not (is_lit old o)) (sym same) turned))
    by (inr apart) =
        toggles other
        ∙ ap (λ b. are_unlike b (contains before other)) (ne_eqb other origin apart)
        ∙ same_or_turned (contains before other) (is_lit old other)
        ∙ ap (λ b. are_unlike (contains before other) (are_unlike (is_lit old other) b)) (sym (others other apart))

-- so what was turned since an update began stays known
pub stays_turned : (was : ℕ → Bool) (old new : Lists) (before after : Origins) → Turns old new before after → ((origin : ℕ) → contains before origin ≡ are_unlike (was origin) (is_lit old origin)) → (origin : ℕ) → contains after origin ≡ are_unlike (was origin) (is_lit new origin)
stays_turned was old new before after turns known origin =
    turns origin
    ∙ ap (λ b. are_unlike b (are_unlike (is_lit old origin) (is_lit new origin))) (known origin)
    ∙ twice (was origin) (is_lit old origin) (is_lit new origin)
  where
    twice : (a b c : Bool) → are_unlike (are_unlike a b) (are_unlike b c) ≡ are_unlike a c
    twice true true true = refl
    twice true true false = refl
    twice true false true = refl
    twice true false false = refl
    twice false true true = refl
    twice false true false = refl
    twice false false true = refl
    twice false false false = refl

-- a toggle of a set
pub toggled_in : (set : Origins) (number : ℕ) → contains set number ≡ true → Toggles set (remove set number) number
toggled_in set number member n = contains_removed set number n ∙ by (cases_eq n number)
  where
    by : (n ≡ number) ⊎ (n ≢ number) → (not (n == number) && contains set n) ≡ are_unlike (n == number) (contains set n)
    by (inl same) = rw (same, eq-eqb number number refl, member) refl
    by (inr apart) = rw (ne_eqb n number apart) refl

pub toggled_out : (set : Origins) (number : ℕ) → contains set number ≡ false → Toggles set (insert set number) number
toggled_out set number absent n = contains_inserted set number n ∙ by (cases_eq n number)
  where
    by : (n ≡ number) ⊎ (n ≢ number) → ((n == number) || contains set n) ≡ are_unlike (n == number) (contains set n)
    by (inl same) = rw (same, eq-eqb number number refl, absent) refl
    by (inr apart) = rw (ne_eqb n number apart) refl

-- a list has a first member where it isn't empty
pub some_first : (xs : List ℕ) → is_some (slice_get xs 0) ≡ nat_lt 0 (length xs)
some_first [] = refl
some_first (x ∷ xs) = sym (first_lit (x ∷ xs) xs x refl)
