-- What is read of destinations: it can stand, and its text is the part of the text that was read.
use Rattle.std.proofs.Common.{◌≡◌, ℕ, ◌+◌, ◌<◌, ◌==◌, nat_lt, cond, Option, Some, None, inl, inr, sym, ap, ◌∙◌, arith, eq-eqb}
use Rattle.std.proofs.lemmas.Bool.{cases_eq, cases_lt, ne_eqb, lt-ltb, le-ltb, cond-true, cond-false}
use Rattle.std.specs.Cmp.{nat_cmp_total, unsigned_tied}
use Rattle.std.specs.FinMap.{get, empty, remove, get-empty, get-insert, get-remove, same_map, nat_cmp-IsAntisymmetric}
use Rattle.std.specs.Ordering.{nat_cmp}
use Rattle.crosspoint_state.specs.Table.{Entries, put}
use Rattle.plant_core.specs.ReadInside.{HaveBelow}

-- where there is nothing, the first zero numbers have their values
pub have_none : {V : Type 0} (value : ℕ → Option V) (entries : Entries V) → entries ≡ empty → HaveBelow 0 value entries
have_none value entries is number =
    ap (λ all. get all number) is ∙ get-empty nat_cmp number ∙ sym (cond-false (nat_lt number 0) (value number) None (le-ltb number 0 (omega arith)))

not_below : (number count : ℕ) → (number ≡ count → ⊥) → nat_lt number (count + 1) ≡ nat_lt number count
not_below number count other = elim (cases_lt number count) [
  | inl below ↦ lt-ltb number (count + 1) (omega arith) ∙ sym (lt-ltb number count below)
  | inr above ↦ le-ltb number (count + 1) (omega arith) ∙ sym (le-ltb number count above)
]

-- what is put at a number stands there, and nothing else changes
get-put : {V : Type 0} (entries : Entries V) (number : ℕ) (value : Option V) (at : ℕ) → get (put entries number value) at ≡ cond (at == number) value (get entries at)
get-put entries number None at = get-remove nat_cmp_total entries number at ∙ ap (λ b. cond b None (get entries at)) (unsigned_tied at number)
get-put entries number (Some value) at = get-insert nat_cmp_total entries number value at ∙ ap (λ b. cond b (Some value) (get entries at)) (unsigned_tied at number)

-- one number more is given its value
pub have_more : {V : Type 0} (count : ℕ) (value : ℕ → Option V) (entries : Entries V) → HaveBelow count value entries → HaveBelow (count + 1) value (put entries count (value count))
have_more count value entries have number =
    get-put entries count (value count) number
    ∙ elim (cases_eq number count) [
      | inl same ↦
          ap (λ b. cond b (value count) (get entries number)) (eq-eqb number count same)
          ∙ ap value (sym same)
          ∙ sym (cond-true (nat_lt number (count + 1)) (value number) None (lt-ltb number (count + 1) (omega arith)))
      | inr other ↦
          ap (λ b. cond b (value count) (get entries number)) (ne_eqb number count other)
          ∙ have number
          ∙ ap (λ b. cond b (value number) None) (sym (not_below number count other))
    ]

-- nothing is put where there is nothing
pub put_none : {V : Type 0} (entries : Entries V) (number : ℕ) → get entries number ≡ None → entries ≡ put entries number None
put_none entries number none = same_map nat_cmp_total nat_cmp-IsAntisymmetric entries (remove entries number) same
  where
    same : (at : ℕ) → get entries at ≡ get (remove entries number) at
    same at = elim (cases_eq at number) [
      | inl here ↦ ap (get entries) here ∙ none ∙ sym (get-put entries number None at ∙ ap (λ b. cond b None (get entries at)) (eq-eqb at number here))
      | inr other ↦ sym (get-put entries number None at ∙ ap (λ b. cond b None (get entries at)) (ne_eqb at number other))
    ]

-- of the next number there is nothing yet
pub none_next : {V : Type 0} (count : ℕ) (value : ℕ → Option V) (entries : Entries V) → HaveBelow count value entries → get entries count ≡ None
none_next count value entries have = have count ∙ cond-false (nat_lt count count) (value count) None (le-ltb count count (omega arith))

-- of a number below the count there is its value, and there is none of any other
pub has_value : {V : Type 0} (count number : ℕ) (value : ℕ → Option V) (entries : Entries V) → HaveBelow count value entries → number < count → get entries number ≡ value number
has_value count number value entries have below = have number ∙ cond-true (nat_lt number count) (value number) None (lt-ltb number count below)

pub is_value : {V : Type 0} (count number : ℕ) (found : V) (value : ℕ → Option V) (entries : Entries V) → HaveBelow count value entries → get entries number ≡ Some found → (number < count) × (value number ≡ Some found)
is_value count number found value entries have is = elim (cases_lt number count) [
  | inl below ↦ (below, sym (has_value count number value entries have below) ∙ is)
  | inr above ↦
      let none : get entries number ≡ None = have number ∙ cond-false (nat_lt number count) (value number) None (le-ltb number count above) in
      let no : ⊥ = (cc) in
      absurd no
]

-- the same, where what stands afterwards is told by number and value
pub have_put : {V : Type 0} (count number : ℕ) (found : Option V) (value : ℕ → Option V) (entries after : Entries V) → HaveBelow count value entries → after ≡ put entries number found → number ≡ count → found ≡ value number → HaveBelow (count + 1) value after
have_put count number found value entries after have is same valued at =
    ap (λ all. get all at) (is ∙ ap (λ (place : ℕ). put entries place found) same ∙ ap (put entries count) (valued ∙ ap value same))
    ∙ have_more count value entries have at
