-- The first destinations that came to numbers, as far as they were looked at.
use Rattle.std.proofs.Common.{◌≡◌, ℕ, ◌+◌, ◌^◌, ◌<◌, ◌≤◌, ◌==◌, nat_lt, Bool, true, false, if◌then◌else◌, Option, Some, None, unwrap_or, inl, inr, refl, ap, sym, ◌∙◌, arith, eq-eqb}
use Rattle.std.proofs.lemmas.Bool.{cases_eq, ltb-true, lt-ltb, eqb-true}
use Rattle.std.specs.Option.{option_or}
use Rattle.std.specs.Ordering.{nat_cmp}
use Rattle.std.specs.BTreeMap.{BTreeMap, get, is_at, IsEmpty}
use Rattle.std.specs.Map.{lookup}
use Rattle.plant_core.specs.FirstTies.{key_number, key_of, AreFirsts, ComesFirst}

-- the first destinations, one more

pub firsts_none : (key : ℕ → Option ℕ) (firsts : BTreeMap ℕ ℕ) → IsEmpty firsts → AreFirsts key 0 firsts
firsts_none key firsts empty = record {
  known = λ dest number below is. absurd (omega (arith, below));
  first = λ number dest found.
      let none : get nat_cmp firsts number ≡ None = ap (lookup (is_at (nat_cmp number))) empty in
      let no : None ≡ Some dest = sym none ∙ found in
      absurd (cc);
}

same_some : (a b : ℕ) → Some a ≡ Some b → a ≡ b
same_some a b e = (cc)

pub firsts_same : (key : ℕ → Option ℕ) (count : ℕ) (firsts : BTreeMap ℕ ℕ) → key count ≡ None → AreFirsts key count firsts → AreFirsts key (count + 1) firsts
firsts_same key count firsts none are = record {
  known = λ dest number below is. elim (cases_eq dest count) [
    | inl here ↦
        let no : None ≡ Some number = sym none ∙ ap key (sym here) ∙ is in
        absurd (cc)
    | inr other ↦ are.known dest number (omega (arith, below, other)) is
  ];
  first = λ number dest found.
      let is = are.first number dest found in
      (omega (arith, is.0), is.1);
}

known_here : (found : Option ℕ) (count : ℕ) → (first : ℕ) × (option_or found (Some count) ≡ Some first)
known_here None count = (count, refl)
known_here (Some first) count = (first, refl)

known_there : (found other : Option ℕ) (first : ℕ) → found ≡ Some first → option_or found other ≡ Some first
known_there found other first is = ap (λ (o : Option ℕ). option_or o other) is

first_by : (key : ℕ → Option ℕ) (count number at dest : ℕ) (found : Option ℕ) (same : Bool) → key count ≡ Some number → ((d : ℕ) → found ≡ Some d → (d < count) × (key d ≡ Some at)) → (at == number) ≡ same →
    option_or found (if same then Some count else None) ≡ Some dest → (dest < count + 1) × (key dest ≡ Some at)
first_by key count number at dest (Some d) same has old is e =
    let of_old = old d refl in
    let there : d ≡ dest = same_some d dest e in
    (omega (arith, of_old.0, there), ap key (sym there) ∙ of_old.1)
first_by key count number at dest None true has old is e =
    let there : count ≡ dest = same_some count dest e in
    let number_is : number ≡ at = sym (eqb-true at number is) in
    (omega (arith, there), ap key (sym there) ∙ has ∙ ap Some number_is)
first_by key count number at dest None false has old is e = absurd (cc)

pub firsts_more : (key : ℕ → Option ℕ) (count number : ℕ) (old new : BTreeMap ℕ ℕ) → key count ≡ Some number → ComesFirst old new number count → AreFirsts key count old → AreFirsts key (count + 1) new
firsts_more key count number old new has comes are = record {
  known = known;
  first = λ at dest found. first_by key count number at dest (get nat_cmp old at) (at == number) has (are.first at) refl (sym (comes at) ∙ found);
}
  where
    known : (dest at : ℕ) → dest < count + 1 → key dest ≡ Some at → (first : ℕ) × (get nat_cmp new at ≡ Some first)
    known dest at below is = elim (cases_eq dest count) [
      | inl here ↦
          let number_is : at ≡ number = same_some at number (sym is ∙ ap key here ∙ has) in
          let found = known_here (get nat_cmp old at) count in
          (found.0, comes at ∙ ap (λ (b : Bool). option_or (get nat_cmp old at) (if b then Some count else None)) (eq-eqb at number number_is) ∙ found.1)
      | inr other ↦
          let found = are.known dest at (omega (arith, below, other)) is in
          (found.0, comes at ∙ known_there (get nat_cmp old at) (if at == number then Some count else None) found.0 found.1)
    ]

-- what the first destination has that comes to a number, which may be the one that asks

first_is_by : (key : ℕ → Option ℕ) (dest number : ℕ) (found : Option ℕ) → key dest ≡ Some number → ((d : ℕ) → found ≡ Some d → (d < dest) × (key d ≡ Some number)) → (unwrap_or found dest ≤ dest) × (key (unwrap_or found dest) ≡ Some number)
first_is_by key dest number None has old = (omega arith, has)
first_is_by key dest number (Some d) has old =
    let is = old d refl in
    (omega (arith, is.0), is.1)

pub first_is : (key : ℕ → Option ℕ) (dest number : ℕ) (firsts : BTreeMap ℕ ℕ) → key dest ≡ Some number → AreFirsts key dest firsts → (unwrap_or (get nat_cmp firsts number) dest ≤ dest) × (key (unwrap_or (get nat_cmp firsts number) dest) ≡ Some number)
first_is key dest number firsts has are = first_is_by key dest number (get nat_cmp firsts number) has (are.first number)

-- where an earlier one has the number, the first is earlier
pub first_below : (key : ℕ → Option ℕ) (dest number earlier : ℕ) (firsts : BTreeMap ℕ ℕ) → earlier < dest → key earlier ≡ Some number → AreFirsts key dest firsts → (unwrap_or (get nat_cmp firsts number) dest < dest) × (key (unwrap_or (get nat_cmp firsts number) dest) ≡ Some number)
first_below key dest number earlier firsts below has are =
    let found = are.known earlier number below has in
    let is = are.first number found.0 found.1 in
    let same : found.0 ≡ unwrap_or (get nat_cmp firsts number) dest = sym (ap (λ (o : Option ℕ). unwrap_or o dest) found.1) in
    (omega (arith, is.0, same), ap key (sym same) ∙ is.1)

-- keys are one where pools and numbers are

pub key_is : (pool number : Option ℕ) (p n : ℕ) → pool ≡ Some p → number ≡ Some n → n < 2 ^ 32 → key_of pool number ≡ Some (key_number p n)
key_is pool number p n of_pool of_number few =
    ap (λ (o : Option ℕ). key_of o number) of_pool ∙ ap (λ (o : Option ℕ). key_of (Some p) o) of_number ∙ ap (λ (b : Bool). if b then Some (key_number p n) else None) (lt-ltb n (2 ^ 32) few)

key_back_by : (p n key : ℕ) (few : Bool) → nat_lt n (2 ^ 32) ≡ few → (if few then Some (key_number p n) else None) ≡ Some key → (n < 2 ^ 32) × (key_number p n ≡ key)
key_back_by p n key true is e = (ltb-true n (2 ^ 32) is, same_some (key_number p n) key e)
key_back_by p n key false is e = absurd (cc)

pub key_back : (pool number : Option ℕ) (p n : ℕ) → n < 2 ^ 32 → key_of pool number ≡ Some (key_number p n) → (pool ≡ Some p) × (number ≡ Some n)
key_back None number p n few e = absurd (cc)
key_back (Some pool) None p n few e = absurd (cc)
key_back (Some pool) (Some number) p n few e =
    let back = key_back_by pool number (key_number p n) (nat_lt number (2 ^ 32)) refl e in
    let pools : pool ≡ p = omega (arith, back.0, back.1, few) in
    let numbers : number ≡ n = omega (arith, back.0, back.1, few) in
    (ap Some pools, ap Some numbers)
