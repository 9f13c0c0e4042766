-- The fields that bytes behind a command are held to, by how many bytes there are.
use Rattle.std.proofs.Common.{◌≡◌, ◌≢◌, ℕ, ◌+◌, cond, nat_eq, nat_lt, true, false, List, [], ◌∷◌, ◌++◌, length, Option, Some, None, refl, ap, ◌∙◌, arith, length-append}
use Rattle.std.proofs.lemmas.Bool.Decides.{nat_tests}
use Rattle.swp08_messages.specs.declared.fault.ReadFault.{ReadFault}
use Rattle.swp08_messages.specs.declared.fault.ReadFault.TheVariants.{WrongLength, BadField}
use Rattle.swp08_messages.specs.declared.field.Field.{Field}
use Rattle.swp08_messages.specs.ReadingInside.{limit_of, first_bad, held_to, fault_of}

cond-same : {A : Type 0} (m n : ℕ) (x y : A) → m ≡ n → cond (nat_eq m n) x y ≡ x
cond-same m n x y same =
    elim (nat_eq m n) as (λ t. nat_eq m n ≡ t → cond t x y ≡ x) [
      | true ↦ λ e. refl
      | false ↦ λ e. absurd (grind (arith, nat_tests))
    ] refl

cond-other : {A : Type 0} (m n : ℕ) (x y : A) → m ≢ n → cond (nat_eq m n) x y ≡ y
cond-other m n x y other =
    elim (nat_eq m n) as (λ t. nat_eq m n ≡ t → cond t x y ≡ y) [
      | true ↦ λ e. absurd (other (grind (arith, nat_tests)))
      | false ↦ λ e. refl
    ] refl

pub held_to-fields : (fields spare : List Field) (count : ℕ) → count ≡ length fields → held_to fields spare count ≡ fields
held_to-fields fields spare count same = cond-same count (length fields) fields (fields ++ spare) same

pub held_to-longer : (fields spare : List Field) (count : ℕ) → count ≢ length fields → held_to fields spare count ≡ fields ++ spare
held_to-longer fields spare count other = cond-other count (length fields) fields (fields ++ spare) other

append_none : (fields spare : List Field) → spare ≡ [] → fields ++ spare ≡ fields
append_none [] spare none = none
append_none (field ∷ fields) spare none = ap (λ fs. field ∷ fs) (append_none fields spare none)

-- with nothing to spare
pub held_to-plain : (fields spare : List Field) (count : ℕ) → spare ≡ [] → held_to fields spare count ≡ fields
held_to-plain fields spare count none =
    elim (nat_eq count (length fields)) as (λ b. cond b fields (fields ++ spare) ≡ fields) [
      | true ↦ refl
      | false ↦ append_none fields spare none
    ]

-- what bytes are answered that are held to these fields
abbrev answer : List Field → List Field → List ℕ → Option ReadFault
answer held fields bytes = cond (nat_eq (length bytes) (length held)) (first_bad 1 held bytes) (Some (WrongLength (1 + length bytes) (1 + length fields)))

pub fault_of-fields : (fields spare : List Field) (bytes : List ℕ) → length bytes ≡ length fields → fault_of fields spare bytes ≡ first_bad 1 fields bytes
fault_of-fields fields spare bytes same =
    ap (λ held. answer held fields bytes) (held_to-fields fields spare (length bytes) same) ∙ cond-same _ _ _ _ same

pub fault_of-longer : (fields spare : List Field) (bytes : List ℕ) → length bytes ≢ length fields → length bytes ≡ length (fields ++ spare)
    → fault_of fields spare bytes ≡ first_bad 1 (fields ++ spare) bytes
fault_of-longer fields spare bytes other same =
    ap (λ held. answer held fields bytes) (held_to-longer fields spare (length bytes) other) ∙ cond-same _ _ _ _ same

pub fault_of-other : (fields spare : List Field) (bytes : List ℕ) → length bytes ≢ length fields → length bytes ≢ length (fields ++ spare)
    → fault_of fields spare bytes ≡ Some (WrongLength (1 + length bytes) (1 + length fields))
fault_of-other fields spare bytes other others =
    ap (λ held. answer held fields bytes) (held_to-longer fields spare (length bytes) other) ∙ cond-other _ _ _ _ others

-- The first bad byte of bytes that go on behind some fields is that of the first ones, or else that of the others.

first_bad-more : (place : ℕ) (fields spare : List Field) (kept more : List ℕ) → length kept ≡ length fields → first_bad place fields kept ≡ None
    → first_bad place (fields ++ spare) (kept ++ more) ≡ first_bad (place + length fields) spare more
first_bad-more place [] spare [] more same none =
    let here : place ≡ place + 0 = omega arith in
    ap (λ n. first_bad n spare more) here
first_bad-more place [] spare (byte ∷ kept) more same none = absurd (omega (arith, same))
first_bad-more place (field ∷ fields) spare [] more same none = absurd (omega (arith, same))
first_bad-more place (field ∷ fields) spare (byte ∷ kept) more same none =
    elim (nat_lt byte (limit_of field)) as (λ t. cond t (first_bad (place + 1) fields kept) (Some (BadField place byte)) ≡ None
    → cond t (first_bad (place + 1) (fields ++ spare) (kept ++ more)) (Some (BadField place byte)) ≡ first_bad (place + length (field ∷ fields)) spare more) [
      | true ↦ λ none.
          let there : place + 1 + length fields ≡ place + length (field ∷ fields) = omega arith in
          first_bad-more (place + 1) fields spare kept more (omega (arith, same)) none ∙ ap (λ n. first_bad n spare more) there
      | false ↦ λ none. absurd cc
    ] none

first_bad-kept : (place : ℕ) (fields spare : List Field) (kept more : List ℕ) → length kept ≡ length fields → first_bad place fields kept ≢ None
    → first_bad place (fields ++ spare) (kept ++ more) ≡ first_bad place fields kept
first_bad-kept place [] spare kept more same some = absurd (some refl)
first_bad-kept place (field ∷ fields) spare [] more same some = absurd (some refl)
first_bad-kept place (field ∷ fields) spare (byte ∷ kept) more same some =
    elim (nat_lt byte (limit_of field)) as (λ t. cond t (first_bad (place + 1) fields kept) (Some (BadField place byte)) ≢ None
    → cond t (first_bad (place + 1) (fields ++ spare) (kept ++ more)) (Some (BadField place byte)) ≡ cond t (first_bad (place + 1) fields kept) (Some (BadField place byte))) [
      | true ↦ λ some. first_bad-kept (place + 1) fields spare kept more (omega (arith, same)) some
      | false ↦ λ some. refl
    ] some

-- bytes of which the first ones are held to the fields, and the others to the spare ones
pub record Joins (fields spare : List Field) (bytes kept more : List ℕ) : Type 0 where
  pub bytes_are : bytes ≡ kept ++ more
  pub kept_len : length kept ≡ length fields
  pub more_len : length bytes ≡ length fields + length spare
  pub longer : length bytes ≢ length fields

fault_of-joined : (fields spare : List Field) (bytes kept more : List ℕ) → Joins fields spare bytes kept more
    → fault_of fields spare bytes ≡ first_bad 1 (fields ++ spare) (kept ++ more)
fault_of-joined fields spare bytes kept more joins =
    fault_of-longer fields spare bytes joins.longer (omega (arith, joins.more_len, length-append fields spare)) ∙ ap (first_bad 1 (fields ++ spare)) joins.bytes_are

pub fault_of-more : (fields spare : List Field) (bytes kept more : List ℕ) → Joins fields spare bytes kept more → first_bad 1 fields kept ≡ None
    → fault_of fields spare bytes ≡ first_bad (1 + length fields) spare more
fault_of-more fields spare bytes kept more joins none =
    fault_of-joined fields spare bytes kept more joins ∙ first_bad-more 1 fields spare kept more joins.kept_len none

pub fault_of-kept : (fields spare : List Field) (bytes kept more : List ℕ) → Joins fields spare bytes kept more → first_bad 1 fields kept ≢ None
    → fault_of fields spare bytes ≡ first_bad 1 fields kept
fault_of-kept fields spare bytes kept more joins some =
    fault_of-joined fields spare bytes kept more joins ∙ first_bad-kept 1 fields spare kept more joins.kept_len some
