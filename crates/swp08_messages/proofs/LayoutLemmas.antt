-- The bytes behind a command of crosspoints, layout by layout: below their limits they spell the fields that they give, and the bytes
-- that fields are spelled with give them back.
use Rattle.std.proofs.Common.{◌≡◌, ℕ, ◌+◌, ◌*◌, ◌/◌, ◌%◌, ◌<◌, cond, nat_eq, true, false, List, [], ◌∷◌, Option, Some, None, refl, sym, arith, eqb-true}
use Rattle.std.proofs.lemmas.Bool.Decides.{nat_tests}
use Rattle.std.specs.List.{AllByRecursion}
use Rattle.swp08_messages.specs.declared.point.Point.{Point}
use Rattle.swp08_messages.specs.declared.field.Field.{Field}
use Rattle.swp08_messages.specs.Field.{number_of, IsSource, HasRoom}
use Rattle.swp08_messages.specs.Row.{destination, crosspoint}
use Rattle.swp08_messages.specs.Spelled.{SpellFields}
use Rattle.swp08_messages.specs.ReadingInside.{source_of, point_in, source_in}
use Rattle.swp08_messages.proofs.FieldLemmas.{number_of-below}

-- bytes are as many as limits, each below its own
abbrev pub Below : List ℕ → List ℕ → Type 0
Below [] [] = Unit {0}
Below (byte ∷ bytes) (limit ∷ limits) = (byte < limit) × Below bytes limits
Below [] (limit ∷ limits) = ⊥
Below (byte ∷ bytes) [] = ⊥

-- Below their limits, the bytes behind a command spell what they give.

pub record SpellThem (bytes : List ℕ) (fields : List Field) : Type 0 where
  pub room : AllByRecursion HasRoom fields
  pub spelled : SpellFields bytes fields

pub destination-in : (bytes : List ℕ) → Below bytes (256 ∷ 256 ∷ 128 ∷ []) → SpellThem bytes (destination (point_in bytes))
destination-in [] below = absurd below
destination-in (place ∷ []) below = absurd below.1
destination-in (place ∷ high ∷ []) below = absurd below.1.1
destination-in (place ∷ high ∷ low ∷ more ∷ others) below = absurd below.1.1.1
destination-in (place ∷ high ∷ low ∷ []) below = record {
  room = ((omega (arith, below.0), omega arith), (omega (arith, below.1.1.0), (omega (arith, below.1.1.0), tt)));
  spelled = (omega arith, (omega (arith, below.1.1.0), (omega (arith, below.1.1.0), tt)));
}

-- a source by its number
IsSource-source_of : (high low : ℕ) → low < 128 → IsSource (source_of high low)
IsSource-source_of high low h =
    elim (nat_eq (high % 8 * 128 + low) 1023) as (λ b. nat_eq (high % 8 * 128 + low) 1023 ≡ b → IsSource (cond b None (Some (high % 8 * 128 + low)))) [
      | true ↦ λ e. tt
      | false ↦ λ e. grind (arith, nat_tests)
    ] refl

number_of-source_of : (high low : ℕ) → number_of (source_of high low) ≡ high % 8 * 128 + low
number_of-source_of high low =
    elim (nat_eq (high % 8 * 128 + low) 1023) as (λ b. nat_eq (high % 8 * 128 + low) 1023 ≡ b → number_of (cond b None (Some (high % 8 * 128 + low))) ≡ high % 8 * 128 + low) [
      | true ↦ λ e. sym (eqb-true _ _ e)
      | false ↦ λ e. refl
    ] refl

pub crosspoint-in : (bytes : List ℕ) → Below bytes (256 ∷ 256 ∷ 128 ∷ 128 ∷ []) → SpellThem bytes (crosspoint (point_in bytes) (source_in bytes))
crosspoint-in [] below = absurd below
crosspoint-in (place ∷ []) below = absurd below.1
crosspoint-in (place ∷ high ∷ []) below = absurd below.1.1
crosspoint-in (place ∷ high ∷ low ∷ []) below = absurd below.1.1.1
crosspoint-in (place ∷ high ∷ low ∷ source ∷ more ∷ others) below = absurd below.1.1.1.1
crosspoint-in (place ∷ high ∷ low ∷ source ∷ []) below =
    let source_in_range : IsSource (source_of high source) = IsSource-source_of high source below.1.1.1.0 in
    let dest_in_range : high / 16 % 8 * 128 + low < 1024 = omega (arith, below.1.1.0) in
    let number = number_of-source_of high source in
    record {
      room = ((omega (arith, below.0), omega arith), ((dest_in_range, source_in_range), (dest_in_range, (source_in_range, tt))));
      spelled = (omega arith, (omega (arith, number, below.1.1.0, below.1.1.1.0), (omega (arith, below.1.1.0), (omega (arith, number, below.1.1.1.0), tt))));
    }

-- The bytes that a field is spelled with give it back.

pub point_in-again : (at : Point) (bytes : List ℕ) → AllByRecursion HasRoom (destination at) → SpellFields bytes (destination at) → point_in bytes ≡ at
point_in-again at [] room spell = absurd spell
point_in-again at (place ∷ []) room spell = absurd spell.1
point_in-again at (place ∷ high ∷ []) room spell = absurd spell.1.1
point_in-again at (place ∷ high ∷ low ∷ more ∷ others) room spell = absurd spell.1.1.1
point_in-again at (place ∷ high ∷ low ∷ []) room spell =
    let matrix : place / 16 ≡ at.matrix = omega (arith, spell.0, room.0.1) in
    let level : place % 16 ≡ at.level = omega (arith, spell.0, room.0.1) in
    let dest : high / 16 % 8 * 128 + low ≡ at.dest = omega (arith, spell.1.0, spell.1.1.0, room.1.0) in
    rw (matrix, level, dest) refl

source_of-again : (source : Option ℕ) (high low : ℕ) → IsSource source → high % 8 ≡ number_of source / 128 → low ≡ number_of source % 128 → source_of high low ≡ source
source_of-again None high low room h l =
    let number : high % 8 * 128 + low ≡ 1023 = omega arith in
    rw number refl
source_of-again (Some source) high low room h l =
    let number : high % 8 * 128 + low ≡ source = omega arith in
    let other : nat_eq source 1023 ≡ false = grind (arith, nat_tests) in
    rw (number, other) refl

pub record IsIn (bytes : List ℕ) (at : Point) (source : Option ℕ) : Type 0 where
  pub point : point_in bytes ≡ at
  pub source_is : source_in bytes ≡ source

pub crosspoint-again : (at : Point) (source : Option ℕ) (bytes : List ℕ) → AllByRecursion HasRoom (crosspoint at source) → SpellFields bytes (crosspoint at source) → IsIn bytes at source
crosspoint-again at source [] room spell = absurd spell
crosspoint-again at source (place ∷ []) room spell = absurd spell.1
crosspoint-again at source (place ∷ high ∷ []) room spell = absurd spell.1.1
crosspoint-again at source (place ∷ high ∷ low ∷ []) room spell = absurd spell.1.1.1
crosspoint-again at source (place ∷ high ∷ low ∷ low_source ∷ more ∷ others) room spell = absurd spell.1.1.1.1
crosspoint-again at source (place ∷ high ∷ low ∷ low_source ∷ []) room spell =
    let number : number_of source < 1024 = number_of-below source room.1.0.1 in
    let high_source : high % 8 ≡ number_of source / 128 = omega (arith, spell.1.0, room.1.0.0) in
    let matrix : place / 16 ≡ at.matrix = omega (arith, spell.0, room.0.1) in
    let level : place % 16 ≡ at.level = omega (arith, spell.0, room.0.1) in
    let dest : high / 16 % 8 * 128 + low ≡ at.dest = omega (arith, number, spell.1.0, spell.1.1.0, room.1.0.0) in
    record {
      point = rw (matrix, level, dest) refl;
      source_is = source_of-again source high low_source room.1.0.1 high_source spell.1.1.1.0;
    }
