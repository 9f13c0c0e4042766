-- The same for the layouts of the extended commands: below their limits bytes spell the fields that they give, and the bytes
-- that fields are spelled with give them back.
use Rattle.std.proofs.Common.{◌≡◌, ℕ, ◌+◌, ◌*◌, ◌/◌, ◌%◌, ◌<◌, cond, nat_eq, true, false, List, [], ◌∷◌, Option, Some, None, refl, sym, arith, eqb-true}
use Rattle.std.proofs.lemmas.Bool.Decides.{nat_tests}
use Rattle.std.specs.List.{AllByRecursion}
use Rattle.swp08_messages.specs.declared.point.Point.{Point}
use Rattle.swp08_messages.specs.Field.{ext_number_of, IsExtSource, HasRoom}
use Rattle.swp08_messages.specs.Row.{ext_destination, ext_crosspoint}
use Rattle.swp08_messages.specs.Spelled.{SpellFields}
use Rattle.swp08_messages.specs.ReadingInside.{ext_source_of, ext_point_in, ext_source_in}
use Rattle.swp08_messages.proofs.LayoutLemmas.{Below, SpellThem}

pub ext_destination-in : (bytes : List ℕ) → Below bytes (16 ∷ 16 ∷ 256 ∷ 256 ∷ []) → SpellThem bytes (ext_destination (ext_point_in bytes))
ext_destination-in [] below = absurd below
ext_destination-in (matrix ∷ []) below = absurd below.1
ext_destination-in (matrix ∷ level ∷ []) below = absurd below.1.1
ext_destination-in (matrix ∷ level ∷ high ∷ []) below = absurd below.1.1.1
ext_destination-in (matrix ∷ level ∷ high ∷ low ∷ more ∷ others) below = absurd below.1.1.1.1
ext_destination-in (matrix ∷ level ∷ high ∷ low ∷ []) below =
    let dest : high * 256 + low < 65536 = omega (arith, below.1.1.0, below.1.1.1.0) in
    record {
      room = (below.0, (below.1.0, (dest, (dest, tt))));
      spelled = (refl, (refl, (omega (arith, below.1.1.1.0), (omega (arith, below.1.1.1.0), tt))));
    }

-- a source by its number

IsExtSource-ext_source_of : (high low : ℕ) → high < 256 → low < 256 → IsExtSource (ext_source_of high low)
IsExtSource-ext_source_of high low h l =
    elim (nat_eq (high * 256 + low) 65535) as (λ b. nat_eq (high * 256 + low) 65535 ≡ b → IsExtSource (cond b None (Some (high * 256 + low)))) [
      | true ↦ λ e. tt
      | false ↦ λ e. grind (arith, nat_tests)
    ] refl

ext_number_of-ext_source_of : (high low : ℕ) → ext_number_of (ext_source_of high low) ≡ high * 256 + low
ext_number_of-ext_source_of high low =
    elim (nat_eq (high * 256 + low) 65535) as (λ b. nat_eq (high * 256 + low) 65535 ≡ b → ext_number_of (cond b None (Some (high * 256 + low))) ≡ high * 256 + low) [
      | true ↦ λ e. sym (eqb-true _ _ e)
      | false ↦ λ e. refl
    ] refl

pub ext_crosspoint-in : (bytes : List ℕ) → Below bytes (16 ∷ 16 ∷ 256 ∷ 256 ∷ 256 ∷ 256 ∷ []) → SpellThem bytes (ext_crosspoint (ext_point_in bytes) (ext_source_in bytes))
ext_crosspoint-in [] below = absurd below
ext_crosspoint-in (matrix ∷ []) below = absurd below.1
ext_crosspoint-in (matrix ∷ level ∷ []) below = absurd below.1.1
ext_crosspoint-in (matrix ∷ level ∷ high ∷ []) below = absurd below.1.1.1
ext_crosspoint-in (matrix ∷ level ∷ high ∷ low ∷ []) below = absurd below.1.1.1.1
ext_crosspoint-in (matrix ∷ level ∷ high ∷ low ∷ source_high ∷ []) below = absurd below.1.1.1.1.1
ext_crosspoint-in (matrix ∷ level ∷ high ∷ low ∷ source_high ∷ source_low ∷ more ∷ others) below = absurd below.1.1.1.1.1.1
ext_crosspoint-in (matrix ∷ level ∷ high ∷ low ∷ source_high ∷ source_low ∷ []) below =
    let dest : high * 256 + low < 65536 = omega (arith, below.1.1.0, below.1.1.1.0) in
    let source = IsExtSource-ext_source_of source_high source_low below.1.1.1.1.0 below.1.1.1.1.1.0 in
    let number = ext_number_of-ext_source_of source_high source_low in
    record {
      room = (below.0, (below.1.0, (dest, (dest, (source, (source, tt))))));
      spelled = (
        refl,
        (
          refl,
          (
            omega (arith, below.1.1.1.0),
            (
              omega (arith, below.1.1.1.0),
              (omega (arith, number, below.1.1.1.1.1.0), (omega (arith, number, below.1.1.1.1.1.0), tt)),
            ),
          ),
        ),
      );
    }

-- The bytes that a field is spelled with give it back.

pub ext_destination-again : (at : Point) (bytes : List ℕ) → SpellFields bytes (ext_destination at) → ext_point_in bytes ≡ at
ext_destination-again at [] spell = absurd spell
ext_destination-again at (matrix ∷ []) spell = absurd spell.1
ext_destination-again at (matrix ∷ level ∷ []) spell = absurd spell.1.1
ext_destination-again at (matrix ∷ level ∷ high ∷ []) spell = absurd spell.1.1.1
ext_destination-again at (matrix ∷ level ∷ high ∷ low ∷ more ∷ others) spell = absurd spell.1.1.1.1
ext_destination-again at (matrix ∷ level ∷ high ∷ low ∷ []) spell =
    let dest : high * 256 + low ≡ at.dest = omega (arith, spell.1.1.0, spell.1.1.1.0) in
    rw (spell.0, spell.1.0, dest) refl

ext_source_of-again : (source : Option ℕ) (high low : ℕ) → IsExtSource source → high ≡ ext_number_of source / 256 → low ≡ ext_number_of source % 256 → ext_source_of high low ≡ source
ext_source_of-again None high low room h l =
    let number : high * 256 + low ≡ 65535 = omega arith in
    rw number refl
ext_source_of-again (Some source) high low room h l =
    let number : high * 256 + low ≡ source = omega arith in
    let other : nat_eq source 65535 ≡ false = grind (arith, nat_tests) in
    rw (number, other) refl

pub record IsExtIn (bytes : List ℕ) (at : Point) (source : Option ℕ) : Type 0 where
  pub point : ext_point_in bytes ≡ at
  pub source_is : ext_source_in bytes ≡ source

pub ext_crosspoint-again : (at : Point) (source : Option ℕ) (bytes : List ℕ) → AllByRecursion HasRoom (ext_crosspoint at source) → SpellFields bytes (ext_crosspoint at source) → IsExtIn bytes at source
ext_crosspoint-again at source [] room spell = absurd spell
ext_crosspoint-again at source (matrix ∷ []) room spell = absurd spell.1
ext_crosspoint-again at source (matrix ∷ level ∷ []) room spell = absurd spell.1.1
ext_crosspoint-again at source (matrix ∷ level ∷ high ∷ []) room spell = absurd spell.1.1.1
ext_crosspoint-again at source (matrix ∷ level ∷ high ∷ low ∷ []) room spell = absurd spell.1.1.1.1
ext_crosspoint-again at source (matrix ∷ level ∷ high ∷ low ∷ source_high ∷ []) room spell = absurd spell.1.1.1.1.1
ext_crosspoint-again at source (matrix ∷ level ∷ high ∷ low ∷ source_high ∷ source_low ∷ more ∷ others) room spell = absurd spell.1.1.1.1.1.1
ext_crosspoint-again at source (matrix ∷ level ∷ high ∷ low ∷ source_high ∷ source_low ∷ []) room spell =
    let dest : high * 256 + low ≡ at.dest = omega (arith, spell.1.1.0, spell.1.1.1.0) in
    record {
      point = rw (spell.0, spell.1.0, dest) refl;
      source_is = ext_source_of-again source source_high source_low room.1.1.1.1.0 spell.1.1.1.1.0 spell.1.1.1.1.1.0;
    }
