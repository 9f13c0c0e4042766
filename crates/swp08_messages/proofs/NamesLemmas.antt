-- The same for the layouts of a level and of names: below their limits bytes spell the fields that they give, and the
-- bytes that fields are spelled with give them back.
use Rattle.std.proofs.Common.{◌≡◌, ℕ, ◌+◌, ◌*◌, ◌/◌, ◌%◌, ◌<◌, List, [], ◌∷◌, refl, arith}
use Rattle.std.specs.List.{AllByRecursion}
use Rattle.swp08_messages.specs.Field.{HasRoom}
use Rattle.swp08_messages.specs.Row.{one_level, source_names_ask, source_name_ask, dest_names_ask, dest_name_ask}
use Rattle.swp08_messages.specs.Spelled.{SpellFields}
use Rattle.swp08_messages.specs.ReadingInside.{matrix_in, level_in, size_in, wide_in}
use Rattle.swp08_messages.proofs.LayoutLemmas.{Below, SpellThem}

pub one_level-in : (bytes : List ℕ) → Below bytes (256 ∷ []) → SpellThem bytes (one_level (matrix_in bytes) (level_in bytes))
one_level-in [] below = absurd below
one_level-in (place ∷ more ∷ others) below = absurd below.1
one_level-in (place ∷ []) below = record { room = ((omega (arith, below.0), omega arith), tt); spelled = (omega arith, tt) }

pub source_names_ask-in : (bytes : List ℕ) → Below bytes (256 ∷ 3 ∷ []) → SpellThem bytes (source_names_ask (matrix_in bytes) (level_in bytes) (size_in bytes))
source_names_ask-in [] below = absurd below
source_names_ask-in (place ∷ []) below = absurd below.1
source_names_ask-in (place ∷ size ∷ more ∷ others) below = absurd below.1.1
source_names_ask-in (place ∷ size ∷ []) below = record {
  room = ((omega (arith, below.0), omega arith), (below.1.0, tt));
  spelled = (omega arith, (refl, tt));
}

pub source_name_ask-in : (bytes : List ℕ) → Below bytes (256 ∷ 3 ∷ 256 ∷ 256 ∷ [])
    → SpellThem bytes (source_name_ask (matrix_in bytes) (level_in bytes) (size_in bytes) (wide_in bytes))
source_name_ask-in [] below = absurd below
source_name_ask-in (place ∷ []) below = absurd below.1
source_name_ask-in (place ∷ size ∷ []) below = absurd below.1.1
source_name_ask-in (place ∷ size ∷ high ∷ []) below = absurd below.1.1.1
source_name_ask-in (place ∷ size ∷ high ∷ low ∷ more ∷ others) below = absurd below.1.1.1.1
source_name_ask-in (place ∷ size ∷ high ∷ low ∷ []) below =
    let number : high * 256 + low < 65536 = omega (arith, below.1.1.0, below.1.1.1.0) in
    record {
      room = ((omega (arith, below.0), omega arith), (below.1.0, (number, (number, tt))));
      spelled = (omega arith, (refl, (omega (arith, below.1.1.1.0), (omega (arith, below.1.1.1.0), tt))));
    }

pub dest_names_ask-in : (bytes : List ℕ) → Below bytes (256 ∷ 3 ∷ []) → SpellThem bytes (dest_names_ask (matrix_in bytes) (size_in bytes))
dest_names_ask-in [] below = absurd below
dest_names_ask-in (place ∷ []) below = absurd below.1
dest_names_ask-in (place ∷ size ∷ more ∷ others) below = absurd below.1.1
dest_names_ask-in (place ∷ size ∷ []) below = record { room = (omega (arith, below.0), (below.1.0, tt)); spelled = (refl, (refl, tt)) }

pub dest_name_ask-in : (bytes : List ℕ) → Below bytes (256 ∷ 3 ∷ 256 ∷ 256 ∷ []) → SpellThem bytes (dest_name_ask (matrix_in bytes) (size_in bytes) (wide_in bytes))
dest_name_ask-in [] below = absurd below
dest_name_ask-in (place ∷ []) below = absurd below.1
dest_name_ask-in (place ∷ size ∷ []) below = absurd below.1.1
dest_name_ask-in (place ∷ size ∷ high ∷ []) below = absurd below.1.1.1
dest_name_ask-in (place ∷ size ∷ high ∷ low ∷ more ∷ others) below = absurd below.1.1.1.1
dest_name_ask-in (place ∷ size ∷ high ∷ low ∷ []) below =
    let number : high * 256 + low < 65536 = omega (arith, below.1.1.0, below.1.1.1.0) in
    record {
      room = (omega (arith, below.0), (below.1.0, (number, (number, tt))));
      spelled = (refl, (refl, (omega (arith, below.1.1.1.0), (omega (arith, below.1.1.1.0), tt))));
    }

-- the level that the bytes give
pub record AreLevel (bytes : List ℕ) (matrix level : ℕ) : Type 0 where
  pub matrix_is : matrix_in bytes ≡ matrix
  pub level_is : level_in bytes ≡ level

pub one_level-again : (matrix level : ℕ) (bytes : List ℕ) → AllByRecursion HasRoom (one_level matrix level) → SpellFields bytes (one_level matrix level) → AreLevel bytes matrix level
one_level-again matrix level [] room spell = absurd spell
one_level-again matrix level (place ∷ more ∷ others) room spell = absurd spell.1
one_level-again matrix level (place ∷ []) room spell = record {
  matrix_is = omega (arith, spell.0, room.0.1);
  level_is = omega (arith, spell.0, room.0.1);
}

-- the level, or the matrix, and the size and the number that the bytes give
pub record AreName (bytes : List ℕ) (matrix size number : ℕ) : Type 0 where
  pub matrix_is : matrix_in bytes ≡ matrix
  pub size_is : size_in bytes ≡ size
  pub number_is : wide_in bytes ≡ number

pub source_names_ask-again : (matrix level size : ℕ) (bytes : List ℕ) → AllByRecursion HasRoom (source_names_ask matrix level size) → SpellFields bytes (source_names_ask matrix level size)
    → AreLevel bytes matrix level × (size_in bytes ≡ size)
source_names_ask-again matrix level size [] room spell = absurd spell
source_names_ask-again matrix level size (place ∷ []) room spell = absurd spell.1
source_names_ask-again matrix level size (place ∷ s ∷ more ∷ others) room spell = absurd spell.1.1
source_names_ask-again matrix level size (place ∷ s ∷ []) room spell =
    (record { matrix_is = omega (arith, spell.0, room.0.1); level_is = omega (arith, spell.0, room.0.1) }, spell.1.0)

pub source_name_ask-again : (matrix level size number : ℕ) (bytes : List ℕ) → AllByRecursion HasRoom (source_name_ask matrix level size number)
    → SpellFields bytes (source_name_ask matrix level size number) → AreLevel bytes matrix level × AreName bytes matrix size number
source_name_ask-again matrix level size number [] room spell = absurd spell
source_name_ask-again matrix level size number (place ∷ []) room spell = absurd spell.1
source_name_ask-again matrix level size number (place ∷ s ∷ []) room spell = absurd spell.1.1
source_name_ask-again matrix level size number (place ∷ s ∷ high ∷ []) room spell = absurd spell.1.1.1
source_name_ask-again matrix level size number (place ∷ s ∷ high ∷ low ∷ more ∷ others) room spell = absurd spell.1.1.1.1
source_name_ask-again matrix level size number (place ∷ s ∷ high ∷ low ∷ []) room spell =
    let matrix_is : place / 16 ≡ matrix = omega (arith, spell.0, room.0.1) in
    let level_is : place % 16 ≡ level = omega (arith, spell.0, room.0.1) in
    let number_is : high * 256 + low ≡ number = omega (arith, spell.1.1.0, spell.1.1.1.0) in
    (record { matrix_is = matrix_is; level_is = level_is }, record { matrix_is = matrix_is; size_is = spell.1.0; number_is = number_is })

pub dest_names_ask-again : (matrix size : ℕ) (bytes : List ℕ) → AllByRecursion HasRoom (dest_names_ask matrix size) → SpellFields bytes (dest_names_ask matrix size)
    → (matrix_in bytes ≡ matrix) × (size_in bytes ≡ size)
dest_names_ask-again matrix size [] room spell = absurd spell
dest_names_ask-again matrix size (place ∷ []) room spell = absurd spell.1
dest_names_ask-again matrix size (place ∷ s ∷ more ∷ others) room spell = absurd spell.1.1
dest_names_ask-again matrix size (place ∷ s ∷ []) room spell = (omega (arith, spell.0), spell.1.0)

pub dest_name_ask-again : (matrix size number : ℕ) (bytes : List ℕ) → AllByRecursion HasRoom (dest_name_ask matrix size number)
    → SpellFields bytes (dest_name_ask matrix size number) → AreName bytes matrix size number
dest_name_ask-again matrix size number [] room spell = absurd spell
dest_name_ask-again matrix size number (place ∷ []) room spell = absurd spell.1
dest_name_ask-again matrix size number (place ∷ s ∷ []) room spell = absurd spell.1.1
dest_name_ask-again matrix size number (place ∷ s ∷ high ∷ []) room spell = absurd spell.1.1.1
dest_name_ask-again matrix size number (place ∷ s ∷ high ∷ low ∷ more ∷ others) room spell = absurd spell.1.1.1.1
dest_name_ask-again matrix size number (place ∷ s ∷ high ∷ low ∷ []) room spell = record {
  matrix_is = omega (arith, spell.0);
  size_is = spell.1.0;
  number_is = omega (arith, spell.1.1.0, spell.1.1.1.0);
}
