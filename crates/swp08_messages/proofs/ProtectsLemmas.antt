-- The same for the layouts of protects: below their limits bytes spell the fields that they give, and the bytes that
-- fields are spelled with give them back.
use Rattle.std.proofs.Common.{◌≡◌, ℕ, suc, zero, ◌+◌, ◌*◌, ◌/◌, ◌%◌, ◌<◌, nat_eq, Bool, true, false, List, [], ◌∷◌, ◌++◌, refl, ap, ◌∙◌, arith}
use Rattle.std.specs.List.{AllByRecursion}
use Rattle.swp08_messages.specs.declared.point.Point.{Point}
use Rattle.swp08_messages.specs.declared.field.Field.TheVariants.{SpareLow}
use Rattle.swp08_messages.specs.Field.{flag, HasRoom}
use Rattle.swp08_messages.specs.Row.{destination, protect, protect_told}
use Rattle.swp08_messages.specs.Spelled.{SpellFields}
use Rattle.swp08_messages.specs.ReadingInside.{point_in, device_in, owned_in, told_point_in, told_device_in}
use Rattle.swp08_messages.proofs.LayoutLemmas.{Below, SpellThem, destination-in, point_in-again}

-- a yes or a no by its byte, and back
pub flag-of : (byte : ℕ) → byte < 2 → byte ≡ flag (nat_eq byte 1)
flag-of zero h = refl
flag-of (suc zero) h = refl
flag-of (suc (suc byte)) h = absurd (omega (arith, h))

pub flag-again : (holds : Bool) → nat_eq (flag holds) 1 ≡ holds
flag-again true = refl
flag-again false = refl

pub protect-in : (bytes : List ℕ) → Below bytes (256 ∷ 256 ∷ 128 ∷ 128 ∷ []) → SpellThem bytes (protect (point_in bytes) (device_in bytes))
protect-in [] below = absurd below
protect-in (place ∷ []) below = absurd below.1
protect-in (place ∷ high ∷ []) below = absurd below.1.1
protect-in (place ∷ high ∷ low ∷ []) below = absurd below.1.1.1
protect-in (place ∷ high ∷ low ∷ device ∷ more ∷ others) below = absurd below.1.1.1.1
protect-in (place ∷ high ∷ low ∷ device ∷ []) below =
    let dest_in_range : high / 16 % 8 * 128 + low < 1024 = omega (arith, below.1.1.0) in
    let device_in_range : high % 8 * 128 + device < 1024 = omega (arith, below.1.1.1.0) in
    record {
      room = ((omega (arith, below.0), omega arith), ((dest_in_range, device_in_range), (dest_in_range, (device_in_range, tt))));
      spelled = (omega arith, (omega (arith, below.1.1.0, below.1.1.1.0), (omega (arith, below.1.1.0), (omega (arith, below.1.1.1.0), tt))));
    }

pub protect_told-in : (bytes : List ℕ) → Below bytes (256 ∷ 2 ∷ 256 ∷ 128 ∷ 128 ∷ [])
    → SpellThem bytes (protect_told (told_point_in bytes) (owned_in bytes) (told_device_in bytes))
protect_told-in [] below = absurd below
protect_told-in (place ∷ []) below = absurd below.1
protect_told-in (place ∷ details ∷ []) below = absurd below.1.1
protect_told-in (place ∷ details ∷ high ∷ []) below = absurd below.1.1.1
protect_told-in (place ∷ details ∷ high ∷ low ∷ []) below = absurd below.1.1.1.1
protect_told-in (place ∷ details ∷ high ∷ low ∷ device ∷ more ∷ others) below = absurd below.1.1.1.1.1
protect_told-in (place ∷ details ∷ high ∷ low ∷ device ∷ []) below =
    let protects = protect-in (place ∷ high ∷ low ∷ device ∷ []) (below.0, (below.1.1.0, (below.1.1.1.0, (below.1.1.1.1.0, tt)))) in
    let room = protects.room in
    let spelled = protects.spelled in
    record { room = (room.0, (tt, room.1)); spelled = (spelled.0, (flag-of details below.1.0, spelled.1)) }

-- with a low part that isn't kept
pub spare-in : (bytes : List ℕ) → Below bytes (256 ∷ 256 ∷ 128 ∷ 128 ∷ []) → SpellThem bytes (destination (point_in bytes) ++ SpareLow ∷ [])
spare-in [] below = absurd below
spare-in (place ∷ []) below = absurd below.1
spare-in (place ∷ high ∷ []) below = absurd below.1.1
spare-in (place ∷ high ∷ low ∷ []) below = absurd below.1.1.1
spare-in (place ∷ high ∷ low ∷ spare ∷ more ∷ others) below = absurd below.1.1.1.1
spare-in (place ∷ high ∷ low ∷ spare ∷ []) below =
    let dest = destination-in (place ∷ high ∷ low ∷ []) (below.0, (below.1.0, (below.1.1.0, tt))) in
    let room = dest.room in
    let spelled = dest.spelled in
    record {
      room = (room.0, (room.1.0, (room.1.1.0, (tt, tt))));
      spelled = (spelled.0, (spelled.1.0, (spelled.1.1.0, (omega (arith, below.1.1.1.0), tt))));
    }

-- the destination and the device that bytes give
pub record AreProtect (bytes : List ℕ) (at : Point) (device : ℕ) : Type 0 where
  pub point : point_in bytes ≡ at
  pub device_is : device_in bytes ≡ device

pub protect-again : (at : Point) (device : ℕ) (bytes : List ℕ) → AllByRecursion HasRoom (protect at device) → SpellFields bytes (protect at device) → AreProtect bytes at device
protect-again at device [] room spell = absurd spell
protect-again at device (place ∷ []) room spell = absurd spell.1
protect-again at device (place ∷ high ∷ []) room spell = absurd spell.1.1
protect-again at device (place ∷ high ∷ low ∷ []) room spell = absurd spell.1.1.1
protect-again at device (place ∷ high ∷ low ∷ low_device ∷ more ∷ others) room spell = absurd spell.1.1.1.1
protect-again at device (place ∷ high ∷ low ∷ low_device ∷ []) room spell =
    let matrix : place / 16 ≡ at.matrix = omega (arith, spell.0, room.0.1) in
    let level : place % 16 ≡ at.level = omega (arith, spell.0, room.0.1) in
    let dest : high / 16 % 8 * 128 + low ≡ at.dest = omega (arith, spell.1.0, spell.1.1.0, room.1.0.0, room.1.0.1) in
    let number : high % 8 * 128 + low_device ≡ device = omega (arith, spell.1.0, spell.1.1.1.0, room.1.0.0, room.1.0.1) in
    record { point = rw (matrix, level, dest) refl; device_is = number }

-- the same where it is told whether the device protects the destination
pub record AreTold (bytes : List ℕ) (at : Point) (owned : Bool) (device : ℕ) : Type 0 where
  pub point : told_point_in bytes ≡ at
  pub owned_is : owned_in bytes ≡ owned
  pub device_is : told_device_in bytes ≡ device

pub protect_told-again : (at : Point) (owned : Bool) (device : ℕ) (bytes : List ℕ) → AllByRecursion HasRoom (protect_told at owned device)
    → SpellFields bytes (protect_told at owned device) → AreTold bytes at owned device
protect_told-again at owned device [] room spell = absurd spell
protect_told-again at owned device (place ∷ []) room spell = absurd spell.1
protect_told-again at owned device (place ∷ details ∷ []) room spell = absurd spell.1.1
protect_told-again at owned device (place ∷ details ∷ high ∷ []) room spell = absurd spell.1.1.1
protect_told-again at owned device (place ∷ details ∷ high ∷ low ∷ []) room spell = absurd spell.1.1.1.1
protect_told-again at owned device (place ∷ details ∷ high ∷ low ∷ low_device ∷ more ∷ others) room spell = absurd spell.1.1.1.1.1
protect_told-again at owned device (place ∷ details ∷ high ∷ low ∷ low_device ∷ []) room spell =
    let protects = protect-again at device (place ∷ high ∷ low ∷ low_device ∷ []) (room.0, room.1.1) (spell.0, spell.1.1) in
    record { point = protects.point; owned_is = ap (λ n. nat_eq n 1) spell.1.0 ∙ flag-again owned; device_is = protects.device_is }

pub spare-again : (at : Point) (bytes : List ℕ) → AllByRecursion HasRoom (destination at) → SpellFields bytes (destination at ++ SpareLow ∷ []) → point_in bytes ≡ at
spare-again at [] room spell = absurd spell
spare-again at (place ∷ []) room spell = absurd spell.1
spare-again at (place ∷ high ∷ []) room spell = absurd spell.1.1
spare-again at (place ∷ high ∷ low ∷ []) room spell = absurd spell.1.1.1
spare-again at (place ∷ high ∷ low ∷ spare ∷ more ∷ others) room spell = absurd spell.1.1.1.1
spare-again at (place ∷ high ∷ low ∷ spare ∷ []) room spell =
    point_in-again at (place ∷ high ∷ low ∷ []) room (spell.0, (spell.1.0, (spell.1.1.0, tt)))
