-- The same for the layouts of salvos: below their limits bytes spell the fields that they give, and the bytes that fields
-- are spelled with give them back.
use Rattle.std.proofs.Common.{◌≡◌, ℕ, suc, zero, ◌<◌, nat_eq, Bool, List, [], ◌∷◌, Option, refl, ap, ◌∙◌, arith, slice_index}
use Rattle.std.specs.List.{AllByRecursion}
use Rattle.swp08_messages.specs.declared.point.Point.{Point}
use Rattle.swp08_messages.specs.declared.go_status.GoStatus.{GoStatus}
use Rattle.swp08_messages.specs.declared.go_status.GoStatus.TheVariants.{Made, Cleared, Empty, Protected, NoTie}
use Rattle.swp08_messages.specs.declared.validity.Validity.{Validity}
use Rattle.swp08_messages.specs.declared.validity.Validity.TheVariants.{More, Last, NoEntry}
use Rattle.swp08_messages.specs.Field.{status_number, validity_number, HasRoom}
use Rattle.swp08_messages.specs.Row.{stored_crosspoint, go, go_done, entry_ask, entry}
use Rattle.swp08_messages.specs.Spelled.{SpellFields}
use Rattle.swp08_messages.specs.ReadingInside.{point_in, source_in, status_of, validity_of}
use Rattle.swp08_messages.proofs.LayoutLemmas.{Below, SpellThem, crosspoint-in, IsIn, crosspoint-again}
use Rattle.swp08_messages.proofs.ProtectsLemmas.{flag-of, flag-again}

-- what became of a salvo, and whether it has an entry at a place, by their bytes and back

status_number-of : (byte : ℕ) → byte < 5 → byte ≡ status_number (status_of byte)
status_number-of zero h = refl
status_number-of (suc zero) h = refl
status_number-of (suc (suc zero)) h = refl
status_number-of (suc (suc (suc zero))) h = refl
status_number-of (suc (suc (suc (suc zero)))) h = refl
status_number-of (suc (suc (suc (suc (suc byte))))) h = absurd (omega (arith, h))

status_of-again : (status : GoStatus) → status_of (status_number status) ≡ status
status_of-again Made = refl
status_of-again Cleared = refl
status_of-again Empty = refl
status_of-again Protected = refl
status_of-again NoTie = refl

validity_number-of : (byte : ℕ) → byte < 3 → byte ≡ validity_number (validity_of byte)
validity_number-of zero h = refl
validity_number-of (suc zero) h = refl
validity_number-of (suc (suc zero)) h = refl
validity_number-of (suc (suc (suc byte))) h = absurd (omega (arith, h))

validity_of-again : (validity : Validity) → validity_of (validity_number validity) ≡ validity
validity_of-again More = refl
validity_of-again Last = refl
validity_of-again NoEntry = refl

pub stored_crosspoint-in : (bytes : List ℕ) → Below bytes (256 ∷ 256 ∷ 128 ∷ 128 ∷ 128 ∷ []) → SpellThem bytes (stored_crosspoint (point_in bytes) (source_in bytes) (slice_index bytes 4))
stored_crosspoint-in [] below = absurd below
stored_crosspoint-in (place ∷ []) below = absurd below.1
stored_crosspoint-in (place ∷ high ∷ []) below = absurd below.1.1
stored_crosspoint-in (place ∷ high ∷ low ∷ []) below = absurd below.1.1.1
stored_crosspoint-in (place ∷ high ∷ low ∷ source ∷ []) below = absurd below.1.1.1.1
stored_crosspoint-in (place ∷ high ∷ low ∷ source ∷ salvo ∷ more ∷ others) below = absurd below.1.1.1.1.1
stored_crosspoint-in (place ∷ high ∷ low ∷ source ∷ salvo ∷ []) below =
    let carried = crosspoint-in (place ∷ high ∷ low ∷ source ∷ []) (below.0, (below.1.0, (below.1.1.0, (below.1.1.1.0, tt)))) in
    let room = carried.room in
    let spelled = carried.spelled in
    record {
      room = (room.0, (room.1.0, (room.1.1.0, (room.1.1.1.0, (below.1.1.1.1.0, tt)))));
      spelled = (spelled.0, (spelled.1.0, (spelled.1.1.0, (spelled.1.1.1.0, (refl, tt)))));
    }

pub entry-in : (bytes : List ℕ) → Below bytes (256 ∷ 256 ∷ 128 ∷ 128 ∷ 128 ∷ 256 ∷ 3 ∷ [])
    → SpellThem bytes (entry (point_in bytes) (source_in bytes) (slice_index bytes 4) (slice_index bytes 5) (validity_of (slice_index bytes 6)))
entry-in [] below = absurd below
entry-in (place ∷ []) below = absurd below.1
entry-in (place ∷ high ∷ []) below = absurd below.1.1
entry-in (place ∷ high ∷ low ∷ []) below = absurd below.1.1.1
entry-in (place ∷ high ∷ low ∷ source ∷ []) below = absurd below.1.1.1.1
entry-in (place ∷ high ∷ low ∷ source ∷ salvo ∷ []) below = absurd below.1.1.1.1.1
entry-in (place ∷ high ∷ low ∷ source ∷ salvo ∷ index ∷ []) below = absurd below.1.1.1.1.1.1
entry-in (place ∷ high ∷ low ∷ source ∷ salvo ∷ index ∷ validity ∷ more ∷ others) below = absurd below.1.1.1.1.1.1.1
entry-in (place ∷ high ∷ low ∷ source ∷ salvo ∷ index ∷ validity ∷ []) below =
    let held = stored_crosspoint-in (place ∷ high ∷ low ∷ source ∷ salvo ∷ []) (below.0, (below.1.0, (below.1.1.0, (below.1.1.1.0, (below.1.1.1.1.0, tt))))) in
    let room = held.room in
    let spelled = held.spelled in
    record {
      room = (room.0, (room.1.0, (room.1.1.0, (room.1.1.1.0, (room.1.1.1.1.0, (below.1.1.1.1.1.0, (tt, tt)))))));
      spelled = (spelled.0, (spelled.1.0, (spelled.1.1.0, (spelled.1.1.1.0, (spelled.1.1.1.1.0, (refl, (validity_number-of validity below.1.1.1.1.1.1.0, tt)))))));
    }

pub go-in : (bytes : List ℕ) → Below bytes (2 ∷ 128 ∷ []) → SpellThem bytes (go (nat_eq (slice_index bytes 0) 1) (slice_index bytes 1))
go-in [] below = absurd below
go-in (operation ∷ []) below = absurd below.1
go-in (operation ∷ salvo ∷ more ∷ others) below = absurd below.1.1
go-in (operation ∷ salvo ∷ []) below = record { room = (tt, (below.1.0, tt)); spelled = (flag-of operation below.0, (refl, tt)) }

pub go_done-in : (bytes : List ℕ) → Below bytes (5 ∷ 128 ∷ []) → SpellThem bytes (go_done (status_of (slice_index bytes 0)) (slice_index bytes 1))
go_done-in [] below = absurd below
go_done-in (status ∷ []) below = absurd below.1
go_done-in (status ∷ salvo ∷ more ∷ others) below = absurd below.1.1
go_done-in (status ∷ salvo ∷ []) below = record { room = (tt, (below.1.0, tt)); spelled = (status_number-of status below.0, (refl, tt)) }

pub entry_ask-in : (bytes : List ℕ) → Below bytes (128 ∷ 256 ∷ []) → SpellThem bytes (entry_ask (slice_index bytes 0) (slice_index bytes 1))
entry_ask-in [] below = absurd below
entry_ask-in (salvo ∷ []) below = absurd below.1
entry_ask-in (salvo ∷ index ∷ more ∷ others) below = absurd below.1.1
entry_ask-in (salvo ∷ index ∷ []) below = record { room = (below.0, (below.1.0, tt)); spelled = (refl, (refl, tt)) }

-- the crosspoint and the salvo that bytes give
pub stored_crosspoint-again : (at : Point) (source : Option ℕ) (salvo : ℕ) (bytes : List ℕ) → AllByRecursion HasRoom (stored_crosspoint at source salvo)
    → SpellFields bytes (stored_crosspoint at source salvo) → IsIn bytes at source × (slice_index bytes 4 ≡ salvo)
stored_crosspoint-again at source salvo [] room spell = absurd spell
stored_crosspoint-again at source salvo (place ∷ []) room spell = absurd spell.1
stored_crosspoint-again at source salvo (place ∷ high ∷ []) room spell = absurd spell.1.1
stored_crosspoint-again at source salvo (place ∷ high ∷ low ∷ []) room spell = absurd spell.1.1.1
stored_crosspoint-again at source salvo (place ∷ high ∷ low ∷ s ∷ []) room spell = absurd spell.1.1.1.1
stored_crosspoint-again at source salvo (place ∷ high ∷ low ∷ s ∷ group ∷ more ∷ others) room spell = absurd spell.1.1.1.1.1
stored_crosspoint-again at source salvo (place ∷ high ∷ low ∷ s ∷ group ∷ []) room spell =
    let carried = crosspoint-again at source (place ∷ high ∷ low ∷ s ∷ []) (room.0, (room.1.0, (room.1.1.0, (room.1.1.1.0, tt)))) (spell.0, (spell.1.0, (spell.1.1.0, (spell.1.1.1.0, tt)))) in
    (record { point = carried.point; source_is = carried.source_is }, spell.1.1.1.1.0)

-- the entry that bytes give
pub record AreEntry (bytes : List ℕ) (at : Point) (source : Option ℕ) (salvo index : ℕ) (validity : Validity) : Type 0 where
  pub carried : IsIn bytes at source
  pub salvo_is : slice_index bytes 4 ≡ salvo
  pub index_is : slice_index bytes 5 ≡ index
  pub validity_is : validity_of (slice_index bytes 6) ≡ validity

pub entry-again : (at : Point) (source : Option ℕ) (salvo index : ℕ) (validity : Validity) (bytes : List ℕ) → AllByRecursion HasRoom (entry at source salvo index validity)
    → SpellFields bytes (entry at source salvo index validity) → AreEntry bytes at source salvo index validity
entry-again at source salvo index validity [] room spell = absurd spell
entry-again at source salvo index validity (place ∷ []) room spell = absurd spell.1
entry-again at source salvo index validity (place ∷ high ∷ []) room spell = absurd spell.1.1
entry-again at source salvo index validity (place ∷ high ∷ low ∷ []) room spell = absurd spell.1.1.1
entry-again at source salvo index validity (place ∷ high ∷ low ∷ s ∷ []) room spell = absurd spell.1.1.1.1
entry-again at source salvo index validity (place ∷ high ∷ low ∷ s ∷ group ∷ []) room spell = absurd spell.1.1.1.1.1
entry-again at source salvo index validity (place ∷ high ∷ low ∷ s ∷ group ∷ i ∷ []) room spell = absurd spell.1.1.1.1.1.1
entry-again at source salvo index validity (place ∷ high ∷ low ∷ s ∷ group ∷ i ∷ v ∷ more ∷ others) room spell = absurd spell.1.1.1.1.1.1.1
entry-again at source salvo index validity (place ∷ high ∷ low ∷ s ∷ group ∷ i ∷ v ∷ []) room spell =
    let held = stored_crosspoint-again at source salvo (place ∷ high ∷ low ∷ s ∷ group ∷ []) (room.0, (room.1.0, (room.1.1.0, (room.1.1.1.0, (room.1.1.1.1.0, tt)))))
    (spell.0, (spell.1.0, (spell.1.1.0, (spell.1.1.1.0, (spell.1.1.1.1.0, tt))))) in
    record {
      carried = record { point = held.0.point; source_is = held.0.source_is };
      salvo_is = held.1;
      index_is = spell.1.1.1.1.1.0;
      validity_is = ap validity_of spell.1.1.1.1.1.1.0 ∙ validity_of-again validity;
    }

pub go-again : (clear : Bool) (salvo : ℕ) (bytes : List ℕ) → SpellFields bytes (go clear salvo) → (nat_eq (slice_index bytes 0) 1 ≡ clear) × (slice_index bytes 1 ≡ salvo)
go-again clear salvo [] spell = absurd spell
go-again clear salvo (operation ∷ []) spell = absurd spell.1
go-again clear salvo (operation ∷ group ∷ more ∷ others) spell = absurd spell.1.1
go-again clear salvo (operation ∷ group ∷ []) spell = (ap (λ n. nat_eq n 1) spell.0 ∙ flag-again clear, spell.1.0)

pub go_done-again : (status : GoStatus) (salvo : ℕ) (bytes : List ℕ) → SpellFields bytes (go_done status salvo) → (status_of (slice_index bytes 0) ≡ status) × (slice_index bytes 1 ≡ salvo)
go_done-again status salvo [] spell = absurd spell
go_done-again status salvo (byte ∷ []) spell = absurd spell.1
go_done-again status salvo (byte ∷ group ∷ more ∷ others) spell = absurd spell.1.1
go_done-again status salvo (byte ∷ group ∷ []) spell = (ap status_of spell.0 ∙ status_of-again status, spell.1.0)

pub entry_ask-again : (salvo index : ℕ) (bytes : List ℕ) → SpellFields bytes (entry_ask salvo index) → (slice_index bytes 0 ≡ salvo) × (slice_index bytes 1 ≡ index)
entry_ask-again salvo index [] spell = absurd spell
entry_ask-again salvo index (group ∷ []) spell = absurd spell.1
entry_ask-again salvo index (group ∷ i ∷ more ∷ others) spell = absurd spell.1.1
entry_ask-again salvo index (group ∷ i ∷ []) spell = (spell.0, spell.1.0)
