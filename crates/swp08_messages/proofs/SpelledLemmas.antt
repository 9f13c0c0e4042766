-- Fields and the bytes that they are spelled with.
use Rattle.std.proofs.Common.{◌≡◌, ℕ, suc, ◌<◌, inl, inr, List, [], ◌∷◌, ◌++◌, length, map, All, refl, sym, ap, ◌∙◌, subst, arith}
use Rattle.std.specs.List.{AllByRecursion}
use Rattle.std.proofs.Math.Decide.{ℕ_discrete}
use Rattle.std.proofs.lemmas.List.Elements.{All-from_recursion}
use Rattle.swp08_messages.specs.declared.field.Field.{Field}
use Rattle.swp08_messages.specs.declared.message.Message.{Message}
use Rattle.swp08_messages.specs.declared.message.Message.TheVariants.{Interrogate, Connect, Tally, Connected, ProtectAsk, ProtectTally, ProtectConnect, ProtectConnected, ProtectDisconnect, ProtectDisconnected, DumpAsk, SourceNamesAsk, SourceNameAsk, DestNamesAsk, DestNameAsk, Store, Go, Stored, GoDone, EntryAsk, Entry, ExtInterrogate, ExtConnect, ExtTally, ExtConnected}
use Rattle.swp08_messages.specs.Field.{byte_of, HasRoom}
use Rattle.swp08_messages.specs.Row.{MessageRow, row}
use Rattle.swp08_messages.specs.Text.{text, InRange}
use Rattle.swp08_messages.specs.Spelled.{SpellFields, SpellRow, Spells}
use Rattle.swp08_messages.specs.ReadingInside.{limit_of, held_to}
use Rattle.swp08_messages.proofs.FieldLemmas.{below-limit_of, looked_at-byte_of, byte_of-below}
use Rattle.swp08_messages.proofs.HeldLemmas.{held_to-fields, held_to-longer}

SpellFields-map : (fields : List Field) → AllByRecursion HasRoom fields → SpellFields (map byte_of fields) fields
SpellFields-map [] room = tt
SpellFields-map (field ∷ fields) room = (looked_at-byte_of field room.0, SpellFields-map fields room.1)

-- A message's text spells it.
pub Spells-text : (message : Message) → InRange message → Spells (text message) message
Spells-text message h = record {
  in_range = h;
  behind = map byte_of (row message).fields;
  parts = refl;
  fields = inl (SpellFields-map (row message).fields h);
}

pub length-SpellFields : (bytes : List ℕ) (fields : List Field) → SpellFields bytes fields → length bytes ≡ length fields
length-SpellFields [] [] spell = refl
length-SpellFields (byte ∷ bytes) (field ∷ fields) spell = ap (λ n. suc n) (length-SpellFields bytes fields spell.1)
length-SpellFields [] (field ∷ fields) spell = absurd spell
length-SpellFields (byte ∷ bytes) [] spell = absurd spell

-- Bytes of a row are those of the fields that so many bytes are held to, and the other way round.

append-none : (fields spare : List Field) → length (fields ++ spare) ≡ length fields → fields ++ spare ≡ fields
append-none [] [] same = refl
append-none [] (field ∷ spare) same = absurd (omega (arith, same))
append-none (field ∷ fields) spare same = ap (λ fs. field ∷ fs) (append-none fields spare (omega (arith, same)))

pub SpellRow-held : (bytes : List ℕ) (row : MessageRow) → SpellRow bytes row → SpellFields bytes (held_to row.fields row.spare (length bytes))
SpellRow-held bytes row spell = elim spell [
  | inl so ↦ subst (SpellFields bytes) (sym (held_to-fields row.fields row.spare _ (length-SpellFields bytes row.fields so))) so
  | inr so ↦ elim (ℕ_discrete (length bytes) (length row.fields)) [
    | yes same ↦
        let none : row.fields ++ row.spare ≡ row.fields = append-none row.fields row.spare (sym (length-SpellFields bytes (row.fields ++ row.spare) so) ∙ same) in
        subst (SpellFields bytes) (none ∙ sym (held_to-fields row.fields row.spare _ same)) so
    | no other ↦ subst (SpellFields bytes) (sym (held_to-longer row.fields row.spare _ other)) so
  ]
]

pub held-SpellRow : (bytes : List ℕ) (row : MessageRow) → SpellFields bytes (held_to row.fields row.spare (length bytes)) → SpellRow bytes row
held-SpellRow bytes row so = elim (ℕ_discrete (length bytes) (length row.fields)) [
  | yes same ↦ inl (subst (SpellFields bytes) (held_to-fields row.fields row.spare _ same) so)
  | no other ↦ inr (subst (SpellFields bytes) (held_to-longer row.fields row.spare _ other) so)
]

-- What DATA may have behind the fields has no ranges of its own.

spare_in_range : (message : Message) → AllByRecursion HasRoom (row message).spare
spare_in_range (ProtectAsk at) = (tt, tt)
spare_in_range message = tt

in_range_with : (fields spare : List Field) → AllByRecursion HasRoom fields → AllByRecursion HasRoom spare → AllByRecursion HasRoom (fields ++ spare)
in_range_with [] spare room more = more
in_range_with (field ∷ fields) spare room more = (room.0, in_range_with fields spare room.1 more)

pub held-in_range : (message : Message) (count : ℕ) → InRange message → AllByRecursion HasRoom (held_to (row message).fields (row message).spare count)
held-in_range message count room = elim (ℕ_discrete count (length (row message).fields)) [
  | yes same ↦ subst (AllByRecursion HasRoom) (sym (held_to-fields _ _ count same)) room
  | no other ↦ subst (AllByRecursion HasRoom) (sym (held_to-longer _ _ count other)) (in_range_with _ _ room (spare_in_range message))
]

-- the byte at a place that is spelled is below the limit there
pub spelled_below : (front : List ℕ) (byte : ℕ) (more : List ℕ) (fields : List Field) (before : List ℕ) (limit : ℕ) (after : List ℕ)
    → map limit_of fields ≡ before ++ limit ∷ after → length front ≡ length before → AllByRecursion HasRoom fields
    → SpellFields (front ++ byte ∷ more) fields → byte < 256 → byte < limit
spelled_below [] byte more (field ∷ fields) [] limit after e same room spell h =
    let is : limit_of field ≡ limit = cc in
    omega (arith, below-limit_of field byte h room.0 spell.0)
spelled_below (b ∷ front) byte more (field ∷ fields) (l ∷ before) limit after e same room spell h =
    let rest : map limit_of fields ≡ before ++ limit ∷ after = cc in
    spelled_below front byte more fields before limit after rest (omega arith) room.1 spell.1 h
spelled_below [] byte more [] before limit after e same room spell h = absurd spell
spelled_below (b ∷ front) byte more [] before limit after e same room spell h = absurd spell
spelled_below [] byte more (field ∷ fields) (l ∷ before) limit after e same room spell h = absurd (omega (arith, same))
spelled_below (b ∷ front) byte more (field ∷ fields) [] limit after e same room spell h = absurd (omega (arith, same))

bytes_below : (fields : List Field) → AllByRecursion HasRoom fields → AllByRecursion (λ byte. byte < 256) (map byte_of fields)
bytes_below [] room = tt
bytes_below (field ∷ fields) room = (byte_of-below field room.0, bytes_below fields room.1)

command_below : (message : Message) → (row message).command < 256
command_below (Interrogate at) = omega arith
command_below (Connect at source) = omega arith
command_below (Tally at source) = omega arith
command_below (Connected at source) = omega arith
command_below (DumpAsk matrix level) = omega arith
command_below (SourceNamesAsk matrix level size) = omega arith
command_below (SourceNameAsk matrix level size number) = omega arith
command_below (DestNamesAsk matrix size) = omega arith
command_below (DestNameAsk matrix size number) = omega arith
command_below (ProtectAsk at) = omega arith
command_below (ProtectTally at owned device) = omega arith
command_below (ProtectConnect at device) = omega arith
command_below (ProtectConnected at owned device) = omega arith
command_below (ProtectDisconnect at device) = omega arith
command_below (ProtectDisconnected at owned device) = omega arith
command_below (Store at source salvo) = omega arith
command_below (Go clear salvo) = omega arith
command_below (Stored at source salvo) = omega arith
command_below (GoDone status salvo) = omega arith
command_below (EntryAsk salvo index) = omega arith
command_below (Entry at source salvo index validity) = omega arith
command_below (ExtInterrogate at) = omega arith
command_below (ExtConnect at source) = omega arith
command_below (ExtTally at source) = omega arith
command_below (ExtConnected at source) = omega arith

-- Each number of a text is a byte.
pub All-text : (message : Message) → InRange message → All (λ byte. byte < 256) (text message)
All-text message h = All-from_recursion (λ byte. byte < 256) (text message) (command_below message, bytes_below (row message).fields h)
