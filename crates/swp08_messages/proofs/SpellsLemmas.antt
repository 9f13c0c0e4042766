-- DATA spells a message, or none, whatever its bytes.
use Rattle.std.proofs.Common.{◌≡◌, ℕ, ◌⊎◌, inl, inr, List, [], ◌∷◌, ◌++◌, length, Option, Some, None, refl, sym, ap, ◌∙◌, subst, arith}
use Rattle.std.specs.List.{AllByRecursion}
use Rattle.std.proofs.Math.Decide.{dec_lt, ℕ_discrete}
use Rattle.swp08_messages.specs.declared.field.Field.{Field}
use Rattle.swp08_messages.specs.declared.field.Field.TheVariants.{MatrixLevel, Matrix, DestHigh, CrosspointHigh, DestLow, SourceLow, NameSize, NumberHigh, NumberLow, ProtectHigh, DeviceLow, SpareLow, Details, Salvo, Operation, Status, Index, EntryValidity, ExtMatrix, ExtLevel, ExtSourceHigh, ExtSourceLow}
use Rattle.swp08_messages.specs.declared.message.Message.{Message}
use Rattle.swp08_messages.specs.Field.{parked, ext_parked, IsSource, IsExtSource, HasRoom}
use Rattle.swp08_messages.specs.Row.{row}
use Rattle.swp08_messages.specs.Text.{InRange}
use Rattle.swp08_messages.specs.Spelled.{SpellFields, SpellRow, Spells}
use Rattle.swp08_messages.specs.ReadingInside.{message_of}
use Rattle.swp08_messages.proofs.ReadingLemmas.{message_of-reads, message_of-Spells}

-- Two claims hold, or one doesn't.
both : {P Q : Type 0} → Dec P → Dec Q → Dec (P × Q)
both (yes p) (yes q) = yes (p, q)
both (yes p) (no not) = no (λ pq. not pq.1)
both (no not) q = no (λ pq. not pq.0)

-- One of two claims holds, or neither does.
either : {P Q : Type 0} → Dec P → Dec Q → Dec (P ⊎ Q)
either (yes p) q = yes (inl p)
either (no not) (yes q) = yes (inr q)
either (no not) (no neither) = no (λ pq. elim pq [ inl p ↦ not p | inr q ↦ neither q ])

-- The values of a field are in their ranges, or not, and so those of fields.

source_in_range : (source : Option ℕ) → Dec (IsSource source)
source_in_range None = yes tt
source_in_range (Some source) = dec_lt source parked

ext_source_in_range : (source : Option ℕ) → Dec (IsExtSource source)
ext_source_in_range None = yes tt
ext_source_in_range (Some source) = dec_lt source ext_parked

has_room : (field : Field) → Dec (HasRoom field)
has_room (MatrixLevel matrix level) = both (dec_lt _ _) (dec_lt _ _)
has_room (Matrix matrix) = dec_lt _ _
has_room (DestHigh dest) = dec_lt _ _
has_room (CrosspointHigh dest source) = both (dec_lt _ _) (source_in_range source)
has_room (DestLow dest) = dec_lt _ _
has_room (SourceLow source) = source_in_range source
has_room (NameSize size) = dec_lt _ _
has_room (NumberHigh number) = dec_lt _ _
has_room (NumberLow number) = dec_lt _ _
has_room (ProtectHigh dest device) = both (dec_lt _ _) (dec_lt _ _)
has_room (DeviceLow device) = dec_lt _ _
has_room SpareLow = yes tt
has_room (Details owned) = yes tt
has_room (Salvo salvo) = dec_lt _ _
has_room (Operation clear) = yes tt
has_room (Status status) = yes tt
has_room (Index index) = dec_lt _ _
has_room (EntryValidity validity) = yes tt
has_room (ExtMatrix matrix) = dec_lt _ _
has_room (ExtLevel level) = dec_lt _ _
has_room (ExtSourceHigh source) = ext_source_in_range source
has_room (ExtSourceLow source) = ext_source_in_range source

have_room : (fields : List Field) → Dec (AllByRecursion HasRoom fields)
have_room [] = yes tt
have_room (field ∷ fields) = both (has_room field) (have_room fields)

-- Bytes are those of these fields, or not.
spell : (bytes : List ℕ) (fields : List Field) → Dec (SpellFields bytes fields)
spell [] [] = yes tt
spell [] (field ∷ fields) = no (λ so. so)
spell (byte ∷ bytes) [] = no (λ so. so)
spell (byte ∷ bytes) (field ∷ fields) = both (ℕ_discrete _ _) (spell bytes fields)

-- A message is in its ranges and these bytes are those of its row.
abbrev IsSpelled : List ℕ → Message → Type 0
IsSpelled bytes message = InRange message × SpellRow bytes (row message)

-- It is so of a message, or not.
spelled : (bytes : List ℕ) (message : Message) → Dec (IsSpelled bytes message)
spelled bytes message =
    both (have_room (row message).fields) (either (spell bytes (row message).fields) (spell bytes ((row message).fields ++ (row message).spare)))

-- DATA spells a message, or none.
pub spells : (bytes : List ℕ) → ((message : Message) × Spells bytes message) ⊎ ((message : Message) → Spells bytes message → ⊥)
spells [] = inr (λ message so. absurd (omega (arith, ap (length {A = ℕ}) so.parts)))
spells (command ∷ bytes) = by (message_of command bytes) refl where
  by : (read : Option Message) → message_of command bytes ≡ read
      → ((message : Message) × Spells (command ∷ bytes) message) ⊎ ((message : Message) → Spells (command ∷ bytes) message → ⊥)
  by None is = inr (λ message so. let no : Some message ≡ None = sym (message_of-Spells command bytes message so) ∙ is in cc)
  by (Some message) is = elim (spelled bytes message) [
    | (yes so) ↦ inl (
      message,
      record { in_range = so.0; behind = bytes; parts = ap (λ (command : ℕ). command ∷ bytes) (sym (message_of-reads command bytes message is).command_is); fields = so.1 },
    )
    | (no not) ↦ inr (λ other so.
        let some : Some other ≡ Some message = sym (message_of-Spells command bytes other so) ∙ is in
        let one : other ≡ message = cc in
        let parts = so.parts in
        let behind_is : bytes ≡ so.behind = cc in
        let Behind : List ℕ → Type 0 = λ bytes. SpellRow bytes (row other) in
        let So : Message → Type 0 = λ message. IsSpelled bytes message in
        not (subst So one (so.in_range, subst Behind (sym behind_is) so.fields)))
  ]
