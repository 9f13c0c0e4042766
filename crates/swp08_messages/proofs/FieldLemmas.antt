-- What holds of one field and its byte.
use Rattle.std.proofs.Common.{◌≡◌, ℕ, ◌<◌, Bool, true, false, Option, Some, None, refl, arith}
use Rattle.swp08_messages.specs.declared.field.Field.{Field}
use Rattle.swp08_messages.specs.declared.field.Field.TheVariants.{MatrixLevel, Matrix, DestHigh, CrosspointHigh, DestLow, SourceLow, NameSize, NumberHigh, NumberLow, ProtectHigh, DeviceLow, SpareLow, Details, Salvo, Operation, Status, Index, EntryValidity, ExtMatrix, ExtLevel, ExtSourceHigh, ExtSourceLow}
use Rattle.swp08_messages.specs.declared.go_status.GoStatus.{GoStatus}
use Rattle.swp08_messages.specs.declared.go_status.GoStatus.TheVariants.{Made, Cleared, Empty, Protected, NoTie}
use Rattle.swp08_messages.specs.declared.validity.Validity.{Validity}
use Rattle.swp08_messages.specs.declared.validity.Validity.TheVariants.{More, Last, NoEntry}
use Rattle.swp08_messages.specs.Field.{flag, status_number, validity_number, number_of, IsSource, ext_number_of, IsExtSource, byte_of, looked_at, HasRoom}
use Rattle.swp08_messages.specs.ReadingInside.{limit_of}

pub number_of-below : (source : Option ℕ) → IsSource source → number_of source < 1024
number_of-below None h = omega arith
number_of-below (Some source) h = omega arith

pub ext_number_of-below : (source : Option ℕ) → IsExtSource source → ext_number_of source < 65536
ext_number_of-below None h = omega arith
ext_number_of-below (Some source) h = omega arith

-- The numbers of what is counted are below the count.

flag-below : (holds : Bool) → flag holds < 2
flag-below true = omega arith
flag-below false = omega arith

status_number-below : (status : GoStatus) → status_number status < 5
status_number-below Made = omega arith
status_number-below Cleared = omega arith
status_number-below Empty = omega arith
status_number-below Protected = omega arith
status_number-below NoTie = omega arith

validity_number-below : (validity : Validity) → validity_number validity < 3
validity_number-below More = omega arith
validity_number-below Last = omega arith
validity_number-below NoEntry = omega arith

-- A byte that a field is spelled with is below its limit.
pub below-limit_of : (field : Field) (byte : ℕ) → byte < 256 → HasRoom field → looked_at field byte ≡ byte_of field → byte < limit_of field
below-limit_of (MatrixLevel matrix level) byte h room e = h
below-limit_of (DestHigh dest) byte h room e = h
below-limit_of (CrosspointHigh dest source) byte h room e = h
below-limit_of (DestLow dest) byte h room e = omega arith
below-limit_of (SourceLow source) byte h room e = omega arith
below-limit_of (Matrix matrix) byte h room e = h
below-limit_of (NameSize size) byte h room e = omega (arith, room, e)
below-limit_of (NumberHigh number) byte h room e = h
below-limit_of (NumberLow number) byte h room e = h
below-limit_of (ProtectHigh dest device) byte h room e = h
below-limit_of (DeviceLow device) byte h room e = omega arith
below-limit_of SpareLow byte h room e = omega (arith, e)
below-limit_of (Details owned) byte h room e = omega (arith, e, flag-below owned)
below-limit_of (Salvo salvo) byte h room e = omega (arith, room, e)
below-limit_of (Operation clear) byte h room e = omega (arith, e, flag-below clear)
below-limit_of (Status status) byte h room e = omega (arith, e, status_number-below status)
below-limit_of (Index index) byte h room e = h
below-limit_of (EntryValidity validity) byte h room e = omega (arith, e, validity_number-below validity)
below-limit_of (ExtMatrix matrix) byte h room e = omega (arith, room, e)
below-limit_of (ExtLevel level) byte h room e = omega (arith, room, e)
below-limit_of (ExtSourceHigh source) byte h room e = h
below-limit_of (ExtSourceLow source) byte h room e = h

-- A field's byte has none of the bits that aren't looked at.
pub looked_at-byte_of : (field : Field) → HasRoom field → looked_at field (byte_of field) ≡ byte_of field
looked_at-byte_of (MatrixLevel matrix level) room = refl
looked_at-byte_of (DestHigh dest) room = omega arith
looked_at-byte_of (CrosspointHigh dest source) room = omega (arith, room.0, number_of-below source room.1)
looked_at-byte_of (DestLow dest) room = refl
looked_at-byte_of (SourceLow source) room = refl
looked_at-byte_of (Matrix matrix) room = omega arith
looked_at-byte_of (NameSize size) room = refl
looked_at-byte_of (NumberHigh number) room = refl
looked_at-byte_of (NumberLow number) room = refl
looked_at-byte_of (ProtectHigh dest device) room = omega (arith, room.0, room.1)
looked_at-byte_of (DeviceLow device) room = refl
looked_at-byte_of SpareLow room = refl
looked_at-byte_of (Details owned) room = refl
looked_at-byte_of (Salvo salvo) room = refl
looked_at-byte_of (Operation clear) room = refl
looked_at-byte_of (Status status) room = refl
looked_at-byte_of (Index index) room = refl
looked_at-byte_of (EntryValidity validity) room = refl
looked_at-byte_of (ExtMatrix matrix) room = refl
looked_at-byte_of (ExtLevel level) room = refl
looked_at-byte_of (ExtSourceHigh source) room = refl
looked_at-byte_of (ExtSourceLow source) room = refl

pub byte_of-below : (field : Field) → HasRoom field → byte_of field < 256
byte_of-below (MatrixLevel matrix level) room = omega (arith, room.0, room.1)
byte_of-below (DestHigh dest) room = omega arith
byte_of-below (CrosspointHigh dest source) room = omega (arith, room.0, number_of-below source room.1)
byte_of-below (DestLow dest) room = omega arith
byte_of-below (SourceLow source) room = omega arith
byte_of-below (Matrix matrix) room = omega (arith, room)
byte_of-below (NameSize size) room = omega (arith, room)
byte_of-below (NumberHigh number) room = omega (arith, room)
byte_of-below (NumberLow number) room = omega arith
byte_of-below (ProtectHigh dest device) room = omega (arith, room.0, room.1)
byte_of-below (DeviceLow device) room = omega arith
byte_of-below SpareLow room = omega arith
byte_of-below (Details owned) room = omega (arith, flag-below owned)
byte_of-below (Salvo salvo) room = omega (arith, room)
byte_of-below (Operation clear) room = omega (arith, flag-below clear)
byte_of-below (Status status) room = omega (arith, status_number-below status)
byte_of-below (Index index) room = omega (arith, room)
byte_of-below (EntryValidity validity) room = omega (arith, validity_number-below validity)
byte_of-below (ExtMatrix matrix) room = omega (arith, room)
byte_of-below (ExtLevel level) room = omega (arith, room)
byte_of-below (ExtSourceHigh source) room = omega (arith, ext_number_of-below source room)
byte_of-below (ExtSourceLow source) room = omega arith

pub limit_of-positive : (field : Field) → 0 < limit_of field
limit_of-positive (MatrixLevel matrix level) = omega arith
limit_of-positive (DestHigh dest) = omega arith
limit_of-positive (CrosspointHigh dest source) = omega arith
limit_of-positive (DestLow dest) = omega arith
limit_of-positive (SourceLow source) = omega arith
limit_of-positive (Matrix matrix) = omega arith
limit_of-positive (NameSize size) = omega arith
limit_of-positive (NumberHigh number) = omega arith
limit_of-positive (NumberLow number) = omega arith
limit_of-positive (ProtectHigh dest device) = omega arith
limit_of-positive (DeviceLow device) = omega arith
limit_of-positive SpareLow = omega arith
limit_of-positive (Details owned) = omega arith
limit_of-positive (Salvo salvo) = omega arith
limit_of-positive (Operation clear) = omega arith
limit_of-positive (Status status) = omega arith
limit_of-positive (Index index) = omega arith
limit_of-positive (EntryValidity validity) = omega arith
limit_of-positive (ExtMatrix matrix) = omega arith
limit_of-positive (ExtLevel level) = omega arith
limit_of-positive (ExtSourceHigh source) = omega arith
limit_of-positive (ExtSourceLow source) = omega arith
