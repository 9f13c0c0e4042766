-- One byte behind a command: how it is written, what of it is looked at, and which values it has room for.
use Rattle.std.specs.Prelude.{ℕ, ◌+◌, ◌*◌, ◌/◌, ◌%◌, ◌<◌, Bool, if◌then◌else◌, Option, Some, None}
use Rattle.swp08_messages.specs.declared.field.Field.{Field}
use Rattle.swp08_messages.specs.declared.field.Field.TheVariants.{MatrixLevel, Matrix, DestHigh, CrosspointHigh}
use Rattle.swp08_messages.specs.declared.field.Field.TheVariants.{DestLow, SourceLow, NameSize, NumberHigh, NumberLow}
use Rattle.swp08_messages.specs.declared.field.Field.TheVariants.{ProtectHigh, DeviceLow, SpareLow, Details}
use Rattle.swp08_messages.specs.declared.field.Field.TheVariants.{Salvo, Operation, Status, Index, EntryValidity}
use Rattle.swp08_messages.specs.declared.field.Field.TheVariants.{ExtMatrix, ExtLevel, ExtSourceHigh, ExtSourceLow}
use Rattle.swp08_messages.specs.declared.go_status.GoStatus.{GoStatus}
use Rattle.swp08_messages.specs.declared.go_status.GoStatus.TheVariants.{Made, Cleared, Empty, Protected, NoTie}
use Rattle.swp08_messages.specs.declared.validity.Validity.{Validity}
use Rattle.swp08_messages.specs.declared.validity.Validity.TheVariants.{More, Last, NoEntry}

-- matrices, and the levels of each, are numbered from 0 and below this [SW-P-08]
abbrev pub levels : ℕ
levels = 16

-- destinations are numbered from 0 and below this, but for those of the extended commands [SW-P-08]
abbrev pub dests : ℕ
dests = 1024

-- the number of a source that says 'parked'; sources are numbered from 0 and below it [profile]
abbrev pub parked : ℕ
parked = 1023

-- the same in the extended commands [profile]
abbrev pub ext_parked : ℕ
ext_parked = 65535

-- a number is sent in two parts: its high part is the number DIV this, its low part the number MOD this [SW-P-08]
abbrev pub part : ℕ
part = 128

-- the sizes of a name are numbered from 0 and below this [profile]
abbrev pub sizes : ℕ
sizes = 3

-- a number in two whole bytes is sent as the number DIV this and the number MOD this [profile]
abbrev pub whole_part : ℕ
whole_part = 256

-- a number in two whole bytes is below this [profile]
abbrev pub wide_numbers : ℕ
wide_numbers = 65536

-- devices are numbered from 0 and below this [profile]
abbrev pub devices : ℕ
devices = 1024

-- salvos are numbered from 0 and below this [profile]
abbrev pub salvos : ℕ
salvos = 128

-- the places of a salvo are numbered from 0 and below this [profile]
abbrev pub indexes : ℕ
indexes = 256

-- the number that stands for a source [profile]
abbrev pub number_of : Option ℕ → ℕ
number_of None = parked
number_of (Some source) = source

-- A source is parked, or below the number that says so. [profile]
abbrev pub IsSource : Option ℕ → Type 0
IsSource None = Unit {0}
IsSource (Some source) = source < parked

-- The same in the extended commands.

abbrev pub ext_number_of : Option ℕ → ℕ
ext_number_of None = ext_parked
ext_number_of (Some source) = source

abbrev pub IsExtSource : Option ℕ → Type 0
IsExtSource None = Unit {0}
IsExtSource (Some source) = source < ext_parked

-- the number that stands for a yes or a no [profile]
abbrev pub flag : Bool → ℕ
flag holds = if holds then 1 else 0

-- the number that stands for what became of a salvo [profile]
abbrev pub status_number : GoStatus → ℕ
status_number Made = 0
status_number Cleared = 1
status_number Empty = 2
status_number Protected = 3
status_number NoTie = 4

-- the number that stands for whether a salvo has an entry at a place, and more behind it [profile]
abbrev pub validity_number : Validity → ℕ
validity_number More = 0
validity_number Last = 1
validity_number NoEntry = 2

-- a field's byte as it is written: bits that aren't looked at are 0 [profile]
abbrev pub byte_of : Field → ℕ
byte_of (MatrixLevel matrix level) = matrix * 16 + level
byte_of (Matrix matrix) = matrix * 16
byte_of (DestHigh dest) = dest / part * 16
byte_of (CrosspointHigh dest source) = dest / part * 16 + number_of source / part
byte_of (DestLow dest) = dest % part
byte_of (SourceLow source) = number_of source % part
byte_of (NameSize size) = size
byte_of (NumberHigh number) = number / whole_part
byte_of (NumberLow number) = number % whole_part
byte_of (ProtectHigh dest device) = dest / part * 16 + device / part
byte_of (DeviceLow device) = device % part
byte_of SpareLow = 0
byte_of (Details owned) = flag owned
byte_of (Salvo salvo) = salvo
byte_of (Operation clear) = flag clear
byte_of (Status status) = status_number status
byte_of (Index index) = index
byte_of (EntryValidity validity) = validity_number validity
byte_of (ExtMatrix matrix) = matrix
byte_of (ExtLevel level) = level
byte_of (ExtSourceHigh source) = ext_number_of source / whole_part
byte_of (ExtSourceLow source) = ext_number_of source % whole_part

-- A byte with the bits made 0 that aren't looked at. Of a multiplier these are bits 3 and 7 and, of a destination
-- alone, bits 0 to 2. Of a matrix with no level they are the bits of a level, 0 to 3. Of a low part that isn't kept they
-- are its bits, 0 to 6. Of any other byte all bits are looked at. [profile]
abbrev pub looked_at : Field → ℕ → ℕ
looked_at (DestHigh dest) byte = byte / 16 % 8 * 16
looked_at (CrosspointHigh dest source) byte = byte / 16 % 8 * 16 + byte % 8
looked_at (ProtectHigh dest device) byte = byte / 16 % 8 * 16 + byte % 8
looked_at (Matrix matrix) byte = byte / 16 * 16
looked_at SpareLow byte = byte / part * part
looked_at (MatrixLevel matrix level) byte = byte
looked_at (DestLow dest) byte = byte
looked_at (SourceLow source) byte = byte
looked_at (NameSize size) byte = byte
looked_at (NumberHigh number) byte = byte
looked_at (NumberLow number) byte = byte
looked_at (DeviceLow device) byte = byte
looked_at (Details owned) byte = byte
looked_at (Salvo salvo) byte = byte
looked_at (Operation clear) byte = byte
looked_at (Status status) byte = byte
looked_at (Index index) byte = byte
looked_at (EntryValidity validity) byte = byte
looked_at (ExtMatrix matrix) byte = byte
looked_at (ExtLevel level) byte = byte
looked_at (ExtSourceHigh source) byte = byte
looked_at (ExtSourceLow source) byte = byte

-- The values of a field are in their ranges. [profile]
abbrev pub HasRoom : Field → Type 0
HasRoom (MatrixLevel matrix level) = (matrix < levels) × (level < levels)
HasRoom (Matrix matrix) = matrix < levels
HasRoom (DestHigh dest) = dest < dests
HasRoom (CrosspointHigh dest source) = (dest < dests) × IsSource source
HasRoom (DestLow dest) = dest < dests
HasRoom (SourceLow source) = IsSource source
HasRoom (NameSize size) = size < sizes
HasRoom (NumberHigh number) = number < wide_numbers
HasRoom (NumberLow number) = number < wide_numbers
HasRoom (ProtectHigh dest device) = (dest < dests) × (device < devices)
HasRoom (DeviceLow device) = device < devices
HasRoom SpareLow = Unit {0}
HasRoom (Details owned) = Unit {0}
HasRoom (Salvo salvo) = salvo < salvos
HasRoom (Operation clear) = Unit {0}
HasRoom (Status status) = Unit {0}
HasRoom (Index index) = index < indexes
HasRoom (EntryValidity validity) = Unit {0}
HasRoom (ExtMatrix matrix) = matrix < levels
HasRoom (ExtLevel level) = level < levels
HasRoom (ExtSourceHigh source) = IsExtSource source
HasRoom (ExtSourceLow source) = IsExtSource source
