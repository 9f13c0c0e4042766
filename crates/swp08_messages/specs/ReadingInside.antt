-- How DATA is read in the crate: a message by its bytes as they come, whose row they are then held to.
use Rattle.std.specs.Prelude.{◌≡◌, ℕ, ◌+◌, ◌*◌, ◌/◌, ◌%◌, ◌<◌, ◌==◌, nat_lt, Bool, if◌then◌else◌, Option, Some, None}
use Rattle.std.specs.Prelude.{List, [], ◌∷◌, ◌++◌, length, slice_index}
use Rattle.swp08_messages.specs.declared.fault.ReadFault.{ReadFault}
use Rattle.swp08_messages.specs.declared.fault.ReadFault.TheVariants.{WrongLength, BadField}
use Rattle.swp08_messages.specs.declared.field.Field.{Field}
use Rattle.swp08_messages.specs.declared.field.Field.TheVariants.{MatrixLevel, Matrix, DestHigh, CrosspointHigh}
use Rattle.swp08_messages.specs.declared.field.Field.TheVariants.{DestLow, SourceLow, NameSize, NumberHigh, NumberLow}
use Rattle.swp08_messages.specs.declared.field.Field.TheVariants.{ProtectHigh, DeviceLow, SpareLow, Details}
use Rattle.swp08_messages.specs.declared.field.Field.TheVariants.{Salvo, Operation, Status, Index, EntryValidity}
use Rattle.swp08_messages.specs.declared.field.Field.TheVariants.{ExtMatrix, ExtLevel, ExtSourceHigh, ExtSourceLow}
use Rattle.swp08_messages.specs.declared.go_status.GoStatus.{GoStatus}
use Rattle.swp08_messages.specs.declared.go_status.GoStatus.TheVariants.{Made, Cleared, Empty, Protected, NoTie}
use Rattle.swp08_messages.specs.declared.validity.Validity.{Validity}
use Rattle.swp08_messages.specs.declared.validity.Validity.TheVariants.{More, Last, NoEntry}
use Rattle.swp08_messages.specs.declared.point.Point.{Point}
use Rattle.swp08_messages.specs.declared.message.Message.{Message}
use Rattle.swp08_messages.specs.declared.message.Message.TheVariants.{Interrogate, Connect, Tally, Connected, DumpAsk}
use Rattle.swp08_messages.specs.declared.message.Message.TheVariants.{ProtectAsk, ProtectTally, ProtectConnect}
use Rattle.swp08_messages.specs.declared.message.Message.TheVariants.{ProtectConnected, ProtectDisconnect}
use Rattle.swp08_messages.specs.declared.message.Message.TheVariants.{ProtectDisconnected, SourceNamesAsk, SourceNameAsk}
use Rattle.swp08_messages.specs.declared.message.Message.TheVariants.{DestNamesAsk, DestNameAsk}
use Rattle.swp08_messages.specs.declared.message.Message.TheVariants.{Store, Go, Stored, GoDone, EntryAsk, Entry}
use Rattle.swp08_messages.specs.declared.message.Message.TheVariants.{ExtInterrogate, ExtConnect, ExtTally, ExtConnected}
use Rattle.swp08_messages.specs.Field.{levels, part, parked, ext_parked, sizes, whole_part, salvos}

-- the least number that is no byte of a field
abbrev pub limit_of : Field → ℕ
limit_of (MatrixLevel matrix level) = 256
limit_of (Matrix matrix) = 256
limit_of (DestHigh dest) = 256
limit_of (CrosspointHigh dest source) = 256
limit_of (DestLow dest) = part
limit_of (SourceLow source) = part
limit_of (NameSize size) = sizes
limit_of (NumberHigh number) = 256
limit_of (NumberLow number) = 256
limit_of (ProtectHigh dest device) = 256
limit_of (DeviceLow device) = part
limit_of SpareLow = part
limit_of (Details owned) = 2
limit_of (Salvo salvo) = salvos
limit_of (Operation clear) = 2
limit_of (Status status) = 5
limit_of (Index index) = 256
limit_of (EntryValidity validity) = 3
limit_of (ExtMatrix matrix) = levels
limit_of (ExtLevel level) = levels
limit_of (ExtSourceHigh source) = 256
limit_of (ExtSourceLow source) = 256

-- the destination that these bytes give
abbrev pub point_of : ℕ → ℕ → ℕ → Point
point_of place high low =
    record { matrix = place / 16; level = place % 16; dest = high / 16 % 8 * part + low }

-- the second number of a multiplier that these bytes give, a source's or a device's
abbrev pub second_of : ℕ → ℕ → ℕ
second_of high low = high % 8 * part + low

-- the source that these bytes give
abbrev pub source_of : ℕ → ℕ → Option ℕ
source_of high low = if second_of high low == parked then None else Some (second_of high low)

-- the number that two whole bytes give, and the source in the extended commands
abbrev pub wide_of : ℕ → ℕ → ℕ
wide_of high low = high * whole_part + low

abbrev pub ext_source_of : ℕ → ℕ → Option ℕ
ext_source_of high low = if wide_of high low == ext_parked then None else Some (wide_of high low)

-- what became of a salvo, and whether it has an entry at a place, by the byte that says it
abbrev pub status_of : ℕ → GoStatus
status_of number =
    if number == 0 then Made
    else if number == 1 then Cleared
    else if number == 2 then Empty
    else if number == 3 then Protected
    else NoTie

abbrev pub validity_of : ℕ → Validity
validity_of number = if number == 0 then More else if number == 1 then Last else NoEntry

-- the destination and the source that the bytes behind a command give, a missing byte taken as 0
abbrev pub point_in : List ℕ → Point
point_in bytes = point_of (slice_index bytes 0) (slice_index bytes 1) (slice_index bytes 2)

abbrev pub source_in : List ℕ → Option ℕ
source_in bytes = source_of (slice_index bytes 1) (slice_index bytes 3)

-- the device that they give
abbrev pub device_in : List ℕ → ℕ
device_in bytes = second_of (slice_index bytes 1) (slice_index bytes 3)

-- whether a device protects a destination, which destination it is, and which device, where the bytes tell it
abbrev pub owned_in : List ℕ → Bool
owned_in bytes = slice_index bytes 1 == 1

abbrev pub told_point_in : List ℕ → Point
told_point_in bytes = point_of (slice_index bytes 0) (slice_index bytes 2) (slice_index bytes 3)

abbrev pub told_device_in : List ℕ → ℕ
told_device_in bytes = second_of (slice_index bytes 2) (slice_index bytes 4)

-- the matrix, the level, the size of a name and the number that they give, in the same way
abbrev pub matrix_in : List ℕ → ℕ
matrix_in bytes = slice_index bytes 0 / 16

abbrev pub level_in : List ℕ → ℕ
level_in bytes = slice_index bytes 0 % 16

abbrev pub size_in : List ℕ → ℕ
size_in bytes = slice_index bytes 1

abbrev pub wide_in : List ℕ → ℕ
wide_in bytes = wide_of (slice_index bytes 2) (slice_index bytes 3)

-- the destination and the source that they give in the extended commands
abbrev pub ext_point_in : List ℕ → Point
ext_point_in bytes =
    record { matrix = slice_index bytes 0; level = slice_index bytes 1; dest = wide_in bytes }

abbrev pub ext_source_in : List ℕ → Option ℕ
ext_source_in bytes = ext_source_of (slice_index bytes 4) (slice_index bytes 5)

-- Bytes behind a command are those of a destination: three, the last of them a low part.
abbrev pub AreDestination : List ℕ → Type 0
AreDestination bytes = (length bytes ≡ 3) × (slice_index bytes 2 < part)

-- They are those of a destination and the source at it: four, the last two of them low parts.
abbrev pub AreCrosspoint : List ℕ → Type 0
AreCrosspoint bytes =
    (length bytes ≡ 4) × (slice_index bytes 2 < part) × (slice_index bytes 3 < part)

-- A message asks for the source at a destination, or that the destination carry one.
abbrev pub AsksOfCrosspoint : Message → Type 0
AsksOfCrosspoint (Interrogate at) = Unit {0}
AsksOfCrosspoint (Connect at source) = Unit {0}
AsksOfCrosspoint message = ⊥

-- the message of a command of crosspoints by the bytes behind it, `None` where none of these messages has the command
abbrev pub crosspoint_message : ℕ → List ℕ → Option Message
crosspoint_message command bytes =
    if command == 1 then Some (Interrogate (point_in bytes))
    else if command == 2 then Some (Connect (point_in bytes) (source_in bytes))
    else if command == 3 then Some (Tally (point_in bytes) (source_in bytes))
    else if command == 4 then Some (Connected (point_in bytes) (source_in bytes))
    else None

-- the same of a command of protects
abbrev pub protect_message : ℕ → List ℕ → Option Message
protect_message command bytes =
    if command == 10 then Some (ProtectAsk (point_in bytes))
    else if command == 11
    then Some (ProtectTally (told_point_in bytes) (owned_in bytes) (told_device_in bytes))
    else if command == 12 then Some (ProtectConnect (point_in bytes) (device_in bytes))
    else if command == 13
    then Some (ProtectConnected (told_point_in bytes) (owned_in bytes) (told_device_in bytes))
    else if command == 14 then Some (ProtectDisconnect (point_in bytes) (device_in bytes))
    else if command == 15
    then Some (ProtectDisconnected (told_point_in bytes) (owned_in bytes) (told_device_in bytes))
    else None

-- the same of a dump's command
abbrev pub dump_message : ℕ → List ℕ → Option Message
dump_message command bytes =
    if command == 21 then Some (DumpAsk (matrix_in bytes) (level_in bytes)) else None

-- the same of a command of names
abbrev pub names_message : ℕ → List ℕ → Option Message
names_message command bytes =
    if command == 100 then Some (SourceNamesAsk (matrix_in bytes) (level_in bytes) (size_in bytes))
    else if command == 101
    then Some (SourceNameAsk (matrix_in bytes) (level_in bytes) (size_in bytes) (wide_in bytes))
    else if command == 102 then Some (DestNamesAsk (matrix_in bytes) (size_in bytes))
    else if command == 103 then Some (DestNameAsk (matrix_in bytes) (size_in bytes) (wide_in bytes))
    else None

-- the entry that they give
abbrev pub entry_in : List ℕ → Message
entry_in bytes =
    Entry (point_in bytes) (source_in bytes) (slice_index bytes 4) (slice_index bytes 5)
    (validity_of (slice_index bytes 6))

-- the same of a command of salvos
abbrev pub salvo_message : ℕ → List ℕ → Option Message
salvo_message command bytes =
    if command == 120
    then Some (Store (point_in bytes) (source_in bytes) (slice_index bytes 4))
    else if command == 121 then Some (Go (slice_index bytes 0 == 1) (slice_index bytes 1))
    else if command == 122
    then Some (Stored (point_in bytes) (source_in bytes) (slice_index bytes 4))
    else if command == 123
    then Some (GoDone (status_of (slice_index bytes 0)) (slice_index bytes 1))
    else if command == 124 then Some (EntryAsk (slice_index bytes 0) (slice_index bytes 1))
    else if command == 125 then Some (entry_in bytes)
    else None

-- the same of an extended command
abbrev pub extended_message : ℕ → List ℕ → Option Message
extended_message command bytes =
    if command == 129 then Some (ExtInterrogate (ext_point_in bytes))
    else if command == 130 then Some (ExtConnect (ext_point_in bytes) (ext_source_in bytes))
    else if command == 131 then Some (ExtTally (ext_point_in bytes) (ext_source_in bytes))
    else if command == 132 then Some (ExtConnected (ext_point_in bytes) (ext_source_in bytes))
    else None

-- the first of two messages that is there
abbrev pub first_of : Option Message → Option Message → Option Message
first_of None other = other
first_of (Some message) other = Some message

-- the message of a command by the bytes behind it, `None` where no message has the command
abbrev pub message_of : ℕ → List ℕ → Option Message
message_of command bytes =
    first_of (crosspoint_message command bytes)
    (first_of (protect_message command bytes)
    (first_of (dump_message command bytes)
    (first_of (names_message command bytes)
    (first_of (salvo_message command bytes) (extended_message command bytes)))))

-- the first byte that isn't below its field's limit, the first of these bytes standing at `place`
abbrev pub first_bad : ℕ → List Field → List ℕ → Option ReadFault
first_bad place [] bytes = None
first_bad place (field ∷ fields) [] = None
first_bad place (field ∷ fields) (byte ∷ bytes) =
    if nat_lt byte (limit_of field) then first_bad (place + 1) fields bytes
    else Some (BadField place byte)

-- the fields that so many bytes behind a command are held to: the spare ones too, where there are more bytes than fields
abbrev pub held_to : List Field → List Field → ℕ → List Field
held_to fields spare count = if count == length fields then fields else fields ++ spare

-- Bytes behind a command are of another number than the fields, or one isn't below its field's limit.
abbrev pub fault_of : List Field → List Field → List ℕ → Option ReadFault
fault_of fields spare bytes =
    if length bytes == length (held_to fields spare (length bytes))
    then first_bad 1 (held_to fields spare (length bytes)) bytes
    else Some (WrongLength (1 + length bytes) (1 + length fields))
