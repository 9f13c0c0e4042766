-- What is wanted of the fields of a row, where a message is written or held to it.
use Rattle.std.specs.Prelude.{ℕ, ◌+◌, ◌%◌, ◌&&◌, nat_lt, Bool, true, if◌then◌else◌, Option, Some, None}
use Rattle.std.specs.Prelude.{List, [], ◌∷◌}
use Rattle.swp08_messages.specs.declared.fault.ReadFault.{ReadFault}
use Rattle.swp08_messages.specs.declared.fault.ReadFault.TheVariants.{BadField}
use Rattle.swp08_messages.specs.declared.field.Field.{Field}
use Rattle.swp08_messages.specs.declared.field.Field.TheVariants.{MatrixLevel, Matrix, DestHigh, CrosspointHigh}
use Rattle.swp08_messages.specs.declared.field.Field.TheVariants.{DestLow, SourceLow, NameSize, NumberHigh, NumberLow}
use Rattle.swp08_messages.specs.declared.field.Field.TheVariants.{ProtectHigh, DeviceLow, SpareLow, Details}
use Rattle.swp08_messages.specs.declared.field.Field.TheVariants.{Salvo, Operation, Status, Index, EntryValidity}
use Rattle.swp08_messages.specs.declared.field.Field.TheVariants.{ExtMatrix, ExtLevel, ExtSourceHigh, ExtSourceLow}
use Rattle.swp08_messages.specs.Field.{levels, dests, parked, ext_parked, sizes, wide_numbers, devices, salvos}
use Rattle.swp08_messages.specs.Field.{indexes, whole_part, byte_of}

-- whether a source is parked, or below the number that says so
abbrev pub is_source : Option ℕ → Bool
is_source None = true
is_source (Some source) = nat_lt source parked

-- the same in the extended commands
abbrev pub is_ext_source : Option ℕ → Bool
is_ext_source None = true
is_ext_source (Some source) = nat_lt source ext_parked

-- whether the values of a field are in their ranges
abbrev pub has_room : Field → Bool
has_room (MatrixLevel matrix level) = nat_lt matrix levels && nat_lt level levels
has_room (Matrix matrix) = nat_lt matrix levels
has_room (DestHigh dest) = nat_lt dest dests
has_room (CrosspointHigh dest source) = nat_lt dest dests && is_source source
has_room (DestLow dest) = nat_lt dest dests
has_room (SourceLow source) = is_source source
has_room (NameSize size) = nat_lt size sizes
has_room (NumberHigh number) = nat_lt number wide_numbers
has_room (NumberLow number) = nat_lt number wide_numbers
has_room (ProtectHigh dest device) = nat_lt dest dests && nat_lt device devices
has_room (DeviceLow device) = nat_lt device devices
has_room SpareLow = true
has_room (Details owned) = true
has_room (Salvo salvo) = nat_lt salvo salvos
has_room (Operation clear) = true
has_room (Status status) = true
has_room (Index index) = nat_lt index indexes
has_room (EntryValidity validity) = true
has_room (ExtMatrix matrix) = nat_lt matrix levels
has_room (ExtLevel level) = nat_lt level levels
has_room (ExtSourceHigh source) = is_ext_source source
has_room (ExtSourceLow source) = is_ext_source source

-- the eight low bits of a field's byte
abbrev pub written : Field → ℕ
written field = byte_of field % whole_part

-- whether all of these hold
abbrev pub all_hold : List Bool → Bool
all_hold [] = true
all_hold (one ∷ others) = one && all_hold others

-- the first byte that isn't below its limit, the first of these bytes standing at `place`
abbrev pub first_over : ℕ → List ℕ → List ℕ → Option ReadFault
first_over place [] bytes = None
first_over place (limit ∷ limits) [] = None
first_over place (limit ∷ limits) (byte ∷ bytes) =
    if nat_lt byte limit then first_over (place + 1) limits bytes
    else Some (BadField place byte)
