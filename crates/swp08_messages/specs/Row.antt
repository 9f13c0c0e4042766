-- Each message by its row: the command, what the message is for, and what each byte behind the command says.
use Rattle.std.specs.Prelude.{ℕ, Bool, List, [], ◌∷◌, ◌++◌, Option}
use Rattle.swp08_messages.specs.declared.field.Field.{Field}
use Rattle.swp08_messages.specs.declared.field.Field.TheVariants.{MatrixLevel, Matrix, DestHigh, CrosspointHigh}
use Rattle.swp08_messages.specs.declared.field.Field.TheVariants.{DestLow, SourceLow, NameSize, NumberHigh, NumberLow}
use Rattle.swp08_messages.specs.declared.field.Field.TheVariants.{ProtectHigh, DeviceLow, SpareLow, Details}
use Rattle.swp08_messages.specs.declared.field.Field.TheVariants.{Salvo, Operation, Status, Index, EntryValidity}
use Rattle.swp08_messages.specs.declared.field.Field.TheVariants.{ExtMatrix, ExtLevel, ExtSourceHigh, ExtSourceLow}
use Rattle.swp08_messages.specs.declared.go_status.GoStatus.{GoStatus}
use Rattle.swp08_messages.specs.declared.validity.Validity.{Validity}
use Rattle.swp08_messages.specs.declared.point.Point.{Point}
use Rattle.swp08_messages.specs.declared.message.Message.{Message}
use Rattle.swp08_messages.specs.declared.message.Message.TheVariants.{Interrogate, Connect, Tally, Connected, DumpAsk}
use Rattle.swp08_messages.specs.declared.message.Message.TheVariants.{ProtectAsk, ProtectTally, ProtectConnect}
use Rattle.swp08_messages.specs.declared.message.Message.TheVariants.{ProtectConnected, ProtectDisconnect}
use Rattle.swp08_messages.specs.declared.message.Message.TheVariants.{ProtectDisconnected, SourceNamesAsk, SourceNameAsk}
use Rattle.swp08_messages.specs.declared.message.Message.TheVariants.{DestNamesAsk, DestNameAsk}
use Rattle.swp08_messages.specs.declared.message.Message.TheVariants.{Store, Go, Stored, GoDone, EntryAsk, Entry}
use Rattle.swp08_messages.specs.declared.message.Message.TheVariants.{ExtInterrogate, ExtConnect, ExtTally, ExtConnected}
use Rattle.swp08_messages.specs.declared.message.MessageKind.{MessageKind}
use Rattle.swp08_messages.specs.declared.message.MessageKind.TheVariants.{Plant, Report, Names}

-- a command, what the message is for, what each byte behind the command says, and what DATA may have behind these
-- bytes, which is held to its range and isn't kept or written [profile]
pub record MessageRow : Type 0 where
  pub command : ℕ
  pub kind : MessageKind
  pub fields : List Field
  pub spare : List Field

-- a destination: matrix with level, multiplier, low part [SW-P-08]
abbrev pub destination : Point → List Field
destination at = MatrixLevel at.matrix at.level ∷ DestHigh at.dest ∷ DestLow at.dest ∷ []

-- a crosspoint, which is a destination and the source at it: matrix with level, multiplier, the two low parts [SW-P-08]
abbrev pub crosspoint : Point → Option ℕ → List Field
crosspoint at source =
    MatrixLevel at.matrix at.level ∷ CrosspointHigh at.dest source ∷ DestLow at.dest
    ∷ SourceLow source ∷ []

-- a destination and a device: matrix with level, multiplier, the two low parts [profile]
abbrev pub protect : Point → ℕ → List Field
protect at device =
    MatrixLevel at.matrix at.level ∷ ProtectHigh at.dest device ∷ DestLow at.dest
    ∷ DeviceLow device ∷ []

-- the same with whether the device protects the destination, which stands behind the matrix with its level [profile]
abbrev pub protect_told : Point → Bool → ℕ → List Field
protect_told at owned device =
    MatrixLevel at.matrix at.level ∷ Details owned ∷ ProtectHigh at.dest device ∷ DestLow at.dest
    ∷ DeviceLow device ∷ []

-- a crosspoint in a salvo, and an entry of a salvo at a place, which says too whether more follow [profile]
abbrev pub stored_crosspoint : Point → Option ℕ → ℕ → List Field
stored_crosspoint at source salvo = crosspoint at source ++ Salvo salvo ∷ []

abbrev pub entry : Point → Option ℕ → ℕ → ℕ → Validity → List Field
entry at source salvo index validity =
    stored_crosspoint at source salvo ++ Index index ∷ EntryValidity validity ∷ []

-- what a salvo is to do, what became of it, and a place in it [profile]
abbrev pub go : Bool → ℕ → List Field
go clear salvo = Operation clear ∷ Salvo salvo ∷ []

abbrev pub go_done : GoStatus → ℕ → List Field
go_done status salvo = Status status ∷ Salvo salvo ∷ []

abbrev pub entry_ask : ℕ → ℕ → List Field
entry_ask salvo index = Salvo salvo ∷ Index index ∷ []

-- a level: its matrix with its number [profile]
abbrev pub one_level : ℕ → ℕ → List Field
one_level matrix level = MatrixLevel matrix level ∷ []

-- a number from 0 to 65535 in two whole bytes [profile]
abbrev pub wide : ℕ → List Field
wide number = NumberHigh number ∷ NumberLow number ∷ []

-- the names of all sources of a level, and that of one of them: matrix with level, the size of a name, the number [profile]
abbrev pub source_names_ask : ℕ → ℕ → ℕ → List Field
source_names_ask matrix level size = MatrixLevel matrix level ∷ NameSize size ∷ []

abbrev pub source_name_ask : ℕ → ℕ → ℕ → ℕ → List Field
source_name_ask matrix level size number = MatrixLevel matrix level ∷ NameSize size ∷ wide number

-- the names of all destinations of a matrix, and that of one of them: matrix, the size of a name, the number [profile]
abbrev pub dest_names_ask : ℕ → ℕ → List Field
dest_names_ask matrix size = Matrix matrix ∷ NameSize size ∷ []

abbrev pub dest_name_ask : ℕ → ℕ → ℕ → List Field
dest_name_ask matrix size number = Matrix matrix ∷ NameSize size ∷ wide number

-- a destination, and a crosspoint, in the extended commands: matrix and level with a byte each, the destination and
-- the source in two whole bytes each [profile]
abbrev pub ext_destination : Point → List Field
ext_destination at = ExtMatrix at.matrix ∷ ExtLevel at.level ∷ wide at.dest

abbrev pub ext_crosspoint : Point → Option ℕ → List Field
ext_crosspoint at source = ext_destination at ++ ExtSourceHigh source ∷ ExtSourceLow source ∷ []

-- a row with nothing to spare [profile]
abbrev pub plain : ℕ → MessageKind → List Field → MessageRow
plain command kind fields =
    record { command = command; kind = kind; fields = fields; spare = [] }

-- the row of a message [profile]
abbrev pub row : Message → MessageRow
row (Interrogate at) = plain 1 Plant (destination at)
row (Connect at source) = plain 2 Plant (crosspoint at source)
row (Tally at source) = plain 3 Report (crosspoint at source)
row (Connected at source) = plain 4 Report (crosspoint at source)
row (ProtectAsk at) =
    record { command = 10; kind = Plant; fields = destination at; spare = SpareLow ∷ [] }
row (ProtectTally at owned device) = plain 11 Report (protect_told at owned device)
row (ProtectConnect at device) = plain 12 Plant (protect at device)
row (ProtectConnected at owned device) = plain 13 Report (protect_told at owned device)
row (ProtectDisconnect at device) = plain 14 Plant (protect at device)
row (ProtectDisconnected at owned device) = plain 15 Report (protect_told at owned device)
row (DumpAsk matrix level) = plain 21 Plant (one_level matrix level)
row (SourceNamesAsk matrix level size) = plain 100 Names (source_names_ask matrix level size)
row (SourceNameAsk matrix level size number) =
    plain 101 Names (source_name_ask matrix level size number)
row (DestNamesAsk matrix size) = plain 102 Names (dest_names_ask matrix size)
row (DestNameAsk matrix size number) = plain 103 Names (dest_name_ask matrix size number)
row (Store at source salvo) = plain 120 Plant (stored_crosspoint at source salvo)
row (Go clear salvo) = plain 121 Plant (go clear salvo)
row (Stored at source salvo) = plain 122 Report (stored_crosspoint at source salvo)
row (GoDone status salvo) = plain 123 Report (go_done status salvo)
row (EntryAsk salvo index) = plain 124 Plant (entry_ask salvo index)
row (Entry at source salvo index validity) =
    plain 125 Report (entry at source salvo index validity)
row (ExtInterrogate at) = plain 129 Plant (ext_destination at)
row (ExtConnect at source) = plain 130 Plant (ext_crosspoint at source)
row (ExtTally at source) = plain 131 Report (ext_crosspoint at source)
row (ExtConnected at source) = plain 132 Report (ext_crosspoint at source)
