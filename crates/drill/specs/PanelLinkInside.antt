-- The link of a panel of a drill.
use Rattle.std.specs.Prelude.{◌≡◌, ℕ, ◌+◌, ◌<◌, ◌≤◌, List, [], ◌++◌, length, All}
use Rattle.std.specs.List.{flat_map}
use Rattle.ctl_io.specs.ReadHalf.{Reading}
use Rattle.ctl_net.specs.LinkEvents.{bytes_of}
use Rattle.ctl_net.specs.MemLink.{InputState, LinkState}
use Rattle.ctl_net.specs.declared.link_event.LinkEvent.{LinkEvent}
use Rattle.ctl_net.specs.declared.link_event.LinkEvent.TheVariants.{Piece, Idle}
use Rattle.drill.specs.Pieces.{in_pieces, piece_count, piece_len}
use Rattle.drill.specs.TapeInside.{IsTape}

-- events that are the pieces of some bytes
pub record ArePieces (events : List LinkEvent) : Type 0 where
  pub bytes : List ℕ
  pub are : events ≡ in_pieces bytes

-- An event gives bytes, no more than a piece has.
abbrev pub IsPiece : LinkEvent → Type 0
IsPiece (Piece bytes) = (0 < length bytes) × (length bytes ≤ piece_len)
IsPiece Idle = ⊥

-- the bytes of reads
abbrev pub bytes_given : List Reading → List ℕ
bytes_given reads = flat_map (λ reading. reading.bytes) reads

-- a read had room for a piece
abbrev pub HadRoom : Reading → Type 0
HadRoom reading = piece_len ≤ reading.room

-- No read fails or is idle, and where each had room for a piece, there was one for each piece so far.
pub record GivesPieces (input : InputState) : Type 0 where
  pub none_listed : input.calls.failing ≡ []
  pub no_fault : input.calls.faults ≡ 0
  pub pieces : All IsPiece input.events
  pub some : All (λ reading. 0 < length reading.bytes) input.reads
  pub counted : All HadRoom input.reads → length input.reads + length input.events
      ≡ piece_count (bytes_given input.reads ++ bytes_of input.events)

-- So is a link of a panel, whatever was done with it.
pub record IsPanelLink (link : LinkState) : Type 0 where
  pub input : GivesPieces link.input
  pub output : IsTape link.output
