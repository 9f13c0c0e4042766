-- What a panel has yet to hear of, as plain data, and what marking, taking and leaving do to it.
use Rattle.std.specs.Prelude.{◌≡◌, ℕ, nat_lt, Bool, true, false, if◌then◌else◌, Option, Some, None, refl}
use Rattle.std.specs.FinSet.{empty, contains, insert, remove, code as set_code}
use Rattle.std.specs.Coded.{Coded, code_by, coded×, coded_ℕ, coded_bool}
use Rattle.change_boards.specs.declared.sort.Sort.{Sort}
use Rattle.change_boards.specs.declared.sort.Sort.TheVariants.{Source, Protect}
use Rattle.change_boards.specs.Destinations.{Destinations, lowest}

-- a panel's source notices and protect notices, each a set of destinations, and whether the panel has left
pub record Board : Type 0 where
  pub source : Destinations
  pub protect : Destinations
  pub left : Bool

-- a board is stored as its fields
abbrev pub code : Coded Board
code =
    code_by (Destinations × (Destinations × Bool))
    (coded× (set_code coded_ℕ) (coded× (set_code coded_ℕ) coded_bool))
    (λ board. (board.source, (board.protect, board.left)))
    (λ fields. record { source = fields.0; protect = fields.1.0; left = fields.1.1 }) (λ _. refl)

-- A board has no notices.
pub record IsEmpty (board : Board) : Type 0 where
  pub source : board.source ≡ empty
  pub protect : board.protect ≡ empty

-- the board of a panel that has no notices and hasn't left
abbrev pub blank : Board
blank = record { source = empty; protect = empty; left = false }

-- the board of a panel that has left
abbrev pub abandoned : Board
abandoned = record { source = empty; protect = empty; left = true }

-- the destinations of one sort of notice
abbrev pub dests_of : Board → Sort → Destinations
dests_of board Source = board.source
dests_of board Protect = board.protect

-- whether the panel has this notice
abbrev pub has_notice : Board → ℕ → Sort → Bool
has_notice board dest sort = contains (dests_of board sort) dest

-- a board with these destinations of one sort of notice
abbrev pub with_dests : Board → Sort → Destinations → Board
with_dests board Source dests = record board { source = dests }
with_dests board Protect dests = record board { protect = dests }

-- A mark puts the destination into the set of its sort. On the board of a panel that has left it changes nothing.
abbrev pub marked : Board → ℕ → Sort → Board
marked board dest sort =
    if board.left then board else with_dests board sort (insert (dests_of board sort) dest)

-- Which of the lowest source notice and the lowest protect notice comes first: that of the lower destination, and for
-- one destination the source notice.
abbrev pub sooner : Option ℕ → Option ℕ → Option (ℕ × Sort)
sooner None None = None
sooner None (Some protect) = Some (protect, Protect)
sooner (Some source) None = Some (source, Source)
sooner (Some source) (Some protect) =
    if nat_lt protect source then Some (protect, Protect) else Some (source, Source)

-- the notice that is removed next
abbrev pub next : Board → Option (ℕ × Sort)
next board = sooner (lowest board.source) (lowest board.protect)

-- a board without this notice
abbrev pub without : Board → Option (ℕ × Sort) → Board
without board None = board
without board (Some (dest, sort)) = with_dests board sort (remove (dests_of board sort) dest)

-- A removal removes the next notice and no other.
abbrev pub without_next : Board → Board
without_next board = without board (next board)
