-- Who is given notice of a destination.
use Rattle.std.specs.Prelude.{ℕ, List, [], ◌∷◌, map, slice_set}
use Rattle.change_boards.specs.Board.{Board, marked}
use Rattle.change_boards.specs.Notices.{board_of}
use Rattle.change_boards.specs.declared.sort.Sort.{Sort}
use Rattle.change_boards.specs.declared.sort.Sort.TheVariants.{Source}

-- every panel is given notice of a destination; a mark changes nothing where the panel has left
abbrev pub marked_for_all : List Board → ℕ → Sort → List Board
marked_for_all boards dest sort = map (λ board. marked board dest sort) boards

-- every panel but the asker is
abbrev pub marked_for_others : List Board → ℕ → ℕ → Sort → List Board
marked_for_others boards asker dest sort =
    slice_set (marked_for_all boards dest sort) asker (board_of boards asker)

-- every panel is given notice of the sources of these destinations
abbrev pub all_marked : List Board → List ℕ → List Board
all_marked boards [] = boards
all_marked boards (dest ∷ dests) = all_marked (marked_for_all boards dest Source) dests
