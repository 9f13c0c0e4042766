-- The boards of all panels, in the order of the panels' numbers.
use Rattle.std.specs.Prelude.{ℕ, Bool, List, replicate, slice_index_or, slice_set}
use Rattle.change_boards.specs.declared.sort.Sort.{Sort}
use Rattle.change_boards.specs.Board.{Board, blank, abandoned, has_notice, marked, without_next}

-- so many panels at the start: no notices, and nobody has left
abbrev pub start_boards : ℕ → List Board
start_boards panels = replicate panels blank

-- a panel's board
abbrev pub board_of : List Board → ℕ → Board
board_of boards panel = slice_index_or boards panel blank

-- whether a panel has the notice that this destination changed
abbrev pub has : List Board → ℕ → ℕ → Sort → Bool
has boards panel dest sort = has_notice (board_of boards panel) dest sort

-- whether a panel has left
abbrev pub has_left : List Board → ℕ → Bool
has_left boards panel = (board_of boards panel).left

-- the boards after a notice was added to a panel, after its next one was removed, and after it has left
abbrev pub with_mark : List Board → ℕ → ℕ → Sort → List Board
with_mark boards panel dest sort = slice_set boards panel (marked (board_of boards panel) dest sort)

abbrev pub with_removal : List Board → ℕ → List Board
with_removal boards panel = slice_set boards panel (without_next (board_of boards panel))

abbrev pub with_leave : List Board → ℕ → List Board
with_leave boards panel = slice_set boards panel abandoned
