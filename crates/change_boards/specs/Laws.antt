-- What is true of all boards, said by the notices that panels have and not by the sets.
use Rattle.std.specs.Prelude.{◌≡◌, ◌≢◌, ◌⊎◌, ℕ, zero, suc, ◌<◌, true, false, if◌then◌else◌, List, [], ◌∷◌, ◌++◌, length, drop, slice_get, Some}
use Rattle.std.specs.List.{flat_map, range_with_len}
use Rattle.change_boards.specs.declared.sort.Sort.{Sort}
use Rattle.change_boards.specs.declared.sort.Sort.TheVariants.{Source, Protect}
use Rattle.change_boards.specs.Board.{Board, IsEmpty, has_notice, next, without_next}
use Rattle.change_boards.specs.Notices.{board_of, has, has_left, with_mark, with_removal, with_leave}

-- The panels have the same notices but for this one.
abbrev pub SameNoticesBut : List Board → List Board → ℕ → ℕ → Sort → Type 0
SameNoticesBut old new panel dest sort = (p d : ℕ) (s : Sort)
    → (let notice : ℕ × ℕ × Sort = (p, d, s) in notice ≢ (panel, dest, sort))
    → has new p d s ≡ has old p d s

-- The panels have the same notices but for this one, and those that have left are the same.
pub record DiffersAt (old new : List Board) (panel dest : ℕ) (sort : Sort) : Type 0 where
  pub others : SameNoticesBut old new panel dest sort
  pub left : (p : ℕ) → has_left new p ≡ has_left old p

-- This notice was added to a panel, and nothing else changed.
pub record Adds (old new : List Board) (panel dest : ℕ) (sort : Sort) : Type 0 where
  pub added : has new panel dest sort ≡ true
  pub rest : DiffersAt old new panel dest sort

-- One notice comes before another: its destination is lower, or it is the source notice of the same destination.
abbrev pub IsBefore : ℕ → Sort → ℕ → Sort → Type 0
IsBefore dest sort d s = (dest < d) ⊎ ((dest ≡ d) × (sort ≡ Source) × (s ≡ Protect))

-- Every other notice of the panel comes after this one.
abbrev pub IsFirstNotice : List Board → ℕ → ℕ → Sort → Type 0
IsFirstNotice boards panel dest sort = (d : ℕ) (s : Sort) → has boards panel d s ≡ true
    → (let notice : ℕ × Sort = (d, s) in notice ≢ (dest, sort)) → IsBefore dest sort d s

-- A panel had this notice and no other before it; the notice was removed, and nothing else changed.
pub record Removes (old new : List Board) (panel dest : ℕ) (sort : Sort) : Type 0 where
  pub stood : has old panel dest sort ≡ true
  pub first : IsFirstNotice old panel dest sort
  pub gone : has new panel dest sort ≡ false
  pub rest : DiffersAt old new panel dest sort

-- A panel has left and has no notices, and no other panel's board changed.
pub record Leaves (old new : List Board) (panel : ℕ) : Type 0 where
  pub left : has_left new panel ≡ true
  pub nothing : IsEmpty (board_of new panel)
  pub others : (p : ℕ) → p ≢ panel → board_of new p ≡ board_of old p

-- A mark adds its notice to its panel, where that hasn't left.
abbrev pub PresentAreMarked : List Board → Type 0
PresentAreMarked boards =
    (panel dest : ℕ) (sort : Sort) → panel < length boards → has_left boards panel ≡ false
    → Adds boards (with_mark boards panel dest sort) panel dest sort

-- A mark of a panel that has left changes nothing.
abbrev pub LeftAreNotMarked : List Board → Type 0
LeftAreNotMarked boards = (panel dest : ℕ) (sort : Sort) → has_left boards panel ≡ true
    → with_mark boards panel dest sort ≡ boards

-- A mark adds one notice to one panel. On a panel that has left it changes nothing.
pub record MarksAddOneNotice (boards : List Board) : Type 0 where
  pub adds : PresentAreMarked boards
  pub left : LeftAreNotMarked boards

-- A removal removes the first notice of its panel and no other.
abbrev pub RemovalsAreOfOneNotice : List Board → Type 0
RemovalsAreOfOneNotice boards =
    (panel dest : ℕ) (sort : Sort) → panel < length boards
    → next (board_of boards panel) ≡ Some (dest, sort)
    → Removes boards (with_removal boards panel) panel dest sort

-- A panel that leaves has no notices, and nothing of another panel changes.
abbrev pub LeavesAreOfOnePanel : List Board → Type 0
LeavesAreOfOnePanel boards =
    (panel : ℕ) → panel < length boards → Leaves boards (with_leave boards panel) panel

-- All notices of a board are of destinations below a count.
abbrev pub IsBelow : Board → ℕ → Type 0
IsBelow board destinations =
    (dest : ℕ) (sort : Sort) → has_notice board dest sort ≡ true → dest < destinations

-- So many panels have a board each, their notices are of destinations below a count, and whoever has left has none.
pub record AreBoards (boards : List Board) (panels destinations : ℕ) : Type 0 where
  pub count : length boards ≡ panels
  pub below : (panel : ℕ) → IsBelow (board_of boards panel) destinations
  pub left : (panel : ℕ) → has_left boards panel ≡ true → IsEmpty (board_of boards panel)

-- Boards are so after a mark of a destination below the count.
abbrev pub MarkedAreBoards : List Board → ℕ → ℕ → Type 0
MarkedAreBoards boards panels destinations = (panel dest : ℕ) (sort : Sort) → dest < destinations
    → AreBoards (with_mark boards panel dest sort) panels destinations

-- Boards stay so after a mark of a destination below the count, after a removal, and after a panel has left.
pub record StayBoards (boards : List Board) (panels destinations : ℕ) : Type 0 where
  pub mark : MarkedAreBoards boards panels destinations
  pub removal : (panel : ℕ) → AreBoards (with_removal boards panel) panels destinations
  pub leave : (panel : ℕ) → AreBoards (with_leave boards panel) panels destinations

-- the notices of one destination, that of its source first
abbrev pub notices_at : Board → ℕ → List (ℕ × Sort)
notices_at board dest =
    (if has_notice board dest Source then (dest, Source) ∷ [] else []) ++
    (if has_notice board dest Protect then (dest, Protect) ∷ [] else [])

-- all notices of the destinations below a count, destination by destination
abbrev pub notices_below : ℕ → Board → List (ℕ × Sort)
notices_below destinations board = flat_map (notices_at board) (range_with_len 0 destinations)

-- a board after so many removals
abbrev pub removed_times : ℕ → Board → Board
removed_times zero board = board
removed_times (suc n) board = removed_times n (without_next board)

-- So many removals leave the notices of those below a count but for the first so many.
abbrev pub LoseFirst : Board → ℕ → ℕ → Type 0
LoseFirst board destinations takes =
    notices_below destinations (removed_times takes board)
    ≡ drop takes (notices_below destinations board)

-- So many removals remove the first so many notices of those below a count, in their order, and one more is of the next.
pub record RemovalsInOrder (board : Board) (destinations takes : ℕ) : Type 0 where
  pub left : LoseFirst board destinations takes
  pub next : next (removed_times takes board) ≡ slice_get (notices_below destinations board) takes
