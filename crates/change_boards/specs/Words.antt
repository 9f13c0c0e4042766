-- Notices of 64 neighbouring destinations are given to a panel at once.
use Rattle.std.specs.Prelude.{◌≡◌, ◌≢◌, ℕ, ◌/◌, false, List, length}
use Rattle.change_boards.specs.declared.sort.Sort.{Sort}
use Rattle.change_boards.specs.Board.{Board, dests_of}
use Rattle.change_boards.specs.Destinations.{HasBitsOf}
use Rattle.change_boards.specs.Notices.{board_of, has, has_left}

-- A panel has none of these notices of the 64 destinations from 64 times a place on.
abbrev pub HasNone : List Board → ℕ → ℕ → Sort → Type 0
HasNone boards panel place sort =
    (dest : ℕ) → dest / 64 ≡ place → has boards panel dest sort ≡ false

-- A panel has this notice of the 64 destinations from 64 times a place on whose bits are set in a word, and nothing else
-- changed.
pub record PutsWord (old new : List Board) (panel place : ℕ) (sort : Sort) (word : ℕ)
    : Type 0 where
  pub bits : HasBitsOf (dests_of (board_of new panel) sort) place word
  pub others : (dest : ℕ) → dest / 64 ≢ place
      → has new panel dest sort ≡ has old panel dest sort
  pub sorts : (other : Sort) → other ≢ sort
      → dests_of (board_of new panel) other ≡ dests_of (board_of old panel) other
  pub left : has_left new panel ≡ has_left old panel
  pub panels : (p : ℕ) → p ≢ panel → board_of new p ≡ board_of old p
  pub count : length new ≡ length old
