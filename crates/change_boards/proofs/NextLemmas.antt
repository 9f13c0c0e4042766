-- What the next notice of a board is.
use Rattle.std.proofs.Common.{◌≡◌, ℕ, nat_lt, cond, Bool, true, false, Option, Some, None, IsNone, is_some, refl, sym, ap, ◌∙◌}
use Rattle.change_boards.specs.declared.sort.Sort.{Sort}
use Rattle.change_boards.specs.declared.sort.Sort.TheVariants.{Source, Protect}
use Rattle.change_boards.specs.Destinations.{lowest}
use Rattle.change_boards.specs.Board.{Board, IsEmpty, sooner, next}
use Rattle.number_tables.proofs.LowestLemmas.{lowest-empty, empty_from_lowest}

empty_from : (board : Board) (source protect : Option ℕ) → lowest board.source ≡ source → lowest board.protect ≡ protect → IsNone (sooner source protect) → IsEmpty board
empty_from board None None no_source no_protect h = record { source = empty_from_lowest board.source no_source; protect = empty_from_lowest board.protect no_protect }
empty_from board (Some source) None s p h = cc
empty_from board None (Some protect) s p h = cc
empty_from board (Some source) (Some protect) s p h =
    absurd (some (nat_lt protect source) h)
  where
    some : (b : Bool) → let notice : Option (ℕ × Sort) = cond b (Some (protect, Protect)) (Some (source, Source)) in IsNone notice → ⊥
    some true h = cc
    some false h = cc

next-IsEmpty : (board : Board) → IsNone (next board) → IsEmpty board
next-IsEmpty board h = empty_from board (lowest board.source) (lowest board.protect) refl refl h

pub IsEmpty-next : (board : Board) → IsEmpty board → IsNone (next board)
IsEmpty-next board is = rw (is.source, is.protect, lowest-empty) refl

-- nothing is next exactly where a board has no notices
pub next-None : (board : Board) (notice : Option (ℕ × Sort)) → notice ≡ next board → (IsNone notice → IsEmpty board) × (IsEmpty board → IsNone notice)
next-None board notice is =
    (λ none. next-IsEmpty board (sym (ap is_some is) ∙ none), λ empty. ap is_some is ∙ IsEmpty-next board empty)
