-- Boards stay boards: their notices are of destinations below the count, and whoever has left has none.
use Rattle.std.proofs.Common.{◌≡◌, ℕ, ◌<◌, Bool, true, false, List, length, set, zero, suc, Option, Some, None, is_some, inl, inr, refl, sym, ap, subst, ◌∙◌, arith}
use Rattle.std.proofs.lemmas.Bool.{cases_eq, cases_lt, both_ways}
use Rattle.std.proofs.lemmas.List.{get_or_past, length-replicate}
use Rattle.std.proofs.Math.ListN.{length-set}
use Rattle.std.specs.Ordering.{nat_cmp}
use Rattle.std.specs.FinSet.{contains, contains-empty, insert}
use Rattle.change_boards.specs.declared.sort.Sort.{Sort}
use Rattle.change_boards.specs.declared.sort.Sort.TheVariants.{Source, Protect}
use Rattle.change_boards.specs.Board.{Board, IsEmpty, blank, abandoned, dests_of, has_notice, marked, next, without, without_next}
use Rattle.change_boards.specs.Notices.{board_of, start_boards, with_mark, with_removal, with_leave}
use Rattle.change_boards.specs.Laws.{AreBoards}
use Rattle.change_boards.proofs.NextLemmas.{IsEmpty-next}
use Rattle.change_boards.proofs.OneNotice.{given_other, marked_left, marked_open, same_left, board_same, board_other}
use Rattle.change_boards.proofs.InOrder.{taken_has}

-- a board of panels with so many destinations
record IsBoard (board : Board) (destinations : ℕ) : Type 0 where
  pub below : (dest : ℕ) (sort : Sort) → has_notice board dest sort ≡ true → dest < destinations
  pub left : board.left ≡ true → IsEmpty board

IsBoard-empty : (board : Board) (destinations : ℕ) → IsEmpty board → IsBoard board destinations
IsBoard-empty board destinations is = record {
  below = λ dest sort has. absurd (both_ways (has_notice board dest sort) (none dest sort) has);
  left = λ _. is;
}
  where
    none : (dest : ℕ) (sort : Sort) → has_notice board dest sort ≡ false
    none dest Source = ap (λ dests. contains dests dest) is.source ∙ contains-empty nat_cmp dest
    none dest Protect = ap (λ dests. contains dests dest) is.protect ∙ contains-empty nat_cmp dest

board_at : (boards : List Board) (panels destinations panel : ℕ) → AreBoards boards panels destinations → IsBoard (board_of boards panel) destinations
board_at boards panels destinations panel are = record { below = are.below panel; left = are.left panel }

AreBoards-from : (boards : List Board) (panels destinations : ℕ) → length boards ≡ panels → ((panel : ℕ) → IsBoard (board_of boards panel) destinations) → AreBoards boards panels destinations
AreBoards-from boards panels destinations count each = record {
  count = count;
  below = λ panel dest sort has. (each panel).below dest sort has;
  left = λ panel left. (each panel).left left;
}

AreBoards-set : (boards : List Board) (panels destinations panel : ℕ) (board : Board) → AreBoards boards panels destinations → IsBoard board destinations → AreBoards (set boards panel board) panels destinations
AreBoards-set boards panels destinations panel board are is =
    AreBoards-from (set boards panel board) panels destinations (length-set boards panel board ∙ are.count) (λ p.
    let Is : Board → Type 0 = λ b. IsBoard b destinations in
    elim (cases_eq p panel) [
      | inl here ↦ elim (cases_lt panel (length boards)) [
        | inl within ↦ subst Is (sym (ap (board_of (set boards panel board)) here ∙ board_same boards panel board within)) is
        | inr past ↦
            let none : board_of (set boards panel board) p ≡ blank = get_or_past (set boards panel board) p blank (omega (arith, length-set boards panel board, here, past)) in
            subst Is (sym none) (IsBoard-empty blank destinations (record { source = refl; protect = refl }))
      ]
      | inr there ↦ subst Is (sym (board_other boards panel p board there)) (board_at boards panels destinations p are)
    ])

start_blank : (panels panel : ℕ) → board_of (start_boards panels) panel ≡ blank
start_blank zero panel = refl
start_blank (suc panels) zero = refl
start_blank (suc panels) (suc panel) = start_blank panels panel

pub AreBoards-start : (panels destinations : ℕ) → AreBoards (start_boards panels) panels destinations
AreBoards-start panels destinations =
    AreBoards-from (start_boards panels) panels destinations (length-replicate panels blank) (λ panel.
    subst (λ (b : Board). IsBoard b destinations) (sym (start_blank panels panel)) (IsBoard-empty blank destinations (record { source = refl; protect = refl })))

IsBoard-marked : (board : Board) (destinations dest : ℕ) (sort : Sort) → dest < destinations → IsBoard board destinations → IsBoard (marked board dest sort) destinations
IsBoard-marked board destinations dest sort within is = go board.left refl
  where
    go : (left : Bool) → board.left ≡ left → IsBoard (marked board dest sort) destinations
    go true left = subst (λ (b : Board). IsBoard b destinations) (sym (marked_left board dest sort left)) is
    go false stays = subst (λ (b : Board). IsBoard b destinations) (sym (marked_open board dest sort stays)) (record {
      below = λ d s has. elim (cases_eq d dest) [
        | inl same ↦ omega (arith, same)
        | inr other ↦ is.below d s (sym (given_other board dest sort d s (λ e. other (λ i. (e i).0))) ∙ has)
      ];
      left = λ left. absurd (both_ways board.left stays (sym (same_left board sort (insert (dests_of board sort) dest)) ∙ left));
    })

IsBoard-taken : (board : Board) (destinations : ℕ) → IsBoard board destinations → IsBoard (without_next board) destinations
IsBoard-taken board destinations is = record {
  below = λ dest sort has. is.below dest sort (taken_has board dest sort has);
  left = λ left. go (next board) refl left;
}
  where
    go : (notice : Option (ℕ × Sort)) → next board ≡ notice → (without board notice).left ≡ true → IsEmpty (without board notice)
    go None h left = is.left left
    go (Some (dest, sort)) h left =
        let nothing = IsEmpty-next board (is.left (sym (same_left board sort _) ∙ left)) in
        let some : is_some (next board) ≡ true = ap is_some h in
        absurd (both_ways (is_some (next board)) nothing some)

pub AreBoards-mark : (boards : List Board) (panels destinations panel dest : ℕ) (sort : Sort) → dest < destinations → AreBoards boards panels destinations → AreBoards (with_mark boards panel dest sort) panels destinations
AreBoards-mark boards panels destinations panel dest sort within are =
    AreBoards-set boards panels destinations panel _ are (IsBoard-marked (board_of boards panel) destinations dest sort within (board_at boards panels destinations panel are))

pub AreBoards-removal : (boards : List Board) (panels destinations panel : ℕ) → AreBoards boards panels destinations → AreBoards (with_removal boards panel) panels destinations
AreBoards-removal boards panels destinations panel are =
    AreBoards-set boards panels destinations panel _ are (IsBoard-taken (board_of boards panel) destinations (board_at boards panels destinations panel are))

pub AreBoards-leave : (boards : List Board) (panels destinations panel : ℕ) → AreBoards boards panels destinations → AreBoards (with_leave boards panel) panels destinations
AreBoards-leave boards panels destinations panel are =
    AreBoards-set boards panels destinations panel abandoned are (IsBoard-empty abandoned destinations (record { source = refl; protect = refl }))
