-- The boards of all panels, read one after the other.
use Rattle.std.proofs.Common.{◌≡◌, ℕ, ◌+◌, ◌<◌, ◌≤◌, zero, suc, List, length, None, inl, inr, refl, ap, sym, subst, ◌∙◌, arith}
use Rattle.std.proofs.lemmas.Bool.{cases_eq}
use Rattle.plant_config.specs.Plant.{PlantData, destinations_of}
use Rattle.change_boards.specs.Board.{Board, blank}
use Rattle.change_boards.specs.Notices.{board_of, start_boards}
use Rattle.change_boards.specs.Laws.{AreBoards}
use Rattle.change_boards.proofs.StayBoards.{AreBoards-start}
use Rattle.plant_core.specs.StateText.{state_size}
use Rattle.plant_core.specs.StateFault.{first_fault}
use Rattle.plant_core.specs.ReadInside.{AreBoardsIn}
use Rattle.plant_core.specs.ReadParts.{IsBoardIn, SameBoardsBut}
use Rattle.plant_core.proofs.PanelPartLemmas.{boards_in}

-- The boards of the panels below a count are read, and those above are blank.
pub record AreReadTo (plant : PlantData) (bytes : List ℕ) (boards : List Board) (count : ℕ) : Type 0 where
  pub are : AreBoards boards (length plant.panels) (destinations_of plant)
  pub below : (panel : ℕ) → panel < count → IsBoardIn plant bytes panel (board_of boards panel)
  pub above : (panel : ℕ) → count ≤ panel → board_of boards panel ≡ blank

start_blank : (panels panel : ℕ) → board_of (start_boards panels) panel ≡ blank
start_blank zero panel = refl
start_blank (suc panels) zero = refl
start_blank (suc panels) (suc panel) = start_blank panels panel

pub boards_none : (plant : PlantData) (bytes : List ℕ) (boards : List Board) → boards ≡ start_boards (length plant.panels) → AreReadTo plant bytes boards 0
boards_none plant bytes boards is = record {
  are = subst (λ (all : List Board). AreBoards all (length plant.panels) (destinations_of plant)) (sym is) (AreBoards-start (length plant.panels) (destinations_of plant));
  below = λ panel below. absurd (omega (arith, below));
  above = λ panel above. ap (λ (all : List Board). board_of all panel) is ∙ start_blank (length plant.panels) panel;
}

below_more : (plant : PlantData) (bytes : List ℕ) (old new : List Board) (panel : ℕ) → AreReadTo plant bytes old panel → IsBoardIn plant bytes panel (board_of new panel) → SameBoardsBut old new panel → (p : ℕ) → p < panel + 1 → IsBoardIn plant bytes p (board_of new p)
below_more plant bytes old new panel read here others p below = elim (cases_eq p panel) [
  | inl same ↦ subst (λ (at : ℕ). IsBoardIn plant bytes at (board_of new at)) (sym same) here
  | inr other ↦ subst (IsBoardIn plant bytes p) (sym (others p other)) (read.below p (omega (arith, below, other)))
]

pub boards_more : (plant : PlantData) (bytes : List ℕ) (old new : List Board) (panel : ℕ) → AreReadTo plant bytes old panel → IsBoardIn plant bytes panel (board_of new panel) → SameBoardsBut old new panel → AreBoards new (length plant.panels) (destinations_of plant) → AreReadTo plant bytes new (panel + 1)
boards_more plant bytes old new panel read here others are = record {
  are = are;
  below = below_more plant bytes old new panel read here others;
  above = λ p above. others p (λ e. omega (arith, above, e)) ∙ read.above p (omega (arith, above));
}

pub boards_whole : (plant : PlantData) (bytes : List ℕ) (boards : List Board) (count : ℕ) → first_fault plant bytes ≡ None → length bytes ≡ state_size plant → length plant.panels ≤ count → AreReadTo plant bytes boards count → AreBoardsIn plant bytes boards
boards_whole plant bytes boards count none size all read =
    boards_in plant bytes boards none (omega (arith, size)) read.are (λ panel below. read.below panel (omega (arith, below, all)))
