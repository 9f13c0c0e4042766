use Rattle.std.proofs.Common.{◌≡◌, ℕ, ◌+◌, ◌*◌, ◌/◌, ◌≤◌, List, length, refl, ap, sym, subst, ◌∙◌, arith}
use Rattle.plant_config.specs.Plant.{destinations_of}
use Rattle.change_boards.specs.Board.{Board}
use Rattle.change_boards.specs.Notices.{board_of}
use Rattle.change_boards.specs.Laws.{AreBoards}
use Rattle.plant_core.specs.StateFields.{byte_at, place_of_panel, place_of_notices}
use Rattle.plant_core.specs.ReadParts.{IsReadTo, SameBoardsBut, with_marks_by}
use Rattle.plant_core.proofs.StateTextLemmas.{room_for_one}
use Rattle.plant_core.proofs.PanelPartLemmas.{read_more, others_marked, are_marked}
use Rattle.plant_core.proofs.read_notices.read_rest.Goals as goal

pub byte_at-byte-requires : goal.byte_at-byte-requires
byte_at-byte-requires c =
    let at = c.place_of_panel-first.ensures.place ∙ ap (place_of_panel c.args.plant.now) c.get.ensures in
    omega (arith, at, c.requires.size, room_for_one c.args.panel (length c.args.plant.now.panels) (1 + destinations_of c.args.plant.now) c.requires.panel)

pub loop-number-init : goal.loop-number-init
loop-number-init c =
    let from : 64 * (destinations_of c.args.plant.now / 64) ≡ 64 * (c.destination_count-count.result / 64) = omega (arith, c.destination_count-count.ensures.count) in
    record {
      read = subst (IsReadTo c.args.plant.now c.args.bytes.now c.args.panel (board_of c.args.notices.now c.args.panel)) from c.requires.read;
      others = λ p other. refl;
      boards = c.requires.boards;
    }

pub loop-number-preserved : goal.loop-number-preserved
loop-number-preserved c =
    let plant = c.args.plant.now in
    let bytes = c.args.bytes.now in
    let boards : List Board = c.loop-number.notices in
    let number : ℕ = c.loop-number.number in
    let byte : ℕ = c.byte_at-byte.result in
    let at = c.place_of_panel-first.ensures.place ∙ ap (place_of_panel plant) c.get.ensures in
    let place : c.place_of_panel-first.result + 1 + number ≡ place_of_notices plant c.args.panel number = omega (arith, at) in
    let is : byte ≡ byte_at bytes (place_of_notices plant c.args.panel number) = c.byte_at-byte.ensures ∙ ap (byte_at bytes) place in
    let marked : with_marks_by boards c.args.panel number byte ≡ c.mark_by.new.notices = sym (c.mark_by.ensures ∙ ap (λ dest. with_marks_by boards c.args.panel dest byte) c.of.ensures) in
    record {
      read =
          subst (λ (new : List Board). IsReadTo plant bytes c.args.panel (board_of new c.args.panel) (number + 1)) marked
          (read_more plant bytes boards c.args.panel number byte c.requires.whole c.requires.panel (omega (arith, c.requires.panel, c.loop-number.invariant.boards.count)) (omega arith) is c.loop-number.invariant.read);
      others = subst (λ (new : List Board). SameBoardsBut c.args.notices.now new c.args.panel) marked (others_marked c.args.notices.now boards c.args.panel number byte c.loop-number.invariant.others);
      boards = subst (λ (new : List Board). AreBoards new (length plant.panels) (destinations_of plant)) marked (are_marked boards (length plant.panels) (destinations_of plant) c.args.panel number byte (omega arith) c.loop-number.invariant.boards);
    }

pub returns-clause-read : goal.returns-clause-read
returns-clause-read c =
    let below : 64 * (c.destination_count-count.result / 64) ≤ c.destination_count-count.result = omega arith in
    let all : c.loop-number.number ≡ destinations_of c.args.plant.now = omega (arith, c.destination_count-count.ensures.count, below, c.loop-number.auto.number-end below) in
    subst (IsReadTo c.args.plant.now c.args.bytes.now c.args.panel (board_of c.loop-number.notices c.args.panel)) all c.loop-number.invariant.read
