use Rattle.std.proofs.Common.{◌≡◌, ◌+◌, ◌*◌, refl, subst, ◌∙◌, arith}
use Rattle.change_boards.specs.Notices.{board_of}
use Rattle.plant_core.specs.ReadParts.{IsReadTo}
use Rattle.plant_core.proofs.PanelPartLemmas.{read_none}
use Rattle.plant_core.proofs.read_notices.read_places.Goals as goal

pub loop-place-init : goal.loop-place-init
loop-place-init c = record {
  read = read_none c.args.plant.now c.args.bytes.now c.args.panel _ c.requires.blank;
  others = λ p other. refl;
  boards = c.requires.boards;
}

pub loop-place-preserved : goal.loop-place-preserved
loop-place-preserved c =
    let next : 64 * c.loop-place.place + 64 ≡ 64 * (c.loop-place.place + 1) = omega arith in
    record {
      read = subst (IsReadTo c.args.plant.now c.args.bytes.now c.args.panel (board_of c.read_place.new.notices c.args.panel)) next c.read_place.ensures.read;
      others = λ p other. c.read_place.ensures.others p other ∙ c.loop-place.invariant.others p other;
      boards = c.read_place.ensures.boards;
    }

pub returns-clause-read : goal.returns-clause-read
returns-clause-read c =
    let all : 64 * c.loop-place.place ≡ 64 * c.args.places = omega arith in
    subst (IsReadTo c.args.plant.now c.args.bytes.now c.args.panel (board_of c.loop-place.notices c.args.panel)) all c.loop-place.invariant.read
