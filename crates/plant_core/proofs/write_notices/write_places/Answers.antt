use Rattle.std.proofs.Common.{◌+◌, ◌*◌, sym, refl, ◌∙◌, arith}
use Rattle.std.proofs.lemmas.List.{append-nil}
use Rattle.change_boards.specs.Notices.{board_of}
use Rattle.plant_core.specs.StateText.{notices_of}
use Rattle.plant_core.proofs.StateTextLemmas.{all_bytes}
use Rattle.plant_core.proofs.NoticeTextLemmas.{so_many_more}
use Rattle.plant_core.proofs.write_notices.write_places.Goals as goal

pub loop-place-init : goal.loop-place-init
loop-place-init c = record { text = sym (append-nil _); len = omega arith; room = refl }

pub loop-place-preserved : goal.loop-place-preserved
loop-place-preserved c = record {
  text = so_many_more _ _ _ (notices_of (board_of c.args.notices.now c.args.panel)) (64 * c.loop-place.place) 64 (64 * (c.loop-place.place + 1)) (omega arith) c.loop-place.invariant.text c.write_place.ensures.text;
  len = omega (arith, c.write_place.ensures.len, c.loop-place.invariant.len);
  room = c.write_place.ensures.room ∙ c.loop-place.invariant.room;
}

pub returns-clause-text : goal.returns-clause-text
returns-clause-text c = all_bytes _ _ (notices_of (board_of c.args.notices.now c.args.panel)) (64 * c.loop-place.place) (64 * c.args.places) (omega arith) c.loop-place.invariant.text
