use Rattle.std.proofs.Common.{ℕ, ◌+◌, ◌*◌, ◌/◌, ◌%◌, ap, sym, refl, ◌∙◌, arith}
use Rattle.std.proofs.lemmas.List.{append-nil}
use Rattle.change_boards.specs.Notices.{board_of}
use Rattle.plant_core.specs.StateText.{notices_of}
use Rattle.plant_core.proofs.StateTextLemmas.{one_byte_more, all_bytes}
use Rattle.plant_core.proofs.write_notices.write_rest.Goals as goal

pub loop-at-init : goal.loop-at-init
loop-at-init c = record { text = sym (append-nil _); len = omega arith; room = refl }

pub loop-at-preserved : goal.loop-at-preserved
loop-at-preserved c = record {
  text = one_byte_more _ _ _ (λ at. notices_of (board_of c.args.notices.now c.args.panel) (64 * (c.args.count / 64) + at)) c.loop-at.at _ c.loop-at.invariant.text (c.notices_of.ensures ∙ ap (notices_of (board_of c.args.notices.now c.args.panel)) c.of-dest.ensures) c.push_reserved.ensures.items;
  len = omega (arith, c.push_reserved.ensures.len, c.loop-at.invariant.len);
  room = c.push_reserved.ensures.capacity ∙ c.loop-at.invariant.room;
}

pub returns-clause-text : goal.returns-clause-text
returns-clause-text c = all_bytes _ _ (λ (at : ℕ). notices_of (board_of c.args.notices.now c.args.panel) (64 * (c.args.count / 64) + at)) c.loop-at.at (c.args.count % 64) (omega arith) c.loop-at.invariant.text
