use Rattle.std.proofs.Common.{ℕ, ◌+◌, ◌*◌, ◌++◌, map, ap, ◌∙◌}
use Rattle.std.specs.List.{range_with_len}
use Rattle.change_boards.specs.Notices.{board_of}
use Rattle.plant_core.specs.StateText.{notices_of}
use Rattle.plant_core.proofs.NoticeTextLemmas.{notices_written}
use Rattle.plant_core.proofs.write_notices.write_place.Goals as goal

pub returns-clause-text : goal.returns-clause-text
returns-clause-text c =
    let board = board_of c.args.notices.now c.args.panel in
    ap (λ whole. whole.items) c.replace.ensures.after
    ∙ notices_written c.replace-whole.result.items _ board c.args.place _ _ c.word-source.ensures c.word-protect.ensures c.write_bits.ensures.text
    ∙ ap (λ whole. whole.items ++ map (λ (at : ℕ). notices_of board (64 * c.args.place + at)) (range_with_len 0 64)) c.replace-whole.ensures.value
