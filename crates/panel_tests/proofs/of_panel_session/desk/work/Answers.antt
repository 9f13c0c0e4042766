use Rattle.panel_tests.proofs.BetweenLemmas.{ready, turned_on}
use Rattle.panel_tests.proofs.of_panel_session.desk.work.Goals as goal

pub work_turn-requires : goal.work_turn-requires
work_turn-requires c = ready c.args.session.now c.args.turns c.args.piece.now c.requires.between c.args.board.now c.requires.turns c.requires.short

pub returns : goal.returns
returns c =
    turned_on c.args.session.now c.args.turns c.args.piece.now c.requires.between _ _ _ c.work_turn.new.self c.args.board.now c.work_turn.new.answerer c.args.out.now c.work_turn.new.out c.work_turn.result
    c.requires.turns c.requires.short c.work_turn.ensures.turned c.work_turn.ensures.cut
