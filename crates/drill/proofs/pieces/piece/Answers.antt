use Rattle.std.proofs.Common.{◌*◌, ◌∙◌}
use Rattle.std.proofs.lemmas.Result.{IfOk-weaker}
use Rattle.drill.proofs.PieceLemmas.{piece_is}
use Rattle.drill.proofs.pieces.piece.Goals as goal

pub returns : goal.returns
returns c =
    IfOk-weaker c.to_vec.result _ _ (λ piece same. same (λ x y is. is) ∙ piece_is c.args.bytes.now (c.args.at * 512) c.min.result c.min.ensures) c.to_vec.ensures.items_if_clones_equal
