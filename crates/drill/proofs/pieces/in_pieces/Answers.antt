use Rattle.std.proofs.Common.{ℕ, List, [], ◌∷◌, ◌++◌, map, ap, sym, ◌∙◌}
use Rattle.std.specs.List.{range_with_len}
use Rattle.ctl_net.specs.declared.link_event.LinkEvent.{LinkEvent}
use Rattle.ctl_net.specs.declared.link_event.LinkEvent.TheVariants.{Piece}
use Rattle.drill.specs.Pieces.{piece_at}
use Rattle.drill.proofs.PieceLemmas.{map_more}
use Rattle.drill.proofs.pieces.in_pieces.Goals as goal

pub loop-at-preserved : goal.loop-at-preserved
loop-at-preserved c =
    let bytes = c.args.bytes.now in
    let at = c.loop-at.at in
    let front = map (λ (n : ℕ). Piece (piece_at bytes n)) (range_with_len 0 at) in
    c.in_ok-push.ensures.items
    ∙ (ap (λ (made : List LinkEvent). made ++ Piece c.of.result ∷ []) c.loop-at.invariant
    ∙ (ap (λ (piece : List ℕ). front ++ Piece piece ∷ []) (c.of.ensures ∙ c.in_ok-piece.ensures) ∙ sym (map_more (λ (n : ℕ). Piece (piece_at bytes n)) at)))
