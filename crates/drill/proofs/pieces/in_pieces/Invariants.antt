use Rattle.std.proofs.Common.{◌≡◌, ℕ, map}
use Rattle.std.specs.List.{range_with_len}
use Rattle.ctl_net.specs.declared.link_event.LinkEvent.TheVariants.{Piece}
use Rattle.drill.specs.Pieces.{piece_at}
use Rattle.drill.proofs.pieces.in_pieces.Given as goal

-- The pieces so far are made.
abbrev pub invariant-loop-at : goal.invariant-loop-at
invariant-loop-at l = l.events.items ≡ map (λ (at : ℕ). Piece (piece_at l.bytes at)) (range_with_len 0 l.at)
