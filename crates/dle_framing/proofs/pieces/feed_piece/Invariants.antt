use Rattle.std.proofs.Common.{◌≤◌, ◌-◌, length, map, take}
use Rattle.dle_framing.specs.FramerInside.{AddsOnto}
use Rattle.dle_framing.specs.Owned.{owned}
use Rattle.dle_framing.proofs.pieces.feed_piece.Given as goal

-- The front of the piece was fed.
abbrev pub invariant-loop-used : goal.invariant-loop-used
invariant-loop-used l = record {
  within : l.used ≤ length l.piece;
  fed : AddsOnto (take l.used l.piece) l.fn.framer (map owned l.fn.given.items) l.framer (map owned l.given.items);
}

abbrev pub decreases-loop-used : goal.decreases-loop-used
decreases-loop-used l = length l.piece - l.used
