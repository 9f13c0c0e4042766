use Rattle.std.proofs.Common.{[], map, take}
use Rattle.dle_framing.specs.Feeding.{joined}
use Rattle.dle_framing.specs.FramerInside.{AddsOnto}
use Rattle.dle_framing.specs.Owned.{owned}
use Rattle.dle_framing.proofs.pieces.feed_all.Given as goal

-- The pieces so far were fed.
abbrev pub invariant-loop-piece : goal.invariant-loop-piece
invariant-loop-piece l = AddsOnto (joined (take l.piece-index l.pieces)) l.fn.framer [] l.framer (map owned l.given.items)
