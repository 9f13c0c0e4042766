use Rattle.std.proofs.Common.{◌≡◌, ℕ, ◌<◌, get_or}
use Rattle.trace_lines.specs.LineInside.{pair_value}
use Rattle.trace_lines.proofs.reading.hexadecimal.decode.Given as goal

-- The bytes before this one are those of their pairs.
abbrev pub invariant-loop-i : goal.invariant-loop-i
invariant-loop-i l = (place : ℕ) → place < l.i → get_or l.room place 0 ≡ pair_value l.digits place
