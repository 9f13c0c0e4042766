use Rattle.std.proofs.Common.{take}
use Rattle.line_text.specs.Cut.{HasNo}
use Rattle.line_text.proofs.cut.split_at.Given as goal

abbrev pub invariant-loop-end : goal.invariant-loop-end
invariant-loop-end l = HasNo l.byte (take l.end l.text)
