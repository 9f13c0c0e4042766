use Rattle.std.proofs.Common.{◌≡◌, ◌+◌, length, drop}
use Rattle.swp08_messages.specs.ViewsInside.{first_over}
use Rattle.swp08_messages.proofs.row.first_bad.Given as goal

-- No byte so far was bad.
abbrev pub invariant-loop-place : goal.invariant-loop-place
invariant-loop-place l =
    (length l.bytes ≡ length l.limits)
    × (first_over (l.first + l.place) (drop l.place l.limits) (drop l.place l.bytes) ≡ first_over l.first l.limits l.bytes)
