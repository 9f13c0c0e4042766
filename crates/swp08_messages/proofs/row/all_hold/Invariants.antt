use Rattle.std.proofs.Common.{◌≡◌, drop}
use Rattle.swp08_messages.specs.ViewsInside.{all_hold}
use Rattle.swp08_messages.proofs.row.all_hold.Given as goal

-- All so far hold.
abbrev pub invariant-loop-room : goal.invariant-loop-room
invariant-loop-room l = all_hold (drop l.room-index l.rooms) ≡ all_hold l.rooms
