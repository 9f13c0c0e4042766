use Rattle.std.proofs.Common.{◌≡◌, ◌↔◌, length, drop}
use Rattle.swp08_messages.proofs.row.are_same.Given as goal

-- No byte so far was another one.
abbrev pub invariant-loop-place : goal.invariant-loop-place
invariant-loop-place l = record {
  lengths : length l.some ≡ length l.others;
  same : (l.some ≡ l.others) ↔ (drop l.place l.some ≡ drop l.place l.others);
}
