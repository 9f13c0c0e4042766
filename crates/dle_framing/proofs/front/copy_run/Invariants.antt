use Rattle.std.proofs.Common.{◌≡◌, ◌+◌, ◌%◌, sum, take}
use Rattle.dle_framing.specs.Frame.{doubled}
use Rattle.dle_framing.proofs.front.copy_run.Given as goal

-- what was looked at is its own spelling, and was copied
abbrev pub invariant-loop-place : goal.invariant-loop-place
invariant-loop-place l = record {
  single : doubled (take l.place l.text) ≡ take l.place l.text;
  copied : take l.place l.into ≡ take l.place l.text;
  total : l.sum ≡ (l.total + sum (take l.place l.text)) % 256;
}
