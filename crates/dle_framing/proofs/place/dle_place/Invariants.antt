use Rattle.std.proofs.Common.{◌≡◌, [], take}
use Rattle.dle_framing.specs.Frame.{doubled}
use Rattle.dle_framing.specs.Items.{only_rest, reading}
use Rattle.dle_framing.proofs.place.dle_place.Given as goal

-- what was looked at is noise, and its own spelling
abbrev pub invariant-loop-place : goal.invariant-loop-place
invariant-loop-place l = record {
  noise : reading (take l.place l.text) ≡ only_rest [];
  single : doubled (take l.place l.text) ≡ take l.place l.text;
}
