use Rattle.std.proofs.Common.{◌≡◌, ◌++◌, length}
use Rattle.dle_framing.specs.Items.{longest_run}
use Rattle.dle_framing.proofs.plain.run_of.Given as goal

-- What was spelled and what is left spells are what the whole text spells.
abbrev pub invariant-loop-byte : goal.invariant-loop-byte
invariant-loop-byte l = record {
  spelled : l.spelled.items ++ (longest_run l.left).spelled ≡ (longest_run l.text).spelled;
  behind : (longest_run l.left).behind ≡ (longest_run l.text).behind;
}

abbrev pub decreases-loop-byte : goal.decreases-loop-byte
decreases-loop-byte l = length l.left
