use Rattle.std.proofs.Common.{◌≡◌, ◌++◌, length, map}
use Rattle.dle_framing.specs.Items.{items, rest}
use Rattle.dle_framing.specs.Owned.{owned}
use Rattle.dle_framing.proofs.plain.read_items.Given as goal

-- The items so far and those of what is left are those of the whole text.
abbrev pub invariant-loop-items : goal.invariant-loop-items
invariant-loop-items l = record {
  items_given : map owned l.items.items ++ items l.left ≡ items l.text;
  same_rest : rest l.left ≡ rest l.text;
}

abbrev pub decreases-loop-items : goal.decreases-loop-items
decreases-loop-items l = length l.left
