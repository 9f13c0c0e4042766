use Rattle.std.proofs.Common.{◌≡◌, ℕ, suc, Some}
use Rattle.std.specs.Option.{option_map_or}
use Rattle.due_displays.specs.Watchers.{watch_of}
use Rattle.due_displays.specs.Changed.{BecomeDue}
use Rattle.due_displays.proofs.WatcherLemmas.{passed}
use Rattle.due_displays.proofs.due_displays.DueDisplays.add_watchers.Given as goal

abbrev pub invariant-loop-found : goal.invariant-loop-found
invariant-loop-found l = record {
  watch : (number : ℕ) → l.found ≡ Some number → watch_of l.plant.displays number ≡ Some l.fn.dest;
  become : BecomeDue l.plant l.fn.self l.self (passed l.plant l.fn.dest l.found);
}

abbrev pub decreases-loop-found : goal.decreases-loop-found
decreases-loop-found l = option_map_or (λ number. suc number) l.found 0
