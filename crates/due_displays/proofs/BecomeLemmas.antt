-- The displays that watch a destination become due, one after another.
use Rattle.std.proofs.Common.{◌≡◌, ℕ, ◌<◌, ◌==◌, Bool, true, false, ◌&&◌, ◌||◌, length, Option, Some, None, refl, sym, ap, ◌∙◌}
use Rattle.plant_config.specs.Plant.{PlantData}
use Rattle.due_displays.specs.Watchers.{IsLastWatcher, watch_of}
use Rattle.due_displays.specs.Due.{Due, AreDueOf, is_due}
use Rattle.due_displays.specs.Changed.{BecomeDue, watches}
use Rattle.due_displays.proofs.WatcherLemmas.{passed, passed_more}

pub become_first : (plant : PlantData) (due : Due) (chosen : ℕ → Bool) → AreDueOf plant due → ((display : ℕ) → display < length plant.displays → chosen display ≡ false) → BecomeDue plant due due chosen
become_first plant due chosen are none = record {
  kept = are;
  each = λ display below. ap (λ b. b || is_due plant due display) (sym (none display below));
}

or_again : (a b c : Bool) → (a || (b || c)) ≡ ((a || b) || c)
or_again true b c = refl
or_again false b c = refl

pub become_more : (plant : PlantData) (old before new : Due) (dest number at : ℕ) (found next : Option ℕ) → found ≡ Some number → at ≡ number → watch_of plant.displays number ≡ Some dest → IsLastWatcher plant.displays dest number next →
    BecomeDue plant old before (passed plant dest found) → BecomeDue plant before new (λ other. other == at) → BecomeDue plant old new (passed plant dest next)
become_more plant old before new dest number at found next is same here last was now = record {
  kept = now.kept;
  each = λ display below.
      now.each display below ∙ ap (λ n. (display == n) || is_due plant before display) same
      ∙ ap (λ b. (display == number) || b) (was.each display below ∙ ap (λ f. passed plant dest f display || is_due plant old display) is)
      ∙ or_again (display == number) (passed plant dest (Some number) display) (is_due plant old display)
      ∙ ap (λ b. b || is_due plant old display) (sym (passed_more plant dest number next here last display));
}

pub become_all : (plant : PlantData) (old new : Due) (dest : ℕ) (found : Option ℕ) → found ≡ None → BecomeDue plant old new (passed plant dest found) → BecomeDue plant old new (watches plant dest)
become_all plant old new dest found none was = record {
  kept = was.kept;
  each = λ display below.
      was.each display below ∙ ap (λ f. passed plant dest f display || is_due plant old display) none ∙ ap (λ b. b || is_due plant old display) (and_true (watches plant dest display));
}
  where
    and_true : (b : Bool) → (b && true) ≡ b
    and_true true = refl
    and_true false = refl
