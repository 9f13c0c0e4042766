-- A display that isn't due has the value that it had.
use Rattle.std.proofs.Common.{◌≡◌, ◌≢◌, ◌⊎◌, ℕ, ◌<◌, Bool, true, false, List, length, slice_get, Option, Some, None, inl, inr, refl, sym, ap, ◌∙◌}
use Rattle.std.specs.Prelude.{Contains}
use Rattle.std.specs.Option.{option_map, option_map_or, option_and_then}
use Rattle.std.proofs.lemmas.Bool.{both_ways, true≢false, false≢true}
use Rattle.plant_config.specs.declared.records.Change.{Change}
use Rattle.plant_config.specs.declared.records.Display.{Display}
use Rattle.plant_config.specs.Plant.{PlantData}
use Rattle.plant_config.specs.Sources.{origin_of}
use Rattle.crosspoint_state.specs.declared.spot.Spot.{Spot}
use Rattle.crosspoint_state.specs.Crosspoints.{Crosspoints, source_of}
use Rattle.crosspoint_state.specs.Taps.{AreTapsOf}
use Rattle.tap_lists.specs.Lists.{Lists, IsUnder}
use Rattle.mixer_effects.specs.Live.{is_seen, is_origin_seen}
use Rattle.tally.specs.Touched.{named_by}
use Rattle.tally.specs.Kept.{AreFlipped}
use Rattle.change_boards.specs.Shown as shown
use Rattle.due_displays.specs.Due.{Due, is_due}
use Rattle.due_displays.specs.Watchers.{watch_of}
use Rattle.plant_core.specs.Displays.{dark, value_with, display_value, value_in}
use Rattle.plant_core.specs.declared.tallies.Tallies.{Tallies}
use Rattle.plant_core.specs.DueInside.{StayDue, AreWatchersDue, AreTappedDue, HaveTurned, FollowValues, AreKeptDue}

same_or : (a b : Bool) → (a ≡ b) ⊎ (a ≢ b)
same_or true true = inl refl
same_or true false = inr true≢false
same_or false true = inr false≢true
same_or false false = inl refl

module _ (plant : PlantData) (old new : Crosspoints) (changes : List Change) (tallies : Tallies) (taps : Lists) (after : Due) (turned : HaveTurned plant old new changes tallies) (tapped : AreTapsOf plant new taps)
    (moved : (dest : ℕ) → Contains (named_by changes) dest → AreWatchersDue plant after dest) (air : (origin : ℕ) → Contains tallies.air.flipped origin → AreTappedDue plant after taps origin)
    (preview : (origin : ℕ) → Contains tallies.preview.flipped origin → AreTappedDue plant after taps origin) (display : ℕ) (below : display < length plant.displays) (off : is_due plant after display ≡ false) where
  origin_same : (roots flipped : List ℕ) → AreFlipped plant old new roots flipped → ((origin : ℕ) → Contains flipped origin → AreTappedDue plant after taps origin) → (watch : ℕ) → watch_of plant.displays display ≡ Some watch → (origin : ℕ) →
      IsUnder taps origin watch → is_origin_seen plant new roots origin ≡ is_origin_seen plant old roots origin
  origin_same roots flipped are due watch watched origin under = elim (same_or (is_origin_seen plant old roots origin) (is_origin_seen plant new roots origin)) [
    | inl same ↦ sym same
    | inr differ ↦ absurd (both_ways (is_due plant after display) off (due origin ((are.each origin).1 differ) watch under display below watched))
  ]

  seen_same : (roots flipped : List ℕ) → AreFlipped plant old new roots flipped → ((origin : ℕ) → Contains flipped origin → AreTappedDue plant after taps origin) → (watch : ℕ) → watch_of plant.displays display ≡ Some watch → (source : ℕ) →
      source_of new watch ≡ Some source → is_seen plant new roots source ≡ is_seen plant old roots source
  seen_same roots flipped are due watch watched source at = by (origin_of plant source) refl
    where
      by : (found : Option ℕ) → origin_of plant source ≡ found → option_map_or (is_origin_seen plant new roots) found false ≡ option_map_or (is_origin_seen plant old roots) found false
      by None is = refl
      by (Some origin) is = origin_same roots flipped are due watch watched origin ((tapped.each watch origin).0 (ap (option_and_then (origin_of plant)) at ∙ is))

  watch_same : (watch : ℕ) → watch_of plant.displays display ≡ Some watch → display_value plant new watch ≡ display_value plant old watch
  watch_same watch watched =
      by (source_of new watch) refl
      ∙ ap (λ found. option_map_or (value_with plant old) found dark) (ap (option_map (λ (spot : Spot). spot.source)) (turned.moved watch (λ named. both_ways (is_due plant after display) off (moved watch named display below watched))))
    where
      by : (found : Option ℕ) → source_of new watch ≡ found → option_map_or (value_with plant new) found dark ≡ option_map_or (value_with plant old) found dark
      by None at = refl
      by (Some source) at =
          let on_air = seen_same plant.air tallies.air.flipped turned.air air watch watched source at in
          let on_preview = seen_same plant.preview tallies.preview.flipped turned.preview preview watch watched source at in
          λ i. record { source = Some source; air = on_air i; preview = on_preview i }

  pub value_same : value_in plant new display ≡ value_in plant old display
  value_same = by (slice_get plant.displays display) refl
    where
      by : (found : Option Display) → slice_get plant.displays display ≡ found →
          option_map_or (λ (found : Display). display_value plant new found.watch) found dark ≡ option_map_or (λ (found : Display). display_value plant old found.watch) found dark
      by None at = refl
      by (Some found) at = watch_same found.watch (ap (option_and_then (λ (display : Display). Some display.watch)) at)

pub values_followed : (plant : PlantData) (old new : Crosspoints) (changes : List Change) (tallies : Tallies) (taps : Lists) (before after : Due) → HaveTurned plant old new changes tallies → AreTapsOf plant new taps → StayDue plant before after →
    ((dest : ℕ) → Contains (named_by changes) dest → AreWatchersDue plant after dest) → ((origin : ℕ) → Contains tallies.air.flipped origin → AreTappedDue plant after taps origin) →
    ((origin : ℕ) → Contains tallies.preview.flipped origin → AreTappedDue plant after taps origin) → FollowValues plant old new before after
values_followed plant old new changes tallies taps before after turned tapped stay moved air preview = record {
  due = stay;
  same = λ display below off. value_same plant old new changes tallies taps after turned tapped moved air preview display below off;
}

-- all that differ stay due
pub kept_followed : (plant : PlantData) (old new : Crosspoints) (before_shown : shown.Shown) (before after : Due) → FollowValues plant old new before after → AreKeptDue plant old before_shown before → AreKeptDue plant new before_shown after
kept_followed plant old new seen before after follow kept = record {
  tables = follow.due.tables;
  differing = λ display below differs. by display below differs (is_due plant after display) refl;
}
  where
    by : (display : ℕ) → display < length plant.displays → shown.differs seen display (value_in plant new display) ≡ true → (b : Bool) → is_due plant after display ≡ b → b ≡ true
    by display below differs true is = refl
    by display below differs false off =
        absurd (both_ways (is_due plant after display) off
        (follow.due.stay display below (kept.differing display below (ap (shown.differs seen display) (sym (follow.same display below off)) ∙ differs))))
