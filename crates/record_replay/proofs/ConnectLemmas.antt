-- The connect that names ask for, on a plant.
use Rattle.std.proofs.Common.{◌≡◌, ℕ, ◌+◌, ◌<◌, ◌≤◌, ◌⊎◌, Bool, true, false, cond, ◌&&◌, List, length, Option, Some, None, refl, sym, ◌∙◌, ap, subst, arith, ltb-true}
use Rattle.std.proofs.lemmas.Bool.{and_parts}
use Rattle.std.specs.Option.{option_map, option_and_then}
use Rattle.plant_config.specs.declared.records.Level.{Level}
use Rattle.plant_config.specs.declared.records.Point.{Point}
use Rattle.plant_config.specs.Limits.{level_destination_limit}
use Rattle.plant_config.specs.Plant.{PlantData, dest_numbers}
use Rattle.plant_config.specs.IsPlant.{IsPlant}
use Rattle.plant_config.specs.Sites.{point_of}
use Rattle.plant_config.specs.NamesOfLevel.{dest_names}
use Rattle.plant_config.proofs.SiteLemmas.{dests_are, number_at-site_of, site_of-IsSite, dest_at-point_of}
use Rattle.plant_names.specs.Lookup.{place_among, dest_named}
use Rattle.plant_names.proofs.LevelLemmas.{level_at-none}
use Rattle.plant_names.proofs.LookupLemmas.{dests_are_named}
use Rattle.swp08_messages.specs.declared.message.Message.{Message}
use Rattle.swp08_messages.specs.declared.message.Message.TheVariants.{Connect, ExtConnect}
use Rattle.swp08_messages.specs.declared.point.Point as messages
use Rattle.swp08_messages.specs.Text.{text, IsExtPoint, IsSource, IsExtSource, InRange}
use Rattle.plant_core.specs.Wide.{is_short_dest, is_short_source}
use Rattle.record_replay.specs.Take.{dest_number_named, carried, connect_of, connect_named}

module _ (plant : PlantData) (is : IsPlant plant) (matrix level : ℕ) (name : List ℕ) where
  -- The number, in its level, of what a name leads to is small.
  pub dest_small : (dest : ℕ) (at : Point) → dest_named plant matrix level name ≡ Some dest → point_of plant dest ≡ Some at → at.dest < level_destination_limit
  dest_small dest at named point =
      let found = (dests_are_named plant is).of_level matrix level dest name named in
      let place = number_at-site_of dest_numbers plant (dests_are plant is) matrix level found.0 dest found.1 in
      let within = (site_of-IsSite dest_numbers plant (dests_are plant is) dest _ place).number in
      let same : Some (record { matrix = matrix; level = level; dest = found.0 }) ≡ Some at = sym (dest_at-point_of plant matrix level found.0 dest is found.1) ∙ point in
      let number : found.0 ≡ at.dest = cc in
      subst (λ (number : ℕ). number < level_destination_limit) number within

-- What has no name in its level has no number.
pub dest_isnt : (plant : PlantData) (matrix level : ℕ) (name : List ℕ) → dest_named plant matrix level name ≡ None → dest_number_named plant matrix level name ≡ None
dest_isnt plant matrix level name none = ap (option_and_then (λ (dest : ℕ). option_map (λ (place : Point). place.dest) (point_of plant dest))) none

-- a source that a connect can tell which isn't extended
short-IsSource : (source : Option ℕ) → is_short_source source ≡ true → IsSource source
short-IsSource None short = tt
short-IsSource (Some number) short = ltb-true number 1023 short

-- The connect of a destination to a source is in its ranges if they are those of an extended one,
pub connect_in_range : (at : messages.Point) (source : Option ℕ) → IsExtPoint at → IsExtSource source → InRange (connect_of at source)
connect_in_range at source is of = by (is_short_dest at.dest && is_short_source source) refl
  where
    by : (b : Bool) → (is_short_dest at.dest && is_short_source source) ≡ b → InRange (cond b (Connect at source) (ExtConnect at source))
    by true short =
        let parts = and_parts (is_short_dest at.dest) (is_short_source source) short in
        let dest : at.dest < 1024 = ltb-true at.dest 1024 parts.0 in
        let told = short-IsSource source parts.1 in
        ((is.matrix, is.level), ((dest, told), (dest, (told, tt))))
    by false long = (is.matrix, (is.level, (is.dest, (is.dest, (of, (of, tt))))))

-- and its DATA are few.
pub connect_few : (at : messages.Point) (source : Option ℕ) → length (text (connect_of at source)) ≤ 7
connect_few at source =
    elim (is_short_dest at.dest && is_short_source source) as (λ b. length (text (cond b (Connect at source) (ExtConnect at source))) ≤ 7) [ true ↦ omega arith | false ↦ omega arith ]

-- what a destination carries makes a connect of its number
abbrev with_number : ℕ → ℕ → Option (Option ℕ) → ℕ → Option Message
with_number matrix level found number = option_map (λ source. connect_of (record { matrix = matrix; level = level; dest = number }) source) found

module _ (plant : PlantData) (matrix level : ℕ) (dest source : List ℕ) where
  pub connect-no_dest : dest_number_named plant matrix level dest ≡ None → connect_named plant matrix level dest source ≡ None
  connect-no_dest none = ap (option_and_then (with_number matrix level (carried plant matrix level source))) none

  pub connect-no_level : IsPlant plant → (16 ≤ matrix) ⊎ (16 ≤ level) → connect_named plant matrix level dest source ≡ None
  connect-no_level is out =
      connect-no_dest (dest_isnt plant matrix level dest
      (ap (option_and_then (λ (at : Level). option_map (λ place. at.first_dest + place) (place_among dest (dest_names plant at)))) (level_at-none plant is matrix level out)))
