-- How the tables are made: numbers source by source, buses and devices from the last one to the first, so that the first of
-- a number stays, and the switches bus by bus.
use Rattle.std.specs.Prelude.{◌≡◌, ℕ, ◌+◌, ◌-◌, ◌*◌, ◌<◌, ◌≤◌, ◌==◌, nat_eq, Bool, false, List, map, filter, find, take, drop, length, slice_get, Option, Some, None, MatchOption}
use Rattle.std.specs.List.{range_with_len, list_any}
use Rattle.std.specs.Option.{option_and_then, option_eq}
use Rattle.std.specs.Ordering.{nat_cmp}
use Rattle.std.specs.FinMap.{FinMap, get}
use Rattle.plant_config.specs.declared.records.Bus.{Bus}
use Rattle.plant_config.specs.Plant.{PlantData}
use Rattle.plant_config.specs.Sites.{source_number_of}
use Rattle.mixer_effects.specs.declared.span.Span.{Span}
use Rattle.mixer_effects.specs.Buses.{output_of, switched_at}
use Rattle.mixer_effects.specs.Wiring.{part_at}

-- Each source below this number has its number in its level, and no other one has any.
pub record HaveNumbersBelow (plant : PlantData) (number : ℕ) (by_source : FinMap nat_cmp ℕ)
    : Type 0 where
  pub below : (source : ℕ) → source < number
      → get by_source source ≡ source_number_of plant source
  pub past : (source : ℕ) → number ≤ source → get by_source source ≡ None

-- Each destination has the first bus that it is, of those from this number on.
abbrev pub HaveBusesFrom : PlantData → ℕ → FinMap nat_cmp ℕ → Type 0
HaveBusesFrom plant number by_dest = (dest : ℕ)
    → option_and_then (slice_get plant.buses) (get by_dest dest)
    ≡ find (λ (bus : Bus). bus.dest == dest) (drop number plant.buses)

-- the first device whose output is this source, of those from this number on
abbrev pub device_from : PlantData → ℕ → ℕ → Option ℕ
device_from plant number source =
    find (λ device. option_eq nat_eq (output_of plant device) (Some source))
    (range_with_len number (length plant.devices - number))

-- Each source has the first device whose output it is, of those from this number on.
abbrev pub HaveDevicesFrom : PlantData → ℕ → FinMap nat_cmp ℕ → Type 0
HaveDevicesFrom plant number by_output =
    (source : ℕ) → get by_output source ≡ device_from plant number source

-- whether a destination switches a bus
abbrev pub is_switched_by : ℕ → Bus → Bool
is_switched_by dest bus = option_eq nat_eq bus.switch (Some dest)

-- the destinations of the buses in a list that a destination switches
abbrev pub switched_among : ℕ → List Bus → List ℕ
switched_among dest buses = map (λ (bus : Bus). bus.dest) (filter (is_switched_by dest) buses)

-- A part of the list has the buses that a destination switches.
pub record IsSpanOf (plant : PlantData) (switched : List ℕ) (dest : ℕ) (span : Span) : Type 0 where
  pub within : span.first + span.count ≤ length switched
  pub part : part_at switched span ≡ switched_at plant dest

-- A destination that switches one of so many buses has its part of the list, and another one has none.
abbrev pub HaveSpans : PlantData → ℕ → FinMap nat_cmp Span → List ℕ → Type 0
HaveSpans plant number spans switched = (dest : ℕ) → MatchOption (get spans dest)
    (list_any (is_switched_by dest) (take number plant.buses) ≡ false)
    (IsSpanOf plant switched dest)

-- So many buses have been gone through, and with each the list grew by no more than the most that there are.
pub record AreSpansBelow (plant : PlantData) (number : ℕ) (spans : FinMap nat_cmp Span)
    (switched : List ℕ) : Type 0 where
  pub have : HaveSpans plant number spans switched
  pub few : length switched ≤ number * 1024
