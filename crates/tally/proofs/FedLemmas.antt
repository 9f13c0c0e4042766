-- A device that is fed feeds a marked destination, and so the buses behind it are live where that is.
use Rattle.std.proofs.Common.{◌≡◌, ℕ, ◌<◌, nat_eq, true, false, ◌&&◌, List, length, slice_get, Option, Some, None, inl, inr, refl, sym, ap, ◌∙◌, arith, eq-eqb}
use Rattle.std.proofs.lemmas.Bool.{and_parts, and_from, or_right, both_ways}
use Rattle.std.proofs.lemmas.Option.{slice_get_cases}
use Rattle.std.specs.Option.{option_map, option_map_or, option_eq}
use Rattle.std.specs.FinSet.{contains}
use Rattle.tap_lists.specs.Lists.{list_of}
use Rattle.plant_config.specs.declared.records.Device.{Device}
use Rattle.plant_config.specs.declared.records.Bus.{Bus}
use Rattle.plant_config.specs.Plant.{PlantData}
use Rattle.plant_config.specs.IsPlant.{IsPlant}
use Rattle.crosspoint_state.specs.Crosspoints.{Crosspoints}
use Rattle.crosspoint_state.specs.Taps.{origin_at}
use Rattle.mixer_effects.specs.Buses.{is_bus_on, is_on, bus_at, device_at, output_of}
use Rattle.mixer_effects.specs.Live.{carries, is_fed_by, is_live}
use Rattle.mixer_effects.specs.Laws.{LiveIsLeast}
use Rattle.mixer_effects.proofs.PlantLemmas.{bus_device_below}
use Rattle.tally.specs.Tally.{Origins}
use Rattle.tally.specs.Marks.{Marks, AreMarksOf}
use Rattle.tally.specs.MarkLaws.{AreSound}
use Rattle.tally.specs.Relit.{is_reached}
use Rattle.tally.proofs.LiveLemmas.{bus_found}
use Rattle.tally.proofs.MarkLemmas.{lit_member}
use Rattle.tally.proofs.BusLemmas.{bus_stands}

-- the output of a device of the plant
pub record HasOutput (plant : PlantData) (device : ℕ) : Type 0 where
  pub output : ℕ
  pub is : output_of plant device ≡ Some output

pub output_there : (plant : PlantData) (device : ℕ) → device < length plant.devices → HasOutput plant device
output_there plant device below =
    elim (slice_get_cases plant.devices device).1 [
      | inl here ↦ record { output = here.0.output; is = ap (option_map (λ (found : Device). found.output)) here.2 }
      | inr past ↦ absurd (omega (arith, past.0, below))
    ]

-- a marked destination that a device feeds
pub record FeedsMarked (plant : PlantData) (points : Crosspoints) (marks : Marks) (device : ℕ) : Type 0 where
  pub output : ℕ
  pub puts : output_of plant device ≡ Some output
  pub dest : ℕ
  pub marked : contains marks.live dest ≡ true
  pub carried : origin_at plant points dest ≡ Some output

pub feeds_marked : (plant : PlantData) (points : Crosspoints) (marks : Marks) (device : ℕ) → AreMarksOf plant points marks → device < length plant.devices → contains marks.fed device ≡ true → FeedsMarked plant points marks device
feeds_marked plant points marks device are below fed =
    let out = output_there plant device below in
    let member = lit_member (list_of marks.lit out.output) (sym (are.fed device out.output out.is) ∙ fed) in
    let stands = (are.lit out.output member.0).0 member.1 in
    record { output = out.output; puts = out.is; dest = member.0; marked = stands.0; carried = stands.1 }

pub is_fed : (plant : PlantData) (points : Crosspoints) (device output dest : ℕ) → output_of plant device ≡ Some output → origin_at plant points dest ≡ Some output → is_fed_by plant points device dest ≡ true
is_fed plant points device output dest puts carried =
    ap (λ (found : Option ℕ). option_map_or (λ output. carries plant points output dest) found false) puts
    ∙ ap (λ (found : Option ℕ). option_eq nat_eq found (Some output)) carried
    ∙ eq-eqb output output refl

-- a bus that is on of a device that is fed is live, where what is marked is
pub fed_lives : (plant : PlantData) (points : Crosspoints) (roots : List ℕ) (marks : Marks) → IsPlant plant → LiveIsLeast plant points roots → AreMarksOf plant points marks → AreSound plant points roots marks → (place : ℕ) (bus : Bus) → slice_get plant.buses place ≡ Some bus → is_bus_on plant points bus ≡ true → contains marks.fed bus.device ≡ true → is_live plant points roots bus.dest ≡ true
fed_lives plant points roots marks is least are sound place bus at on fed =
    let feeds = feeds_marked plant points marks bus.device are (bus_device_below plant is place bus at) fed in
    least.closed.has_buses place feeds.dest bus at on (sound feeds.dest feeds.marked) (is_fed plant points bus.device feeds.output feeds.dest feeds.puts feeds.carried)

-- a bus that is on of a device that is fed, at its place
pub record IsFedBusAt (plant : PlantData) (points : Crosspoints) (marks : Marks) (dest : ℕ) : Type 0 where
  pub place : ℕ
  pub bus : Bus
  pub at : slice_get plant.buses place ≡ Some bus
  pub is : bus.dest ≡ dest
  pub on : is_bus_on plant points bus ≡ true
  pub fed : contains marks.fed bus.device ≡ true

pub fed_bus : (plant : PlantData) (points : Crosspoints) (marks : Marks) (dest : ℕ) → (is_on plant points dest && option_map_or (contains marks.fed) (device_at plant dest) false) ≡ true → IsFedBusAt plant points marks dest
fed_bus plant points marks dest reached = by (bus_at plant dest) refl reached
  where
    by : (found : Option Bus) → bus_at plant dest ≡ found → (option_map_or (is_bus_on plant points) found false && option_map_or (contains marks.fed) (option_map (λ (bus : Bus). bus.device) found) false) ≡ true → IsFedBusAt plant points marks dest
    by None at reached = absurd (both_ways false refl reached)
    by (Some bus) at reached =
        let stands = bus_stands plant dest bus at in
        let parts = and_parts (is_bus_on plant points bus) (contains marks.fed bus.device) reached in
        record { place = stands.place; bus = bus; at = stands.at; is = stands.is; on = parts.0; fed = parts.1 }

pub fed_bus_reached : (plant : PlantData) (points : Crosspoints) (set : Origins) (marks : Marks) → IsPlant plant → (place : ℕ) (bus : Bus) (dest : ℕ) → slice_get plant.buses place ≡ Some bus → is_bus_on plant points bus ≡ true → contains marks.fed bus.device ≡ true → dest ≡ bus.dest → is_reached plant points set marks dest ≡ true
fed_bus_reached plant points set marks is place bus dest at on fed same =
    let found : bus_at plant dest ≡ Some bus = ap (bus_at plant) same ∙ bus_found plant place bus is at in
    or_right (contains set dest) (is_on plant points dest && option_map_or (contains marks.fed) (device_at plant dest) false)
    (ap (λ (found : Option Bus). option_map_or (is_bus_on plant points) found false && option_map_or (contains marks.fed) (option_map (λ (bus : Bus). bus.device) found) false) found
    ∙ and_from (is_bus_on plant points bus) (contains marks.fed bus.device) on fed)
