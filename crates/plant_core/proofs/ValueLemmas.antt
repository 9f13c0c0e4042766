-- The values of displays follow from what destinations carry.
use Rattle.std.proofs.Common.{◌≡◌, ℕ, zero, suc, true, false, not, nat_eq, List, ◌++◌, map, filter, length, Some, ap, refl, ◌∙◌}
use Rattle.std.specs.Prelude.{◌==◌, ◌&&◌, slice_get}
use Rattle.std.specs.List.{list_any}
use Rattle.std.specs.Option.{option_map_or, option_and_then, option_eq}
use Rattle.plant_config.specs.declared.records.Bus.{Bus}
use Rattle.plant_config.specs.declared.records.Display.{Display}
use Rattle.plant_config.specs.Plant.{PlantData}
use Rattle.plant_config.specs.Sites.{source_number_of}
use Rattle.plant_config.specs.Sources.{origin_of}
use Rattle.crosspoint_state.specs.Crosspoints.{Crosspoints, source_of}
use Rattle.mixer_effects.specs.Buses.{is_switch_on, is_bus_on, output_of}
use Rattle.mixer_effects.specs.Live.{carries, is_fed_by, buses_behind, reach, is_origin_seen, is_seen}
use Rattle.plant_core.specs.declared.request.Request.{Request}
use Rattle.plant_core.specs.declared.request.Request.TheVariants.{Told, Poll, Leave, DisplayPoll}
use Rattle.plant_core.specs.State.{State}
use Rattle.plant_core.specs.Displays.{dark, value_with, display_value, value_in}
use Rattle.plant_core.specs.Step.{step}
use Rattle.plant_core.specs.Laws.{CarryAsBefore}
use Rattle.plant_core.specs.DisplayLaws.{HaveTheirValues, MovesNothing}
use Rattle.plant_core.proofs.Shows.{display_polled-is}
use Rattle.plant_core.proofs.StepLeaves.{message-leaves, plant-step}

-- where each destination carries the same source, all that is seen is the same
module _ (plant : PlantData) (old new : Crosspoints) (same : (dest : ℕ) → source_of new dest ≡ source_of old dest) where
  carries-same : (origin dest : ℕ) → carries plant new origin dest ≡ carries plant old origin dest
  carries-same origin dest = λ i. option_eq nat_eq (option_and_then (origin_of plant) (same dest i)) (Some origin)

  fed-same : (device dest : ℕ) → is_fed_by plant new device dest ≡ is_fed_by plant old device dest
  fed-same device dest = λ i. option_map_or (λ output. carries-same output dest i) (output_of plant device) false

  switch-same : (switch : ℕ) → is_switch_on plant new switch ≡ is_switch_on plant old switch
  switch-same switch = λ i. option_map_or (λ number. not (number == 0)) (option_and_then (source_number_of plant) (same switch i)) false

  bus-same : (bus : Bus) → is_bus_on plant new bus ≡ is_bus_on plant old bus
  bus-same bus = λ i. option_map_or (λ switch. switch-same switch i) bus.switch true

  behind-same : (one other : List ℕ) → one ≡ other → buses_behind plant new one ≡ buses_behind plant old other
  behind-same one other are =
      λ i. map (λ (bus : Bus). bus.dest) (filter (λ (bus : Bus). bus-same bus i && list_any (λ dest. fed-same bus.device dest i) (are i)) plant.buses)

  reach-same : (roots : List ℕ) (n : ℕ) → reach plant new roots n ≡ reach plant old roots n
  reach-same roots zero = refl
  reach-same roots (suc n) =
      let rest = reach-same roots n in
      let behind = behind-same (reach plant new roots n) (reach plant old roots n) rest in
      λ i. rest i ++ behind i

  origin-same : (roots : List ℕ) (origin : ℕ) → is_origin_seen plant new roots origin ≡ is_origin_seen plant old roots origin
  origin-same roots origin = λ i. list_any (λ dest. carries-same origin dest i) (reach-same roots (length plant.devices) i)

  seen-same : (roots : List ℕ) (source : ℕ) → is_seen plant new roots source ≡ is_seen plant old roots source
  seen-same roots source = λ i. option_map_or (λ origin. origin-same roots origin i) (origin_of plant source) false

  with-same : (source : ℕ) → value_with plant new source ≡ value_with plant old source
  with-same source = λ i. record { source = Some source; air = seen-same plant.air source i; preview = seen-same plant.preview source i }

  at-same : (dest : ℕ) → display_value plant new dest ≡ display_value plant old dest
  at-same dest = λ i. option_map_or (λ source. with-same source i) (same dest i) dark

  values-same : (display : ℕ) → value_in plant new display ≡ value_in plant old display
  values-same display = λ i. option_map_or (λ (found : Display). at-same found.watch i) (slice_get plant.displays display) dark

pub values-behind : (state : State) (request : Request) → CarryAsBefore state (step state request).state → HaveTheirValues state (step state request).state
values-behind state request same display =
    let new : State = (step state request).state in
    ap (λ (plant : PlantData). value_in plant new.crosspoints display) (plant-step state request) ∙ values-same state.plant state.crosspoints new.crosspoints same display

-- what is neither a connect nor a go that takes a group moves nothing
pub moves-nothing : (state : State) (request : Request) → MovesNothing request → CarryAsBefore state (step state request).state
moves-nothing state (Told panel item message) moves dest =
    ap (λ (crosspoints : Crosspoints). source_of crosspoints dest)
    (message-leaves state panel item message (λ extended at source is. moves.0 panel item extended at source (ap (Told panel item) is)) (λ salvo is. moves.1 panel item salvo (ap (Told panel item) is))).crosspoints
moves-nothing state (Poll panel item turn) moves dest = refl
moves-nothing state (Leave panel) moves dest = refl
moves-nothing state (DisplayPoll screen refresh) moves dest = ap (λ (state : State). source_of state.crosspoints dest) (display_polled-is state screen refresh)

pub values-left : (state : State) (request : Request) → MovesNothing request → HaveTheirValues state (step state request).state
values-left state request moves = values-behind state request (moves-nothing state request moves)
