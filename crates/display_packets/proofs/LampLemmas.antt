-- The lamps that answer a display poll are of displays and sources of the plant.
use Rattle.std.proofs.Common.{◌≡◌, ℕ, ◌<◌, Bool, true, false, cond, List, [], ◌∷◌, length, All, Some, None, IfSome, refl, subst}
use Rattle.std.specs.Prelude.{slice_get}
use Rattle.std.specs.Option.{option_map_or}
use Rattle.std.proofs.lemmas.List.Elements.{All-nil, All-push, All-map, All-weaker, All-take, All-filter}
use Rattle.plant_config.specs.declared.records.Display as records
use Rattle.plant_config.specs.Plant.{sources_of}
use Rattle.plant_config.specs.IsPlant.{IsPlant}
use Rattle.plant_config.proofs.SiteLemmas.{source_at-below}
use Rattle.plant_core.specs.Crosspoints.{source_of}
use Rattle.change_boards.specs.Screens.{displays_of}
use Rattle.plant_core.specs.declared.answer.Answer.{Answer}
use Rattle.plant_core.specs.declared.answer.Answer.TheVariants.{Lamp, Finished}
use Rattle.plant_core.specs.declared.request.Request.TheVariants.{DisplayPoll}
use Rattle.plant_core.specs.State.{State, IsValid, AreCrosspoints}
use Rattle.plant_core.specs.Displays.{lamp_limit, dark, value_with, display_value, value_of, differs, differing, refreshed, is_finished, told_displays, taken_first}
use Rattle.plant_core.specs.Step.{step}
use Rattle.plant_core.proofs.Validity.{source_of-spot}
use Rattle.display_packets.specs.DisplayPacket.{MayShow, AreLamps}
use Rattle.plant_core.proofs.ScreenLemmas.{displays-below}

-- a state in which the plant is one and each destination carries a source of its own level
record IsWired (state : State) : Type 0 where
  is_plant : IsPlant state.plant
  is_crosspoint : AreCrosspoints state.plant state.crosspoints

-- what a destination carries is a source of the plant,
value_at-source : (state : State) (dest : ℕ) → IsWired state → IfSome (display_value state.plant state.crosspoints dest).source (λ source. source < sources_of state.plant)
value_at-source state dest wired =
    elim (source_of state.crosspoints dest) as (λ found. source_of state.crosspoints dest ≡ found →
    IfSome (option_map_or (value_with state.plant state.crosspoints) found dark).source (λ source. source < sources_of state.plant)) [
      | None ↦ λ is. tt
      | Some source ↦ λ is.
          let spot = source_of-spot state.crosspoints dest source is in
          let point = wired.is_crosspoint dest spot.0 spot.1 in
          let Below : ℕ → Type 0 = λ source. source < sources_of state.plant in
          subst Below spot.2 (source_at-below state.plant point.matrix point.level point.source_number spot.0.source wired.is_plant point.source_is)
    ] refl

-- and so is what a display shows.
value_of-source : (state : State) (display : ℕ) → IsWired state → IfSome (value_of state display).source (λ source. source < sources_of state.plant)
value_of-source state display wired =
    elim (slice_get state.plant.displays display) as (λ found.
    IfSome (option_map_or (λ (found : records.Display). display_value state.plant state.crosspoints found.watch) found dark).source (λ source. source < sources_of state.plant)) [
      | None ↦ tt
      | Some found ↦ value_at-source state found.watch wired
    ]

-- So it is of displays that are told_displays,
taken-lamps : (state : State) (displays : List ℕ) → IsWired state → All (λ display. display < length state.plant.displays) displays → AreLamps state.plant (told_displays state displays).answers
taken-lamps state [] wired below =
    elim (is_finished state) as (λ b. AreLamps state.plant (cond b (Finished ∷ []) [])) [
      | true ↦ All-push (MayShow state.plant) [] Finished (All-nil (MayShow state.plant)) tt
      | false ↦ All-nil (MayShow state.plant)
    ]
taken-lamps state (display ∷ displays) wired below =
    let Below : ℕ → Type 0 = λ display. display < length state.plant.displays in
    let lamp : ℕ → Answer = λ display. Lamp display (value_of state display) in
    let May : ℕ → Type 0 = λ display. MayShow state.plant (lamp display) in
    All-map (MayShow state.plant) lamp (display ∷ displays)
    (All-weaker Below May (λ display below. record { has_display = below; has_source = value_of-source state display wired }) (display ∷ displays) below)

-- as of those of a screen that differ.
first-lamps : (state : State) (screen : ℕ) → IsWired state → AreLamps state.plant (taken_first state screen).answers
first-lamps state screen wired =
    let Below : ℕ → Type 0 = λ display. display < length state.plant.displays in
    taken-lamps state _ wired
    (All-take Below lamp_limit (differing state screen)
    (All-filter (differs state) Below (displays_of state.plant screen) (displays-below state.plant screen)))

pub display_poll-lamps : (state : State) (screen : ℕ) (refresh : Bool) → IsValid state → AreLamps state.plant (step state (DisplayPoll screen refresh)).answers
display_poll-lamps state screen true valid = first-lamps (refreshed state screen true) screen (record { is_plant = valid.is_plant; is_crosspoint = valid.is_crosspoint })
display_poll-lamps state screen false valid = first-lamps state screen (record { is_plant = valid.is_plant; is_crosspoint = valid.is_crosspoint })
