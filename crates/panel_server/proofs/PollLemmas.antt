-- Which poll is made at a place, and by which seat.
use Rattle.std.proofs.Common.{◌≡◌, ℕ, ◌/◌, ◌%◌, ◌<◌, Bool, true, List, length, get_or, slice_index, sym, ap, ◌∙◌, subst}
use Rattle.std.proofs.lemmas.List.{get_or_default}
use Rattle.history_lock.specs.Calls.{OnlyCalled}
use Rattle.history_lock.specs.Locks.{LockData}
use Rattle.plant_config.specs.IsPlant.{IsPlant}
use Rattle.plant_config.specs.Plant.{PlantData}
use Rattle.plant_config.specs.Screens.{has_screen, screens_of}
use Rattle.plant_config.proofs.ScreenLemmas.{screens_are_of_displays}
use Rattle.plant_core.specs.State.{State}
use Rattle.plant_core.specs.declared.request.Request.TheVariants.{DisplayPoll}
use Rattle.panel_session.specs.Served.{PlantSeat}
use Rattle.panel_server.specs.Driven.{has_refresh, poll_at}
use Rattle.panel_server.specs.Seats.{IsSeatOf}

-- The screen at a place of the plant's screens is one of the plant.
pub screen_fits : (plant : PlantData) (screens : List ℕ) (i screen : ℕ) → IsPlant plant → screens ≡ screens_of plant → i < length screens → screen ≡ slice_index screens i → has_screen plant screen ≡ true
screen_fits plant screens i screen is same within screen_is =
    let own = screens_of plant in
    let Fit : List ℕ → Type 0 = λ xs. i < length xs → has_screen plant (get_or xs i 0) ≡ true in
    let fit : Fit own = λ within. ((screens_are_of_displays plant is).each (get_or own i 0)).0 (i, within, get_or_default own i (get_or own i 0) 0 within) in
    ap (has_screen plant) screen_is ∙ subst Fit (sym same) fit within

-- What is polled at a place of a round is the poll of that number.
pub poll_is : (plant : PlantData) (screens : List ℕ) (every polls screen : ℕ) (refresh : Bool) → screens ≡ screens_of plant → screen ≡ slice_index screens (polls % length screens) → every ≡ plant.server.refresh_every → refresh ≡ has_refresh every (polls / length screens)
    → DisplayPoll screen refresh ≡ poll_at plant polls
poll_is plant screens every polls screen refresh same screen_is every_is refresh_is =
    ap (λ (refresh : Bool). DisplayPoll screen refresh) (refresh_is ∙ ap (λ (every : ℕ). has_refresh every (polls / length screens)) every_is)
    ∙ ap (λ (screen : ℕ). DisplayPoll screen (has_refresh plant.server.refresh_every (polls / length screens))) screen_is
    ∙ ap (λ (xs : List ℕ). DisplayPoll (slice_index xs (polls % length xs)) (has_refresh plant.server.refresh_every (polls / length xs))) same

-- a call leaves which seat it is
pub seat_stays : (plant : PlantData) (lock : LockData State) (seat seat_then : PlantSeat) → IsSeatOf plant lock seat → OnlyCalled seat seat_then → IsSeatOf plant lock seat_then
seat_stays plant lock seat seat_then is rest = record {
  seat_of = ap (λ (seat : PlantSeat). seat.lock) rest ∙ is.seat_of;
  first = ap (λ (seat : PlantSeat). seat.first) rest ∙ is.first;
}
