use Rattle.std.proofs.Common.{◌≡◌, ℕ, Some, length, ap, ◌∙◌, subst, arith}
use Rattle.history_lock.specs.Locks.{new_seat}
use Rattle.plant_config.specs.declared.records.Panel.{Panel}
use Rattle.plant_core.specs.State.{State}
use Rattle.panel_session.specs.Served.{PlantSeat}
use Rattle.panel_server.specs.ServeInside.{HasPlaces}
use Rattle.panel_server.proofs.room.ServeRoom.new.Goals as goal

pub returns : goal.returns
returns g c =
    let panels : length c.panels-panels.result.now ≡ length c.args.plant.now.panels = ap (length {A = Panel}) c.panels-panels.ensures.panels in
    let seat_at : ℕ → State → PlantSeat = λ number first. new_seat c.in_ok-lock.lock.id first number in
    record {
      is_plant = c.panels-panels.ensures.plant;
      lock = (c.in_ok-lock.ensures.lock.0 ∙ c.in_ok-state.ensures, omega (arith, c.in_ok-lock.ensures.lock.1, panels));
      seats = λ number below. c.in_ok-lock.ensures.each number (omega (arith, below, panels)) ∙ ap (λ (first : State). Some (seat_at number first)) c.in_ok-state.ensures;
      seat_count = omega (arith, c.in_ok-lock.ensures.count, panels);
      sessions = c.in_ok-sessions.ensures.new;
      session_count = omega (arith, c.in_ok-sessions.ensures.count, panels);
      places = subst (λ (count : ℕ). HasPlaces count c.in_ok-lists.lists) panels c.in_ok-lists.ensures;
    }
