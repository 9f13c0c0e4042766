use Rattle.std.proofs.Common.{◌≡◌, ℕ, [], ◌∷◌, Some, refl, ap}
use Rattle.plant_config.specs.DrillPlant.{drill_plant}
use Rattle.plant_config.proofs.DrillLemmas.{drill_is_plant}
use Rattle.panel_session.specs.Served.{PlantSeat}
use Rattle.drill.specs.WorkerInside.{WasServed}
use Rattle.drill.proofs.worker.Worker.work.Goals as goal

pub serve_session-requires-clause-may : goal.serve_session-requires-clause-may
serve_session-requires-clause-may g c κs within = record {
  plant = drill_plant c.args.load.now.panels;
  panel = c.args.panel;
  stands = c.requires.may.ready.stands;
  is_plant = drill_is_plant c.args.load.now.panels c.requires.panels c.requires.most;
  seat_of = ap (λ (seat : PlantSeat). seat.lock) c.requires.may.seat;
  first = ap (λ (seat : PlantSeat). seat.first) c.requires.may.seat;
}

-- two names of one room
one_room : (room other : ℕ) → Some (room ∷ []) ≡ Some (other ∷ []) → room ≡ other
one_room room other same = cc

pub returns : goal.returns
unfolding WasServed
returns g c =
    let plant = drill_plant c.args.load.now.panels in
    record {
      before = c.args.self.now;
      may = c.requires.may;
      turns = c.args.turns;
      enough = c.requires.enough;
      few = c.requires.turns;
      end = c.serve_session.result;
      served = c.serve_session.ensures.served plant c.args.panel c.requires.may.ready.stands;
      same_link_room = one_room _ _ c.serve_session.ensures.link_name;
      same_trace_room = one_room _ _ c.serve_session.ensures.trace_name;
      link_keeps = c.keeps.ensures;
      trace_keeps = c.keeps-2.ensures;
      counts = c.counts-counts.result;
      goods = refl;
      bads = refl;
      stood = λ past stands. c.counts-counts.ensures.stood plant c.args.panel past stands;
    }
