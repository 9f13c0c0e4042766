use Rattle.std.proofs.Common.{◌≤◌, [], ◌∷◌, length, refl, ap, subst, arith}
use Rattle.history_lock.specs.History.{entry_at, IsLegal}
use Rattle.plant_config.specs.Plant.{PlantData}
use Rattle.plant_core.specs.Answer.{room_of}
use Rattle.plant_core.specs.State.{Fits as Takes}
use Rattle.plant_core.specs.Step.{step}
use Rattle.plant_core.specs.declared.answer.Answer.{Answer}
use Rattle.plant_core.proofs.HistoryLemmas.{fits-run, last_sent}
use Rattle.panel_session.proofs.engine.of_plant.PlantStateAnswerer.ask.Goals as goal

pub returns-clause-few : goal.returns-clause-few
returns-clause-few c = λ plant serves.
    let state = c.args.self.now in
    let request = c.args.request.now in
    let fits = c.requires.serves.2 in
    let legal : IsLegal step Takes state (entry_at step state 0 request ∷ []) = (fits-run c.requires.serves.0 state [] request c.requires.serves.1.plant_is fits, refl, tt) in
    let sent = last_sent state [] (entry_at step state 0 request) serves.valid serves.short legal in
    let Few : PlantData → Type 0 = λ plant. length c.step.new.out.items ≤ room_of plant in
    subst Few serves.plant_is (omega (arith, ap (length {A = Answer}) c.step.ensures.answers, sent.within))
