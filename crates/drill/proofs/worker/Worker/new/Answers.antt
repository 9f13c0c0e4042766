use Rattle.std.proofs.Common.{ℕ, length, ap, subst, arith}
use Rattle.plant_config.specs.DrillPlant.{drill_plant}
use Rattle.plant_config.specs.Plant.{PlantData}
use Rattle.panel_session.specs.Session.{StandsFor}
use Rattle.panel_session.specs.SoFar.{nothing_yet}
use Rattle.drill.proofs.ServedLemmas.{panels_counted}
use Rattle.drill.proofs.worker.Worker.new.Goals as goal

pub start-requires-clause-panel : goal.start-requires-clause-panel
start-requires-clause-panel c =
    omega (arith, ap (λ (plant : PlantData). length plant.panels) c.requires.plant, panels_counted c.args.load.now.panels, c.of.ensures, c.requires.panel)

pub returns-clause-ready : goal.returns-clause-ready
returns-clause-ready c =
    let Of : PlantData → Type 0 = λ plant. StandsFor plant c.of.result c.in_ok-session.session nothing_yet in
    let At : ℕ → Type 0 = λ panel. StandsFor (drill_plant c.args.load.now.panels) panel c.in_ok-session.session nothing_yet in
    record {
      stands = subst At c.of.ensures (subst Of c.requires.plant c.in_ok-session.ensures.new);
      link = c.in_ok-link.ensures.link;
      trace = c.in_ok-link.ensures.trace;
    }
