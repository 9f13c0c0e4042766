use Rattle.std.proofs.Common.{rules, sym, ◌∙◌, subst}
use Rattle.plant_config.specs.Plant.{PlantData}
use Rattle.record_replay.specs.Script.{HasWorks}
use Rattle.record_replay.specs.Replay.{begun}
use Rattle.record_replay.specs.ReplayerInside.{StandsAt}
use Rattle.record_replay.specs.Streamed.{TakesLamps}
use Rattle.record_replay.proofs.streamed.replay_lines.Goals as goal

pub work_lines-requires-clause-names : goal.work_lines-requires-clause-names
work_lines-requires-clause-names g c =
    let names = c.requires.names ∙ sym c.in_ok-replayer.ensures.plant_is in search rules

pub work_lines-requires-clause-form : goal.work_lines-requires-clause-form
work_lines-requires-clause-form g c =
    let form = subst (λ (plant : PlantData). HasWorks plant c.args.script.now) (sym c.in_ok-replayer.ensures.plant_is) c.requires.form in search rules

pub work_lines-requires-clause-takes : goal.work_lines-requires-clause-takes
work_lines-requires-clause-takes g c =
    let takes = subst (λ (plant : PlantData). TakesLamps plant g.P.DisplayPort.takes) (sym c.in_ok-replayer.ensures.plant_is) c.requires.takes in search rules

pub work_lines-requires-clause-begun : goal.work_lines-requires-clause-begun
work_lines-requires-clause-begun g c =
    let stands = subst (λ (plant : PlantData). StandsAt plant c.in_ok-replayer.replayer (begun plant) 0) (sym c.in_ok-replayer.ensures.plant_is) c.in_ok-replayer.ensures in search rules

pub returns-clause-ok : goal.returns-clause-ok
returns-clause-ok g c = rw (← c.in_ok-replayer.ensures.plant_is) c.work_lines.ensures.ok

pub returns-clause-output_fault : goal.returns-clause-output_fault
returns-clause-output_fault g c = rw (← c.in_ok-replayer.ensures.plant_is) c.work_lines.ensures.output_fault

pub returns-clause-port_fault : goal.returns-clause-port_fault
returns-clause-port_fault g c = rw (← c.in_ok-replayer.ensures.plant_is) c.work_lines.ensures.port_fault

pub returns-clause-no_memory : goal.returns-clause-no_memory
returns-clause-no_memory g c = λ is. absurd (c.work_lines.ensures.no_want is)
