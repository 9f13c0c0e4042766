use Rattle.std.proofs.Common.{refl}
use Rattle.plant_core.specs.declared.request.Request.TheVariants as requests
use Rattle.record_replay.specs.Script.{Leave}
use Rattle.record_replay.specs.Replay.{leave_line}
use Rattle.record_replay.proofs.ReplayerLemmas.{step_done}
use Rattle.record_replay.proofs.replayer.Replayer.leave.Goals as goal

pub returns : goal.returns
returns g c = λ stand used stands within. (
  leave_line c.args.panel,
  c.leave_line.ensures,
  step_done c.args.self.now.plant.now (Leave c.args.panel) (requests.Leave c.args.panel) c.args.self.now _ stand used (leave_line c.args.panel) stands c.requires.panel (refl, refl)
      c.step.ensures.state refl refl c.step.ensures.answers c.step.ensures.places,
)
