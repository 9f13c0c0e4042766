use Rattle.std.proofs.Common.{ap, ◌∙◌}
use Rattle.plant_config.specs.Screens.{screen_of}
use Rattle.record_replay.proofs.NumberSpellsLemmas.{screen_spelled}
use Rattle.record_replay.proofs.number.read_screen.Goals as goal

pub returns : goal.returns
returns c =
    screen_spelled c.args.plant.now c.args.digits.now c.in_ok-number.number _ c.in_ok-number.ensures (c.screen.ensures.screen ∙ ap (screen_of c.args.plant.now) c.from.ensures)
