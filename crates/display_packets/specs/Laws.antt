-- What holds of display packets. The functions of `laws` promise it.
use Rattle.std.specs.Prelude.{ℕ, Bool}
use Rattle.plant_core.specs.declared.request.Request.TheVariants.{DisplayPoll}
use Rattle.plant_core.specs.State.{State, IsValid}
use Rattle.plant_core.specs.Step.{step}
use Rattle.display_packets.specs.DisplayPacket.{AreLamps}

-- In a valid state the lamps that answer a display poll are of displays and sources of the plant.
abbrev pub DisplayPollAnswersAreLamps : Type 0
DisplayPollAnswersAreLamps = (state : State) (screen : ℕ) (refresh : Bool) → IsValid state
    → AreLamps state.plant (step state (DisplayPoll screen refresh)).answers
