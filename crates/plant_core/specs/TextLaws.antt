-- What is true of every state's text.
use Rattle.std.specs.Prelude.{◌≡◌, None}
use Rattle.plant_core.specs.State.{State, IsValid}
use Rattle.plant_core.specs.Short.{StaysShort}
use Rattle.plant_core.specs.StateText.{state_text}
use Rattle.plant_core.specs.StateFault.{first_fault}

-- The text of a valid state of which the commands that aren't extended can tell what they alone can reach breaks no rule.
abbrev pub TextsAreWhole : Type 0
TextsAreWhole = (state : State) → IsValid state → StaysShort state
    → first_fault state.plant (state_text state) ≡ None
