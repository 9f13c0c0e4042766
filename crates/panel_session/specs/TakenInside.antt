-- What an item makes a session do.
use Rattle.std.specs.Prelude.{◌≡◌, ◌≢◌, ℕ, List, []}
use Rattle.dle_framing.specs.Numbers.{ack, nak}
use Rattle.plant_config.specs.Plant.{PlantData}
use Rattle.panel_session.specs.declared.session.asked.Asked.{Asked}
use Rattle.panel_session.specs.declared.session.asked.Asked.TheVariants.{Nothing, Repeat, Refused, Noted, Named, Sent}
use Rattle.panel_session.specs.declared.session.phase.Phase.{Phase}
use Rattle.panel_session.specs.declared.session.phase.Phase.TheVariants.{Read, Tell}
use Rattle.panel_session.specs.Text.{Output, with_control, with_frames, repeated}
use Rattle.panel_session.specs.NamePages.{name_frames}
use Rattle.panel_session.specs.OutgoingInside.{emptied}

-- the output from what is sent for an item on
abbrev pub taken_output : PlantData → Asked → Output → Output
taken_output plant Nothing output = output
taken_output plant Repeat output = repeated (emptied output)
taken_output plant Refused output = with_control nak (emptied output)
taken_output plant Noted output = with_control ack (emptied output)
taken_output plant (Named message) output =
    with_frames (name_frames plant message) (with_control ack (emptied output))
taken_output plant (Sent message) output = with_control ack (emptied output)

-- the bytes that are sent for it
abbrev pub sent_by : PlantData → Asked → Output → List ℕ
sent_by plant Nothing output = []
sent_by plant Repeat output = (repeated (emptied output)).bytes
sent_by plant Refused output = nak
sent_by plant Noted output = ack
sent_by plant (Named message) output =
    (with_frames (name_frames plant message) (with_control ack (emptied output))).bytes
sent_by plant (Sent message) output = ack

-- Something is sent for it, or nothing.
abbrev pub IsAnswer : PlantData → Asked → Output → Type 0
IsAnswer plant asked output = sent_by plant asked output ≢ []

abbrev pub IsNoAnswer : PlantData → Asked → Output → Type 0
IsNoAnswer plant asked output = sent_by plant asked output ≡ []

-- what comes next
abbrev pub taken_phase : Asked → Phase
taken_phase Nothing = Read
taken_phase Repeat = Read
taken_phase Refused = Read
taken_phase Noted = Read
taken_phase (Named message) = Read
taken_phase (Sent message) = Tell message
