-- What a session sends next, and the names of its plant.
use Rattle.std.specs.Prelude.{◌≡◌, ◌≤◌}
use Rattle.plant_config.specs.Plant.{PlantData}
use Rattle.panel_session.specs.RoomsInside.{most_at_once, room_to_send}
use Rattle.panel_session.specs.Text.{Output}
use Rattle.panel_session.specs.declared.sending.sender.Sender.TheInside.{Inside}

pub record SenderData : Type 0 where
  pub names : PlantData
  pub output : Output

abbrev pub sends_of : Inside → SenderData
sends_of sender = record { names = sender.names.now; output = sender.outgoing.output }

-- There is room for what is sent at once.
pub record HasPageRoom (sender : Inside) : Type 0 where
  pub room : room_to_send sender.names.now ≤ sender.outgoing.room
  pub most : sender.most ≡ most_at_once sender.names.now

-- the same names, and this is sent next
abbrev pub sending : Output → SenderData → SenderData
sending output sends = record sends { output = output }
