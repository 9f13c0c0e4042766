-- A driver and the frame that it drives, over a line that loses messages and keeps their order.
use Rattle.std.specs.Prelude.{◌≡◌, ℕ, nat_eq, if◌then◌else◌, List, [], ◌∷◌, ◌++◌, Option}
use Rattle.std.specs.Option.{option_to_list}
use Rattle.swp08_messages.specs.declared.message.Message.{Message}
use Rattle.swp08_messages.specs.declared.message.Message.TheVariants.{Connect, Connected, ExtConnect, ExtConnected}
use Rattle.matrix_driver.specs.declared.event.DriverEvent.{DriverEvent}
use Rattle.matrix_driver.specs.declared.event.DriverEvent.TheVariants.{Want, Heard, Nak, Timeout}
use Rattle.matrix_driver.specs.declared.level.Level.{Level}
use Rattle.matrix_driver.specs.Driver.{Data, start, happens, answer, MayCome}

-- what each destination of the frame carries, none where it is parked
abbrev pub Carried : Type 0
Carried = ℕ → Option ℕ

-- the driver, the messages on the way to the frame and those on the way back, the first one first, and what the frame's
-- destinations carry
pub record World : Type 0 where
  pub driver : Data
  pub to_frame : List Message
  pub to_driver : List Message
  pub carried : Carried

-- a new driver, nothing on the way, and a frame that carries anything
abbrev pub new_world : Level → Carried → World
new_world level carried =
    record { driver = start level; to_frame = []; to_driver = []; carried = carried }

-- a destination carries a source from now on
abbrev pub carries : Carried → ℕ → Option ℕ → Carried
carries carried dest source = λ other. if nat_eq other dest then source else carried other

-- the frame makes the connect that it takes
abbrev pub made_by : Carried → Message → Carried
made_by carried (Connect at source) = carries carried at.dest source
made_by carried (ExtConnect at source) = carries carried at.dest source
made_by carried message = carried

-- what the frame tells then
abbrev pub told_by : Message → List Message
told_by (Connect at source) = Connected at source ∷ []
told_by (ExtConnect at source) = ExtConnected at source ∷ []
told_by message = []

-- An event comes to the driver, and its answer is put at the end of the way to the frame.
abbrev pub comes : World → DriverEvent → World
comes world event = record world {
  driver = (happens world.driver event).driver;
  to_frame = world.to_frame ++ option_to_list (answer world.driver event);
}

-- The frame takes a message, makes the connect, and tells so at the end of the way back. These stay on the way to it.
abbrev pub takes : World → Message → List Message → World
takes world message rest = record world {
  to_frame = rest;
  to_driver = world.to_driver ++ told_by message;
  carried = made_by world.carried message;
}

-- The driver hears a message. These stay on the way to it.
abbrev pub hears_of : World → Message → List Message → World
hears_of world message rest = comes (record world { to_driver = rest }) (Heard message)

-- what may happen next
pub data Step : Type 0 where
  -- a source is wanted of a destination, or the frame refuses bytes, or an answer is overdue
  Wanted : (dest : ℕ) → (source : Option ℕ) → Step
  Refused : Step
  Overdue : Step
  -- a message is lost, on the way to the frame or on the way back
  LostForth : Step
  LostBack : Step
  -- the frame takes the first message on the way to it, the driver hears the first one on the way back
  Taken : Step
  Told : Step

-- One message, whichever it is, isn't there any more, and the others are as they were.
pub record LosesOne (old new : List Message) : Type 0 where
  pub before : List Message
  pub lost : Message
  pub behind : List Message
  pub was : old ≡ before ++ lost ∷ behind
  pub is : new ≡ before ++ behind

-- the world with other messages on the way to the frame, and on the way back
abbrev pub with_forth : World → List Message → World
with_forth world messages = record world { to_frame = messages }

abbrev pub with_back : World → List Message → World
with_back world messages = record world { to_driver = messages }

-- A message is lost on the way to the frame, and on the way back.
pub record LosesForth (old new : World) : Type 0 where
  pub one : LosesOne old.to_frame new.to_frame
  pub others : new ≡ with_forth old new.to_frame

pub record LosesBack (old new : World) : Type 0 where
  pub one : LosesOne old.to_driver new.to_driver
  pub others : new ≡ with_back old new.to_driver

-- The frame takes the first message on the way to it.
pub record IsTaken (old new : World) : Type 0 where
  pub first : Message
  pub rest : List Message
  pub way : old.to_frame ≡ first ∷ rest
  pub is : new ≡ takes old first rest

-- The driver hears the first message on the way back.
pub record IsTold (old new : World) : Type 0 where
  pub first : Message
  pub rest : List Message
  pub way : old.to_driver ≡ first ∷ rest
  pub is : new ≡ hears_of old first rest

-- An event that may come does.
pub record Comes (old : World) (event : DriverEvent) (new : World) : Type 0 where
  pub may : MayCome old.driver.level event
  pub is : new ≡ comes old event

-- A step leads from one world to another.
abbrev pub Leads : World → Step → World → Type 0
Leads old (Wanted dest source) new = Comes old (Want dest source) new
Leads old Refused new = Comes old Nak new
Leads old Overdue new = Comes old Timeout new
Leads old LostForth new = LosesForth old new
Leads old LostBack new = LosesBack old new
Leads old Taken new = IsTaken old new
Leads old Told new = IsTold old new

-- Steps one after another lead from one world to another.
abbrev pub Runs : World → List Step → World → Type 0
Runs old [] new = old ≡ new
Runs old (step ∷ steps) new =
    (between : World) × Leads old step between × Runs between steps new
