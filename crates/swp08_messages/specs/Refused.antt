-- Why DATA spells no message, said by the messages that other DATA spells.
use Rattle.std.specs.Prelude.{◌≡◌, ◌≢◌, ℕ, ◌+◌, List, [], ◌∷◌, ◌++◌, length}
use Rattle.swp08_messages.specs.declared.fault.ReadFault.{ReadFault}
use Rattle.swp08_messages.specs.declared.fault.ReadFault.TheVariants.{UnknownCommand, WrongLength, BadField}
use Rattle.swp08_messages.specs.declared.message.Message.{Message}
use Rattle.swp08_messages.specs.Row.{row}
use Rattle.swp08_messages.specs.Text.{text}
use Rattle.swp08_messages.specs.Spelled.{Spells}

-- No message has the command that the DATA begins with. [profile]
pub record HasUnknownCommand (bytes : List ℕ) (command : ℕ) : Type 0 where
  pub behind : List ℕ
  pub parts : bytes ≡ command ∷ behind
  pub never : (message : Message) → (row message).command ≢ command

-- No DATA that has this command and so many bytes behind it spells a message. [profile]
abbrev pub NoneOfLength : ℕ → ℕ → Type 0
NoneOfLength command count =
    (behind : List ℕ) (message : Message) → length behind ≡ count
    → Spells (command ∷ behind) message → ⊥

-- Some message has this command, its text has so many bytes as are wanted, and no DATA with the command and so many
-- bytes behind it as these spells a message. [profile]
pub record HasWrongCount (command : ℕ) (behind : List ℕ) (wanted : ℕ) : Type 0 where
  pub message : Message
  pub command_is : (row message).command ≡ command
  pub wanted_is : wanted ≡ length (text message)
  pub never : NoneOfLength command (length behind)

-- The DATA has not so many bytes as are wanted. Where it has none at all, a command is wanted. [profile]
abbrev pub HasWrongLength : List ℕ → ℕ → Type 0
HasWrongLength [] wanted = wanted ≡ 1
HasWrongLength (command ∷ behind) wanted = HasWrongCount command behind wanted

-- No DATA that begins with this command, these bytes and this one, and has so many bytes behind them, spells a message. [profile]
abbrev pub NoneGoesOn : ℕ → List ℕ → ℕ → ℕ → Type 0
NoneGoesOn command front byte count =
    (more : List ℕ) (message : Message) → length more ≡ count
    → Spells (command ∷ (front ++ byte ∷ more)) message → ⊥

-- The byte at this place behind the command is the first that is wrong: with the bytes in front of it, DATA of so many
-- bytes spells a message if it goes on in some way, and with this byte too it spells none, however it goes on. [profile]
pub record HasBadField (bytes : List ℕ) (place byte : ℕ) : Type 0 where
  pub command : ℕ
  pub front : List ℕ
  pub rest : List ℕ
  pub parts : bytes ≡ command ∷ (front ++ byte ∷ rest)
  pub place_is : place ≡ 1 + length front
  pub others : List ℕ
  pub message : Message
  pub length_is : length others ≡ 1 + length rest
  pub good : Spells (command ∷ (front ++ others)) message
  pub never : NoneGoesOn command front byte (length rest)

-- The DATA is refused with this fault. [profile]
abbrev pub IsRefused : List ℕ → ReadFault → Type 0
IsRefused bytes (UnknownCommand command) = HasUnknownCommand bytes command
IsRefused bytes (WrongLength found wanted) = (found ≡ length bytes) × HasWrongLength bytes wanted
IsRefused bytes (BadField place byte) = HasBadField bytes place byte
