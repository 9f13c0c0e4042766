-- Which message DATA spells.
use Rattle.std.specs.Prelude.{◌≡◌, ℕ, ◌⊎◌, List, [], ◌∷◌, ◌++◌}
use Rattle.swp08_messages.specs.declared.field.Field.{Field}
use Rattle.swp08_messages.specs.declared.message.Message.{Message}
use Rattle.swp08_messages.specs.Field.{byte_of, looked_at}
use Rattle.swp08_messages.specs.Row.{MessageRow, row}
use Rattle.swp08_messages.specs.Text.{InRange}

-- The bytes are those of the fields, one each, but for the bits that aren't looked at. [profile]
abbrev pub SpellFields : List ℕ → List Field → Type 0
SpellFields [] [] = Unit {0}
SpellFields (byte ∷ bytes) (field ∷ fields) =
    (looked_at field byte ≡ byte_of field) × SpellFields bytes fields
SpellFields [] (field ∷ fields) = ⊥
SpellFields (byte ∷ bytes) [] = ⊥

-- The bytes behind a command are those of the row's fields, or of these and of what DATA may have behind them. [profile]
abbrev pub SpellRow : List ℕ → MessageRow → Type 0
SpellRow bytes row = SpellFields bytes row.fields ⊎ SpellFields bytes (row.fields ++ row.spare)

-- DATA spells a message that is in its ranges: first its command, and behind it the bytes of its row. [profile]
pub record Spells (bytes : List ℕ) (message : Message) : Type 0 where
  pub in_range : InRange message
  pub behind : List ℕ
  pub parts : bytes ≡ (row message).command ∷ behind
  pub fields : SpellRow behind (row message)
