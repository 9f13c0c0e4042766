use Rattle.std.proofs.Common.{◌≡◌, map, ◌∙◌, append_assoc, refl}
use Rattle.swp08_messages.specs.Field.{byte_of}
use Rattle.swp08_messages.specs.Row.{row}
use Rattle.swp08_messages.proofs.ViewLemmas.{written-bytes}
use Rattle.swp08_messages.proofs.message.Message.write.Goals as goal

-- The command was appended, and then the bytes of the fields.
pub returns-clause-text : goal.returns-clause-text
returns-clause-text c =
    let fields : c.as_slice.result.now ≡ map byte_of (row c.args.self.now).fields =
    c.as_slice.ensures.value ∙ c.fields.ensures ∙ written-bytes (row c.args.self.now).fields c.requires.in_range in
    rw (c.push_all.ensures.text, c.push_reserved.ensures.items, c.command.ensures, fields, append_assoc) refl
