-- What is wanted of the fields of a row, and what it says of the fields.
use Rattle.std.proofs.Common.{◌≡◌, List, [], ◌∷◌, map, refl, ap, ◌∙◌, arith}
use Rattle.std.specs.List.{AllByRecursion}
use Rattle.swp08_messages.specs.declared.field.Field.{Field}
use Rattle.swp08_messages.specs.Field.{HasRoom, byte_of}
use Rattle.swp08_messages.specs.ViewsInside.{written}
use Rattle.swp08_messages.proofs.FieldLemmas.{byte_of-below}

-- In their ranges, fields are written as their bytes.
pub written-bytes : (fields : List Field) → AllByRecursion HasRoom fields → map written fields ≡ map byte_of fields
written-bytes [] room = refl
written-bytes (field ∷ fields) room =
    let below = byte_of-below field room.0 in
    let here : written field ≡ byte_of field = omega arith in
    ap (λ byte. byte ∷ map written fields) here ∙ ap (λ bytes. byte_of field ∷ bytes) (written-bytes fields room.1)
