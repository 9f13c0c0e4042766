-- The document of a text.
use Rattle.std.proofs.Common.{◌≡◌, ℕ, List, Some, None, Ok, Err, refl, inl, inr}
use Rattle.std.specs.Str.{is_utf8, IsUtf8}
use Rattle.std.proofs.lemmas.Bool.{cases_Bool}
use Rattle.std.proofs.lemmas.Str.{IsUtf8-from_is_utf8, is_utf8-from_IsUtf8}
use Rattle.toml.specs.Data.{Members}
use Rattle.toml.specs.Parse.{parse_document}
use Rattle.plant_file.specs.declared.fault.PlantFault.TheVariants.{NotToml}
use Rattle.plant_file.specs.DataOfText.{document_answer}

-- a text that isn't UTF-8
pub document-bytes : (text : List ℕ) → (IsUtf8 text → ⊥) → document_answer text ≡ Err NotToml
unfolding document_answer
document-bytes text wrong =
    elim (cases_Bool (is_utf8 text)) [
      | inl is ↦ absurd (wrong (IsUtf8-from_is_utf8 text is))
      | inr other ↦ rw other refl
    ]

-- a document
pub document-Ok : (text : List ℕ) (document : Members) → IsUtf8 text → parse_document text ≡ Some document → document_answer text ≡ Ok document
unfolding document_answer
document-Ok text document utf8 parsed = rw (is_utf8-from_IsUtf8 text utf8, parsed) refl

-- no document
pub document-None : (text : List ℕ) → IsUtf8 text → parse_document text ≡ None → document_answer text ≡ Err NotToml
unfolding document_answer
document-None text utf8 refused = rw (is_utf8-from_IsUtf8 text utf8, refused) refl
