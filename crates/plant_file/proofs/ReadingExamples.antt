-- What is read, computed: names that are there and default ones, texts that are no document, and printed lines.
use Rattle.std.proofs.Common.{◌≡◌, pos, negsuc, [], ◌∷◌, Err, refl, codes}
use Rattle.std.specs.Fmt.{digits}
use Rattle.std.specs.Str.{chars, is_utf8}
use Rattle.toml.proofs.OnLiterals.{toml_on_literals}
use Rattle.plant_file.specs.declared.fault.Section.TheVariants as sections
use Rattle.plant_file.specs.declared.fault.Field.TheVariants as fields
use Rattle.plant_file.specs.declared.fault.PlantFault.TheVariants.{NotToml, WrongType, OutOfRange}
use Rattle.plant_file.specs.KeyFaults.{place}
use Rattle.plant_file.specs.Reading.{names_of, source_letter}
use Rattle.plant_file.specs.DataOfText.{document_answer, data_of_text}
use Rattle.plant_file.specs.FaultText.{fault_text}

-- names that are there, and default names behind them
names_are : names_of source_letter 3 (codes "BLACK" ∷ []) ≡ codes "BLACK" ∷ codes "S1" ∷ codes "S2" ∷ []
unfolding digits
names_are = refl

-- Bytes that are no UTF-8, and a text that is no document.
no_utf8 : data_of_text (255 ∷ []) ≡ Err NotToml
unfolding is_utf8 chars document_answer
no_utf8 = refl

no_document : data_of_text (codes "title") ≡ Err NotToml
unfolding is_utf8 chars toml_on_literals document_answer
no_document = refl

-- The printed lines.
range_text : fault_text (OutOfRange (place sections.Level 0 fields.Sources) (pos 70000) (pos 1) (pos 65535)) ≡ codes "OutOfRange at level 0 sources: 70000 not in 1 to 65535"
unfolding digits fault_text
range_text = refl

below_text : fault_text (OutOfRange (place sections.Panel 12 fields.Port) (negsuc 0) (pos 1) (pos 65535)) ≡ codes "OutOfRange at panel 12 port: -1 not in 1 to 65535"
unfolding digits fault_text
below_text = refl

reserve_text : fault_text (OutOfRange (place sections.Pool 0 fields.Reserve) (pos 2) (pos 0) (pos 1)) ≡ codes "OutOfRange at pool 0 reserve: 2 not in 0 to 1"
unfolding digits fault_text
reserve_text = refl

whole_text : fault_text (WrongType (place sections.Bus 0 fields.Whole)) ≡ codes "WrongType at bus 0 entries"
unfolding digits fault_text
whole_text = refl
