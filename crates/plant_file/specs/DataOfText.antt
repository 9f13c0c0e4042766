-- What a text says by its sections and keys.
use Rattle.std.specs.Prelude.{ℕ, List, if◌then◌else◌, Result, Ok, Err}
use Rattle.std.specs.Option.{option_map_or}
use Rattle.std.specs.Str.{is_utf8}
use Rattle.toml.specs.Data.{Members}
use Rattle.toml.specs.Parse.{parse_document}
use Rattle.plant_file.specs.declared.fault.PlantFault.{PlantFault}
use Rattle.plant_file.specs.declared.fault.PlantFault.TheVariants.{NotToml}
use Rattle.plant_file.specs.FirstFault.{first_fault, unless_fault}
use Rattle.plant_file.specs.KeyFaults.{sections_faults}
use Rattle.plant_file.specs.FileData.{FileData}
use Rattle.plant_file.specs.Reading.{data_of}

-- The document of a text. A text that isn't UTF-8 is no TOML document.
unfoldable pub document_answer : List ℕ → Result Members PlantFault
document_answer text =
    if is_utf8 text then option_map_or (λ document. Ok document) (parse_document text) (Err NotToml)
    else Err NotToml

-- what the sections of a document say, or the first fault of theirs
abbrev pub sections_in : Result Members PlantFault → Result FileData PlantFault
sections_in (Ok document) = unless_fault (data_of document) (first_fault (sections_faults document))
sections_in (Err fault) = Err fault

-- what a text says: the data of its document, or the first fault of its sections and keys
abbrev pub data_of_text : List ℕ → Result FileData PlantFault
data_of_text text = sections_in (document_answer text)
