-- The plant of a text: the plain data of its document, or the first fault in the order of the checks.
use Rattle.std.specs.Prelude.{ℕ, List, ◌++◌, Result, Ok, Err}
use Rattle.toml.specs.Data.{Members}
use Rattle.plant_file.specs.declared.fault.PlantFault.{PlantFault}
use Rattle.plant_file.specs.FirstFault.{first_fault, unless_fault}
use Rattle.plant_file.specs.KeyFaults.{sections_faults}
use Rattle.plant_file.specs.FileData.{FileData}
use Rattle.plant_file.specs.Reading.{data_of}
use Rattle.plant_file.specs.DataOfText.{document_answer}
use Rattle.plant_rules.specs.Rules.{sum_faults, twice_faults}
use Rattle.plant_rules.specs.Links.{unknown_faults, not_local_faults, no_pool_faults}

-- the faults of the data, in the order of the checks
abbrev pub data_faults : FileData → List PlantFault
data_faults file =
    sum_faults file ++ twice_faults file ++ unknown_faults file ++ not_local_faults file
    ++ no_pool_faults file

-- the faults of a document, in the order of the checks: first those of its sections, then those of its data
abbrev pub faults_of : Members → List PlantFault
faults_of document = sections_faults document ++ data_faults (data_of document)

-- the plant of a document: its data, or its first fault
unfoldable pub file_of : Members → Result FileData PlantFault
file_of document = unless_fault (data_of document) (first_fault (faults_of document))

-- the plant of a text's document, or why the text has none
abbrev pub file_in : Result Members PlantFault → Result FileData PlantFault
file_in (Ok document) = file_of document
file_in (Err fault) = Err fault

-- the plant of a text
unfoldable pub file_of_text : List ℕ → Result FileData PlantFault
file_of_text text = file_in (document_answer text)
