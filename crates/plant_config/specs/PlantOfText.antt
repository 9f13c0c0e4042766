-- The plant of a plant file's text, or the text's first fault.
use Rattle.std.specs.Prelude.{ℕ, List, Result, Ok, Err}
use Rattle.plant_file.specs.declared.fault.PlantFault.{PlantFault}
use Rattle.plant_file.specs.FileData.{FileData}
use Rattle.plant_rules.specs.PlantFile.{file_of_text}
use Rattle.plant_config.specs.Plant.{PlantData}
use Rattle.plant_config.specs.PlantOfFile.{plant_of_file}

-- a file's plant, where the file has no fault
abbrev pub plant_in : Result FileData PlantFault → Result PlantData PlantFault
plant_in (Ok file) = Ok (plant_of_file file)
plant_in (Err fault) = Err fault

abbrev pub plant_of_text : List ℕ → Result PlantData PlantFault
plant_of_text text = plant_in (file_of_text text)
