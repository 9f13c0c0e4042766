-- What is known of a document by its plant.
use Rattle.std.proofs.Common.{◌≡◌, [], Some, Ok, Err}
use Rattle.toml.specs.Data.{Members}
use Rattle.plant_file.specs.declared.fault.PlantFault.{PlantFault}
use Rattle.plant_file.specs.FirstFault.{first_fault}
use Rattle.plant_file.specs.FileData.{FileData}
use Rattle.plant_file.specs.Reading.{data_of}
use Rattle.plant_file.proofs.FirstFault.{unless_fault-Ok, unless_fault-Err}
use Rattle.plant_rules.specs.PlantFile.{faults_of, file_of}

-- a plant is the data of its document, which has no fault
pub file_of-Ok : (document : Members) (file : FileData) → file_of document ≡ Ok file → (data_of document ≡ file) × (faults_of document ≡ [])
unfolding file_of
file_of-Ok document file is = unless_fault-Ok (data_of document) file (faults_of document) is

-- a fault that is answered is the first of its document
pub file_of-Err : (document : Members) (fault : PlantFault) → file_of document ≡ Err fault → first_fault (faults_of document) ≡ Some fault
unfolding file_of
file_of-Err document fault is = unless_fault-Err (data_of document) fault (faults_of document) is
