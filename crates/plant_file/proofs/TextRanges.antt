-- What is read of a text is within its ranges.
use Rattle.std.proofs.Common.{◌≡◌, ℕ, List, [], ◌∷◌, Result, Ok, Err, IfOk, refl, sym, inl, inr}
use Rattle.std.specs.Result.{ForOk}
use Rattle.toml.specs.Data.{Members}
use Rattle.plant_file.specs.declared.fault.PlantFault.{PlantFault}
use Rattle.plant_file.specs.FirstFault.{first_fault, unless_fault, Answers}
use Rattle.plant_file.specs.KeyFaults.{sections_faults}
use Rattle.plant_file.specs.FileData.{FileData}
use Rattle.plant_file.specs.Reading.{data_of}
use Rattle.plant_file.specs.DataOfText.{document_answer, sections_in, data_of_text}
use Rattle.plant_file.specs.Ranges.{AreInRange}
use Rattle.plant_file.proofs.SectionRanges.{AreInRange-data_of}

-- what sections say
data-in-range : (read file : FileData) (faults : List PlantFault) → (faults ≡ [] → AreInRange read) → unless_fault read (first_fault faults) ≡ Ok file → AreInRange file
data-in-range read file [] right is = let same : file ≡ read = cc in rw same (right refl)
data-in-range read file (fault ∷ more) right is = cc

sections-in-range : (document : Result Members PlantFault) (file : FileData) → sections_in document ≡ Ok file → AreInRange file
sections-in-range (Ok document) file is = data-in-range (data_of document) file (sections_faults document) (AreInRange-data_of document) is
sections-in-range (Err fault) file is = cc

pub AreInRange-data_of_text : (text : List ℕ) → ForOk (data_of_text text) AreInRange
AreInRange-data_of_text text file is = sections-in-range (document_answer text) file is

-- what is answered of a document
pub answer-in-range : (document : Members) (result : Result FileData PlantFault) → Answers result (sections_in (Ok document)) → IfOk result AreInRange
answer-in-range document (Ok file) (inl is) = sections-in-range (Ok document) file (sym is)
answer-in-range document (Ok file) (inr memory) = cc
answer-in-range document (Err fault) answer = tt
