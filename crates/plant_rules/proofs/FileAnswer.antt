-- What a text says, by what its sections say: the same without a fault of the data, and the first such fault otherwise.
use Rattle.std.proofs.Common.{◌≡◌, ℕ, List, [], ◌∷◌, ◌++◌, ◌∙◌, Some, None, Result, Ok, Err, refl, sym, ap, inl, inr}
use Rattle.toml.specs.Data.{Members}
use Rattle.plant_file.specs.declared.fault.PlantFault.{PlantFault}
use Rattle.plant_file.specs.FirstFault.{first_fault, unless_fault, Answers}
use Rattle.plant_file.specs.KeyFaults.{sections_faults}
use Rattle.plant_file.specs.FileData.{FileData}
use Rattle.plant_file.specs.Reading.{data_of}
use Rattle.plant_rules.specs.PlantFile.{data_faults, file_of, file_in, file_of_text}
use Rattle.plant_file.specs.Ranges.{AreInRange}
use Rattle.plant_rules.specs.IsFile.{IsFile}
use Rattle.plant_file.specs.DataOfText.{document_answer, sections_in, data_of_text}
use Rattle.plant_file.proofs.FirstFault.{first_fault-none}
use Rattle.plant_rules.proofs.FileRules.{IsFile-from_none}

-- what sections say, unless their data has a fault
abbrev checked : Result FileData PlantFault → Result FileData PlantFault
checked (Ok file) = unless_fault file (first_fault (data_faults file))
checked (Err fault) = Err fault

checked-faults : (read : FileData) (faults : List PlantFault) →
    unless_fault read (first_fault (faults ++ data_faults read)) ≡ checked (unless_fault read (first_fault faults))
checked-faults read [] = refl
checked-faults read (fault ∷ more) = refl

checked-file_of : (document : Members) → file_of document ≡ checked (sections_in (Ok document))
unfolding file_of
checked-file_of document = checked-faults (data_of document) (sections_faults document)

checked-file_in : (document : Result Members PlantFault) → file_in document ≡ checked (sections_in document)
checked-file_in (Ok document) = checked-file_of document
checked-file_in (Err fault) = refl

pub checked-file_of_text : (text : List ℕ) → file_of_text text ≡ checked (data_of_text text)
unfolding file_of_text
checked-file_of_text text = checked-file_in (document_answer text)

-- a fault of the sections is one of the text
pub sections-fail : (text : List ℕ) (fault : PlantFault) → Answers (Err fault) (data_of_text text) → Answers (Err fault) (file_of_text text)
sections-fail text fault (inl is) = inl (sym (checked-file_of_text text ∙ ap checked (sym is)))
sections-fail text fault (inr memory) = inr memory

-- a fault of the data is one of the text
pub data-fails : (text : List ℕ) (file : FileData) (fault : PlantFault) → Answers (Ok file) (data_of_text text) →
    Some fault ≡ first_fault (data_faults file) → Answers (Err fault) (file_of_text text)
data-fails text file fault (inl is) found = inl (sym (checked-file_of_text text ∙ ap checked (sym is) ∙ ap (unless_fault file) (sym found)))
data-fails text file fault (inr memory) found = cc

-- what the sections say is what the text says, where the data has no fault
pub data-right : (text : List ℕ) (file : FileData) → Answers (Ok file) (data_of_text text) →
    None ≡ first_fault (data_faults file) → Answers (Ok file) (file_of_text text)
data-right text file (inl is) none = inl (sym (checked-file_of_text text ∙ ap checked (sym is) ∙ ap (unless_fault file) (sym none)))
data-right text file (inr memory) none = cc

-- what the sections say is a plant file, where the data has no fault
pub right-data : (file : FileData) → AreInRange file → None ≡ first_fault (data_faults file) → IsFile file
right-data file ranges none = IsFile-from_none file ranges (first_fault-none (data_faults file) (sym none))
