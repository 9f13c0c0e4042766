-- A plant that the files show is one.
use Rattle.std.proofs.Common.{◌≡◌, inl, inr, ℕ, Bool, true, false, List, Result, Ok, Err, refl, sym, ap, subst}
use Rattle.std.specs.Prelude.{MatchBool}
use Rattle.std.specs.Result.{ForOk}
use Rattle.ctl_io.specs.Held.{Held, Unshown, NoFile, Holds}
use Rattle.plant_file.specs.declared.fault.PlantFault.{PlantFault}
use Rattle.plant_file.specs.FileData.{FileData}
use Rattle.plant_rules.specs.PlantFile.{file_of_text}
use Rattle.plant_rules.specs.IsFile.{IsFile}
use Rattle.plant_config.specs.Plant.{PlantData}
use Rattle.plant_config.specs.Bench.{bench}
use Rattle.plant_config.specs.IsPlant.{IsPlant}
use Rattle.plant_config.specs.PlantOfFile.{plant_of_file}
use Rattle.plant_config.specs.PlantOfText.{plant_in, plant_of_text}
use Rattle.plant_config.proofs.BenchLemmas.{bench_is_plant}
use Rattle.plant_config.proofs.PlantOfFile.{is_plant}
use Rattle.command_rows.specs.End.{Stopped}
use Rattle.command_rows.specs.OpensPlant.{is_bench}
use Rattle.command_rows.specs.Shown.{TextShows, FileShows}
use Rattle.command_rows.specs.ShownLaws.{ShownPlantsArePlants}

-- What a text without a fault says is right.
abbrev pub FilesAreRight : Type 0
FilesAreRight = (text : List ℕ) → ForOk (file_of_text text) IsFile

of_read : FilesAreRight → (text : List ℕ) (plant : PlantData) (read : Result FileData PlantFault) → file_of_text text ≡ read → plant_in read ≡ Ok plant → IsPlant plant
of_read right text plant (Ok file) is gives =
    let same : plant_of_file file ≡ plant = cc in
    subst IsPlant same (is_plant file (right text file is))
of_read right text plant (Err fault) is gives = cc

text_gives : (plant : PlantData) (answer : Result PlantData PlantFault) → TextShows answer (Ok plant) → answer ≡ Ok plant
text_gives plant (Ok its) shows =
    let same : plant ≡ its = cc in
    ap (λ (p : PlantData). Ok p) (sym same)
text_gives plant (Err fault) shows = absurd (cc)

of_file : FilesAreRight → (name : List ℕ) (held : Held) (plant : PlantData) → FileShows name held (Ok plant) → IsPlant plant
of_file right name Unshown plant shows = absurd shows
of_file right name NoFile plant shows = absurd (cc)
of_file right name (Holds text) plant (inl long) = absurd (let no = long.1 in cc)
of_file right name (Holds text) plant (inr short) = of_read right text plant (file_of_text text) refl (text_gives plant (plant_of_text text) short.1)

of_word : FilesAreRight → (b : Bool) (name : List ℕ) (held : Held) (plant : PlantData) → MatchBool b (◌≡◌ {A = Result PlantData Stopped} (Ok plant) (Ok bench)) (FileShows name held (Ok plant)) → IsPlant plant
of_word right true name held plant shows =
    let same : plant ≡ bench = cc in
    subst IsPlant (sym same) bench_is_plant
of_word right false name held plant shows = of_file right name held plant shows

pub shown_plants : FilesAreRight → ShownPlantsArePlants
shown_plants right word held plant shows = of_word right (is_bench word) word (held word 0) plant shows
