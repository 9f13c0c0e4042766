-- How opening a file comes to what is given, or to what stops the run.
use Rattle.std.proofs.Common.{◌≡◌, ◌≢◌, ℕ, ◌≤◌, inl, inr, Bool, true, false, List, length, Result, Ok, Err, refl, sym, subst}
use Rattle.std.specs.Prelude.{MatchBool}
use Rattle.std.specs.Borrow.{Bor}
use Rattle.std.proofs.lemmas.Bool.{false≢true}
use Rattle.ctl_io.specs.Held.{Held, Unshown, NoFile, Holds, IfHeld, IsLonger, MayBeHere, MayBeMissing}
use Rattle.ctl_io.specs.declared.whole_file.FileFault.{FileFault}
use Rattle.ctl_io.specs.declared.whole_file.FileFault.TheVariants as files
use Rattle.ctl_io.specs.WholeFile.{Well, reading_of}
use Rattle.plant_file.specs.declared.fault.PlantFault.{PlantFault}
use Rattle.plant_file.specs.declared.fault.PlantFault.TheVariants as plants
use Rattle.plant_file.specs.FirstFault.{Answers}
use Rattle.plant_config.specs.Plant.{PlantData}
use Rattle.plant_config.specs.PlantOfText.{plant_of_text}
use Rattle.command_rows.specs.declared.stop.Stop.{Stop}
use Rattle.command_rows.specs.declared.stop.Stop.TheVariants as stops
use Rattle.command_rows.specs.Moment.{Snapshot}
use Rattle.command_rows.specs.ReadsFile.{ReadsFile}
use Rattle.command_rows.specs.OpensPlant.{longest_plant, Reads, OpensFile}
use Rattle.command_rows.specs.Opener.{ReadsWhole}
use Rattle.command_rows.specs.StopInside.{stopped_of, stop_of_file, SaysFault}

-- what holds of what is held, weaker
pub if_held : {P Q : List ℕ → Type 0} (held : Held) → ((bytes : List ℕ) → P bytes → Q bytes) → IfHeld held P → IfHeld held Q
if_held Unshown weaker p = tt
if_held NoFile weaker p = p
if_held (Holds bytes) weaker p = weaker bytes p

-- a choice by a test that is known
pub match_true : (P Q : Type 0) (b : Bool) → b ≡ true → P → MatchBool b P Q
match_true P Q true is p = p
match_true P Q false is p = absurd (false≢true is)

pub match_false : (P Q : Type 0) (b : Bool) → b ≡ false → Q → MatchBool b P Q
match_false P Q true is q = absurd (false≢true (sym is))
match_false P Q false is q = q

-- a file was not read, for this fault
pub unread : {A : Type 0} (fault : FileFault) (word : Bor (List ℕ)) (most : ℕ) (name : Bor (List ℕ)) (before now : Snapshot) (read : Result A FileFault) → read ≡ Err fault
    → (read ≡ Err files.Missing → MayBeMissing (before.held name.now 0)) → (read ≡ Err files.TooLong → IsLonger most (before.held name.now 0))
    → (read ≡ Err files.NoMemory → MayBeHere (before.held name.now 0)) → ReadsFile (reading_of {A = A} (Err fault)) name.now before now
    → ReadsWhole word.now most name.now before now (Err (stopped_of (stop_of_file fault name (stops.TooLong word))))
unread files.NoMemory word most name before now read is missing too_long no_memory reads = record { finds = no_memory is; reads = reads }
unread files.Missing word most name before now read is missing too_long no_memory reads = record { finds = (refl, missing is); reads = reads }
unread files.Failed word most name before now read is missing too_long no_memory reads = record { finds = refl; reads = reads }
unread files.TooLong word most name before now read is missing too_long no_memory reads = record { finds = (refl, too_long is); reads = reads }

-- a plant's file was not read, for this fault
pub plant_unread : {A : Type 0} (fault : FileFault) (name : Bor (List ℕ)) (before now : Snapshot) (read : Result A FileFault) → read ≡ Err fault
    → (read ≡ Err files.Missing → MayBeMissing (before.held name.now 0)) → (read ≡ Err files.TooLong → IsLonger longest_plant (before.held name.now 0))
    → (read ≡ Err files.NoMemory → MayBeHere (before.held name.now 0)) → ReadsFile (reading_of {A = A} (Err fault)) name.now before now
    → OpensFile name.now before now (Err (stopped_of (stop_of_file fault name stops.PlantTooLong)))
plant_unread files.NoMemory name before now read is missing too_long no_memory reads = record { finds = no_memory is; reads = reads }
plant_unread files.Missing name before now read is missing too_long no_memory reads = record { finds = (refl, missing is); reads = reads }
plant_unread files.Failed name before now read is missing too_long no_memory reads = record { finds = refl; reads = reads }
plant_unread files.TooLong name before now read is missing too_long no_memory reads = record { finds = too_long is; reads = reads }

-- what was read of a text was read of what is held
reads_text : (held : Held) (text : List ℕ) (read : Result PlantData PlantFault) → IfHeld held (λ bytes. text ≡ bytes) → length text ≤ longest_plant → plant_of_text text ≡ read → Reads held read
reads_text held text read whole within is =
    if_held held (λ bytes same. subst (λ (b : List ℕ). (length b ≤ longest_plant) × (plant_of_text b ≡ read)) same (within, is)) whole

-- the text has a plant
plant_is : (plant : PlantData) (answer : Result PlantData PlantFault) → Answers (Ok plant) answer → answer ≡ Ok plant
plant_is plant answer (inl is) = sym is
plant_is plant answer (inr memory) = absurd (cc)

pub text_read : (plant : PlantData) (name : List ℕ) (before now : Snapshot) (text : List ℕ) → IfHeld (before.held name 0) (λ bytes. text ≡ bytes) → length text ≤ longest_plant
    → Answers (Ok plant) (plant_of_text text) → ReadsFile Well name before now → OpensFile name before now (Ok plant)
text_read plant name before now text whole within answers well =
    record { finds = reads_text (before.held name 0) text (Ok plant) whole within (plant_is plant (plant_of_text text) answers); reads = well }

-- the text has a fault, or memory ran out
fault_is : (fault : PlantFault) (answer : Result PlantData PlantFault) → fault ≢ plants.NoMemory → Answers (Err fault) answer → answer ≡ Err fault
fault_is fault answer other (inl is) = sym is
fault_is fault answer other (inr memory) = absurd (other (cc))

pub text_refused : (fault : PlantFault) (stop : Stop) (name : List ℕ) (before now : Snapshot) (text : List ℕ) → IfHeld (before.held name 0) (λ bytes. text ≡ bytes) → length text ≤ longest_plant
    → Answers (Err fault) (plant_of_text text) → SaysFault fault stop → ReadsFile Well name before now → OpensFile name before now (Err (stopped_of stop))
text_refused fault stops.NoMemory name before now text whole within answers says well =
    record { finds = if_held (before.held name 0) (λ bytes same. tt) whole; reads = well }
text_refused fault (stops.PlantRefused why) name before now text whole within answers says well = record {
  finds = record {
    fault = fault;
    text = says.0;
    reads = reads_text (before.held name 0) text (Err fault) whole within (fault_is fault (plant_of_text text) says.1 answers);
  };
  reads = well;
}
text_refused fault (stops.FileMissing missing) name before now text whole within answers says well = absurd says
text_refused fault (stops.FileFault failed) name before now text whole within answers says well = absurd says
text_refused fault stops.PlantTooLong name before now text whole within answers says well = absurd says
text_refused fault (stops.TooLong word) name before now text whole within answers says well = absurd says
