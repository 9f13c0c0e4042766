-- What opening leaves of the files.
use Rattle.std.proofs.Common.{◌≡◌, inl, inr, ℕ, ◌-◌, Bool, true, false, List, [], ◌∷◌, ◌++◌, length, Result, Ok, Err, refl, sym, ◌∙◌, ap, subst}
use Rattle.std.specs.Prelude.{MatchBool, if◌then◌else◌}
use Rattle.ctl_io.specs.Faults.{count_after}
use Rattle.ctl_io.specs.Held.{Held}
use Rattle.ctl_io.specs.WholeFile.{FileReading, Well, reading_failed}
use Rattle.plant_config.specs.Plant.{PlantData}
use Rattle.command_words.specs.Parts.{Part, Plant, Whole, Made, Store, Later, Number, Last, NoMore, Wholes, Prefix, Said, SaidLast}
use Rattle.command_rows.specs.Moment.{Snapshot}
use Rattle.command_rows.specs.End.{Stopped, NoMemory, FileMissing, FileFault, PlantRefused, PlantTooLong, TooLong}
use Rattle.command_rows.specs.ReadsFile.{ReadsFile, stop_reading, reading_for}
use Rattle.command_rows.specs.OpensPlant.{FindsPlant, OpensFile, IsBench, is_bench}
use Rattle.command_rows.specs.Opener.{Given, GivenLast, FindsWhole, ReadsAll, Leads, LastLeads}
use Rattle.command_rows.specs.OpenerLaws.{part_files, last_files, form_files, ReadsFiles, ReadsFront, OpeningReadsFront, OpeningCounts, OpeningMakesNone, OpeningLendsNone, CausedBy, HasCause, OpeningHasCause}
use Rattle.command_rows.proofs.OpensLemmas.{if_held}

-- none was read, or one
none_read : (names : List (List ℕ)) (before now : Snapshot) → now ≡ before → ReadsFront Well names before now
none_read names before now same = record { opened = []; unopened = names; front = refl; reads = (refl, same) }

one_read : (reading : FileReading) (name : List ℕ) (later : List (List ℕ)) (before now : Snapshot) → ReadsFile reading name before now → ReadsFront reading (name ∷ later) before now
one_read reading name later before now read = record { opened = name ∷ []; unopened = later; front = refl; reads = inl (refl, read) }

-- one was read well, and a front of others behind it
more_read : (reading : FileReading) (name : List ℕ) (later : List (List ℕ)) (before between now : Snapshot) → ReadsFile Well name before between → ReadsFront reading later between now → ReadsFront reading (name ∷ later) before now
more_read reading name later before between now read others =
    record { opened = name ∷ others.opened; unopened = others.unopened; front = ap (λ (ns : List (List ℕ)). name ∷ ns) others.front; reads = inr (between, read, others.reads) }

-- The files of one part were read well, all of them.
abbrev WellRead : List (List ℕ) → Snapshot → Snapshot → Type 0
WellRead [] before now = now ≡ before
WellRead (name ∷ later) before now = (between : Snapshot) × ReadsFile Well name before between × WellRead later between now

behind_well : (reading : FileReading) (one later : List (List ℕ)) (before between now : Snapshot) → WellRead one before between → ReadsFront reading later between now → ReadsFront reading (one ++ later) before now
behind_well reading [] later before between now same others = subst (λ (s : Snapshot). ReadsFront reading later s now) same others
behind_well reading (name ∷ one) later before between now (next, read, well) others =
    more_read reading name (one ++ later) before next now read (behind_well reading one later next between now well others)

-- the bench plant's files are none, and every other plant's is one
bench_well : (opened : Result PlantData Stopped) → IsBench opened → reading_for opened ≡ Well
bench_well (Ok plant) bench = refl
bench_well (Err NoMemory) bench = refl
bench_well (Err (FileMissing name)) bench = absurd bench
bench_well (Err (FileFault name)) bench = absurd bench
bench_well (Err (PlantRefused why)) bench = absurd bench
bench_well (Err PlantTooLong) bench = absurd bench
bench_well (Err (TooLong word)) bench = absurd bench

plant_front : (b : Bool) (word : List ℕ) (later : List (List ℕ)) (before now : Snapshot) (opened : Result PlantData Stopped) → MatchBool b (IsBench opened × (now ≡ before)) (OpensFile word before now opened)
    → ReadsFront (reading_for opened) ((if b then [] else word ∷ []) ++ later) before now
plant_front true word later before now opened leads = subst (λ (r : FileReading). ReadsFront r later before now) (sym (bench_well opened leads.0)) (none_read later before now leads.1)
plant_front false word later before now opened leads = one_read (reading_for opened) word later before now leads.reads

plant_well : (b : Bool) (word : List ℕ) (before now : Snapshot) (plant : PlantData) → MatchBool b (IsBench (Ok plant) × (now ≡ before)) (OpensFile word before now (Ok plant)) → WellRead (if b then [] else word ∷ []) before now
plant_well true word before now plant leads = leads.1
plant_well false word before now plant leads = (now, leads.reads, refl)

-- a part that gives what it says reads all of its files well
part_well : (part : Part) (said : Said part) (given : Given part) (before now : Snapshot) → Leads part said before now (Ok given) → WellRead (part_files part said) before now
part_well Plant said given before now leads = plant_well (is_bench said) said before now given leads
part_well (Whole kind) said given before now leads = (now, leads.reads, refl)
part_well Made said given before now leads = leads.1
part_well Store said given before now leads = leads.1
part_well (Later kind) said given before now leads = leads.1
part_well (Number low most) said given before now leads = leads.1

-- and one that stops the run reads a front of them
part_stops : (part : Part) (said : Said part) (later : List (List ℕ)) (stopped : Stopped) (before now : Snapshot) → Leads part said before now (Err stopped)
    → ReadsFront (stop_reading stopped) (part_files part said ++ later) before now
part_stops Plant said later stopped before now leads = plant_front (is_bench said) said later before now (Err stopped) leads
part_stops (Whole kind) said later stopped before now leads = one_read (stop_reading stopped) said later before now leads.reads
part_stops Made said later stopped before now leads = absurd leads
part_stops Store said later stopped before now leads = absurd leads
part_stops (Later kind) said later stopped before now leads = absurd leads
part_stops (Number low most) said later stopped before now leads = absurd leads

-- files that are read one after the other
all_front : (word : List ℕ) (most : ℕ) (names : List (List ℕ)) (before now : Snapshot) (opened : Result (List (List ℕ)) Stopped) → ReadsAll word most names before now opened
    → ReadsFront (reading_for opened) names before now
all_front word most [] before now (Ok given) leads = none_read [] before now leads.1
all_front word most [] before now (Err stopped) leads = absurd leads
all_front word most (name ∷ later) before now (Ok given) (more, on) =
    more_read Well name later before on.between now on.reads.reads (all_front word (most - length on.bytes) later on.between now (Ok more) on.others.0)
all_front word most (name ∷ later) before now (Err stopped) (inl leads) = one_read (stop_reading stopped) name later before now leads.reads
all_front word most (name ∷ later) before now (Err stopped) (inr on) =
    more_read (stop_reading stopped) name later before on.between now on.reads.reads (all_front word (most - length on.bytes) later on.between now (Err stopped) on.others)

last_front : (last : Last) (said : SaidLast last) (before now : Snapshot) (opened : Result (GivenLast last) Stopped) → LastLeads last said before now opened → ReadsFront (reading_for opened) (last_files last said) before now
last_front NoMore said before now (Ok given) leads = none_read [] before now leads
last_front NoMore said before now (Err stopped) leads = absurd leads
last_front (Wholes kind) said before now opened leads = all_front kind.word kind.longest said before now opened leads
last_front Prefix said before now (Ok given) leads = none_read [] before now leads.1
last_front Prefix said before now (Err stopped) leads = absurd leads

pub reads_front : OpeningReadsFront
reads_front [] last said before now opened lead = last_front last said before now opened lead
reads_front (part ∷ parts) last said before now (Ok given) lead =
    behind_well Well (part_files part said.0) (form_files parts last said.1) before lead.between now (part_well part said.0 given.0 before lead.between lead.leads)
    (reads_front parts last said.1 lead.between now (Ok given.1) lead.others)
reads_front (part ∷ parts) last said before now (Err stopped) (inl lead) = part_stops part said.0 (form_files parts last said.1) stopped before now lead
reads_front (part ∷ parts) last said before now (Err stopped) (inr (one, goes)) =
    behind_well (stop_reading stopped) (part_files part said.0) (form_files parts last said.1) before goes.between now (part_well part said.0 one before goes.between goes.leads)
    (reads_front parts last said.1 goes.between now (Err stopped) goes.others)

-- what all files leave, by what each of them does
files_count : (reading : FileReading) (names : List (List ℕ)) (before now : Snapshot) → ReadsFiles reading names before now → now.faults ≡ count_after (reading_failed reading) before.faults
files_count reading [] before now (well, same) = ap (λ (s : Snapshot). s.faults) same ∙ sym (ap (λ (r : FileReading). count_after (reading_failed r) before.faults) well)
files_count reading (name ∷ later) before now (inl (none, read)) = read.faults
files_count reading (name ∷ later) before now (inr (between, read, reads)) =
    files_count reading later between now reads ∙ ap (λ (n : ℕ). count_after (reading_failed reading) n) read.faults

files_sinks : (reading : FileReading) (names : List (List ℕ)) (before now : Snapshot) → ReadsFiles reading names before now → now.custody.sinks ≡ before.custody.sinks
files_sinks reading [] before now (well, same) = ap (λ (s : Snapshot). s.custody.sinks) same
files_sinks reading (name ∷ later) before now (inl (none, read)) = read.given_back.sinks
files_sinks reading (name ∷ later) before now (inr (between, read, reads)) = files_sinks reading later between now reads ∙ read.given_back.sinks

files_disks : (reading : FileReading) (names : List (List ℕ)) (before now : Snapshot) → ReadsFiles reading names before now → now.custody.disks ≡ before.custody.disks
files_disks reading [] before now (well, same) = ap (λ (s : Snapshot). s.custody.disks) same
files_disks reading (name ∷ later) before now (inl (none, read)) = read.given_back.disks
files_disks reading (name ∷ later) before now (inr (between, read, reads)) = files_disks reading later between now reads ∙ read.given_back.disks

pub counts : OpeningCounts
counts parts last said before now opened lead =
    let front = reads_front parts last said before now opened lead in
    files_count (reading_for opened) front.opened before now front.reads

pub makes_none : OpeningMakesNone
makes_none parts last said before now opened lead =
    let front = reads_front parts last said before now opened lead in
    files_sinks (reading_for opened) front.opened before now front.reads

pub lends_none : OpeningLendsNone
lends_none parts last said before now opened lead =
    let front = reads_front parts last said before now opened lead in
    files_disks (reading_for opened) front.opened before now front.reads

-- the cause of a stop at a plant's file, and at a file that is read whole
plant_cause : (stopped : Stopped) (name : List ℕ) (held : Held) → FindsPlant name held (Err stopped) → CausedBy stopped name held
plant_cause NoMemory name held finds = finds
plant_cause (FileMissing missing) name held finds = finds
plant_cause (FileFault failed) name held finds = finds
plant_cause (PlantRefused why) name held finds = finds
plant_cause PlantTooLong name held finds = finds
plant_cause (TooLong word) name held finds = absurd finds

whole_cause : (stopped : Stopped) (word : List ℕ) (most : ℕ) (name : List ℕ) (held : Held) → FindsWhole word most name held (Err stopped) → CausedBy stopped name held
whole_cause NoMemory word most name held finds = finds
whole_cause (FileMissing missing) word most name held finds = finds
whole_cause (FileFault failed) word most name held finds = finds
whole_cause (PlantRefused why) word most name held finds = absurd finds
whole_cause PlantTooLong word most name held finds = absurd finds
whole_cause (TooLong its) word most name held finds = if_held held (λ bytes longer. tt) finds.1

-- the first file has it
first_cause : (stopped : Stopped) (name : List ℕ) (later : List (List ℕ)) (before now : Snapshot) → CausedBy stopped name (before.held name 0) → ReadsFile (stop_reading stopped) name before now
    → HasCause stopped (name ∷ later) before now
first_cause stopped name later before now cause reads =
    inl (record { opened = []; name = name; later = later; place = refl; between = before; well = (refl, refl); cause = cause; reads = reads })

-- or one behind it
later_cause : (stopped : Stopped) (name : List ℕ) (later : List (List ℕ)) (before between now : Snapshot) → ReadsFile Well name before between → HasCause stopped later between now
    → HasCause stopped (name ∷ later) before now
later_cause stopped name later before between now read (inl there) = inl (record {
  opened = name ∷ there.opened;
  name = there.name;
  later = there.later;
  place = ap (λ (ns : List (List ℕ)). name ∷ ns) there.place;
  between = there.between;
  well = inr (between, read, there.well);
  cause = there.cause;
  reads = there.reads;
})
later_cause stopped name later before between now read (inr (is, front)) = inr (is, more_read Well name later before between now read front)

behind_cause : (stopped : Stopped) (one later : List (List ℕ)) (before between now : Snapshot) → WellRead one before between → HasCause stopped later between now → HasCause stopped (one ++ later) before now
behind_cause stopped [] later before between now same cause = subst (λ (s : Snapshot). HasCause stopped later s now) same cause
behind_cause stopped (name ∷ one) later before between now (next, read, well) cause =
    later_cause stopped name (one ++ later) before next now read (behind_cause stopped one later next between now well cause)

-- a part that stops the run
bench_memory : (stopped : Stopped) → IsBench (Err stopped) → stopped ≡ NoMemory
bench_memory NoMemory bench = refl
bench_memory (FileMissing name) bench = absurd bench
bench_memory (FileFault name) bench = absurd bench
bench_memory (PlantRefused why) bench = absurd bench
bench_memory PlantTooLong bench = absurd bench
bench_memory (TooLong word) bench = absurd bench

plant_stops : (b : Bool) (word : List ℕ) (later : List (List ℕ)) (before now : Snapshot) (stopped : Stopped) → MatchBool b (IsBench (Err stopped) × (now ≡ before)) (OpensFile word before now (Err stopped))
    → HasCause stopped ((if b then [] else word ∷ []) ++ later) before now
plant_stops true word later before now stopped leads = inr (bench_memory stopped leads.0, none_read later before now leads.1)
plant_stops false word later before now stopped leads = first_cause stopped word later before now (plant_cause stopped word (before.held word 0) leads.finds) leads.reads

part_cause : (part : Part) (said : Said part) (later : List (List ℕ)) (stopped : Stopped) (before now : Snapshot) → Leads part said before now (Err stopped)
    → HasCause stopped (part_files part said ++ later) before now
part_cause Plant said later stopped before now leads = plant_stops (is_bench said) said later before now stopped leads
part_cause (Whole kind) said later stopped before now leads =
    first_cause stopped said later before now (whole_cause stopped kind.word kind.longest said (before.held said 0) leads.finds) leads.reads
part_cause Made said later stopped before now leads = absurd leads
part_cause Store said later stopped before now leads = absurd leads
part_cause (Later kind) said later stopped before now leads = absurd leads
part_cause (Number low most) said later stopped before now leads = absurd leads

all_cause : (word : List ℕ) (most : ℕ) (names : List (List ℕ)) (before now : Snapshot) (stopped : Stopped) → ReadsAll word most names before now (Err stopped) → HasCause stopped names before now
all_cause word most [] before now stopped leads = absurd leads
all_cause word most (name ∷ later) before now stopped (inl leads) = first_cause stopped name later before now (whole_cause stopped word most name (before.held name 0) leads.finds) leads.reads
all_cause word most (name ∷ later) before now stopped (inr on) =
    later_cause stopped name later before on.between now on.reads.reads (all_cause word (most - length on.bytes) later on.between now stopped on.others)

last_cause : (last : Last) (said : SaidLast last) (before now : Snapshot) (stopped : Stopped) → LastLeads last said before now (Err stopped) → HasCause stopped (last_files last said) before now
last_cause NoMore said before now stopped leads = absurd leads
last_cause (Wholes kind) said before now stopped leads = all_cause kind.word kind.longest said before now stopped leads
last_cause Prefix said before now stopped leads = absurd leads

pub has_cause : OpeningHasCause
has_cause [] last said before now stopped lead = last_cause last said before now stopped lead
has_cause (part ∷ parts) last said before now stopped (inl lead) = part_cause part said.0 (form_files parts last said.1) stopped before now lead
has_cause (part ∷ parts) last said before now stopped (inr (one, goes)) =
    behind_cause stopped (part_files part said.0) (form_files parts last said.1) before goes.between now (part_well part said.0 one before goes.between goes.leads)
    (has_cause parts last said.1 goes.between now stopped goes.others)
