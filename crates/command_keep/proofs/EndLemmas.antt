-- How a keep ends.
use Rattle.std.proofs.Common.{◌≡◌, inl, inr, ℕ, Bool, true, false, List, [], ◌∷◌, Option, Err, refl, sym, ◌∙◌, ap, subst, arith}
use Rattle.std.specs.Prelude.{MatchBool}
use Rattle.std.proofs.lemmas.List.{append-nil}
use Rattle.ctl_io.specs.Custody.{DiskEnd}
use Rattle.ctl_io.specs.DiskPast.{DiskPast}
use Rattle.ctl_io.specs.Faults.{Rose, count_after, is_faulty}
use Rattle.ctl_io.specs.Held.{Held, HeldOf, IsNamed, Stays}
use Rattle.ctl_io.specs.Sink.{AppendsPart}
use Rattle.ctl_io.specs.WholeFile.{reading_failed}
use Rattle.ctl_io.proofs.FaultsLemmas.{rose_counted}
use Rattle.plant_config.specs.Plant.{PlantData}
use Rattle.plant_core.specs.State.{State}
use Rattle.command_rows.specs.Kinds.{script}
use Rattle.command_rows.specs.Moment.{Snapshot, Output}
use Rattle.command_rows.specs.LentDisk.{LendsDisk, FailsToLend, MissesDisk, TakesDiskBack}
use Rattle.command_rows.specs.End.{Stopped, NoMemory, FileMissing, FileFault, PlantRefused, PlantTooLong, TooLong, ComesTo, behind, file_failed, out_of_memory, stopped_end}
use Rattle.command_rows.specs.ReadsFile.{stop_reading}
use Rattle.command_rows.specs.Opener.{FindsWhole}
use Rattle.command_rows.specs.Row.{RowEnds}
use Rattle.command_rows.specs.Sound.{IsOneOf}
use Rattle.command_rows.proofs.RowLemmas.{comes_behind}
use Rattle.command_keep.specs.Keep.{Outcome, Kept, WasStopped, StoreFailed, WrongSize, Damaged, BadLine, Full, Unwritten, told_end, Unopened, RunsTo, EndsOnDisk, KeepEnds}
use Rattle.command_keep.specs.KeepInside.{is_unwritten, KeepsOn, TellsOutcome, WroteOutput}

-- the statuses of keeps
abbrev pub statuses : List ℕ
statuses = 0 ∷ 1 ∷ 3 ∷ 5 ∷ []

not_two : (status : ℕ) → IsOneOf statuses status → status ≡ 2 → ⊥
not_two status (inl is) two = omega (arith, is, two)
not_two status (inr (inl is)) two = omega (arith, is, two)
not_two status (inr (inr (inl is))) two = omega (arith, is, two)
not_two status (inr (inr (inr (inl is)))) two = omega (arith, is, two)
not_two status (inr (inr (inr (inr none)))) two = none

not_four : (status : ℕ) → IsOneOf statuses status → status ≡ 4 → ⊥
not_four status (inl is) four = omega (arith, is, four)
not_four status (inr (inl is)) four = omega (arith, is, four)
not_four status (inr (inr (inl is))) four = omega (arith, is, four)
not_four status (inr (inr (inr (inl is)))) four = omega (arith, is, four)
not_four status (inr (inr (inr (inr none)))) four = none

-- a count that rose exactly at a fault
own_faults : (failed : Bool) (before now : ℕ) → now ≡ count_after failed before → MatchBool failed (Rose before now) (now ≡ before)
own_faults true before now is = subst (Rose before) (sym is) (rose_counted before)
own_faults false before now is = is

-- a script that stops the run
stop_status : (name : List ℕ) (held : Held) (stopped : Stopped) → FindsWhole script.word script.longest name held (Err stopped) → IsOneOf statuses (stopped_end stopped).status
stop_status name held NoMemory finds = inr (inl refl)
stop_status name held (FileMissing its) finds = inr (inr (inl refl))
stop_status name held (FileFault its) finds = inr (inr (inl refl))
stop_status name held (PlantRefused why) finds = absurd finds
stop_status name held PlantTooLong finds = absurd finds
stop_status name held (TooLong its) finds = inr (inr (inr (inl refl)))

stop_fault : (stopped : Stopped) → reading_failed (stop_reading stopped) ≡ (stopped_end stopped).is_file_fault
stop_fault NoMemory = refl
stop_fault (FileMissing its) = refl
stop_fault (FileFault its) = refl
stop_fault (PlantRefused why) = refl
stop_fault PlantTooLong = refl
stop_fault (TooLong its) = refl

module _ (plant : PlantData) (store : List ℕ) (held : HeldOf DiskPast) (shown : DiskEnd) where
  -- a store that isn't opened
  unopened_status : (outcome : Outcome) → Unopened plant held shown outcome → IsOneOf statuses (told_end store outcome).status
  unopened_status (Kept number) why = absurd why
  unopened_status (WasStopped NoMemory) why = inr (inl refl)
  unopened_status (WasStopped (FileMissing its)) why = absurd why
  unopened_status (WasStopped (FileFault its)) why = absurd why
  unopened_status (WasStopped (PlantRefused its)) why = absurd why
  unopened_status (WasStopped PlantTooLong) why = absurd why
  unopened_status (WasStopped (TooLong its)) why = absurd why
  unopened_status StoreFailed why = inr (inr (inl refl))
  unopened_status (WrongSize found wanted) why = inr (inr (inr (inl refl)))
  unopened_status (Damaged slot place) why = inr (inr (inr (inl refl)))
  unopened_status (BadLine number) why = absurd why
  unopened_status Full why = absurd why
  unopened_status Unwritten why = absurd why

  unopened_fault : (outcome : Outcome) → Unopened plant held shown outcome → is_faulty shown.faults ≡ (told_end store outcome).is_file_fault
  unopened_fault (Kept number) why = absurd why
  unopened_fault (WasStopped NoMemory) why = ap is_faulty why.0
  unopened_fault (WasStopped (FileMissing its)) why = absurd why
  unopened_fault (WasStopped (FileFault its)) why = absurd why
  unopened_fault (WasStopped (PlantRefused its)) why = absurd why
  unopened_fault (WasStopped PlantTooLong) why = absurd why
  unopened_fault (WasStopped (TooLong its)) why = absurd why
  unopened_fault StoreFailed why = why.0
  unopened_fault (WrongSize found wanted) why = ap is_faulty why.0
  unopened_fault (Damaged slot place) why = ap is_faulty why.0
  unopened_fault (BadLine number) why = absurd why
  unopened_fault Full why = absurd why
  unopened_fault Unwritten why = absurd why

  -- a script that was gone on with
  module _ (text : List ℕ) (first : State) (number : ℕ) (output : List ℕ) (before : Option (List ℕ)) where
    run_status : (outcome : Outcome) → RunsTo plant text first number shown output before outcome → IsOneOf statuses (told_end store outcome).status
    run_status (Kept last) runs = inl refl
    run_status (WasStopped NoMemory) runs = inr (inl refl)
    run_status (WasStopped (FileMissing its)) runs = absurd runs
    run_status (WasStopped (FileFault its)) runs = absurd runs
    run_status (WasStopped (PlantRefused its)) runs = absurd runs
    run_status (WasStopped PlantTooLong) runs = absurd runs
    run_status (WasStopped (TooLong its)) runs = absurd runs
    run_status StoreFailed runs = inr (inr (inl refl))
    run_status (WrongSize found wanted) runs = absurd runs
    run_status (Damaged slot place) runs = absurd runs
    run_status (BadLine line) runs = inr (inr (inr (inl refl)))
    run_status Full runs = inr (inr (inr (inl refl)))
    run_status Unwritten runs = inl refl

    run_fault : (outcome : Outcome) → RunsTo plant text first number shown output before outcome → is_faulty shown.faults ≡ (told_end store outcome).is_file_fault
    run_fault (Kept last) runs = ap is_faulty runs.leaves.no_faults
    run_fault (WasStopped NoMemory) runs = ap is_faulty runs.1.1.leaves.no_faults
    run_fault (WasStopped (FileMissing its)) runs = absurd runs
    run_fault (WasStopped (FileFault its)) runs = absurd runs
    run_fault (WasStopped (PlantRefused its)) runs = absurd runs
    run_fault (WasStopped PlantTooLong) runs = absurd runs
    run_fault (WasStopped (TooLong its)) runs = absurd runs
    run_fault StoreFailed runs = runs.faulty
    run_fault (WrongSize found wanted) runs = absurd runs
    run_fault (Damaged slot place) runs = absurd runs
    run_fault (BadLine line) runs = ap is_faulty runs.2.no_faults
    run_fault Full runs = ap is_faulty runs.2.2.leaves.no_faults
    run_fault Unwritten runs = ap is_faulty runs.1.1.leaves.no_faults

  module _ (name : List ℕ) (between after : Snapshot) (output : List ℕ) (before : Option (List ℕ)) where
    abbrev On : Outcome → Type 0
    On outcome = EndsOnDisk plant name held between after shown output before outcome

    pub known : (outcome : Outcome) → On outcome → IsOneOf statuses (told_end store outcome).status
    known outcome (inl un) = unopened_status outcome un.why
    known outcome (inr (inl unread)) =
        subst (IsOneOf statuses) (sym (ap (λ (o : Outcome). (told_end store o).status) unread.outcome_is)) (stop_status name (between.held name 0) unread.stopped unread.reads.finds)
    known outcome (inr (inr run)) = run_status run.text run.first run.number output before outcome run.runs

    -- the files' count rose exactly at a fault of theirs
    pub counted : (files back : Snapshot) (outcome : Outcome) → LendsDisk store files between → TakesDiskBack shown after back → On outcome → back.faults ≡ count_after (told_end store outcome).is_file_fault files.faults
    counted files back outcome lends takes (inl un) =
        takes.faults
        ∙ ap (λ (b : Bool). count_after b after.faults) (unopened_fault outcome un.why)
        ∙ ap (count_after (told_end store outcome).is_file_fault) (ap (λ (s : Snapshot). s.faults) un.unread ∙ lends.faults)
    counted files back outcome lends takes (inr (inl unread)) =
        takes.faults
        ∙ ap (λ (n : ℕ). count_after (is_faulty n) after.faults) unread.leaves.no_faults
        ∙ unread.reads.reads.faults
        ∙ ap (λ (b : Bool). count_after b between.faults) (stop_fault unread.stopped ∙ sym (ap (λ (o : Outcome). (told_end store o).is_file_fault) unread.outcome_is))
        ∙ ap (count_after (told_end store outcome).is_file_fault) lends.faults
    counted files back outcome lends takes (inr (inr run)) =
        takes.faults
        ∙ ap (λ (b : Bool). count_after b after.faults) (run_fault run.text run.first run.number output before outcome run.runs)
        ∙ ap (count_after (told_end store outcome).is_file_fault) (run.reads.reads.faults ∙ lends.faults)

-- what was written in all
comes_so : (store output : List ℕ) (before mid now : Output) (status : ℕ) (outcome : Outcome) → WroteOutput outcome output before.written mid.written → mid.faults ≡ count_after (is_unwritten outcome) before.faults
    → TellsOutcome store outcome mid now status → ComesTo (behind output (told_end store outcome)) status before now
comes_so store output before mid now status (Kept number) wrote count tells = comes_behind output (told_end store (Kept number)) status before mid now wrote count tells
comes_so store output before mid now status (WasStopped stopped) wrote count tells = comes_behind output (told_end store (WasStopped stopped)) status before mid now wrote count tells
comes_so store output before mid now status StoreFailed wrote count tells = comes_behind output (told_end store StoreFailed) status before mid now wrote count tells
comes_so store output before mid now status (WrongSize found wanted) wrote count tells = comes_behind output (told_end store (WrongSize found wanted)) status before mid now wrote count tells
comes_so store output before mid now status (Damaged slot place) wrote count tells = comes_behind output (told_end store (Damaged slot place)) status before mid now wrote count tells
comes_so store output before mid now status (BadLine number) wrote count tells = comes_behind output (told_end store (BadLine number)) status before mid now wrote count tells
comes_so store output before mid now status Full wrote count tells = comes_behind output (told_end store Full) status before mid now wrote count tells
comes_so store output before mid now status Unwritten wrote count tells = inr (record {
  status_is = tells.status_is;
  appends = subst (λ (text : List ℕ). AppendsPart text before.written now.written) (sym (append-nil output)) (subst (λ (o : Output). AppendsPart output before.written o.written) (sym tells.same) wrote);
  faults = ap (λ (o : Output). o.faults) tells.same ∙ count;
})

-- memory ran out before the store was asked for
pub unready : (plant : PlantData) (store name : List ℕ) (files : Snapshot) (before now : Output) (status : ℕ) → ComesTo out_of_memory status before now
    → RowEnds (KeepEnds plant store name) (record { files = files; output = before }) (record { files = files; output = now }) status
unready plant store name files before now status comes = record {
  end = out_of_memory;
  ends = inl (refl, refl);
  own = record { not_words = λ h. omega (arith, h); not_plant = λ h. omega (arith, h); faults = refl };
  comes = comes;
}

-- the store is missing
pub missing : (plant : PlantData) (store name : List ℕ) (files then : Snapshot) (before now : Output) (status : ℕ) → MissesDisk store files then → ComesTo (stopped_end (FileMissing store)) status before now
    → RowEnds (KeepEnds plant store name) (record { files = files; output = before }) (record { files = then; output = now }) status
missing plant store name files then before now status misses comes = record {
  end = stopped_end (FileMissing store);
  ends = inr (inl (refl, misses));
  own = record { not_words = λ h. omega (arith, h); not_plant = λ h. omega (arith, h); faults = misses.faults };
  comes = comes;
}

-- the files failed
pub unlent : (plant : PlantData) (store name : List ℕ) (files then : Snapshot) (before now : Output) (status : ℕ) → FailsToLend store files then → ComesTo (file_failed store) status before now
    → RowEnds (KeepEnds plant store name) (record { files = files; output = before }) (record { files = then; output = now }) status
unlent plant store name files then before now status fails comes = record {
  end = file_failed store;
  ends = inr (inr (inl (refl, fails)));
  own = record { not_words = λ h. omega (arith, h); not_plant = λ h. omega (arith, h); faults = subst (Rose files.faults) (sym fails.faults) (rose_counted files.faults) };
  comes = comes;
}

-- it was handed out, and this came of it
pub ended_so : (plant : PlantData) (store name : List ℕ) (files between after back : Snapshot) (shown : DiskEnd) (before mid now : Output) (status : ℕ) (outcome : Outcome) → LendsDisk store files between → Stays (files.held store) (between.held store)
    → IsNamed store shown.name → TakesDiskBack shown after back → KeepsOn plant name (files.disks store 0) between after shown before.written mid.written outcome → mid.faults ≡ count_after (is_unwritten outcome) before.faults
    → TellsOutcome store outcome mid now status
    → RowEnds (KeepEnds plant store name) (record { files = files; output = before }) (record { files = back; output = now }) status
ended_so plant store name files between after back shown before mid now status outcome lends same named takes keeps count tells =
    let held = files.disks store 0 in
    let is_known = known plant store held shown name between after keeps.output before.written outcome keeps.ends in
    record {
      end = behind keeps.output (told_end store outcome);
      ends = inr (inr (inr (record {
        between = between;
        lends = lends;
        same = same;
        after = after;
        shown = shown;
        named = named;
        takes = takes;
        output = keeps.output;
        outcome = outcome;
        ends = keeps.ends;
        end_is = refl;
        unwritten = λ is. (subst (λ (o : Outcome). TellsOutcome store o mid now status) is tells).status_is;
      })));
      own = record {
        not_words = not_two (told_end store outcome).status is_known;
        not_plant = not_four (told_end store outcome).status is_known;
        faults = own_faults (told_end store outcome).is_file_fault files.faults back.faults (counted plant store held shown name between after keeps.output before.written files back outcome lends takes keeps.ends);
      };
      comes = comes_so store keeps.output before mid now status outcome keeps.wrote count tells;
    }
