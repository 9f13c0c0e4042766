-- What the statuses of a row tell whose promise is sound, and what it leaves of the files.
use Rattle.std.proofs.Common.{◌≡◌, ◌≢◌, ◌⊎◌, inl, inr, ℕ, Bool, true, false, List, [], Ok, Err, refl, sym, ◌∙◌, ap, subst, arith}
use Rattle.std.specs.Prelude.{Contains}
use Rattle.std.proofs.lemmas.List.Elements.{Contains-append_left, Contains-append_right}
use Rattle.ctl_io.specs.Custody.{Custody, SinkEnd, DiskEnd}
use Rattle.ctl_io.specs.Faults.{count_after, one_more}
use Rattle.ctl_io.specs.Sink.{appended}
use Rattle.ctl_io.specs.WholeFile.{reading_failed}
use Rattle.command_words.specs.Parts.{Part, Last, AllSaid}
use Rattle.command_rows.specs.Moment.{Output, Moment}
use Rattle.command_rows.specs.End.{End, Stopped, NoMemory, FileMissing, FileFault, PlantRefused, PlantTooLong, TooLong, stopped_end, ComesTo}
use Rattle.command_rows.specs.ReadsFile.{stop_reading}
use Rattle.command_rows.specs.Row.{Promise, EndsOpened}
use Rattle.command_rows.specs.OpenerLaws.{form_files, HasCause}
use Rattle.command_rows.specs.Sound.{IsOneOf, IsSoundEnd, IsSound, IsSilent}
use Rattle.command_rows.specs.RowLaws.{OneHasCause, OneIsSilent, IsKnown, RowStatusesAreKnown, WorkedHasCause, SevenHasCause, own_files, RowsLeaveAll}
use Rattle.command_rows.proofs.OpenerLemmas.{counts, has_cause, makes_none, lends_none}
use Rattle.command_rows.proofs.LeavesLemmas.{gives_back, leaves_others, made_as_said, own_as_said, stays_over}
use Rattle.command_rows.proofs.RowLawsLemmas.{have_cause, not_7, one_memory, written_or}

-- rows whose promises are sound
module _ (parts : List Part) (last : Last) (Ends : Promise parts last) (statuses : List ℕ) (sound : IsSound parts last Ends statuses) where
  sound_end : (said : AllSaid parts last) (before now : Moment) (status : ℕ) (done : EndsOpened parts last Ends said before now status) → IsSoundEnd statuses done.ends.end
  sound_end said before now status done = sound.own done.given (record before { files = done.opened }) now done.ends.end status done.ends.ends

  pub one_cause : OneHasCause parts last Ends
  one_cause said before now (inl stop) = elim (written_or (stopped_end stop.stopped) 1 before now stop.comes) [
    | inl written ↦
        let memory = one_memory stop.stopped (sym written.status_is) in
        record {
          there = inl (subst (λ (s : Stopped). HasCause s (form_files parts last said) before.files now.files) memory (has_cause parts last said before.files now.files stop.stopped stop.lead));
          front = [];
          appends = written.appends ∙ ap (λ (s : Stopped). appended before.output.written (stopped_end s).text) memory;
        }
    | inr not ↦ absurd (let one = not.0 in omega (arith, one))
  ]
  one_cause said before now (inr done) = elim (written_or done.ends.end 1 before now done.ends.comes) [
    | inl written ↦
        let memory = (sound_end said before now 1 done).memory (sym written.status_is) in
        record {
          there = inr (done.given, done.opened, done.lead);
          front = memory.front;
          appends = written.appends ∙ ap (λ (e : End). appended before.output.written e.text) memory.tells;
        }
    | inr not ↦ absurd (let one = not.0 in omega (arith, one))
  ]

  stop_status : (stopped : Stopped) → IsKnown statuses (stopped_end stopped).status
  stop_status NoMemory = record { one = inl refl; eight = omega arith }
  stop_status (FileMissing name) = record { one = inr (inl refl); eight = omega arith }
  stop_status (FileFault name) = record { one = inr (inl refl); eight = omega arith }
  stop_status (PlantRefused why) = record { one = inr (inr (inl refl)); eight = omega arith }
  stop_status PlantTooLong = record { one = inr (inr (inl refl)); eight = omega arith }
  stop_status (TooLong word) = record { one = inr (inr (inr (inl refl))); eight = omega arith }

  cut_status : (status : ℕ) → status ≡ 7 → IsKnown statuses status
  cut_status status is = record { one = inr (inr (inr (inr (inl is)))); eight = omega (arith, is) }

  own_status : (end : End) → IsSoundEnd statuses end → IsKnown statuses end.status
  own_status end own = record { one = inr (inr (inr (inr (inr own.known)))); eight = omega (arith, own.few) }

  pub known : RowStatusesAreKnown parts last Ends statuses
  known said before now status (inl stop) = elim (written_or (stopped_end stop.stopped) status before now stop.comes) [
    | inl written ↦ subst (IsKnown statuses) (sym written.status_is) (stop_status stop.stopped)
    | inr not ↦ cut_status status not.0
  ]
  known said before now status (inr done) = elim (written_or done.ends.end status before now done.ends.comes) [
    | inl written ↦ subst (IsKnown statuses) (sym written.status_is) (own_status done.ends.end (sound_end said before now status done))
    | inr not ↦ cut_status status not.0
  ]

  -- no stop and no cut has 0 or 6
  not_stopped : (stopped : Stopped) (status : ℕ) → (status ≡ 0) ⊎ (status ≡ 6) → status ≡ (stopped_end stopped).status → ⊥
  not_stopped NoMemory status (inl zero) is = omega (arith, zero, is)
  not_stopped NoMemory status (inr six) is = omega (arith, six, is)
  not_stopped (FileMissing name) status (inl zero) is = omega (arith, zero, is)
  not_stopped (FileMissing name) status (inr six) is = omega (arith, six, is)
  not_stopped (FileFault name) status (inl zero) is = omega (arith, zero, is)
  not_stopped (FileFault name) status (inr six) is = omega (arith, six, is)
  not_stopped (PlantRefused why) status (inl zero) is = omega (arith, zero, is)
  not_stopped (PlantRefused why) status (inr six) is = omega (arith, six, is)
  not_stopped PlantTooLong status (inl zero) is = omega (arith, zero, is)
  not_stopped PlantTooLong status (inr six) is = omega (arith, six, is)
  not_stopped (TooLong word) status (inl zero) is = omega (arith, zero, is)
  not_stopped (TooLong word) status (inr six) is = omega (arith, six, is)

  not_cut : (status : ℕ) → (status ≡ 0) ⊎ (status ≡ 6) → status ≡ 7 → ⊥
  not_cut status (inl zero) is = omega (arith, zero, is)
  not_cut status (inr six) is = omega (arith, six, is)

  pub worked_cause : WorkedHasCause parts last Ends statuses
  worked_cause said before now status one runs = elim (have_cause parts last Ends said before now status runs) [
    | inl stop ↦ absurd (not_stopped stop.stopped status one stop.written.status_is)
    | inr (inl done) ↦ (
      subst (IsOneOf statuses) (sym done.written.status_is) (sound.own done.given (record before { files = done.opened }) now done.end status done.ends).known,
      done,
    )
    | inr (inr cut) ↦ absurd (not_cut status one cut.0)
  ]

  pub seven_cause : SevenHasCause parts last Ends
  seven_cause said before now (inl stop) = elim (written_or (stopped_end stop.stopped) 7 before now stop.comes) [
    | inl written ↦ absurd (not_7 stop.stopped (sym written.status_is))
    | inr not ↦ not.1
  ]
  seven_cause said before now (inr done) = elim (written_or done.ends.end 7 before now done.ends.comes) [
    | inl written ↦ absurd (let own = (sound_end said before now 7 done).few in let is = written.status_is in omega (arith, own, is))
    | inr not ↦ not.1
  ]

-- a row that says nothing else where memory ran out
pub one_silent : (parts : List Part) (last : Last) (Ends : Promise parts last) → IsSilent parts last Ends → OneIsSilent parts last Ends
one_silent parts last Ends silent said before now (inl stop) = elim (written_or (stopped_end stop.stopped) 1 before now stop.comes) [
  | inl written ↦ written.appends ∙ ap (λ (s : Stopped). appended before.output.written (stopped_end s).text) (one_memory stop.stopped (sym written.status_is))
  | inr not ↦ absurd (let one = not.0 in omega (arith, one))
]
one_silent parts last Ends silent said before now (inr done) = elim (written_or done.ends.end 1 before now done.ends.comes) [
  | inl written ↦
      written.appends ∙ ap (λ (e : End). appended before.output.written e.text)
      (silent done.given (record before { files = done.opened }) now done.ends.end 1 done.ends.ends (sym written.status_is))
  | inr not ↦ absurd (let one = not.0 in omega (arith, one))
]

-- what is left of the files where opening stopped the run
stop_fault : (stopped : Stopped) → (stopped_end stopped).status ≢ 3 → reading_failed (stop_reading stopped) ≡ false
stop_fault NoMemory other = refl
stop_fault (FileMissing name) other = refl
stop_fault (FileFault name) other = absurd (other refl)
stop_fault (PlantRefused why) other = refl
stop_fault PlantTooLong other = refl
stop_fault (TooLong word) other = refl

counted_either : (failed : Bool) (count now : ℕ) → now ≡ count_after failed count → (now ≡ count) ⊎ (now ≡ one_more count)
counted_either true count now is = inr is
counted_either false count now is = inl is

comes_as : (end : End) (status : ℕ) (before now : Output) → ComesTo end status before now → status ≢ 7 → status ≡ end.status
comes_as end status before now (inl written) other = written.status_is
comes_as end status before now (inr cut) other = absurd (other cut.status_is)

not_fault : (statuses : List ℕ) (end : End) → IsSoundEnd statuses end → end.status ≢ 3 → (b : Bool) → end.is_file_fault ≡ b → end.is_file_fault ≡ false
not_fault statuses end sound other true is = absurd (other (sound.fault is))
not_fault statuses end sound other false is = is

module _ (parts : List Part) (last : Last) (Ends : Promise parts last) (statuses : List ℕ) (sound : IsSound parts last Ends statuses) where
  pub leave_all : RowsLeaveAll parts last Ends
  leave_all said before now status (inl stop) =
      let sinks = makes_none parts last said before.files now.files (Err stop.stopped) stop.lead in
      let faults = counts parts last said before.files now.files (Err stop.stopped) stop.lead in
      record {
        sources = gives_back parts last said before.files now.files (Err stop.stopped) stop.lead;
        sinks = ap (λ (c : Custody SinkEnd). c.out) sinks;
        disks = ap (λ (c : Custody DiskEnd). c.out) (lends_none parts last said before.files now.files (Err stop.stopped) stop.lead);
        unmade = λ none. sinks;
        others = λ name other. leaves_others parts last said before.files now.files (Err stop.stopped) name stop.lead
            (λ one. other (Contains-append_left (form_files parts last said) (own_files parts last said) name one));
        stay = λ not_3 not_7. faults ∙ ap (λ (b : Bool). count_after b before.files.faults)
            (stop_fault stop.stopped (λ is. not_3 (comes_as (stopped_end stop.stopped) status before.output now.output stop.comes not_7 ∙ is)));
        rise = counted_either (reading_failed (stop_reading stop.stopped)) before.files.faults now.files.faults faults;
      }
  leave_all said before now status (inr done) =
      let sinks = makes_none parts last said before.files done.opened (Ok done.given) done.lead in
      let faults = counts parts last said before.files done.opened (Ok done.given) done.lead in
      let left = sound.leaves done.given (record before { files = done.opened }) now done.ends.end status done.ends.ends in
      let own = sound.own done.given (record before { files = done.opened }) now done.ends.end status done.ends.ends in
      let made = made_as_said parts last said done.given before.files done.opened done.lead in
      let own_names = own_as_said parts last said done.given before.files done.opened done.lead in
      let count : now.files.faults ≡ count_after done.ends.end.is_file_fault before.files.faults = left.faults ∙ ap (count_after done.ends.end.is_file_fault) faults in
      record {
        sources = left.sources ∙ gives_back parts last said before.files done.opened (Ok done.given) done.lead;
        sinks = left.sinks ∙ ap (λ (c : Custody SinkEnd). c.out) sinks;
        disks = left.disks ∙ ap (λ (c : Custody DiskEnd). c.out) (lends_none parts last said before.files done.opened (Ok done.given) done.lead);
        unmade = λ none. left.unmade (made ∙ none) ∙ sinks;
        others = λ name other. stays_over (before.files.held name) (done.opened.held name) (now.files.held name)
            (leaves_others parts last said before.files done.opened (Ok done.given) name done.lead (λ one. other (Contains-append_left (form_files parts last said) (own_files parts last said) name one)))
            (left.others name (λ one. other (Contains-append_right (form_files parts last said) (own_files parts last said) name (subst (λ (ns : List (List ℕ)). Contains ns name) own_names one))));
        stay = λ not_3 not_7. count ∙ ap (λ (b : Bool). count_after b before.files.faults)
            (not_fault statuses done.ends.end own (λ is. not_3 (comes_as done.ends.end status before.output now.output done.ends.comes not_7 ∙ is)) done.ends.end.is_file_fault refl);
        rise = counted_either done.ends.end.is_file_fault before.files.faults now.files.faults count;
      }
