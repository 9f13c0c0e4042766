-- What the status of a keep tells.
use Rattle.std.proofs.Common.{◌≡◌, ◌≢◌, inl, inr, ℕ, Bool, true, false, List, ◌++◌, Option, Ok, Err, refl, sym, ◌∙◌, ap, subst, arith}
use Rattle.std.specs.Prelude.{MatchBool}
use Rattle.ctl_io.specs.Custody.{DiskEnd}
use Rattle.ctl_io.specs.DiskPast.{DiskPast}
use Rattle.ctl_io.specs.Held.{HeldOf}
use Rattle.ctl_io.specs.Sink.{appended}
use Rattle.plant_config.specs.Plant.{PlantData}
use Rattle.command_words.specs.Parts.{NoMore, AllSaid}
use Rattle.command_rows.specs.Moment.{Snapshot, Moment}
use Rattle.command_rows.specs.End.{End, Stopped, NoMemory, FileMissing, FileFault, PlantRefused, PlantTooLong, TooLong, behind, file_failed, out_of_memory, stopped_end}
use Rattle.command_rows.specs.OpensPlant.{IsBench, OpensFile, is_bench}
use Rattle.command_rows.specs.Opener.{AllLead}
use Rattle.command_rows.specs.RowLaws.{WasWorked}
use Rattle.command_rows.proofs.RowLawsLemmas.{have_cause}
use Rattle.command_rows.proofs.SoundLemmas.{worked_cause}
use Rattle.command_keep.specs.Keep.{parts, Outcome, Kept, WasStopped, StoreFailed, WrongSize, Damaged, BadLine, Full, Unwritten, told_end, EndsOnDisk, EndsRun, EndsLent, KeepRow}
use Rattle.command_keep.specs.Laws.{CameToEnd, IsRefusal, ZeroHasKept, OneHadNoMemory, ThreeHasFault, FiveHasRefused}
use Rattle.command_keep.proofs.EndLemmas.{statuses}
use Rattle.command_keep.proofs.SoundLemmas.{sound}

status_as : (end its : End) (status : ℕ) → status ≡ end.status → end ≡ its → status ≡ its.status
status_as end its status at is = at ∙ ap (λ (e : End). e.status) is

-- ---- a store that was handed out

module _ (said : AllSaid parts NoMore) (before now : Moment) (status : ℕ) (so : WasWorked parts NoMore KeepRow said before now status) where
  abbrev opened : Moment
  opened = record before { files = so.opened }

  abbrev Lent : Type 0
  Lent = EndsLent so.given.0 so.given.1.0 so.given.1.1.0 opened now so.end status

  came : Lent → CameToEnd said before now status
  came lent = record {
    plant = so.given.0;
    store = so.given.1.0;
    name = so.given.1.1.0;
    opened = so.opened;
    lead = so.lead;
    between = lent.between;
    lends = lent.lends;
    after = lent.after;
    shown = lent.shown;
    named = lent.named;
    takes = lent.takes;
    output = lent.output;
    outcome = lent.outcome;
    ends = lent.ends;
    status_is = status_as so.end (behind lent.output (told_end so.given.1.0 lent.outcome)) status so.written.status_is lent.end_is;
    appends = so.written.appends ∙ ap (λ (e : End). appended before.output.written e.text) lent.end_is;
  }

-- what ends with 0 was kept
record IsKeptRun (plant : PlantData) (name : List ℕ) (held : HeldOf DiskPast) (between after : Snapshot) (shown : DiskEnd) (output : List ℕ) (before : Option (List ℕ)) (outcome : Outcome) : Type 0 where
  number : ℕ
  outcome_is : outcome ≡ Kept number
  run : EndsRun plant name held between after shown output before (Kept number)

stop_not_zero : (stopped : Stopped) → (stopped_end stopped).status ≢ 0
stop_not_zero NoMemory is = omega (arith, is)
stop_not_zero (FileMissing name) is = omega (arith, is)
stop_not_zero (FileFault name) is = omega (arith, is)
stop_not_zero (PlantRefused why) is = omega (arith, is)
stop_not_zero PlantTooLong is = omega (arith, is)
stop_not_zero (TooLong word) is = omega (arith, is)

module _ (plant : PlantData) (store name : List ℕ) (held : HeldOf DiskPast) (between after : Snapshot) (shown : DiskEnd) (output : List ℕ) (before : Option (List ℕ)) where
  kept_run : (outcome : Outcome) → (told_end store outcome).status ≡ 0 → outcome ≢ Unwritten → EndsOnDisk plant name held between after shown output before outcome → IsKeptRun plant name held between after shown output before outcome
  kept_run (Kept number) zero written (inl un) = absurd un.why
  kept_run (Kept number) zero written (inr (inl unread)) = absurd (let clash = unread.outcome_is in cc)
  kept_run (Kept number) zero written (inr (inr run)) = record { number = number; outcome_is = refl; run = run }
  kept_run (WasStopped stopped) zero written ends = absurd (stop_not_zero stopped zero)
  kept_run StoreFailed zero written ends = absurd (omega (arith, zero))
  kept_run (WrongSize found wanted) zero written ends = absurd (omega (arith, zero))
  kept_run (Damaged slot place) zero written ends = absurd (omega (arith, zero))
  kept_run (BadLine number) zero written ends = absurd (omega (arith, zero))
  kept_run Full zero written ends = absurd (omega (arith, zero))
  kept_run Unwritten zero written ends = absurd (written refl)

-- what ends with 5 was a refusal
stop_refuses : (stopped : Stopped) → (stopped_end stopped).status ≡ 5 → IsRefusal (WasStopped stopped)
stop_refuses NoMemory five = absurd (omega (arith, five))
stop_refuses (FileMissing name) five = absurd (omega (arith, five))
stop_refuses (FileFault name) five = absurd (omega (arith, five))
stop_refuses (PlantRefused why) five = absurd (omega (arith, five))
stop_refuses PlantTooLong five = absurd (omega (arith, five))
stop_refuses (TooLong word) five = tt

refuses : (store : List ℕ) (outcome : Outcome) → (told_end store outcome).status ≡ 5 → IsRefusal outcome
refuses store (Kept number) five = absurd (omega (arith, five))
refuses store (WasStopped stopped) five = stop_refuses stopped five
refuses store StoreFailed five = absurd (omega (arith, five))
refuses store (WrongSize found wanted) five = tt
refuses store (Damaged slot place) five = tt
refuses store (BadLine number) five = tt
refuses store Full five = tt
refuses store Unwritten five = absurd (omega (arith, five))

-- no opening is stopped so
plant_not_five : (b : Bool) (word : List ℕ) (before now : Snapshot) (stopped : Stopped) → MatchBool b (IsBench (Err stopped) × (now ≡ before)) (OpensFile word before now (Err stopped)) → (stopped_end stopped).status ≢ 5
plant_not_five b word before now NoMemory leads is = omega (arith, is)
plant_not_five b word before now (FileMissing name) leads is = omega (arith, is)
plant_not_five b word before now (FileFault name) leads is = omega (arith, is)
plant_not_five b word before now (PlantRefused why) leads is = omega (arith, is)
plant_not_five b word before now PlantTooLong leads is = omega (arith, is)
plant_not_five true word before now (TooLong its) leads is = leads.0
plant_not_five false word before now (TooLong its) leads is = leads.finds

opening_not_five : (said : AllSaid parts NoMore) (before now : Snapshot) (stopped : Stopped) → AllLead parts NoMore said before now (Err stopped) → (stopped_end stopped).status ≢ 5
opening_not_five said before now stopped (inl leads) is = plant_not_five (is_bench said.0) said.0 before now stopped leads is
opening_not_five said before now stopped (inr (one, goes)) is = elim goes.others [
  | inl none ↦ absurd none
  | inr (two, on) ↦ elim on.others [
    | inl none ↦ absurd none
    | inr (three, last) ↦ absurd last.others
  ]
]

-- ---- the laws

pub zero : ZeroHasKept
unfolding came
zero said before now runs =
    let so = (worked_cause parts NoMore KeepRow statuses sound said before now 0 (inl refl) runs).1 in
    elim so.ends [
      | inl (is, same) ↦ absurd (let h = status_as so.end out_of_memory 0 so.written.status_is is in omega (arith, h))
      | inr (inl (is, misses)) ↦ absurd (let h = status_as so.end (stopped_end (FileMissing so.given.1.0)) 0 so.written.status_is is in omega (arith, h))
      | inr (inr (inl (is, fails))) ↦ absurd (let h = status_as so.end (file_failed so.given.1.0) 0 so.written.status_is is in omega (arith, h))
      | inr (inr (inr lent)) ↦
          let its = came said before now 0 so lent in
          let kept = kept_run so.given.0 so.given.1.0 so.given.1.1.0 (so.opened.disks so.given.1.0 0) lent.between lent.after lent.shown lent.output before.output.written lent.outcome (sym its.status_is)
          (λ is. let seven = lent.unwritten is in omega (arith, seven)) lent.ends in
          record {
            plant = so.given.0;
            store = so.given.1.0;
            name = so.given.1.1.0;
            opened = so.opened;
            lead = so.lead;
            between = lent.between;
            lends = lent.lends;
            first = kept.run.first;
            number = kept.run.number;
            stood = kept.run.stood;
            after = lent.after;
            text = kept.run.text;
            reads = kept.run.reads;
            shown = lent.shown;
            named = lent.named;
            output = lent.output;
            last_number = kept.number;
            keeps = kept.run.runs;
            since = kept.run.since;
            takes = lent.takes;
            appends = its.appends ∙ ap (λ (o : Outcome). appended before.output.written (lent.output ++ (told_end so.given.1.0 o).text)) kept.outcome_is;
          }
    ]

pub one : OneHadNoMemory
one said before now runs = elim (have_cause parts NoMore KeepRow said before now 1 runs) [
  | inl stop ↦ inl stop
  | inr (inr cut) ↦ absurd (let seven = cut.0 in omega (arith, seven))
  | inr (inl so) ↦ elim so.ends [
    | inl (is, same) ↦ inr (inl (record {
      plant = so.given.0;
      store = so.given.1.0;
      name = so.given.1.1.0;
      lead = subst (λ (s : Snapshot). AllLead parts NoMore said before.files s (Ok so.given)) (sym same) so.lead;
      appends = so.written.appends ∙ ap (λ (e : End). appended before.output.written e.text) is;
    }))
    | inr (inl (is, misses)) ↦ absurd (let h = status_as so.end (stopped_end (FileMissing so.given.1.0)) 1 so.written.status_is is in omega (arith, h))
    | inr (inr (inl (is, fails))) ↦ absurd (let h = status_as so.end (file_failed so.given.1.0) 1 so.written.status_is is in omega (arith, h))
    | inr (inr (inr lent)) ↦ inr (inr (came said before now 1 so lent))
  ]
]

pub three : ThreeHasFault
three said before now runs = elim (have_cause parts NoMore KeepRow said before now 3 runs) [
  | inl stop ↦ inl stop
  | inr (inr cut) ↦ absurd (let seven = cut.0 in omega (arith, seven))
  | inr (inl so) ↦ elim so.ends [
    | inl (is, same) ↦ absurd (let h = status_as so.end out_of_memory 3 so.written.status_is is in omega (arith, h))
    | inr (inl (is, misses)) ↦ inr (inl (record {
      plant = so.given.0;
      store = so.given.1.0;
      name = so.given.1.1.0;
      opened = so.opened;
      lead = so.lead;
      why = inl (misses, so.written.appends ∙ ap (λ (e : End). appended before.output.written e.text) is);
    }))
    | inr (inr (inl (is, fails))) ↦ inr (inl (record {
      plant = so.given.0;
      store = so.given.1.0;
      name = so.given.1.1.0;
      opened = so.opened;
      lead = so.lead;
      why = inr (fails, so.written.appends ∙ ap (λ (e : End). appended before.output.written e.text) is);
    }))
    | inr (inr (inr lent)) ↦ inr (inr (came said before now 3 so lent))
  ]
]

pub five : FiveHasRefused
unfolding came
five said before now runs = elim (have_cause parts NoMore KeepRow said before now 5 runs) [
  | inl stop ↦ absurd (opening_not_five said before.files now.files stop.stopped stop.lead (sym stop.written.status_is))
  | inr (inr cut) ↦ absurd (let seven = cut.0 in omega (arith, seven))
  | inr (inl so) ↦ elim so.ends [
    | inl (is, same) ↦ absurd (let h = status_as so.end out_of_memory 5 so.written.status_is is in omega (arith, h))
    | inr (inl (is, misses)) ↦ absurd (let h = status_as so.end (stopped_end (FileMissing so.given.1.0)) 5 so.written.status_is is in omega (arith, h))
    | inr (inr (inl (is, fails))) ↦ absurd (let h = status_as so.end (file_failed so.given.1.0) 5 so.written.status_is is in omega (arith, h))
    | inr (inr (inr lent)) ↦
        let its = came said before now 5 so lent in
        (its, refuses so.given.1.0 lent.outcome (sym its.status_is))
  ]
]
