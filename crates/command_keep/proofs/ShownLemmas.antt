-- What always comes of a keep, where the files show its store and its script.
use Rattle.std.proofs.Common.{◌≡◌, ◌≢◌, ◌⊎◌, inl, inr, ℕ, ◌+◌, ◌^◌, ◌≤◌, Bool, true, false, List, [], ◌∷◌, ◌++◌, length, Option, Ok, Err, refl, sym, ◌∙◌, ap, subst, arith}
use Rattle.std.specs.Prelude.{bytes_eq}
use Rattle.std.proofs.lemmas.List.{length-append}
use Rattle.std.proofs.lemmas.Slice.Eq.{bytes_eq-Decides}
use Rattle.ctl_io.specs.Custody.{DiskEnd}
use Rattle.ctl_io.specs.DiskPast.{DiskPast, stored_since}
use Rattle.ctl_io.specs.Faults.{count_after}
use Rattle.ctl_io.specs.Held.{Held, HeldOf, Unshown, NoFile, Holds, MayBeMissing, OtherOpeningsStay, Stays}
use Rattle.ctl_io.specs.WholeFile.{FileReading}
use Rattle.plant_config.specs.Plant.{PlantData}
use Rattle.plant_core.specs.State.{State}
use Rattle.plant_snapshot.specs.StandsFor.{store_size, StandsFor}
use Rattle.plant_snapshot.specs.Damage.{IsDamaged}
use Rattle.plant_snapshot.proofs.LawLemmas.{stand_for_one, stand_undamaged}
use Rattle.record_replay.specs.Script.{Work, lines, worked, LinesSpell}
use Rattle.record_replay.proofs.IsReplayLemmas.{none_bad}
use Rattle.command_words.specs.Parts.{Plant, NoMore, AllSaid}
use Rattle.command_rows.specs.Kinds.{script}
use Rattle.command_rows.specs.Moment.{Snapshot, Moment}
use Rattle.command_rows.specs.End.{End, Stopped, NoMemory, FileMissing, FileFault, PlantRefused, PlantTooLong, TooLong}
use Rattle.command_rows.specs.Opener.{AllGiven, AllLead, FindsWhole}
use Rattle.command_rows.specs.OpenerLaws.{part_files, ReadsFiles}
use Rattle.command_rows.specs.Shown.{WholeShows, behind_all}
use Rattle.command_rows.proofs.OpenerLemmas.{counts, reads_front}
use Rattle.command_rows.proofs.ShownLemmas.{part_behind}
use Rattle.command_rows.proofs.RowLawsLemmas.{written_or}
use Rattle.command_rows.proofs.AlwaysLemmas.{worked as worked_row}
use Rattle.command_keep.specs.Keep.{parts, Outcome, Kept, WasStopped, StoreFailed, WrongSize, Damaged, BadLine, Full, Unwritten, told_end, Unopened, RunsTo, KeepsBefore, KeepsFirst, EndsOnDisk, EndsLent, KeepEnds, KeepRow}
use Rattle.command_keep.specs.Laws.{HasRoom, FillsStore, ShownIsKept}
use Rattle.command_keep.proofs.SoundLemmas.{sound}

-- ---- what is left once the plant is opened

disks_stay : (reading : FileReading) (names : List (List ℕ)) (store : List ℕ) (before now : Snapshot) → ReadsFiles reading names before now → now.disks store 0 ≡ before.disks store 0
disks_stay reading [] store before now (well, same) = ap (λ (s : Snapshot). s.disks store 0) same
disks_stay reading (name ∷ later) store before now (inl (none, read)) = read.disks store 0
disks_stay reading (name ∷ later) store before now (inr (between, read, reads)) = disks_stay reading later store between now reads ∙ read.disks store 0

opened_disks : (said : AllSaid parts NoMore) (given : AllGiven parts NoMore) (before opened : Snapshot) (store : List ℕ) → AllLead parts NoMore said before opened (Ok given) → opened.disks store 0 ≡ before.disks store 0
opened_disks said given before opened store lead =
    let front = reads_front parts NoMore said before opened (Ok given) lead in
    disks_stay _ front.opened store before opened front.reads

opened_held : (said : AllSaid parts NoMore) (given : AllGiven parts NoMore) (before opened : Snapshot) → AllLead parts NoMore said before opened (Ok given) → opened.held ≡ behind_all (part_files Plant said.0) before.held
opened_held said given before opened lead =
    let stores = lead.others in
    let scripts = stores.others in
    ap (λ (s : Snapshot). s.held) (scripts.others ∙ scripts.leads.1 ∙ stores.leads.1) ∙ part_behind Plant said.0 given.0 before lead.between lead.leads

still_held : (b : Bool) (store name : List ℕ) (opened between : Snapshot) → bytes_eq store name ≡ b → Stays (opened.held store) (between.held store) → OtherOpeningsStay store opened.held between.held → between.held name 0 ≡ opened.held name 0
still_held true store name opened between is same others = subst (λ (n : List ℕ). between.held n 0 ≡ opened.held n 0) ((bytes_eq-Decides store name).0 is) (same 0)
still_held false store name opened between is same others = others name (λ its. let clash = sym is ∙ (bytes_eq-Decides store name).1 (sym its) in cc) 0

-- ---- what the files show of a script

-- They hold its text, which isn't too long.
record IsThere (held : Held) (text : List ℕ) : Type 0 where
  holds : held ≡ Holds text
  few : length text ≤ script.longest

is_there : (name : List ℕ) (held : Held) (text : List ℕ) → WholeShows script.word script.longest name held (Ok text) → IsThere held text
is_there name Unshown text shows = absurd shows
is_there name NoFile text shows = absurd (cc)
is_there name (Holds bytes) text (inl long) = absurd (let clash = long.1 in cc)
is_there name (Holds bytes) text (inr short) =
    let same : text ≡ bytes = let its = short.1 in cc in
    record { holds = ap (λ (b : List ℕ). Holds b) (sym same); few = subst (λ (b : List ℕ). length b ≤ script.longest) (sym same) short.0 }

-- ---- how a keep of them ends

spelled_length : (plant : PlantData) (ls : List (List ℕ)) (works : List Work) → LinesSpell plant ls works → length works ≡ length ls
spelled_length plant [] [] spelled = refl
spelled_length plant (line ∷ ls) (work ∷ works) spelled = let more = spelled_length plant ls works spelled.1 in omega (arith, more)
spelled_length plant [] (work ∷ works) spelled = absurd spelled
spelled_length plant (line ∷ ls) [] spelled = absurd spelled

-- A keep is done, its store is full, memory ran out, the files failed, or a line couldn't be written.
abbrev Settled : List ℕ → ℕ → List Work → Outcome → Type 0
Settled store number works outcome =
    (((told_end store outcome).status ≡ 0) × HasRoom number (length works))
    ⊎ FillsStore number works (told_end store outcome).status
    ⊎ ((told_end store outcome).status ≡ 1)
    ⊎ ((told_end store outcome).is_file_fault ≡ true)

module _ (plant : PlantData) (store name : List ℕ) (past : DiskPast) (first : State) (number : ℕ) (text : List ℕ) (works : List Work) (size : length (stored_since past).present ≡ store_size plant)
    (stands : StandsFor plant first number (stored_since past).present) (spelled : LinesSpell plant (worked (lines text)) works) where
  unopened : (shown : DiskEnd) (outcome : Outcome) → Unopened plant (Holds past) shown outcome → Settled store number works outcome
  unopened shown (Kept last) why = absurd why
  unopened shown (WasStopped NoMemory) why = inr (inr (inl refl))
  unopened shown (WasStopped (FileMissing its)) why = absurd why
  unopened shown (WasStopped (FileFault its)) why = absurd why
  unopened shown (WasStopped (PlantRefused its)) why = absurd why
  unopened shown (WasStopped PlantTooLong) why = absurd why
  unopened shown (WasStopped (TooLong its)) why = absurd why
  unopened shown StoreFailed why = inr (inr (inr refl))
  unopened shown (WrongSize found wanted) why = absurd (why.2 (sym why.3 ∙ size ∙ sym why.1))
  unopened shown (Damaged slot place) why = absurd (undamaged slot place why.2) where
    undamaged : (slot place : ℕ) → IsDamaged plant slot place (stored_since past).present → ⊥
    undamaged slot place damaged = let clash = sym (stand_undamaged plant first number (stored_since past).present stands) ∙ damaged.place_is in cc
  unopened shown (BadLine line) why = absurd why
  unopened shown Full why = absurd why
  unopened shown Unwritten why = absurd why

  stopped : (held : Held) (its : Stopped) → IsThere held text → FindsWhole script.word script.longest name held (Err its) → Settled store number works (WasStopped its)
  stopped held NoMemory there finds = inr (inr (inl refl))
  stopped held (FileMissing missing) there finds = absurd (subst MayBeMissing there.holds finds.1)
  stopped held (FileFault failed) there finds = inr (inr (inr refl))
  stopped held (PlantRefused why) there finds = absurd finds
  stopped held PlantTooLong there finds = absurd finds
  stopped held (TooLong word) there finds = absurd (let long = rw there.holds at finds.1 in let few = there.few in omega (arith, long, few))

  filled : (shown : DiskEnd) (output : List ℕ) (last : ℕ) → 2 ^ 63 ≤ last → KeepsBefore plant text first number shown output last → FillsStore number works 5
  filled shown output last full (line, later, keeps) =
      let all : length (worked (lines text)) ≡ length (keeps.has.front ++ line ∷ later) = ap (λ (ls : List (List ℕ)). length ls) keeps.has.place in
      let its : length works ≡ length (worked (lines text)) = spelled_length plant (worked (lines text)) works spelled in
      let done : length keeps.has.done ≡ length keeps.has.front = spelled_length plant keeps.has.front keeps.has.done keeps.has.spelled in
      let count : keeps.count ≡ length keeps.has.done = keeps.has.count_is in
      record {
        status_is = refl;
        count = keeps.count;
        room = elim keeps.few [
          | inl none ↦ inl none
          | inr few ↦ inr (subst (λ (n : ℕ). n ≤ 2 ^ 63) keeps.number_is few)
        ];
        more = omega (arith, all, its, done, count, length-append keeps.has.front (line ∷ later));
        full = subst (λ (n : ℕ). 2 ^ 63 ≤ n) keeps.number_is full;
      }

  all_kept : (shown : DiskEnd) (output : List ℕ) (last : ℕ) → KeepsFirst plant text first number shown [] output last → HasRoom number (length works)
  all_kept shown output last keeps =
      let all : length (worked (lines text)) ≡ length (keeps.has.front ++ []) = ap (λ (ls : List (List ℕ)). length ls) keeps.has.place in
      let its : length works ≡ length (worked (lines text)) = spelled_length plant (worked (lines text)) works spelled in
      let done : length keeps.has.done ≡ length keeps.has.front = spelled_length plant keeps.has.front keeps.has.done keeps.has.spelled in
      let count : keeps.count ≡ length keeps.has.done = keeps.has.count_is in
      let same : length works ≡ keeps.count = omega (arith, all, its, done, count, length-append keeps.has.front []) in
      let number_is = keeps.number_is in
      elim keeps.few [
        | inl none ↦ inl (same ∙ none)
        | inr few ↦ inr (omega (arith, same, number_is, few))
      ]

  run : (shown : DiskEnd) (output : List ℕ) (before : Option (List ℕ)) (outcome : Outcome) → RunsTo plant text first number shown output before outcome → outcome ≢ Unwritten → Settled store number works outcome
  run shown output before (Kept last) runs written = inl (refl, all_kept shown output last runs)
  run shown output before (WasStopped NoMemory) runs written = inr (inr (inl refl))
  run shown output before (WasStopped (FileMissing its)) runs written = absurd runs
  run shown output before (WasStopped (FileFault its)) runs written = absurd runs
  run shown output before (WasStopped (PlantRefused its)) runs written = absurd runs
  run shown output before (WasStopped PlantTooLong) runs written = absurd runs
  run shown output before (WasStopped (TooLong its)) runs written = absurd runs
  run shown output before StoreFailed runs written = inr (inr (inr refl))
  run shown output before (WrongSize found wanted) runs written = absurd runs
  run shown output before (Damaged slot place) runs written = absurd runs
  run shown output before (BadLine line) runs written = absurd (none_bad plant text works line spelled runs.1)
  run shown output before Full runs written = inr (inl (filled shown output runs.0 runs.1 runs.2))
  run shown output before Unwritten runs written = absurd (written refl)

  on_disk : (between after : Snapshot) (shown : DiskEnd) (output : List ℕ) (before : Option (List ℕ)) (outcome : Outcome) → IsThere (between.held name 0) text → outcome ≢ Unwritten
      → EndsOnDisk plant name (Holds past) between after shown output before outcome → Settled store number works outcome
  on_disk between after shown output before outcome there written (inl un) = unopened shown outcome un.why
  on_disk between after shown output before outcome there written (inr (inl unread)) =
      subst (Settled store number works) (sym unread.outcome_is) (stopped (between.held name 0) unread.stopped there unread.reads.finds)
  on_disk between after shown output before outcome there written (inr (inr its)) =
      let text_is : its.text ≡ text = rw there.holds at its.reads.finds.0 in
      let same = stand_for_one plant its.first first its.number number (stored_since past).present its.stood stands in
      run shown output before outcome
      (subst (λ (t : List ℕ). RunsTo plant t first number shown output before outcome) text_is
      (subst (λ (s : State). RunsTo plant its.text s number shown output before outcome) same.0
      (subst (λ (n : ℕ). RunsTo plant its.text its.first n shown output before outcome) same.1 its.runs))) written

  -- ---- its row

  abbrev SettledBy : End → ℕ → Type 0
  SettledBy end status = ((status ≡ 0) × HasRoom number (length works)) ⊎ FillsStore number works status ⊎ (status ≡ 1) ⊎ (end.is_file_fault ≡ true)

  lent : (opened now : Moment) (end : End) (status : ℕ) → opened.files.disks store 0 ≡ Holds past → IsThere (opened.files.held name 0) text → status ≡ end.status → (ends : EndsLent plant store name opened now end status) → SettledBy end status
  lent opened now end status there text_there is ends =
      let told : status ≡ (told_end store ends.outcome).status = is ∙ ap (λ (e : End). e.status) ends.end_is in
      let held : ends.between.held name 0 ≡ opened.files.held name 0 = still_held (bytes_eq store name) store name opened.files ends.between refl ends.same ends.lends.others.held in
      let settled =
      on_disk ends.between ends.after ends.shown ends.output opened.output.written ends.outcome (subst (λ (h : Held). IsThere h text) (sym held) text_there)
      (λ un. let seven = ends.unwritten un in let zero = told ∙ ap (λ (o : Outcome). (told_end store o).status) un in omega (arith, seven, zero))
      (subst (λ (h : HeldOf DiskPast). EndsOnDisk plant name h ends.between ends.after ends.shown ends.output opened.output.written ends.outcome) there ends.ends) in
      elim settled [
        | inl (zero, room) ↦ inl (told ∙ zero, room)
        | inr (inl fills) ↦ inr (inl (subst (FillsStore number works) (sym told) fills))
        | inr (inr (inl one)) ↦ inr (inr (inl (told ∙ one)))
        | inr (inr (inr fault)) ↦ inr (inr (inr (ap (λ (e : End). e.is_file_fault) ends.end_is ∙ fault)))
      ]

  by_row : (opened now : Moment) (end : End) (status : ℕ) → opened.files.disks store 0 ≡ Holds past → IsThere (opened.files.held name 0) text → status ≡ end.status → KeepEnds plant store name opened now end status → SettledBy end status
  by_row opened now end status there text_there is (inl (out, same)) = inr (inr (inl (is ∙ ap (λ (e : End). e.status) out)))
  by_row opened now end status there text_there is (inr (inl (its, misses))) = absurd (subst MayBeMissing there misses.missing)
  by_row opened now end status there text_there is (inr (inr (inl (its, fails)))) = inr (inr (inr (ap (λ (e : End). e.is_file_fault) its)))
  by_row opened now end status there text_there is (inr (inr (inr ends))) = lent opened now end status there text_there is ends

pub always : ShownIsKept
always said first number works before now status shows runs =
    let given : AllGiven parts NoMore = (shows.plant, (shows.store, (shows.name, tt))) in
    elim (worked_row parts NoMore KeepRow said given before now status shows.show runs) [
      | inr kept ↦ inr (inr kept)
      | inl its ↦ elim (written_or its.ends.end status before now its.ends.comes) [
        | inr cut ↦ inr (inr (inr (inr cut)))
        | inl written ↦
            let opened : Moment = record before { files = its.opened } in
            let there = opened_disks said given before.files its.opened shows.store its.lead ∙ shows.there in
            let text_there =
            is_there shows.name (its.opened.held shows.name 0) shows.text
            (subst (λ (h : List ℕ → ℕ → Held). WholeShows script.word script.longest shows.name (h shows.name 0) (Ok shows.text)) (sym (opened_held said given before.files its.opened its.lead)) shows.reads) in
            elim (by_row shows.plant shows.store shows.name shows.past first number shows.text works shows.size shows.stands shows.spelled opened now its.ends.end status there text_there written.status_is its.ends.ends) [
              | inl zero ↦ inl zero
              | inr (inl fills) ↦ inr (inl fills)
              | inr (inr (inl one)) ↦ inr (inr (inl one))
              | inr (inr (inr fault)) ↦
                  let own = sound.own given opened now its.ends.end status its.ends.ends in
                  let left = sound.leaves given opened now its.ends.end status its.ends.ends in
                  let count =
                  left.faults
                  ∙ ap (count_after its.ends.end.is_file_fault) (counts parts NoMore said before.files its.opened (Ok given) its.lead)
                  ∙ ap (λ (b : Bool). count_after b before.files.faults) fault in
                  inr (inr (inr (inl (written.status_is ∙ own.fault fault, count))))
            ]
      ]
    ]
