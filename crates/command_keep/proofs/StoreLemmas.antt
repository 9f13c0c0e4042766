-- What a store's disk shows, by what its type says of it and by what was answered.
use Rattle.std.proofs.Common.{◌≡◌, ◌⊎◌, inl, inr, ⊎_elim, ℕ, ◌^◌, ◌≤◌, Bool, true, false, List, [], ◌∷◌, length, Option, None, Some, Result, Ok, Err, refl, sym, ◌∙◌, ap, subst, arith}
use Rattle.std.specs.Prelude.{IfOk, IfSome}
use Rattle.std.proofs.lemmas.Bool.{lt-ltb}
use Rattle.ctl_io.specs.Crash.{LeavesOnly}
use Rattle.ctl_io.specs.Custody.{DiskEnd}
use Rattle.ctl_io.specs.DiskPast.{DiskPast, IsMade, IsMadeBy, stored_since}
use Rattle.ctl_io.specs.Faults.{count_after, is_faulty, one_more}
use Rattle.ctl_io.specs.Held.{HeldOf, Unshown, NoFile, Holds, IfHeld, ShowsHeld}
use Rattle.ctl_io.proofs.SinkLemmas.{appended-nil}
use Rattle.ctl_io.specs.Sink.{appended}
use Rattle.state_store.proofs.Moments.{both, widened}
use Rattle.plant_config.specs.Plant.{PlantData}
use Rattle.plant_core.specs.State.{State}
use Rattle.plant_snapshot.specs.StandsFor.{store_size, StandsFor}
use Rattle.plant_snapshot.specs.Store.{disk_of, saved_number, IsStoreOf}
use Rattle.plant_snapshot.specs.Answers.{TellsSize, TellsDamage, disk_unopened, says_unread}
use Rattle.plant_snapshot.specs.declared.store.Store.{Store}
use Rattle.plant_snapshot.specs.declared.fault.OpenFault.{OpenFault}
use Rattle.plant_snapshot.specs.declared.fault.OpenFault.TheVariants as opens
use Rattle.record_replay.specs.declared.kept.KeptFault.{KeptFault}
use Rattle.record_replay.specs.declared.kept.KeptFault.TheVariants as keeps
use Rattle.record_replay.specs.Script.{HasWorks, IsFirstBad}
use Rattle.record_replay.specs.Kept.{KeepsAll, KeepsBut, KeepsSome, KeepsWorks, StandsBehindLines, StandsOnTheWay, WritesFirst, store_kept, disk_kept, line_unwritten, keep_failed}
use Rattle.command_rows.specs.Kinds.{script}
use Rattle.command_rows.specs.Moment.{Snapshot}
use Rattle.command_rows.specs.LentDisk.{disk_end, LeavesSince}
use Rattle.command_rows.specs.End.{Stopped}
use Rattle.command_rows.specs.Opener.{ReadsWhole}
use Rattle.command_rows.proofs.DiskLemmas.{leaves_now}
use Rattle.command_keep.specs.Keep.{Outcome, WasStopped, HadSize, MightBe, StoodFor, LeavesState, KeepsFirst, Unopened}
use Rattle.command_keep.specs.KeepInside.{KeepsOn, RunsSo, WroteOutput, outcome_kept, outcome_unopened}

-- what is so of contents that are shown is so of what they are
at_rest : (contents : Option (List ℕ)) (P : List ℕ → Type 0) (c : List ℕ) → IfSome contents P → contents ≡ Some c → P c
at_rest contents P c has is = subst (λ (o : Option (List ℕ)). IfSome o P) is has

-- what is so of a disk's contents is so of what the files held
held_so : (held : HeldOf DiskPast) (past : Option DiskPast) (contents : Option (List ℕ)) (may_leave : List ℕ → Type 0) (moment : ℕ) (left : ℕ → List ℕ → Type 0) (P : List ℕ → Type 0)
    → ShowsHeld held past → IsMadeBy past contents may_leave moment left → IfSome contents P → IfHeld held (λ first. P (stored_since first).present)
held_so Unshown past contents may_leave moment left P shows made has = tt
held_so NoFile past contents may_leave moment left P shows made has = absurd shows
held_so (Holds first) past contents may_leave moment left P shows made has =
    let so : IsMade first contents may_leave moment left = subst (λ (p : Option DiskPast). IsMadeBy p contents may_leave moment left) shows made in
    at_rest contents P (stored_since first).present has so.present

-- what a crash might have left since a disk was handed out, by what its type says of it then and now
since_so : (held : HeldOf DiskPast) (past past_then : Option DiskPast) (contents contents_then : Option (List ℕ)) (may_leave may_then : List ℕ → Type 0) (moment moment_then : ℕ) (left left_then : ℕ → List ℕ → Type 0) (P : List ℕ → Type 0)
    → ShowsHeld held past → IsMadeBy past contents may_leave moment left → IsMadeBy past_then contents_then may_then moment_then left_then → ((c : List ℕ) → left_then moment c → P c)
    → LeavesSince held past_then P
since_so Unshown past past_then contents contents_then may_leave may_then moment moment_then left left_then P shows made made_then each = tt
since_so NoFile past past_then contents contents_then may_leave may_then moment moment_then left left_then P shows made made_then each = absurd shows
since_so (Holds first) past None contents contents_then may_leave may_then moment moment_then left left_then P shows made made_then each = tt
since_so (Holds first) past (Some last) contents contents_then may_leave may_then moment moment_then left left_then P shows made made_then each = λ c since.
    let so : IsMade first contents may_leave moment left = subst (λ (p : Option DiskPast). IsMadeBy p contents may_leave moment left) shows made in
    each c (subst (λ (t : ℕ). left_then t c) (sym so.counted) (made_then.no_less_left (length first.events) c since))

-- what a crash might have left of a disk when it was handed out
might : (held : HeldOf DiskPast) (past : Option DiskPast) (contents : Option (List ℕ)) (may_leave : List ℕ → Type 0) (moment : ℕ) (left : ℕ → List ℕ → Type 0) (c : List ℕ)
    → ShowsHeld held past → IsMadeBy past contents may_leave moment left → may_leave c → MightBe held c
might Unshown past contents may_leave moment left c shows made may = tt
might NoFile past contents may_leave moment left c shows made may = absurd shows
might (Holds first) past contents may_leave moment left c shows made may =
    let so : IsMade first contents may_leave moment left = subst (λ (p : Option DiskPast). IsMadeBy p contents may_leave moment left) shows made in
    so.leaves c may

faulty : (count : ℕ) → count ≡ one_more 0 → is_faulty count ≡ true
faulty count is = ap is_faulty is ∙ lt-ltb 0 (one_more 0) (omega arith)

module _ {D : Type 0} (size : D → ℕ) (contents : D → Option (List ℕ)) (may_leave : D → List ℕ → Type 0) (moment : D → ℕ) (left_since : D → ℕ → List ℕ → Type 0) (past : D → Option DiskPast) (faults : D → ℕ) (name : D → Option (List ℕ))
    (made : (disk : D) → IsMadeBy (past disk) (contents disk) (may_leave disk) (moment disk) (left_since disk)) where
  abbrev shows : D → DiskEnd
  shows disk = disk_end name past faults disk

  -- a store that is settled leaves what it stands for
  leaves : (plant : PlantData) (state : State) (number : ℕ) (store : Store D) → IsStoreOf size contents may_leave plant store → IfSome (contents (disk_of store)) (StandsFor plant state number) → faults (disk_of store) ≡ 0
      → LeavesState plant state number (shows (disk_of store))
  leaves plant state number store of_plant stands none =
      let disk = disk_of store in
      record {
        no_faults = none;
        leaves = leaves_now (past disk) (contents disk) (may_leave disk) (moment disk) (left_since disk) (StandsFor plant state number) (made disk)
            (λ c may. at_rest (contents disk) (StandsFor plant state number) c stands (of_plant.settled.lasts c may));
      }

  -- ---- the lines of a script

  module _ (plant : PlantData) (text : List ℕ) (first last : State) (store : Store D) (before now : Option (List ℕ)) (of_store : IsStoreOf size contents may_leave plant store)
      (stood : IfSome (contents (disk_of store)) (StandsFor plant first (saved_number store))) (new : faults (disk_of store) ≡ 0) where
    firsts : (left : List (List ℕ)) (its : State) (failed : Bool) (kept : Store D) → IsStoreOf size contents may_leave plant kept → faults (disk_of kept) ≡ 0
        → (works : KeepsWorks plant text first (saved_number store) left its failed before now (contents (disk_of kept)) (saved_number kept))
        → KeepsFirst plant text first (saved_number store) (shows (disk_of kept)) left works.output (saved_number kept)
    firsts left its failed kept of_plant none works =
        record { count = works.count; last = its; has = works.has; number_is = works.number_is; few = works.few; leaves = leaves plant its (saved_number kept) kept of_plant works.stands none }

    same_leaves : (kept : Store D) → kept ≡ store → LeavesState plant first (saved_number store) (shows (disk_of kept))
    same_leaves kept same = subst (λ (s : Store D). LeavesState plant first (saved_number store) (shows (disk_of s))) (sym same) (leaves plant first (saved_number store) store of_store stood new)

    -- where no line was refused, or nothing was saved
    unsaved_leaves : (result : Result (Store D) (KeptFault D)) → store_kept result ≡ Some store → LeavesState plant first (saved_number store) (shows (disk_kept result))
    unsaved_leaves (Ok kept) same = same_leaves kept (let is = same in cc)
    unsaved_leaves (Err (keeps.NoMemory kept)) same = same_leaves kept (let is = same in cc)
    unsaved_leaves (Err (keeps.BadLine number kept)) same = same_leaves kept (let is = same in cc)
    unsaved_leaves (Err (keeps.OutputFault kept)) same = same_leaves kept (let is = same in cc)
    unsaved_leaves (Err (keeps.Failed disk)) same = absurd (let clash = same in cc)
    unsaved_leaves (Err (keeps.Full kept)) same = same_leaves kept (let is = same in cc)

    formed : (result : Result (Store D) (KeptFault D)) → HasWorks plant text ⊎ ((store_kept result ≡ Some store) × (now ≡ before)) → HasWorks plant text ⊎ LeavesState plant first (saved_number store) (shows (disk_kept result))
    formed result (inl works) = inl works
    formed result (inr (same, unwritten)) = inr (unsaved_leaves result same)

    pub ran : (result : Result (Store D) (KeptFault D)) → IfOk result (KeepsAll contents plant text first (saved_number store) last before now)
        → IfSome (store_kept result) (KeepsSome contents plant text first (saved_number store) (line_unwritten result) before now) → IfSome (store_kept result) (IsStoreOf size contents may_leave plant)
        → ((number : ℕ) (same : Store D) → result ≡ Err (keeps.BadLine number same) → IsFirstBad plant text number) → ((number : ℕ) (same : Store D) → result ≡ Err (keeps.BadLine number same) → (same ≡ store) × (now ≡ before)) → HasWorks plant text ⊎ ((store_kept result ≡ Some store) × (now ≡ before))
        → ((kept : Store D) → result ≡ Err (keeps.Full kept) → 2 ^ 63 ≤ saved_number kept) → ((kept : Store D) → result ≡ Err (keeps.Full kept) → KeepsBut contents plant text first (saved_number store) before now kept)
        → ((disk : D) → result ≡ Err (keeps.Failed disk) → WritesFirst plant text first before now)
        → ((c : List ℕ) → may_leave (disk_kept result) c → StandsBehindLines plant text first (saved_number store) before now c) → faults (disk_kept result) ≡ count_after (keep_failed result) (faults (disk_of store))
        → RunsSo plant text first (saved_number store) (shows (disk_kept result)) before now (outcome_kept result)
    ran (Ok kept) ok some of_plant bad same form full unsaved failed at_end count =
        record { form = formed (Ok kept) form; output = ok.output; runs = firsts [] last false kept of_plant (count ∙ new) ok; wrote = ok.wrote }
    ran (Err (keeps.NoMemory kept)) ok (left, its, works) of_plant bad same form full unsaved failed at_end count =
        record { form = formed (Err (keeps.NoMemory kept)) form; output = works.output; runs = (saved_number kept, (left, firsts left its false kept of_plant (count ∙ new) works)); wrote = works.wrote }
    ran (Err (keeps.BadLine number kept)) ok some of_plant bad same form full unsaved failed at_end count =
        let is = same number kept refl in
        record {
          form = formed (Err (keeps.BadLine number kept)) form;
          output = [];
          runs = (refl, bad number kept refl, subst (λ (s : Store D). LeavesState plant first (saved_number store) (shows (disk_of s))) (sym is.0) (leaves plant first (saved_number store) store of_store stood new));
          wrote = is.1 ∙ sym (appended-nil before);
        }
    ran (Err (keeps.OutputFault kept)) ok (left, its, works) of_plant bad same form full unsaved failed at_end count =
        record { form = formed (Err (keeps.OutputFault kept)) form; output = works.output; runs = (saved_number kept, (left, firsts left its true kept of_plant (count ∙ new) works)); wrote = works.wrote }
    ran (Err (keeps.Failed disk)) ok some of_plant bad same form full unsaved failed at_end count =
        let its = failed disk refl in
        record {
          form = formed (Err (keeps.Failed disk)) form;
          output = its.output;
          runs = record {
            left = its.left;
            count = its.count;
            last = its.last;
            has = its.has;
            faulty = faulty (faults disk) (count ∙ ap one_more new);
            leaves = leaves_now (past disk) (contents disk) (may_leave disk) (moment disk) (left_since disk) (StandsBehindLines plant text first (saved_number store) before (appended before its.output)) (made disk)
                (λ c may. subst (λ (w : Option (List ℕ)). StandsBehindLines plant text first (saved_number store) before w c) its.appends (at_end c may));
          };
          wrote = its.appends;
        }
    ran (Err (keeps.Full kept)) ok some of_plant bad same form full unsaved failed at_end count =
        let but = unsaved kept refl in
        record {
          form = formed (Err (keeps.Full kept)) form;
          output = but.3.output;
          runs = (saved_number kept, full kept refl, (but.0, but.1, firsts (but.0 ∷ but.1) but.2 false kept of_plant (count ∙ new) but.3));
          wrote = but.3.wrote;
        }

    pub ran_so : (result : Result (Store D) (KeptFault D)) (outcome : Outcome) (then : D) → outcome ≡ outcome_kept result → then ≡ disk_kept result
        → RunsSo plant text first (saved_number store) (shows (disk_kept result)) before now (outcome_kept result) → RunsSo plant text first (saved_number store) (shows then) before now outcome
    ran_so result outcome then its disk_is runs =
        subst (λ (o : Outcome). RunsSo plant text first (saved_number store) (shows then) before now o) (sym its)
        (subst (λ (d : D). RunsSo plant text first (saved_number store) (shows d) before now (outcome_kept result)) (sym disk_is) runs)

  -- ---- from a disk that is handed out

  module _ (plant : PlantData) (file : List ℕ) (held : HeldOf DiskPast) (disk : D) (between : Snapshot) (before : Option (List ℕ)) (shown : ShowsHeld held (past disk)) (new : faults disk ≡ 0) where
    since : (then : D) (P : List ℕ → Type 0) → ((c : List ℕ) → left_since then (moment disk) c → P c) → LeavesSince held (past then) P
    since then P each = since_so held (past disk) (past then) (contents disk) (contents then) (may_leave disk) (may_leave then) (moment disk) (moment then) (left_since disk) (left_since then) P shown (made disk) (made then) each

    might_be : (c : List ℕ) → may_leave disk c → MightBe held c
    might_be c may = might held (past disk) (contents disk) (may_leave disk) (moment disk) (left_since disk) c shown (made disk) may

    its_held : (P : List ℕ → Type 0) → IfSome (contents disk) P → IfHeld held (λ first. P (stored_since first).present)
    its_held P has = held_so held (past disk) (contents disk) (may_leave disk) (moment disk) (left_since disk) P shown (made disk) has

    had_size : size disk ≡ store_size plant → IfSome (contents disk) (λ all. length all ≡ size disk) → HadSize plant held
    had_size sizes many = subst (λ (n : ℕ). IfHeld held (λ first. length (stored_since first).present ≡ n)) sizes (its_held (λ all. length all ≡ size disk) many)

    -- why it isn't opened
    why : (fault : OpenFault D) → IfSome (contents disk) (λ all. length all ≡ size disk) → TellsSize (size disk) (store_size plant) (Err fault) → IfSome (contents disk) (TellsDamage plant (Err fault))
        → faults (disk_unopened fault) ≡ count_after (says_unread fault) (faults disk) → Unopened plant held (shows (disk_unopened fault)) (outcome_unopened fault)
    why (opens.NoMemory other) many sizes damage count = (count ∙ new, had_size sizes many)
    why (opens.WrongSize other found wanted) many sizes damage count = (
      count ∙ new,
      sizes.1,
      (λ same. sizes.2 (sym sizes.0 ∙ same ∙ sizes.1)),
      subst (λ (n : ℕ). IfHeld held (λ first. length (stored_since first).present ≡ n)) (sym sizes.0) (its_held (λ all. length all ≡ size disk) many),
    )
    why (opens.Failed other) many sizes damage count = (faulty (faults other) (count ∙ ap one_more new), had_size sizes many)
    why (opens.Damaged other slot place) many sizes damage count = (count ∙ new, had_size sizes many, its_held (TellsDamage plant (Err (opens.Damaged other slot place))) damage)

    none_written : (fault : OpenFault D) → WroteOutput (outcome_unopened fault) [] before before
    none_written (opens.NoMemory other) = sym (appended-nil before)
    none_written (opens.WrongSize other found wanted) = sym (appended-nil before)
    none_written (opens.Failed other) = sym (appended-nil before)
    none_written (opens.Damaged other slot place) = sym (appended-nil before)

    pub not_opened : (fault : OpenFault D) (outcome : Outcome) (then : D) → outcome ≡ outcome_unopened fault → then ≡ disk_unopened fault → IfSome (contents disk) (λ all. length all ≡ size disk)
        → TellsSize (size disk) (store_size plant) (Err fault) → IfSome (contents disk) (TellsDamage plant (Err fault))
        → LeavesOnly moment left_since disk (disk_unopened fault) (may_leave disk) → faults (disk_unopened fault) ≡ count_after (says_unread fault) (faults disk)
        → KeepsOn plant file held between between (shows then) before before outcome
    not_opened fault outcome then its disk_is many sizes damage moments count =
        subst (λ (o : Outcome). KeepsOn plant file held between between (shows then) before before o) (sym its)
        (subst (λ (d : D). KeepsOn plant file held between between (shows d) before before (outcome_unopened fault)) (sym disk_is) (record {
          output = [];
          ends = inl (record {
            none = refl;
            unread = refl;
            why = why fault many sizes damage count;
            since = since (disk_unopened fault) (MightBe held) (λ c left. might_be c (moments.each c left));
          });
          wrote = none_written fault;
        }))

    -- the store was opened
    module _ (store : Store D) (first : State) (stood : IfSome (contents disk) (StandsFor plant first (saved_number store))) (of_plant : IsStoreOf size contents may_leave plant store)
        (moments : LeavesOnly moment left_since disk (disk_of store) (may_leave disk)) (sizes : size disk ≡ store_size plant) (many : IfSome (contents disk) (λ all. length all ≡ size disk)) where
      stood_for : StoodFor plant held first (saved_number store)
      stood_for = its_held (StandsFor plant first (saved_number store)) stood

      -- and the script stopped the run
      pub unread : (after : Snapshot) (stopped : Stopped) (then : D) → then ≡ disk_of store → contents (disk_of store) ≡ contents disk → faults (disk_of store) ≡ 0 → ReadsWhole script.word script.longest file between after (Err stopped)
          → KeepsOn plant file held between after (shows then) before before (WasStopped stopped)
      unread after stopped then disk_is same none reads =
          subst (λ (d : D). KeepsOn plant file held between after (shows d) before before (WasStopped stopped)) (sym disk_is) (record {
            output = [];
            ends = inr (inl (record {
              none = refl;
              sized = had_size sizes many;
              first = first;
              number = saved_number store;
              stood = stood_for;
              stopped = stopped;
              outcome_is = refl;
              reads = reads;
              leaves = leaves plant first (saved_number store) store of_plant (subst (λ (o : Option (List ℕ)). IfSome o (StandsFor plant first (saved_number store))) (sym same) stood) none;
              since = since (disk_of store) (MightBe held) (λ c left. might_be c (moments.each c left));
            }));
            wrote = sym (appended-nil before);
          })

      -- or it was read
      pub went_on : (after : Snapshot) (text : List ℕ) (then : D) (now : Option (List ℕ)) (outcome : Outcome) → ReadsWhole script.word script.longest file between after (Ok text)
          → RunsSo plant text first (saved_number store) (shows then) before now outcome → LeavesOnly moment left_since (disk_of store) then (StandsOnTheWay plant text first (saved_number store))
          → KeepsOn plant file held between after (shows then) before now outcome
      went_on after text then now outcome reads runs later =
          let Way : List ℕ → Type 0 = StandsOnTheWay plant text first (saved_number store) in
          let Either : List ℕ → Type 0 = λ c. may_leave disk c ⊎ Way c in
          let all : LeavesOnly moment left_since disk then Either =
          both moment left_since disk (disk_of store) then Either Way (widened moment left_since disk (disk_of store) (may_leave disk) Either moments (λ c may. inl may)) later (λ c way. inr way) in
          record {
            output = runs.output;
            ends = inr (inr (record {
              sized = had_size sizes many;
              first = first;
              number = saved_number store;
              stood = stood_for;
              text = text;
              reads = reads;
              form = runs.form;
              runs = runs.runs;
              since = since then (λ c. MightBe held c ⊎ Way c) (λ c left. ⊎_elim (λ may. inl (might_be c may)) (λ way. inr way) (all.each c left));
            }));
            wrote = runs.wrote;
          }
