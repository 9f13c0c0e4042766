-- What the ends of a keep have in common with those of other rows, and what it leaves of the files.
use Rattle.std.proofs.Common.{◌≡◌, ◌≢◌, inl, inr, ℕ, ◌+◌, ◌-◌, ◌<◌, true, false, List, [], ◌∷◌, Option, Some, None, Result, Ok, Err, refl, sym, ◌∙◌, ap, subst, arith}
use Rattle.std.specs.Prelude.{Contains}
use Rattle.std.proofs.lemmas.Bool.{false≢true}
use Rattle.std.proofs.lemmas.List.Elements.{Contains-append_left, Contains-append_right, Contains-push}
use Rattle.ctl_io.specs.Custody.{Custody, DiskEnd, FilesCustody, SinkEnd}
use Rattle.ctl_io.specs.DiskPast.{DiskPast}
use Rattle.ctl_io.specs.Faults.{count_after}
use Rattle.ctl_io.specs.Held.{HeldOf, IsNamed, Stays}
use Rattle.plant_config.specs.Plant.{PlantData}
use Rattle.command_words.specs.Parts.{Whole, NoMore}
use Rattle.command_rows.specs.Kinds.{script}
use Rattle.command_rows.specs.Moment.{Snapshot, Moment}
use Rattle.command_rows.specs.LentDisk.{FailsToLend, MissesDisk}
use Rattle.command_rows.specs.End.{End, Stopped, NoMemory, FileMissing, FileFault, PlantRefused, PlantTooLong, TooLong, behind, file_failed, out_of_memory, stopped_end}
use Rattle.command_rows.specs.Opener.{ReadsWhole}
use Rattle.command_rows.specs.Sound.{IsOneOf, IsSoundEnd, LeavesSound, IsSound}
use Rattle.command_rows.proofs.LeavesLemmas.{gives_back, stays_over}
use Rattle.command_rows.proofs.RowLawsLemmas.{one_memory}
use Rattle.command_keep.specs.Keep.{parts, Outcome, Kept, WasStopped, StoreFailed, WrongSize, Damaged, BadLine, Full, Unwritten, told_end, EndsOnDisk, EndsLent, KeepEnds, KeepRow}
use Rattle.command_keep.proofs.EndLemmas.{statuses, known, counted}

-- ---- its ends

few_of : (status : ℕ) → IsOneOf statuses status → status < 7
few_of status (inl is) = omega (arith, is)
few_of status (inr (inl is)) = omega (arith, is)
few_of status (inr (inr (inl is))) = omega (arith, is)
few_of status (inr (inr (inr (inl is)))) = omega (arith, is)
few_of status (inr (inr (inr (inr none)))) = absurd none

told_memory : (store : List ℕ) (outcome : Outcome) → (told_end store outcome).status ≡ 1 → told_end store outcome ≡ out_of_memory
told_memory store (Kept number) one = absurd (omega (arith, one))
told_memory store (WasStopped stopped) one = ap stopped_end (one_memory stopped one)
told_memory store StoreFailed one = absurd (omega (arith, one))
told_memory store (WrongSize found wanted) one = absurd (omega (arith, one))
told_memory store (Damaged slot place) one = absurd (omega (arith, one))
told_memory store (BadLine number) one = absurd (omega (arith, one))
told_memory store Full one = absurd (omega (arith, one))
told_memory store Unwritten one = absurd (omega (arith, one))

stop_fault_three : (stopped : Stopped) → (stopped_end stopped).is_file_fault ≡ true → (stopped_end stopped).status ≡ 3
stop_fault_three NoMemory fault = absurd (false≢true fault)
stop_fault_three (FileMissing name) fault = absurd (false≢true fault)
stop_fault_three (FileFault name) fault = refl
stop_fault_three (PlantRefused why) fault = absurd (false≢true fault)
stop_fault_three PlantTooLong fault = absurd (false≢true fault)
stop_fault_three (TooLong word) fault = absurd (false≢true fault)

told_fault : (store : List ℕ) (outcome : Outcome) → (told_end store outcome).is_file_fault ≡ true → (told_end store outcome).status ≡ 3
told_fault store (Kept number) fault = absurd (false≢true fault)
told_fault store (WasStopped stopped) fault = stop_fault_three stopped fault
told_fault store StoreFailed fault = refl
told_fault store (WrongSize found wanted) fault = absurd (false≢true fault)
told_fault store (Damaged slot place) fault = absurd (false≢true fault)
told_fault store (BadLine number) fault = absurd (false≢true fault)
told_fault store Full fault = absurd (false≢true fault)
told_fault store Unwritten fault = absurd (false≢true fault)

module _ (plant : PlantData) (store name : List ℕ) (before now : Moment) (status : ℕ) where
  own_end : (end : End) → KeepEnds plant store name before now end status → IsSoundEnd statuses end
  own_end end (inl (is, same)) =
      subst (IsSoundEnd statuses) (sym is) (record { known = inr (inl refl); few = omega arith; memory = λ one. record { front = []; tells = refl }; fault = λ so. absurd (false≢true so) })
  own_end end (inr (inl (is, misses))) =
      subst (IsSoundEnd statuses) (sym is) (record { known = inr (inr (inl refl)); few = omega arith; memory = λ one. absurd (omega (arith, one)); fault = λ so. absurd (false≢true so) })
  own_end end (inr (inr (inl (is, fails)))) =
      subst (IsSoundEnd statuses) (sym is) (record { known = inr (inr (inl refl)); few = omega arith; memory = λ one. absurd (omega (arith, one)); fault = λ so. refl })
  own_end end (inr (inr (inr lent))) =
      let is_known = known plant store (before.files.disks store 0) lent.shown name lent.between lent.after lent.output before.output.written lent.outcome lent.ends in
      subst (IsSoundEnd statuses) (sym lent.end_is) (record {
        known = is_known;
        few = few_of (told_end store lent.outcome).status is_known;
        memory = λ one. record { front = lent.output; tells = ap (behind lent.output) (told_memory store lent.outcome one) };
        fault = told_fault store lent.outcome;
      })

-- ---- what is left of the files

-- What reading the script leaves.
record AfterScript (name : List ℕ) (between after : Snapshot) : Type 0 where
  sources : after.custody.sources.out ≡ between.custody.sources.out
  sinks : after.custody.sinks ≡ between.custody.sinks
  disks : after.custody.disks ≡ between.custody.disks
  others : (other : List ℕ) → other ≢ name → Stays (between.held other) (after.held other)

after_read : (name : List ℕ) (between after : Snapshot) (read : Result (List ℕ) Stopped) → ReadsWhole script.word script.longest name between after read → AfterScript name between after
after_read name between after (Ok text) reads = record {
  sources = gives_back (Whole script ∷ []) NoMore (name, tt) between after (Ok (text, tt)) (record { between = after; leads = reads; others = refl });
  sinks = reads.reads.given_back.sinks;
  disks = reads.reads.given_back.disks;
  others = reads.reads.others;
}
after_read name between after (Err stopped) reads = record {
  sources = gives_back (Whole script ∷ []) NoMore (name, tt) between after (Err stopped) (inl reads);
  sinks = reads.reads.given_back.sinks;
  disks = reads.reads.given_back.disks;
  others = reads.reads.others;
}

after_so : (plant : PlantData) (name : List ℕ) (held : HeldOf DiskPast) (between after : Snapshot) (shown : DiskEnd) (output : List ℕ) (before : Option (List ℕ)) (outcome : Outcome) → EndsOnDisk plant name held between after shown output before outcome
    → AfterScript name between after
after_so plant name held between after shown output before outcome (inl un) = record {
  sources = ap (λ (s : Snapshot). s.custody.sources.out) un.unread;
  sinks = ap (λ (s : Snapshot). s.custody.sinks) un.unread;
  disks = ap (λ (s : Snapshot). s.custody.disks) un.unread;
  others = λ other not opening. ap (λ (s : Snapshot). s.held other opening) un.unread;
}
after_so plant name held between after shown output before outcome (inr (inl unread)) = after_read name between after (Err unread.stopped) unread.reads
after_so plant name held between after shown output before outcome (inr (inr run)) = after_read name between after (Ok run.text) run.reads

not_shown : (own name : List ℕ) (shown : Option (List ℕ)) → IsNamed own shown → name ≢ own → shown ≢ Some name
not_shown own name None named other is = cc
not_shown own name (Some its) named other is =
    let same : its ≡ name = cc in
    other (sym same ∙ named)

module _ (plant : PlantData) (store name : List ℕ) where
  abbrev names : List (List ℕ)
  names = store ∷ name ∷ []

  not_store : (other : List ℕ) → (Contains names other → ⊥) → other ≢ store
  not_store other none same = none (subst (Contains names) (sym same) (Contains-append_left (store ∷ []) (name ∷ []) store (Contains-push [] store)))

  not_script : (other : List ℕ) → (Contains names other → ⊥) → other ≢ name
  not_script other none same = none (subst (Contains names) (sym same) (Contains-append_right (store ∷ []) (name ∷ []) name (Contains-push [] name)))

  lent_leaves : (before now : Moment) (end : End) (status : ℕ) → EndsLent plant store name before now end status → LeavesSound [] names end before.files now.files
  lent_leaves before now end status lent =
      let lends = lent.lends in
      let takes = lent.takes in
      let read = after_so plant name (before.files.disks store 0) lent.between lent.after lent.shown lent.output before.output.written lent.outcome lent.ends in
      let out : lent.between.custody.disks.out ≡ before.files.custody.disks.out + 1 = ap (λ (c : FilesCustody). c.disks.out) lends.custody in
      let still : lent.after.custody.disks.out ≡ lent.between.custody.disks.out = ap (λ (c : Custody DiskEnd). c.out) read.disks in
      let back : now.files.custody.disks.out ≡ lent.after.custody.disks.out - 1 = ap (λ (c : FilesCustody). c.disks.out) takes.custody in
      record {
        sources = ap (λ (c : FilesCustody). c.sources.out) takes.custody ∙ read.sources ∙ ap (λ (c : FilesCustody). c.sources.out) lends.custody;
        sinks = ap (λ (c : FilesCustody). c.sinks.out) takes.custody ∙ ap (λ (c : Custody SinkEnd). c.out) read.sinks ∙ ap (λ (c : FilesCustody). c.sinks.out) lends.custody;
        disks = omega (arith, out, still, back);
        unmade = λ none. ap (λ (c : FilesCustody). c.sinks) takes.custody ∙ read.sinks ∙ ap (λ (c : FilesCustody). c.sinks) lends.custody;
        others = λ other none.
            stays_over (before.files.held other) (lent.after.held other) (now.files.held other)
            (stays_over (before.files.held other) (lent.between.held other) (lent.after.held other) (lends.others.held other (not_store other none)) (read.others other (not_script other none)))
            (takes.held other (not_shown store other lent.shown.name lent.named (not_store other none)));
        faults =
            counted plant store (before.files.disks store 0) lent.shown name lent.between lent.after lent.output before.output.written before.files now.files lent.outcome lends takes lent.ends
            ∙ sym (ap (λ (e : End). count_after e.is_file_fault before.files.faults) lent.end_is);
      }

  stays_so : (before now : Snapshot) → now ≡ before → LeavesSound [] names out_of_memory before now
  stays_so before now same = record {
    sources = ap (λ (s : Snapshot). s.custody.sources.out) same;
    sinks = ap (λ (s : Snapshot). s.custody.sinks.out) same;
    disks = ap (λ (s : Snapshot). s.custody.disks.out) same;
    unmade = λ none. ap (λ (s : Snapshot). s.custody.sinks) same;
    others = λ other none opening. ap (λ (s : Snapshot). s.held other opening) same;
    faults = ap (λ (s : Snapshot). s.faults) same;
  }

  misses_so : (before now : Snapshot) → MissesDisk store before now → LeavesSound [] names (stopped_end (FileMissing store)) before now
  misses_so before now misses = record {
    sources = ap (λ (c : FilesCustody). c.sources.out) misses.custody;
    sinks = ap (λ (c : FilesCustody). c.sinks.out) misses.custody;
    disks = ap (λ (c : FilesCustody). c.disks.out) misses.custody;
    unmade = λ none. ap (λ (c : FilesCustody). c.sinks) misses.custody;
    others = λ other none. misses.others.held other (not_store other none);
    faults = misses.faults;
  }

  fails_so : (before now : Snapshot) → FailsToLend store before now → LeavesSound [] names (file_failed store) before now
  fails_so before now fails = record {
    sources = ap (λ (c : FilesCustody). c.sources.out) fails.custody;
    sinks = ap (λ (c : FilesCustody). c.sinks.out) fails.custody;
    disks = ap (λ (c : FilesCustody). c.disks.out) fails.custody;
    unmade = λ none. ap (λ (c : FilesCustody). c.sinks) fails.custody;
    others = λ other none. fails.others.held other (not_store other none);
    faults = fails.faults;
  }

  pub own_leaves : (before now : Moment) (end : End) (status : ℕ) → KeepEnds plant store name before now end status → LeavesSound [] names end before.files now.files
  own_leaves before now end status (inl (is, same)) = subst (λ (e : End). LeavesSound [] names e before.files now.files) (sym is) (stays_so before.files now.files same)
  own_leaves before now end status (inr (inl (is, misses))) = subst (λ (e : End). LeavesSound [] names e before.files now.files) (sym is) (misses_so before.files now.files misses)
  own_leaves before now end status (inr (inr (inl (is, fails)))) = subst (λ (e : End). LeavesSound [] names e before.files now.files) (sym is) (fails_so before.files now.files fails)
  own_leaves before now end status (inr (inr (inr lent))) = lent_leaves before now end status lent

pub sound : IsSound parts NoMore KeepRow statuses
sound = record {
  own = λ given before now end status ends. own_end given.0 given.1.0 given.1.1.0 before now status end ends;
  leaves = λ given before now end status ends. own_leaves given.0 given.1.0 given.1.1.0 before now end status ends;
}
