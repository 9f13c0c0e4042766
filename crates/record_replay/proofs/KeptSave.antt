-- A replay that keeps its states saves the one behind a line, and goes on or ends there.
use Rattle.std.proofs.Common.{◌≡◌, ℕ, ◌+◌, ◌^◌, ◌≤◌, inl, inr, Bool, true, false, List, ◌++◌, Option, Result, Ok, Err, refl, sym, ◌∙◌, ap, subst, arith}
use Rattle.std.specs.Prelude.{IfSome}
use Rattle.ctl_io.specs.Crash.{LeavesOnly}
use Rattle.ctl_io.specs.Faults.{count_after}
use Rattle.ctl_io.specs.Sink.{appended}
use Rattle.ctl_io.proofs.SinkLemmas.{appended-appended}
use Rattle.state_store.proofs.Moments.{both}
use Rattle.plant_config.specs.Plant.{PlantData}
use Rattle.plant_core.specs.State.{State}
use Rattle.plant_snapshot.specs.StandsFor.{StandsFor, StandsForEither}
use Rattle.plant_snapshot.specs.Store.{disk_of, saved_number, IsStoreOf}
use Rattle.plant_snapshot.specs.declared.store.Store.{Store}
use Rattle.record_replay.specs.declared.kept.KeptFault.{KeptFault}
use Rattle.record_replay.specs.declared.kept.KeptFault.TheVariants.{NoMemory, BadLine, OutputFault, Failed, Full}
use Rattle.record_replay.specs.declared.replayer.Replayer.{Replayer}
use Rattle.record_replay.specs.Script.{lines, worked}
use Rattle.record_replay.specs.Kept.{StandsOnTheWay, StandsBehindLines, WroteLines, KeepsWorks, KeepsBut, store_kept, disk_kept, keep_failed}
use Rattle.record_replay.specs.KeptInside.{SavedAs, KeepsLine, SavesLine, IsKeeping, KeepsTo}
use Rattle.record_replay.proofs.KeptWorks.{part_behind, front_of}
use Rattle.record_replay.proofs.KeptLeft.{handed}
use Rattle.record_replay.proofs.KeptLine.{IsOneMore}

module _ {D : Type 0} (size : D → ℕ) (contents : D → Option (List ℕ)) (may_leave : D → List ℕ → Type 0) (moment : D → ℕ) (left_since : D → ℕ → List ℕ → Type 0) (faults : D → ℕ) (name : D → Option (List ℕ)) where
  -- What was saved is a state of the plant.
  pub saves_at : (plant : PlantData) (its state : State) (line : List ℕ) (store : Store D) (before now : Option (List ℕ)) (result : Result (Store D) (KeptFault D)) → its ≡ state → state.plant ≡ plant
      → SavesLine size contents may_leave moment left_since faults name its.plant its line store before now result → SavesLine size contents may_leave moment left_since faults name plant state line store before now result
  saves_at plant its state line store before now result same plant_is saves =
      subst (λ (p : PlantData). SavesLine size contents may_leave moment left_since faults name p state line store before now result) plant_is
      (subst (λ (s : State). SavesLine size contents may_leave moment left_since faults name s.plant s line store before now result) same saves)

  module _ (plant : PlantData) (script : List ℕ) (first : State) (store : Store D) (before : Option (List ℕ)) where
    abbrev Keeping : Option (List ℕ) → List ℕ → Replayer → Store D → Type 0
    Keeping now rest replayer kept = IsKeeping size contents may_leave moment left_since faults name plant script first store before now rest replayer kept

    abbrev EndsWith : State → Option (List ℕ) → Result (Store D) (KeptFault D) → Type 0
    EndsWith last now result = KeepsTo size contents may_leave moment left_since faults name plant script first last store before now result

    abbrev Way : List ℕ → Type 0
    Way = StandsOnTheWay plant script first (saved_number store)

    module _ (now : Option (List ℕ)) (rest behind text : List ℕ) (replayer then : Replayer) (kept : Store D) (keeping : Keeping now rest replayer kept)
        (more : IsOneMore plant script first keeping.keeps.count keeping.keeps.output text rest behind then) where
      number_more : (number : ℕ) → number ≡ saved_number kept + 1 → number ≡ saved_number store + (keeping.keeps.count + 1)
      number_more number is = let before = keeping.keeps.number_is in omega (arith, is, before)

      -- what a crash of the save leaves is on the way,
      either : (c : List ℕ) → StandsForEither plant replayer.state (saved_number kept) then.state c → Way c
      either c (inl stands) = record {
        left = worked (lines rest);
        count = keeping.keeps.count;
        output = keeping.keeps.output;
        last = replayer.state;
        has = keeping.keeps.has;
        stands = subst (λ (n : ℕ). StandsFor plant replayer.state n c) keeping.keeps.number_is stands;
      }
      either c (inr stands) = record {
        left = worked (lines behind);
        count = keeping.keeps.count + 1;
        output = keeping.keeps.output ++ text;
        last = then.state;
        has = more.has;
        stands = subst (λ (n : ℕ). StandsFor plant then.state n c) (number_more (saved_number kept + 1) refl) stands;
      }

      -- behind all lines that were written.
      either_behind : (c : List ℕ) → StandsForEither plant replayer.state (saved_number kept) then.state c → StandsBehindLines plant script first (saved_number store) before now c
      unfolding either
      either_behind c (inl stands) = record { way = either c (inl stands); wrote = front_of false keeping.keeps.output before now keeping.keeps.wrote }
      either_behind c (inr stands) = record {
        way = either c (inr stands);
        wrote = record { front = keeping.keeps.output; rest = text; place = refl; appends = keeping.keeps.wrote };
      }

      more_keeps : (now_then : Option (List ℕ)) (failed : Bool) (saved : Store D) → SavedAs contents plant then.state kept saved → WroteLines failed (keeping.keeps.output ++ text) before now_then
          → KeepsWorks plant script first (saved_number store) (worked (lines behind)) then.state failed before now_then (contents (disk_of saved)) (saved_number saved)
      more_keeps now_then failed saved its wrote = record {
        count = keeping.keeps.count + 1;
        output = keeping.keeps.output ++ text;
        has = more.has;
        number_is = number_more (saved_number saved) its.number_is;
        stands = its.stands;
        few = inr (let room = its.room in let is = its.number_is in omega (arith, room, is));
        wrote = wrote;
      }

      -- The work was saved and its line written.
      pub goes_on : (now_then : Option (List ℕ)) (saved : Store D) → SavesLine size contents may_leave moment left_since faults name plant then.state text kept now now_then (Ok saved) → Keeping now_then behind then saved
      unfolding more_keeps
      goes_on now_then saved so = record {
        left = more.left;
        keeps = more_keeps now_then false saved so.keeps.0 (so.keeps.1 ∙ ap (λ (w : Option (List ℕ)). appended w text) keeping.keeps.wrote ∙ appended-appended before keeping.keeps.output text);
        spelled = more.spelled;
        used = more.used;
        stands = more.stands;
        within = more.within;
        of_plant = so.of_plant;
        moments = both moment left_since (disk_of store) (disk_of kept) (disk_of saved) Way (StandsForEither plant replayer.state (saved_number kept) then.state) keeping.moments (so.moments replayer.state keeping.keeps.stands) either;
        size_is = so.size_is ∙ keeping.size_is;
        name_is = so.name_is ∙ keeping.name_is;
        faults_are = so.faults_are ∙ keeping.faults_are;
      }

      -- A work wasn't saved, or its line wasn't written.
      stops : (last : State) (now_then : Option (List ℕ)) (fault : KeptFault D) → KeepsLine contents plant then.state text kept now now_then (Err fault) → IfSome (store_kept (Err fault)) (IsStoreOf size contents may_leave plant)
          → LeavesOnly moment left_since (disk_of kept) (disk_kept (Err fault)) (StandsForEither plant replayer.state (saved_number kept) then.state)
          → ((c : List ℕ) (t : ℕ) → t ≤ moment (disk_kept (Err fault)) → may_leave (disk_kept (Err fault)) c → left_since (disk_kept (Err fault)) t c)
          → size (disk_kept (Err fault)) ≡ size (disk_of kept) → name (disk_kept (Err fault)) ≡ name (disk_of kept)
          → faults (disk_kept (Err fault)) ≡ count_after (keep_failed (Err fault)) (faults (disk_of kept)) → EndsWith last now_then (Err fault)
      stops last now_then (NoMemory same) keeps of_plant moments counts size_is name_is faults_are = absurd keeps
      stops last now_then (BadLine number same) keeps of_plant moments counts size_is name_is faults_are = absurd keeps
      stops last now_then (OutputFault saved) keeps of_plant moments counts size_is name_is faults_are =
          let its = more_keeps now_then true saved keeps.0 (part_behind keeping.keeps.output text before now now_then keeping.keeps.wrote keeps.1) in
          record {
            ok = tt;
            stands = (worked (lines behind), then.state, its);
            of_plant = of_plant;
            no_bad_line = λ number same is. cc;
            full = λ other is. absurd cc;
            unsaved = λ other is. absurd cc;
            failed = λ disk is. absurd cc;
            moments = both moment left_since (disk_of store) (disk_of kept) (disk_of saved) Way (StandsForEither plant replayer.state (saved_number kept) then.state) keeping.moments moments either;
            at_end = handed size contents may_leave plant script first store before now_then (worked (lines behind)) then.state true saved its of_plant;
            size_is = size_is ∙ keeping.size_is;
            name_is = name_is ∙ keeping.name_is;
            faults_are = faults_are ∙ keeping.faults_are;
          }
      stops last now_then (Failed disk) keeps of_plant moments counts size_is name_is faults_are =
          let behind_all : (c : List ℕ) → may_leave disk c → StandsBehindLines plant script first (saved_number store) before now c =
          λ c may. either_behind c (moments.each c (counts c (moment (disk_of kept)) moments.later may)) in
          record {
            ok = tt;
            stands = tt;
            of_plant = tt;
            no_bad_line = λ number same is. cc;
            full = λ other is. absurd cc;
            unsaved = λ other is. absurd cc;
            failed = λ other is. record {
              left = worked (lines rest);
              count = keeping.keeps.count;
              output = keeping.keeps.output;
              last = replayer.state;
              has = keeping.keeps.has;
              appends = keeps ∙ keeping.keeps.wrote;
            };
            moments = both moment left_since (disk_of store) (disk_of kept) disk Way (StandsForEither plant replayer.state (saved_number kept) then.state) keeping.moments moments either;
            at_end = subst (λ (w : Option (List ℕ)). (c : List ℕ) → may_leave disk c → StandsBehindLines plant script first (saved_number store) before w c) (sym keeps) behind_all;
            size_is = size_is ∙ keeping.size_is;
            name_is = name_is ∙ keeping.name_is;
            faults_are = faults_are ∙ ap (count_after true) keeping.faults_are;
          }
      stops last now_then (Full same) keeps of_plant moments counts size_is name_is faults_are =
          let left : KeepsBut contents plant script first (saved_number store) before now kept = (
            more.line,
            worked (lines behind),
            replayer.state,
            subst (λ (left : List (List ℕ)). KeepsWorks plant script first (saved_number store) left replayer.state false before now (contents (disk_of kept)) (saved_number kept)) more.line_is keeping.keeps,
          ) in
          let its : EndsWith last now (Err (Full kept)) = record {
            ok = tt;
            stands = (worked (lines rest), replayer.state, keeping.keeps);
            of_plant = keeping.of_plant;
            no_bad_line = λ number other is. cc;
            full = λ other is. let it : kept ≡ other = cc in subst (λ (s : Store D). 2 ^ 63 ≤ saved_number s) it keeps.1;
            unsaved = λ other is. let it : kept ≡ other = cc in subst (λ (s : Store D). KeepsBut contents plant script first (saved_number store) before now s) it left;
            failed = λ disk is. absurd cc;
            moments = keeping.moments;
            at_end = handed size contents may_leave plant script first store before now (worked (lines rest)) replayer.state false kept keeping.keeps keeping.of_plant;
            size_is = keeping.size_is;
            name_is = keeping.name_is;
            faults_are = keeping.faults_are;
          } in
          subst (λ (s : Store D). EndsWith last now_then (Err (Full s))) (sym keeps.0) (subst (λ (w : Option (List ℕ)). EndsWith last w (Err (Full kept))) (sym keeps.2) its)

      pub line_stops : (last : State) (now_then : Option (List ℕ)) (fault : KeptFault D) → SavesLine size contents may_leave moment left_since faults name plant then.state text kept now now_then (Err fault)
          → ((c : List ℕ) (t : ℕ) → t ≤ moment (disk_kept (Err fault)) → may_leave (disk_kept (Err fault)) c → left_since (disk_kept (Err fault)) t c) → EndsWith last now_then (Err fault)
      line_stops last now_then fault so counts = stops last now_then fault so.keeps so.of_plant (so.moments replayer.state keeping.keeps.stands) counts so.size_is so.name_is so.faults_are
