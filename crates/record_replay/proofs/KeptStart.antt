-- How a replay begins that keeps its states.
use Rattle.std.proofs.Common.{◌≡◌, ℕ, inl, false, List, [], Option, Err, refl, sym, subst, arith}
use Rattle.std.specs.Prelude.{IfSome}
use Rattle.ctl_io.specs.Crash.{LeavesOnly}
use Rattle.ctl_io.proofs.SinkLemmas.{appended-nil}
use Rattle.plant_config.specs.Plant.{PlantData}
use Rattle.plant_core.specs.State.{State, IsValid}
use Rattle.plant_core.specs.Short.{StaysShort}
use Rattle.plant_snapshot.specs.StandsFor.{StandsFor}
use Rattle.plant_snapshot.specs.Store.{disk_of, saved_number, IsStoreOf}
use Rattle.plant_snapshot.specs.declared.store.Store.{Store}
use Rattle.record_replay.specs.declared.kept.KeptFault.TheVariants.{NoMemory}
use Rattle.record_replay.specs.declared.replayer.Replayer.{Replayer}
use Rattle.record_replay.specs.Script.{Work, lines, worked, LinesSpell}
use Rattle.record_replay.specs.Replay.{begun}
use Rattle.record_replay.specs.ReplayerInside.{StandsAt}
use Rattle.record_replay.specs.Kept.{begun_in, HasWorked, StandsOnTheWay, StandsBehindLines, KeepsWorks}
use Rattle.record_replay.specs.KeptInside.{IsKeeping, KeepsTo}
use Rattle.record_replay.proofs.KeptLeft.{handed}

-- A new replayer whose plant was given this state stands in it.
pub stands_in : (plant : PlantData) (new replayer : Replayer) (state : State) → StandsAt plant new (begun plant) 0 → replayer ≡ record new { state = state } → state.plant ≡ plant → IsValid state → StaysShort state
    → StandsAt plant replayer (begun_in state) 0
stands_in plant new replayer state stands is plant_is valid short =
    subst (λ (r : Replayer). StandsAt plant r (begun_in state) 0) (sym is) (record {
      plant_is = stands.plant_is;
      state_is = refl;
      valid = valid;
      short = short;
      settled = record { plant_is = plant_is; each = stands.settled.each };
      count = stands.count;
      each = stands.each;
      small = stands.small;
      empty = stands.empty;
      places = stands.places;
    })

module _ {D : Type 0} (size : D → ℕ) (contents : D → Option (List ℕ)) (may_leave : D → List ℕ → Type 0) (moment : D → ℕ) (left_since : D → ℕ → List ℕ → Type 0) (faults : D → ℕ) (name : D → Option (List ℕ))
    (plant : PlantData) (script : List ℕ) (first : State) (store : Store D) (before : Option (List ℕ)) where
  -- Nothing was worked yet.
  abbrev nothing : (last : State) → last ≡ first → HasWorked plant script first (worked (lines script)) 0 [] last
  nothing last same = record {
    front = [];
    place = refl;
    done = [];
    spelled = tt;
    count_is = refl;
    stand = begun_in first;
    all_work = (refl, refl);
    state_is = same;
  }

  module _ (of_plant : IsStoreOf size contents may_leave plant store) (shown : IfSome (contents (disk_of store)) (StandsFor plant first (saved_number store))) where
    pub unworked : KeepsWorks plant script first (saved_number store) (worked (lines script)) first false before before (contents (disk_of store)) (saved_number store)
    unworked = record {
      count = 0;
      output = [];
      has = nothing first refl;
      number_is = omega arith;
      stands = shown;
      few = inl refl;
      wrote = sym (appended-nil before);
    }

    pub unworked_left : (c : List ℕ) → may_leave (disk_of store) c → StandsBehindLines plant script first (saved_number store) before before c
    unworked_left = handed size contents may_leave plant script first store before before (worked (lines script)) first false store unworked of_plant

    module _ (only : (c : List ℕ) → left_since (disk_of store) (moment (disk_of store)) c → may_leave (disk_of store) c) where
      pub unworked_moments : LeavesOnly moment left_since (disk_of store) (disk_of store) (StandsOnTheWay plant script first (saved_number store))
      unworked_moments = record { later = omega arith; each = λ c left. (unworked_left c (only c left)).way; before = λ t c le left. inl left }

      -- There was no memory for a first line.
      pub unready : (last : State) → KeepsTo size contents may_leave moment left_since faults name plant script first last store before before (Err (NoMemory store))
      unready last = record {
        ok = tt;
        stands = (worked (lines script), first, unworked);
        of_plant = of_plant;
        no_bad_line = λ number same is. cc;
        full = λ other is. absurd cc;
        unsaved = λ other is. absurd cc;
        failed = λ disk is. absurd cc;
        moments = unworked_moments;
        at_end = unworked_left;
        size_is = refl;
        name_is = refl;
        faults_are = refl;
      }

      -- A replay begins.
      pub begins : (replayer : Replayer) → (works : List Work) × LinesSpell plant (worked (lines script)) works → StandsAt plant replayer (begun_in first) 0 → replayer.state ≡ first → IsKeeping size contents may_leave moment left_since faults name plant script first store before before script replayer store
      begins replayer spelled stands same =
          record {
            left = spelled.0;
            spelled = spelled.1;
            keeps = record {
              count = 0;
              output = [];
              has = nothing replayer.state same;
              number_is = omega arith;
              stands = subst (λ (s : State). IfSome (contents (disk_of store)) (StandsFor plant s (saved_number store))) (sym same) shown;
              few = inl refl;
              wrote = sym (appended-nil before);
            };
            used = 0;
            stands = stands;
            within = omega arith;
            of_plant = of_plant;
            moments = unworked_moments;
            size_is = refl;
            name_is = refl;
            faults_are = refl;
          }
