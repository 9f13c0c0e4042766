-- How what the workers did is counted, from their sums.
use Rattle.std.proofs.Common.{◌≡◌, ℕ, ◌+◌, Bool, true, false, cond, List, [], ◌∷◌, length, filter, sum_by, Option, Some, None, refl, sym, ap, ◌∙◌, arith}
use Rattle.std.proofs.lemmas.List.Sums.{sum_by-cons}
use Rattle.history_lock.specs.Locks.{LockData}
use Rattle.plant_config.specs.Plant.{PlantData}
use Rattle.plant_core.specs.State.{State}
use Rattle.panel_session.specs.Entry.{PlantEntry}
use Rattle.panel_server.specs.declared.sums.Sums.{Sums}
use Rattle.panel_server.specs.Driven.{ends_by_trace}
use Rattle.panel_server.specs.PlantServed.{AreCounted, DisplayRun, PanelRun, ends_full, first_true, lost_at, trace_failures}
use Rattle.panel_server.specs.ServeInside.{first_failure, no_sums, one_if, with_end, with_panel}

-- what is so of the first, where it is one of those that are counted
count_first : {X : Type 0} (so : Bool) (first : X) (later : List X) → length (cond so (first ∷ later) later) ≡ one_if so + length later
count_first true first later = omega arith
count_first false first later = omega arith

-- the first of two places, where there is one
abbrev pub either : Option ℕ → Option ℕ → Option ℕ
either (Some first) other = Some first
either None other = other

either_none : (one : Option ℕ) → either one None ≡ one
either_none (Some first) = refl
either_none None = refl

first_both : (former : Option ℕ) (place : ℕ) (failed : Bool) (later : List Bool)
    → either (first_failure former place failed) (first_true (place + 1) later) ≡ either former (first_true place (failed ∷ later))
first_both (Some first) place failed later = refl
first_both None place true later = refl
first_both None place false later = refl

module _ {P : Type 0} {WasSent : P → List (List ℕ) → Type 0} {faults : P → ℕ} {plant : PlantData} {lock : LockData State} {past : List PlantEntry} where
  -- The sums of workers, of which the first has this place, are those of these panels and of these displays.
  pub record AreAdded (place : ℕ) (panels : List (PanelRun plant lock past)) (displays : DisplayRun WasSent faults plant lock past) (before after : Sums) : Type 0 where
    pub sessions : after.sessions ≡ before.sessions + sum_by (λ run. run.done.sessions) panels
    pub limits : after.limits ≡ before.limits + (sum_by (λ run. run.done.limits) panels + one_if (ends_full displays.end))
    pub net_faults : after.net_faults ≡ before.net_faults + (sum_by (λ run. run.done.link_faults) panels + length (filter (λ run. run.done.refused) panels))
    pub trace_faults : after.trace_faults ≡ before.trace_faults + length (filter (λ failed. failed) (trace_failures panels displays))
    pub failed_trace : after.failed_trace ≡ either before.failed_trace (first_true place (trace_failures panels displays))
    pub end : after.end ≡ displays.end

  pub added_last : (place : ℕ) (displays : DisplayRun WasSent faults plant lock past) (sums : Sums) → AreAdded place [] displays sums (with_end place displays.end sums)
  added_last place displays sums =
      let failed = ends_by_trace displays.end in
      let failures : length (filter (λ (failed : Bool). failed) (failed ∷ [])) ≡ one_if failed + 0 = count_first failed failed [] in
      record {
        sessions = omega arith;
        limits = omega arith;
        net_faults = omega arith;
        trace_faults = omega (arith, failures);
        failed_trace = sym (either_none (first_failure sums.failed_trace place failed)) ∙ first_both sums.failed_trace place failed [];
        end = refl;
      }

  pub added_first : (place : ℕ) (run : PanelRun plant lock past) (panels : List (PanelRun plant lock past)) (displays : DisplayRun WasSent faults plant lock past) (before after : Sums)
      → AreAdded (place + 1) panels displays (with_panel place run.done before) after → AreAdded place (run ∷ panels) displays before after
  added_first place run panels displays before after added =
      let Run = PanelRun plant lock past in
      let failures = trace_failures panels displays in
      let sessions : sum_by (λ (run : Run). run.done.sessions) (run ∷ panels) ≡ run.done.sessions + sum_by (λ (run : Run). run.done.sessions) panels = sum_by-cons (λ (run : Run). run.done.sessions) run panels in
      let limits : sum_by (λ (run : Run). run.done.limits) (run ∷ panels) ≡ run.done.limits + sum_by (λ (run : Run). run.done.limits) panels = sum_by-cons (λ (run : Run). run.done.limits) run panels in
      let link_faults : sum_by (λ (run : Run). run.done.link_faults) (run ∷ panels) ≡ run.done.link_faults + sum_by (λ (run : Run). run.done.link_faults) panels = sum_by-cons (λ (run : Run). run.done.link_faults) run panels in
      let refused : length (filter (λ (run : Run). run.done.refused) (run ∷ panels)) ≡ one_if run.done.refused + length (filter (λ (run : Run). run.done.refused) panels) = count_first run.done.refused run (filter (λ (run : Run). run.done.refused) panels) in
      let failed : length (filter (λ (failed : Bool). failed) (run.done.trace_failed ∷ failures)) ≡ one_if run.done.trace_failed + length (filter (λ (failed : Bool). failed) failures) = count_first run.done.trace_failed run.done.trace_failed (filter (λ (failed : Bool). failed) failures) in
      record {
        sessions = omega (arith, added.sessions, sessions);
        limits = omega (arith, added.limits, limits);
        net_faults = omega (arith, added.net_faults, link_faults, refused);
        trace_faults = omega (arith, added.trace_faults, failed);
        failed_trace = added.failed_trace ∙ first_both before.failed_trace place run.done.trace_failed failures;
        end = added.end;
      }

  -- what the answer counts of sums that were begun with none
  pub counted : (panels : List (PanelRun plant lock past)) (displays : DisplayRun WasSent faults plant lock past) (sums : Sums) (entries : ℕ)
      → AreAdded 0 panels displays no_sums sums → entries ≡ length past
      → AreCounted panels displays (record {
        sessions = sums.sessions;
        entries = entries;
        limits = sums.limits;
        net_faults = sums.net_faults + lost_at sums.end;
        trace_faults = sums.trace_faults;
        failed_trace = sums.failed_trace;
        past = past;
      })
  counted panels displays sums entries added is =
      let lost : lost_at sums.end ≡ lost_at displays.end = ap lost_at added.end in
      record {
        sessions = omega (arith, added.sessions);
        entries = is;
        past_is = refl;
        limits = omega (arith, added.limits);
        net_faults = omega (arith, added.net_faults, lost);
        trace_faults = omega (arith, added.trace_faults);
        failed_trace = added.failed_trace;
      }
