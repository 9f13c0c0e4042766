-- What came of serving, by the answer.
use Rattle.std.proofs.Common.{◌≡◌, ◌⊎◌, inl, inr, ℕ, ◌<◌, zero, suc, Bool, true, false, List, length, Option, Some, None, Result, Ok, Err, refl, sym, ◌∙◌, ap, subst, arith}
use Rattle.std.specs.Prelude.{nat_lt, if◌then◌else◌}
use Rattle.std.proofs.lemmas.Bool.{false≢true, lt-ltb}
use Rattle.ctl_io.specs.Faults.{one_more}
use Rattle.ctl_io.specs.Sink.{appended}
use Rattle.plant_config.specs.Plant.{PlantData}
use Rattle.panel_server.specs.PlantServed.{NetData, ServedSo}
use Rattle.panel_server.specs.declared.plant.PlantDone.{PlantDone}
use Rattle.panel_server.specs.declared.plant.ServeFault.{ServeFault}
use Rattle.panel_server.specs.declared.plant.ServeFault.TheVariants as answers
use Rattle.command_words.specs.Parts.{Prefix, AllSaid}
use Rattle.command_rows.specs.Moment.{Snapshot, Output}
use Rattle.command_rows.specs.End.{End, out_of_memory, IsWritten}
use Rattle.command_serve.specs.Traces.{names_for}
use Rattle.command_serve.specs.Serve.{Telling, AllWell, TraceFailed, NetFailed, LimitsMet, ServeEnd, Unserved, NetRefused, Served, telling_end, telling_of, counted_telling, name_at, answered_end, serve_end, EndsAtTrace, EndsServed, PlantServiceEnds, IsEndOf}
use Rattle.command_serve.specs.Laws.{TellsDone}

-- the status of what is told
abbrev pub telling_status : Telling → ℕ
telling_status telling = (telling_end telling).status

-- what is told by a status
pub all_well : (telling : Telling) → telling_status telling ≡ 0 → telling ≡ AllWell
all_well AllWell is = refl
all_well (TraceFailed name) is = absurd (omega (arith, is))
all_well NetFailed is = absurd (omega (arith, is))
all_well LimitsMet is = absurd (omega (arith, is))

pub net_told : (telling : Telling) → telling_status telling ≡ 8 → telling ≡ NetFailed
net_told AllWell is = absurd (omega (arith, is))
net_told (TraceFailed name) is = absurd (omega (arith, is))
net_told NetFailed is = refl
net_told LimitsMet is = absurd (omega (arith, is))

pub limits_told : (telling : Telling) → telling_status telling ≡ 9 → telling ≡ LimitsMet
limits_told AllWell is = absurd (omega (arith, is))
limits_told (TraceFailed name) is = absurd (omega (arith, is))
limits_told NetFailed is = absurd (omega (arith, is))
limits_told LimitsMet is = refl

-- counts, and what is told by them
pub uncounted : (count : ℕ) → nat_lt 0 count ≡ false → count ≡ 0
uncounted zero is = refl
uncounted (suc count) is = absurd (false≢true (sym is ∙ lt-ltb 0 (suc count) (omega arith)))

counted : (count : ℕ) → nat_lt 0 count ≡ true → 0 < count
counted zero is = absurd (false≢true is)
counted (suc count) is = omega arith

by_bools : (names : List (List ℕ)) (done : PlantDone) (status : ℕ) (net_failed limit_met : Bool) → name_at names done.failed_trace ≡ None → nat_lt 0 done.net_faults ≡ net_failed → nat_lt 0 done.limits ≡ limit_met
    → status ≡ telling_status (if net_failed then NetFailed else (if limit_met then LimitsMet else AllWell)) → TellsDone names done status
by_bools names done status true limit_met none net limit is = inr (inl (is, none, counted done.net_faults net))
by_bools names done status false true none net limit is = inr (inr (inl (is, none, uncounted done.net_faults net, counted done.limits limit)))
by_bools names done status false false none net limit is = inr (inr (inr (is, none, uncounted done.net_faults net, uncounted done.limits limit)))

pub by_found : (names : List (List ℕ)) (done : PlantDone) (status : ℕ) (found : Option (List ℕ)) → name_at names done.failed_trace ≡ found → status ≡ telling_status (telling_of found done.net_faults done.limits)
    → TellsDone names done status
by_found names done status (Some name) same is = inl (is, (name, same))
by_found names done status None same is = by_bools names done status (nat_lt 0 done.net_faults) (nat_lt 0 done.limits) same refl refl is

-- what is told by a number of faults of the net
by_limits : (b : Bool) → (if b then LimitsMet else AllWell) ≡ NetFailed → ⊥
by_limits true is = let h = ap telling_status is in omega arith
by_limits false is = let h = ap telling_status is in omega arith

by_count : (net_faults limits : ℕ) → counted_telling net_faults limits ≡ NetFailed → 0 < net_faults
by_count zero limits is = absurd (by_limits (nat_lt 0 limits) is)
by_count (suc net_faults) limits is = omega arith

pub by_net : (found : Option (List ℕ)) (net_faults limits : ℕ) → telling_of found net_faults limits ≡ NetFailed → 0 < net_faults
by_net (Some name) net_faults limits is = absurd (let h = ap telling_status is in omega arith)
by_net None net_faults limits is = by_count net_faults limits is

-- an end that was written is that of what came
pub came_written : (served its : ServeEnd) (end : End) (status : ℕ) (before now : Output) → IsEndOf served end → served ≡ its → IsWritten end status before now → IsWritten (serve_end its) status before now
came_written served its end status before now of is written =
    subst (λ (s : ServeEnd). IsWritten (serve_end s) status before now) is (record {
      status_is = written.status_is ∙ of.status_is;
      appends = written.appends ∙ ap (λ (t : List ℕ). appended before.written t) of.text_is;
      faults = written.faults;
    })

-- What came of serving a plant: memory ran out, a trace could not be made, the net refused an opening, or it was served.
abbrev pub Came : {P : Type 0} → (P → List (List ℕ) → Type 0) → (P → ℕ) → PlantData → Option (List ℕ) → Snapshot → Snapshot → NetData P → NetData P → ServeEnd → Type 0
Came WasSent faults plant prefix opened now net net_then served =
    (served ≡ Unserved out_of_memory)
    ⊎ ((net_then ≡ net) × EndsAtTrace plant prefix opened now served)
    ⊎ ((served ≡ NetRefused) × (net_then.open_faults ≡ one_more net.open_faults))
    ⊎ ((ends : EndsServed WasSent faults plant prefix opened now net net_then served) × (done : PlantDone) × ServedSo WasSent faults plant net net_then ends.traces ends.traces_then (Ok done)
    × (served ≡ answered_end (names_for prefix (length plant.panels)) (Ok done)))

module _ {P : Type 0} (WasSent : P → List (List ℕ) → Type 0) (faults : P → ℕ) where
  by_answer : (plant : PlantData) (prefix : Option (List ℕ)) (opened now : Snapshot) (net net_then : NetData P) (served : ServeEnd) (ends : EndsServed WasSent faults plant prefix opened now net net_then served)
      (answer : Result PlantDone ServeFault) → ends.answer ≡ answer → ServedSo WasSent faults plant net net_then ends.traces ends.traces_then answer → Came WasSent faults plant prefix opened now net net_then served
  by_answer plant prefix opened now net net_then served ends (Ok done) is so = inr (inr (inr (ends, done, so, ends.end_is ∙ ap (answered_end (names_for prefix (length plant.panels))) is)))
  by_answer plant prefix opened now net net_then served ends (Err answers.NoMemory) is so = inl (ends.end_is ∙ ap (answered_end (names_for prefix (length plant.panels))) is)
  by_answer plant prefix opened now net net_then served ends (Err answers.NetFault) is so = inr (inr (inl (ends.end_is ∙ ap (answered_end (names_for prefix (length plant.panels))) is, so.0.open_count)))

  pub came : (plant : PlantData) (prefix : Option (List ℕ)) (opened now : Snapshot) (net net_then : NetData P) (served : ServeEnd) → PlantServiceEnds WasSent faults plant prefix opened now net net_then served
      → Came WasSent faults plant prefix opened now net net_then served
  came plant prefix opened now net net_then served (inl (untouched, inl unready)) = inl unready.1
  came plant prefix opened now net net_then served (inl (untouched, inr trace)) = inr (inl (untouched, trace))
  came plant prefix opened now net net_then served (inr ends) = by_answer plant prefix opened now net net_then served ends ends.answer refl ends.served
