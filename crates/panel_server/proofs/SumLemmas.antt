-- What the workers have done, added up one after another.
use Rattle.std.proofs.Common.{◌≡◌, ℕ, zero, suc, ◌+◌, ◌<◌, ◌≤◌, Bool, true, false, List, [], ◌∷◌, length, map, take, slice_index_or, ap, ◌∙◌, arith}
use Rattle.panel_server.specs.declared.sums.Sums.{Sums}
use Rattle.panel_server.specs.ServeInside.{AreFew, CountsFew, no_sums, one_if, sums_from, with_worker}
use Rattle.panel_server.specs.PlantServed.{ends_full}
use Rattle.panel_server.specs.Driven.{ends_by_trace}
use Rattle.panel_server.specs.Workers.{WorkerData, of_panel, of_displays}

-- one worker more
pub sums_at : {W P : Type 0} (shows : W → WorkerData P) (from place : ℕ) (workers : List W) (other : W) (sums : Sums) → place < length workers
    → with_worker (from + place) (shows (slice_index_or workers place other)) (sums_from from (take place (map shows workers)) sums)
    ≡ sums_from from (take (suc place) (map shows workers)) sums
sums_at shows from place [] other sums below = absurd (omega (arith, below))
sums_at shows from zero (worker ∷ workers) other sums below =
    let at : from + zero ≡ from = omega arith in
    ap (λ (n : ℕ). with_worker n (shows worker) sums) at
sums_at shows from (suc place) (worker ∷ workers) other sums below =
    let at : from + suc place ≡ from + 1 + place = omega arith in
    ap (λ (n : ℕ). with_worker n (shows (slice_index_or workers place other)) (sums_from (from + 1) (take place (map shows workers)) (with_worker from (shows worker) sums))) at
    ∙ sums_at shows (from + 1) place workers other (with_worker from (shows worker) sums) (omega (arith, below))

pub sums_next : {W P : Type 0} (shows : W → WorkerData P) (place : ℕ) (workers : List W) (other : W) (sums now : Sums) → place < length workers
    → sums ≡ sums_from 0 (take place (map shows workers)) no_sums → now ≡ with_worker place (shows (slice_index_or workers place other)) sums
    → now ≡ sums_from 0 (take (place + 1) (map shows workers)) no_sums
sums_next shows place workers other sums now below is more =
    let one = shows (slice_index_or workers place other) in
    let from : place ≡ 0 + place = omega arith in
    let next : suc place ≡ place + 1 = omega arith in
    more ∙ ap (λ (x : Sums). with_worker place one x) is
    ∙ ap (λ (n : ℕ). with_worker n one (sums_from 0 (take place (map shows workers)) no_sums)) from
    ∙ sums_at shows 0 place workers other no_sums below
    ∙ ap (λ (n : ℕ). sums_from 0 (take n (map shows workers)) no_sums) next

one_at_most : (so : Bool) → one_if so ≤ 1
one_at_most true = omega arith
one_at_most false = omega arith

-- with it there is still room
pub few_next : {P : Type 0} (place : ℕ) (worker : WorkerData P) (sums : Sums) → AreFew place sums → CountsFew worker → AreFew (place + 1) (with_worker place worker sums)
few_next place (of_panel panel) sums few done =
    let refused : one_if panel.done.refused ≤ 1 = one_at_most panel.done.refused in
    let failed : one_if panel.done.trace_failed ≤ 1 = one_at_most panel.done.trace_failed in
    record {
      sessions = omega (arith, few.sessions, done.sessions);
      limits = omega (arith, few.limits, done.limits);
      net_faults = omega (arith, few.net_faults, done.link_faults, refused);
      trace_faults = omega (arith, few.trace_faults, failed);
    }
few_next place (of_displays displays) sums few done =
    let full : one_if (ends_full displays.end) ≤ 1 = one_at_most (ends_full displays.end) in
    let failed : one_if (ends_by_trace displays.end) ≤ 1 = one_at_most (ends_by_trace displays.end) in
    record {
      sessions = omega (arith, few.sessions);
      limits = omega (arith, few.limits, full);
      net_faults = omega (arith, few.net_faults);
      trace_faults = omega (arith, few.trace_faults, failed);
    }
