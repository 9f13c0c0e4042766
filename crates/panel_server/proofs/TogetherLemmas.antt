-- Where no trace failed, the traces of a plant that was served have the lines of its history together.
use Rattle.std.proofs.Common.{◌≡◌, ℕ, suc, ◌+◌, Bool, false, List, [], ◌∷◌, ◌++◌, length, map, slice_get, slice_index_or, Some, All, refl, sym, ap, ◌∙◌, subst, arith}
use mathlib.Core.List.{IsPrefix}
use Rattle.std.proofs.lemmas.List.{get_or-map}
use Rattle.std.proofs.lemmas.List.Elements.{All-nil, All-cons, All-head, All-tail}
use Rattle.ctl_io.specs.Sink.{appended}
use Rattle.history_lock.specs.Calls.{HasOwn}
use Rattle.history_lock.specs.Locks.{LockData}
use Rattle.history_lock.specs.Shares.{AreApart, SeatsShareHistory}
use Rattle.plant_config.specs.Plant.{PlantData}
use Rattle.plant_core.specs.State.{State}
use Rattle.plant_core.specs.declared.request.Request.{Request}
use Rattle.plant_core.specs.declared.answer.Answer.{Answer}
use Rattle.panel_session.specs.Entry.{PlantEntry}
use Rattle.panel_session.specs.Served.{PlantSeat, TraceData, own_lines}
use Rattle.panel_server.specs.Driven.{ends_by_trace}
use Rattle.panel_server.specs.PlantServed.{DisplayRun, NetData, PanelRun, PlantServed, ShareLines, trace_failures}
use Rattle.panel_server.proofs.KeptLemmas.{AreSeatsFrom, has_all, number_at}
use Rattle.panel_server.proofs.ShareLemmas.{AreWhole, IsWhole, Traced, share_of}

apart : (lock : LockData State) (seats : List PlantSeat) → AreSeatsFrom lock 0 seats → AreApart seats
apart lock seats are i j other before below same =
    let numbers = map (λ (seat : PlantSeat). seat.number) seats in
    let at_i : slice_index_or numbers i 0 ≡ 0 + i = number_at lock 0 seats are i 0 (omega (arith, before, below)) in
    let at_j : slice_index_or numbers j 0 ≡ 0 + j = number_at lock 0 seats are j 0 below in
    let one : slice_index_or numbers i 0 ≡ (slice_index_or seats i other).number = get_or-map (λ (seat : PlantSeat). seat.number) seats i other 0 (omega (arith, before, below)) in
    let two : slice_index_or numbers j 0 ≡ (slice_index_or seats j other).number = get_or-map (λ (seat : PlantSeat). seat.number) seats j other 0 below in
    omega (arith, at_i, at_j, one, two, same, before)

module _ {plant : PlantData} {lock : LockData State} {past : List PlantEntry} where
  abbrev panel_traced : PanelRun plant lock past → Traced
  panel_traced run = (run.seat_then, run.trace, run.trace_then)

  run_whole : (run : PanelRun plant lock past) → run.done.trace_failed ≡ false → IsWhole plant (panel_traced run)
  run_whole run kept =
      let number : run.seat_then.number ≡ run.panel = ap (λ (seat : PlantSeat). seat.number) run.served.seat_same in
      run.served.traced ∙ ap (λ (lines : List ℕ). appended run.trace.written lines)
      (run.served.traces.1 kept ∙ ap (λ (n : ℕ). own_lines plant n 0 run.served.new) (sym number) ∙ ap (λ (seen : List PlantEntry). own_lines plant run.seat_then.number 0 seen) (sym run.served.seen))

module _ {P : Type 0} {WasSent : P → List (List ℕ) → Type 0} {faults : P → ℕ} {plant : PlantData} {lock : LockData State} {past : List PlantEntry} where
  abbrev displays_traced : DisplayRun WasSent faults plant lock past → Traced
  displays_traced displays = (displays.seat_then, displays.trace, displays.trace_then)

  abbrev all_traced : List (PanelRun plant lock past) → DisplayRun WasSent faults plant lock past → List Traced
  all_traced panels displays = map panel_traced panels ++ displays_traced displays ∷ []

  displays_whole : (displays : DisplayRun WasSent faults plant lock past) → ends_by_trace displays.end ≡ false → IsWhole plant (displays_traced displays)
  displays_whole displays kept =
      let number : displays.seat_then.number ≡ length plant.panels = ap (λ (seat : PlantSeat). seat.number) displays.driven.seat_same in
      displays.driven.traced ∙ ap (λ (lines : List ℕ). appended displays.trace.written lines)
      (displays.driven.traces.1 kept ∙ ap (λ (n : ℕ). own_lines plant n 0 displays.driven.new) (sym number) ∙ ap (λ (seen : List PlantEntry). own_lines plant displays.seat_then.number 0 seen) (sym displays.driven.seen))

  are_whole : (panels : List (PanelRun plant lock past)) (displays : DisplayRun WasSent faults plant lock past) → All (λ failed. failed ≡ false) (trace_failures panels displays) → AreWhole plant (all_traced panels displays)
  are_whole [] displays kept = (displays_whole displays (All-head (λ (failed : Bool). failed ≡ false) (ends_by_trace displays.end) [] kept), tt)
  are_whole (run ∷ panels) displays kept = (
    run_whole run (All-head (λ (failed : Bool). failed ≡ false) run.done.trace_failed (trace_failures panels displays) kept),
    are_whole panels displays (All-tail (λ (failed : Bool). failed ≡ false) run.done.trace_failed (trace_failures panels displays) kept),
  )

  are_seats : (number : ℕ) (panels : List (PanelRun plant lock past)) (displays : DisplayRun WasSent faults plant lock past)
      → ((k : ℕ) (run : PanelRun plant lock past) → slice_get panels k ≡ Some run → run.panel ≡ number + k) → number + length panels ≡ length plant.panels
      → AreSeatsFrom lock number (map (λ (one : Traced). one.0) (all_traced panels displays))
  are_seats number [] displays numbered count =
      let last : displays.seat_then.number ≡ length plant.panels = ap (λ (seat : PlantSeat). seat.number) displays.driven.seat_same in
      (ap (λ (seat : PlantSeat). seat.lock) displays.driven.seat_same, omega (arith, last, count), tt)
  are_seats number (run ∷ panels) displays numbered count =
      let here : run.seat_then.number ≡ run.panel = ap (λ (seat : PlantSeat). seat.number) run.served.seat_same in
      let first : run.panel ≡ number + 0 = numbered 0 run refl in (
        ap (λ (seat : PlantSeat). seat.lock) run.served.seat_same,
        omega (arith, here, first),
        are_seats (number + 1) panels displays (λ k other at. omega (arith, numbered (suc k) other at)) (omega (arith, count)),
      )

  seats_seen : (panels : List (PanelRun plant lock past)) (displays : DisplayRun WasSent faults plant lock past) → All (λ seat. IsPrefix seat.seen past) (map (λ (one : Traced). one.0) (all_traced panels displays))
  seats_seen [] displays = All-cons (λ (seat : PlantSeat). IsPrefix seat.seen past) displays.seat_then [] displays.seat_in.seen (All-nil (λ (seat : PlantSeat). IsPrefix seat.seen past))
  seats_seen (run ∷ panels) displays = All-cons (λ (seat : PlantSeat). IsPrefix seat.seen past) run.seat_then (map (λ (one : Traced). one.0) (all_traced panels displays)) run.seat_in.seen (seats_seen panels displays)

  seats_own : (panels : List (PanelRun plant lock past)) (displays : DisplayRun WasSent faults plant lock past) → All (HasOwn past) (map (λ (one : Traced). one.0) (all_traced panels displays))
  seats_own [] displays = All-cons (HasOwn past) displays.seat_then [] displays.seat_in.own (All-nil (HasOwn past))
  seats_own (run ∷ panels) displays = All-cons (HasOwn past) run.seat_then (map (λ (one : Traced). one.0) (all_traced panels displays)) run.seat_in.own (seats_own panels displays)

  traced_long : (panels : List (PanelRun plant lock past)) (displays : DisplayRun WasSent faults plant lock past) → length (map (λ (one : Traced). one.0) (all_traced panels displays)) ≡ length panels + 1
  traced_long [] displays = refl
  traced_long (run ∷ panels) displays = omega (arith, traced_long panels displays)

  traces_were : (panels : List (PanelRun plant lock past)) (displays : DisplayRun WasSent faults plant lock past) → map (λ (one : Traced). one.1) (all_traced panels displays) ≡ map (λ run. run.trace) panels ++ displays.trace ∷ []
  traces_were [] displays = refl
  traces_were (run ∷ panels) displays = ap (λ (later : List TraceData). run.trace ∷ later) (traces_were panels displays)

  traces_are : (panels : List (PanelRun plant lock past)) (displays : DisplayRun WasSent faults plant lock past) → map (λ (one : Traced). one.2) (all_traced panels displays) ≡ map (λ run. run.trace_then) panels ++ displays.trace_then ∷ []
  traces_are [] displays = refl
  traces_are (run ∷ panels) displays = ap (λ (later : List TraceData). run.trace_then ∷ later) (traces_are panels displays)

pub traces_share : {P : Type 0} {WasSent : P → List (List ℕ) → Type 0} {faults : P → ℕ} (plant : PlantData) (past : List PlantEntry) (net net_then : NetData P) (traces traces_then : List TraceData)
    → SeatsShareHistory State Request Answer → (served : PlantServed WasSent faults plant past net net_then traces traces_then)
    → All (λ failed. failed ≡ false) (trace_failures served.panels served.displays) → ShareLines plant past traces traces_then
traces_share plant past net net_then traces traces_then share served kept =
    let all = all_traced served.panels served.displays in
    let seats = map (λ (one : Traced). one.0) all in
    let lock = served.lock in
    let are = are_seats 0 served.panels served.displays (λ k run at. omega (arith, served.numbered k run at)) (omega (arith, served.counted)) in
    let permuted = share (length plant.panels + 1) past seats (has_all lock (length plant.panels + 1) seats are (omega (arith, served.counted, traced_long served.panels served.displays))) (apart lock seats are)
    (seats_seen served.panels served.displays) (seats_own served.panels served.displays) served.by_seats in
    subst (λ (x : List TraceData). ShareLines plant past x traces_then) (traces_were served.panels served.displays ∙ sym served.traces_were)
    (subst (λ (x : List TraceData). ShareLines plant past (map (λ (one : Traced). one.1) all) x) (traces_are served.panels served.displays ∙ sym served.traces_are)
    (share_of plant past all (are_whole served.panels served.displays kept) permuted))
