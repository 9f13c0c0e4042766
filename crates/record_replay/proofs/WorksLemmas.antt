-- Works that are done one after the other.
use Rattle.std.proofs.Common.{◌≡◌, ℕ, ◌==◌, true, false, cond, List, [], ◌∷◌, ◌++◌, All, refl, sym, ◌∙◌, ap, subst}
use Rattle.std.proofs.lemmas.Bool.{eqb-true}
use Rattle.std.proofs.lemmas.List.Elements.{All-head, All-tail}
use Rattle.plant_config.specs.Plant.{PlantData}
use Rattle.plant_core.specs.State.{Fits}
use Rattle.plant_core.specs.Step.{step}
use Rattle.plant_core.specs.declared.request.Request.{Request}
use Rattle.plant_core.specs.declared.request.Request.TheVariants as requests
use Rattle.plant_core.proofs.HistoryLemmas.{run-plant, fits-run}
use Rattle.plant_core.proofs.StepLeaves.{plant-step}
use Rattle.panel_session.specs.Run.{turned}
use Rattle.panel_session.specs.SettledInside.{Settled}
use Rattle.panel_session.specs.SoFar.{Progress}
use Rattle.panel_session.specs.Turns.{Turn, entries_in}
use Rattle.panel_session.proofs.TurnOnce.{one_turn_lem}
use Rattle.panel_session.proofs.TurnExists.{settled_nothing, turn_exists}
use Rattle.record_replay.specs.Script.{Work, Read, Leave, Show, IsOfPlant}
use Rattle.record_replay.specs.Replay.{ReplayState, begun, with_past, behind_turn, behind_step, turn_line, leave_line, show_line, Advances, AllWork}
use Rattle.record_replay.specs.StandInside.{IsSettled}

-- A replay begins with each session between two turns.
pub settled-begun : (plant : PlantData) → IsSettled plant (begun plant)
settled-begun plant = record { plant_is = refl; each = settled_nothing plant }

-- Where one session has done more and is between two turns again, each is.
settled-with : (plant : PlantData) (panel : ℕ) (past : Progress) (pasts : ℕ → Progress) → Settled plant panel past → ((other : ℕ) → Settled plant other (pasts other))
    → (other : ℕ) → Settled plant other (with_past panel past pasts other)
settled-with plant panel past pasts here each other =
    elim (other == panel) as (λ b. (other == panel) ≡ b → Settled plant other (cond b past (pasts other))) [
      | true ↦ λ same. subst (λ (one : ℕ). Settled plant one past) (sym (eqb-true other panel same)) here
      | false ↦ λ apart. each other
    ] refl

-- So it is behind a turn,
pub settled-turn : (plant : PlantData) (panel : ℕ) (turn : Turn) (more : List ℕ) (stand : ReplayState) → IsSettled plant stand
    → Settled plant panel (turned turn more (stand.pasts panel)) → IsSettled plant (behind_turn panel turn more stand)
settled-turn plant panel turn more stand settled here = record {
  plant_is = run-plant stand.state (entries_in turn) ∙ settled.plant_is;
  each = settled-with plant panel (turned turn more (stand.pasts panel)) stand.pasts here settled.each;
}

-- and behind one step that no session asks for.
pub settled-step : (plant : PlantData) (request : Request) (stand : ReplayState) → IsSettled plant stand → IsSettled plant (behind_step request stand)
settled-step plant request stand settled = record {
  plant_is = plant-step stand.state request ∙ settled.plant_is;
  each = settled.each;
}

-- Each work can be done where each session is between two turns, and then each is again.
work_exists : (plant : PlantData) (work : Work) (stand : ReplayState) → IsSettled plant stand → IsOfPlant plant work
    → (line : List ℕ) × (next : ReplayState) × Advances plant work stand line next × IsSettled plant next
work_exists plant (Read panel piece) stand settled has =
    let made = turn_exists step Fits plant panel (stand.pasts panel) stand.state piece has (settled.each panel)
    (λ history request legal fits. fits-run plant stand.state history request settled.plant_is fits) in (
      turn_line panel made.1,
      behind_turn panel made.0 made.1 stand,
      (made.0, made.1, made.2, made.3, refl, refl),
      settled-turn plant panel made.0 made.1 stand settled made.4,
    )
work_exists plant (Leave panel) stand settled has =
    (leave_line panel, behind_step (requests.Leave panel) stand, (refl, refl), settled-step plant (requests.Leave panel) stand settled)
work_exists plant (Show screen refresh) stand settled has =
    let poll = requests.DisplayPoll screen refresh in
    (show_line plant screen (step stand.state poll).answers, behind_step poll stand, (refl, refl), settled-step plant poll stand settled)

-- All works of the plant can be done, one after the other.
pub works_exist : (plant : PlantData) (works : List Work) (stand : ReplayState) → IsSettled plant stand → All (IsOfPlant plant) works
    → (output : List ℕ) × (last : ReplayState) × AllWork plant works stand output last × IsSettled plant last
works_exist plant [] stand settled has = ([], stand, (refl, refl), settled)
works_exist plant (work ∷ works) stand settled has =
    let Has : Work → Type 0 = IsOfPlant plant in
    let one = work_exists plant work stand settled (All-head Has work works has) in
    let later = works_exist plant works one.1 one.3 (All-tail Has work works has) in
    (one.0 ++ later.0, later.1, (one.1, one.0, later.0, one.2, later.2, refl), later.3)

-- A work is done in one way,
one_done : (plant : PlantData) (work : Work) (stand : ReplayState) (line other : List ℕ) (next then : ReplayState) → Advances plant work stand line next → Advances plant work stand other then
    → (line ≡ other) × (next ≡ then)
one_done plant (Read panel piece) stand line other next then done done' =
    let same = one_turn_lem step Fits plant panel (stand.pasts panel) stand.state done.0 done'.0 done.1 done'.1 done.3 done'.3 (done.2 ∙ sym done'.2) in (
      done.4 ∙ ap (turn_line panel) same.1 ∙ sym done'.4,
      done.5 ∙ (λ i. behind_turn panel (same.0 i) (same.1 i) stand) ∙ sym done'.5,
    )
one_done plant (Leave panel) stand line other next then done done' = (done.0 ∙ sym done'.0, done.1 ∙ sym done'.1)
one_done plant (Show screen refresh) stand line other next then done done' = (done.0 ∙ sym done'.0, done.1 ∙ sym done'.1)

-- and so are works.
pub one_output : (plant : PlantData) (works : List Work) (stand last other : ReplayState) (a b : List ℕ) → AllWork plant works stand a last → AllWork plant works stand b other
    → (a ≡ b) × (last ≡ other)
one_output plant [] stand last other a b done done' = (done.0 ∙ sym done'.0, done.1 ∙ sym done'.1)
one_output plant (work ∷ works) stand last other a b done done' =
    let first = one_done plant work stand done.1 done'.1 done.0 done'.0 done.3 done'.3 in
    let From : ReplayState → Type 0 = λ stand. AllWork plant works stand done'.2 other in
    let later = one_output plant works done.0 last other done.2 done'.2 done.4 (subst From (sym first.1) done'.4) in
    (done.5 ∙ (λ i. first.0 i ++ later.0 i) ∙ sym done'.5, later.1)
