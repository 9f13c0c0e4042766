-- What every history leaves of the plant, and that its answers can be sent.
use Rattle.std.proofs.Common.{◌≡◌, List, [], ◌∷◌, ◌++◌, length, All, refl, sym, subst, ap, ◌∙◌, arith}
use Rattle.std.proofs.lemmas.List.Elements.{All-cons, All-nil}
use Rattle.history_lock.specs.History.{run, IsLegal}
use Rattle.plant_config.specs.Plant.{PlantData}
use Rattle.plant_config.specs.IsPlant.{IsPlant}
use Rattle.crosspoint_state.specs.Ties.{HaveValidTies}
use Rattle.plant_core.specs.declared.request.Request.{Request}
use Rattle.plant_core.specs.declared.answer.Answer.{Answer}
use Rattle.plant_core.specs.Answer.{IsSayable}
use Rattle.plant_core.specs.State.{State, IsValid, Fits, FitsPlant, start}
use Rattle.plant_core.specs.Short.{StaysShort}
use Rattle.plant_core.specs.Step.{step}
use Rattle.plant_core.specs.HistoryLaws.{PlantEntry, KeepsTiesValid, CanBeSent}
use Rattle.plant_core.proofs.AnswerLemmas.{All-sayable}
use Rattle.plant_core.proofs.CountLemmas.{answer_count, answers_within}
use Rattle.plant_core.proofs.StepLeaves.{plant-step}
use Rattle.plant_core.proofs.StepValidity.{IsValid-step}
use Rattle.plant_core.proofs.Validity.{IsValid-start}
use Rattle.plant_core.proofs.ShortLemmas.{StaysShort-step}

-- No history changes the plant.
pub run-plant : (state : State) (history : List PlantEntry) → (run step state history).plant ≡ state.plant
run-plant state [] = refl
run-plant state (entry ∷ later) = run-plant (step state entry.request).state later ∙ plant-step state entry.request

-- Each history leaves a valid state valid.
pub run-valid : (state : State) (history : List PlantEntry) → IsValid state → IsValid (run step state history)
run-valid state [] valid = valid
run-valid state (entry ∷ later) valid = run-valid (step state entry.request).state later (IsValid-step state entry.request valid)

-- Each legal one leaves it so that what the commands that aren't extended alone can reach can be told by them.
pub run-short : (state : State) (history : List PlantEntry) → IsValid state → StaysShort state → IsLegal step Fits state history → StaysShort (run step state history)
run-short state [] valid short legal = short
run-short state (entry ∷ later) valid short legal =
    run-short (step state entry.request).state later (IsValid-step state entry.request valid) (StaysShort-step state entry.request valid short legal.0) legal.2

-- What fits the plant fits behind any history.
pub fits-run : (plant : PlantData) (state : State) (history : List PlantEntry) (request : Request) → state.plant ≡ plant → FitsPlant plant request → Fits (run step state history) request
fits-run plant state history request is fits =
    let FitsOf : PlantData → Type 0 = λ plant. FitsPlant plant request in
    subst FitsOf (sym (run-plant state history ∙ is)) fits

-- What is asked leaves valid ties, of the same plant.
pub keeps_ties_valid : (plant : PlantData) (history : List PlantEntry) → IsPlant plant → KeepsTiesValid plant history
keeps_ties_valid plant history is = λ front later same.
    let valid = run-valid (start plant) front (IsValid-start plant is) in
    subst (λ (plant' : PlantData). HaveValidTies plant' (run step (start plant) front).crosspoints) (run-plant (start plant) front) valid.ties

-- The answers to a request that fits a valid state can be sent,
entry_sent : (state : State) (entry : PlantEntry) → IsValid state → StaysShort state → Fits state entry.request → entry.answers ≡ (step state entry.request).answers → CanBeSent state.plant entry
entry_sent state entry valid short fits is =
    let Sayable : List Answer → Type 0 = λ answers. All IsSayable answers in
    record {
      sayable = subst Sayable (sym is) (All-sayable state entry.request valid short fits);
      within = omega (arith, ap (length {A = Answer}) is, answers_within state.plant entry.request _ (answer_count state entry.request fits));
    }

-- and so can those of each entry of a legal history,
pub all_sent : (state : State) (history : List PlantEntry) → IsValid state → StaysShort state → IsLegal step Fits state history → All (CanBeSent state.plant) history
all_sent state [] valid short legal = All-nil (CanBeSent state.plant)
all_sent state (entry ∷ later) valid short legal =
    let Sent : PlantData → Type 0 = λ plant. All (CanBeSent plant) later in
    let next : State = (step state entry.request).state in
    All-cons (CanBeSent state.plant) entry later (entry_sent state entry valid short legal.0 legal.1)
    (subst Sent (plant-step state entry.request) (all_sent next later (IsValid-step state entry.request valid) (StaysShort-step state entry.request valid short legal.0) legal.2))

-- the last one's too.
pub last_sent : (state : State) (front : List PlantEntry) (entry : PlantEntry) → IsValid state → StaysShort state → IsLegal step Fits state (front ++ entry ∷ []) → CanBeSent state.plant entry
last_sent state [] entry valid short legal = entry_sent state entry valid short legal.0 legal.1
last_sent state (first ∷ front) entry valid short legal =
    let Sent : PlantData → Type 0 = λ plant. CanBeSent plant entry in
    subst Sent (plant-step state first.request) (last_sent (step state first.request).state front entry (IsValid-step state first.request valid) (StaysShort-step state first.request valid short legal.0) legal.2)
