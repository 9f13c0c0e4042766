-- What the status of a run of `standby` tells.
use Rattle.std.proofs.Common.{◌≡◌, ◌⊎◌, inl, inr, ℕ, List, [], ◌∷◌, refl, sym, ◌∙◌, ap, subst, arith}
use Rattle.plant_config.specs.Plant.{PlantData}
use Rattle.plant_config.specs.IsPlant.{IsPlant}
use Rattle.command_words.specs.Parts.{AllSaid}
use Rattle.command_rows.specs.Moment.{Moment}
use Rattle.command_rows.specs.End.{End}
use Rattle.command_rows.specs.ShownLaws.{ShownPlantsArePlants}
use Rattle.command_rows.specs.RowLaws.{WasWorked}
use Rattle.command_rows.specs.Sound.{IsSound, IsSilent}
use Rattle.command_rows.proofs.RowLawsLemmas.{have_cause}
use Rattle.command_rows.proofs.SoundLemmas.{worked_cause}
use Rattle.command_rows.proofs.AloneLemmas.{IsAloneEnd, memory_end, done_end, refused_end, alone_sound, alone_with}
use Rattle.command_standby.specs.Standby.{parts, last, trace_line_refused, StandbyEnds, StandbyRow, RefusesLine, HasDifference, WasTaken}
use Rattle.command_standby.specs.Standing.{standing_text}
use Rattle.command_standby.specs.Laws.{Followed, ZeroHasTaken, FiveHasRefused, SixHasDifference, LinesLead, LinesEndRuns}
use Rattle.command_standby.proofs.OneLemmas.{one_status}

own_end : (plant : PlantData) (its : List (List ℕ)) (end : End) → StandbyEnds plant its end → IsAloneEnd (0 ∷ 1 ∷ 5 ∷ 6 ∷ []) end
own_end plant its end (inl memory) = memory_end (5 ∷ 6 ∷ []) end memory
own_end plant its end (inr (inl refuses)) = refused_end (6 ∷ []) (trace_line_refused refuses.number) end refuses.end_is
own_end plant its end (inr (inr (inl differs))) =
    subst (IsAloneEnd (0 ∷ 1 ∷ 5 ∷ 6 ∷ [])) (sym differs.end_is) (record { known = inr (inr (inr (inl refl))); few = omega arith; memory = λ one. absurd (omega (arith, one)); no_fault = refl })
own_end plant its end (inr (inr (inr taken))) = done_end (5 ∷ 6 ∷ []) (standing_text taken.standby taken.passed) end taken.end_is

pub sound : IsSound parts last StandbyRow (0 ∷ 1 ∷ 5 ∷ 6 ∷ [])
sound = alone_sound parts last (λ given. StandbyEnds given.0 given.1) (0 ∷ 1 ∷ 5 ∷ 6 ∷ []) (λ given end ends. own_end given.0 given.1 end ends)

pub silent : IsSilent parts last StandbyRow
silent given before now end status ends = (own_end given.0 given.1 end ends.0).memory

-- what a row that was worked came to
followed : (Leads : PlantData → List (List ℕ) → End → Type 0) (said : AllSaid parts last) (before now : Moment) (status : ℕ) (so : WasWorked parts last StandbyRow said before now status) → Leads so.given.0 so.given.1 so.end → Followed Leads said before now
followed Leads said before now status so leads =
    record { plant = so.given.0; its = so.given.1; opened = so.opened; lead = so.lead; end = so.end; leads = leads; appends = so.written.appends }

status_of : (said : AllSaid parts last) (before now : Moment) (status other : ℕ) (so : WasWorked parts last StandbyRow said before now status) → so.end.status ≡ other → status ≡ other
status_of said before now status other so is = so.written.status_is ∙ is

pub zero : ZeroHasTaken
zero said before now runs =
    let so = (worked_cause parts last StandbyRow (0 ∷ 1 ∷ 5 ∷ 6 ∷ []) sound said before now 0 (inl refl) runs).1 in
    elim so.ends.0 [
      | inl memory ↦ absurd (let is = status_of said before now 0 1 so (ap (λ (e : End). e.status) memory) in omega (arith, is))
      | inr (inl refuses) ↦ absurd (let is = status_of said before now 0 5 so (ap (λ (e : End). e.status) refuses.end_is) in omega (arith, is))
      | inr (inr (inl differs)) ↦ absurd (let is = status_of said before now 0 6 so (ap (λ (e : End). e.status) differs.end_is) in omega (arith, is))
      | inr (inr (inr taken)) ↦ followed WasTaken said before now 0 so taken
    ]

pub five : FiveHasRefused
five said before now runs = elim (have_cause parts last StandbyRow said before now 5 runs) [
  | inl stop ↦ inl stop
  | inr (inl so) ↦ elim so.ends.0 [
    | inl memory ↦ absurd (let is = status_of said before now 5 1 so (ap (λ (e : End). e.status) memory) in omega (arith, is))
    | inr (inl refuses) ↦ inr (followed RefusesLine said before now 5 so refuses)
    | inr (inr (inl differs)) ↦ absurd (let is = status_of said before now 5 6 so (ap (λ (e : End). e.status) differs.end_is) in omega (arith, is))
    | inr (inr (inr taken)) ↦ absurd (let is = status_of said before now 5 0 so (ap (λ (e : End). e.status) taken.end_is) in omega (arith, is))
  ]
  | inr (inr cut) ↦ absurd (let seven = cut.0 in omega (arith, seven))
]

pub six : SixHasDifference
six said before now runs =
    let so = (worked_cause parts last StandbyRow (0 ∷ 1 ∷ 5 ∷ 6 ∷ []) sound said before now 6 (inr refl) runs).1 in
    elim so.ends.0 [
      | inl memory ↦ absurd (let is = status_of said before now 6 1 so (ap (λ (e : End). e.status) memory) in omega (arith, is))
      | inr (inl refuses) ↦ absurd (let is = status_of said before now 6 5 so (ap (λ (e : End). e.status) refuses.end_is) in omega (arith, is))
      | inr (inr (inl differs)) ↦ followed HasDifference said before now 6 so differs
      | inr (inr (inr taken)) ↦ absurd (let is = status_of said before now 6 0 so (ap (λ (e : End). e.status) taken.end_is) in omega (arith, is))
    ]

-- what lines lead to is how the row ends
always_end : (plant : PlantData) (its : List (List ℕ)) (wanted : ℕ) (end : End) → IsPlant plant → LinesLead plant its wanted → StandbyEnds plant its end → (end.status ≡ wanted) ⊎ (end.status ≡ 1)
always_end plant its wanted end is leads (inl memory) = inr (ap (λ (e : End). e.status) memory)
always_end plant its wanted end is leads (inr (inl refuses)) =
    inl (one_status plant its end.status wanted is (inr (inl (ap (λ (e : End). e.status) refuses.end_is, (refuses.number, refuses.first)))) leads)
always_end plant its wanted end is leads (inr (inr (inl differs))) =
    inl (one_status plant its end.status wanted is (inr (inr (ap (λ (e : End). e.status) differs.end_is, (differs.arrivals, differs.position, differs.told, differs.first)))) leads)
always_end plant its wanted end is leads (inr (inr (inr taken))) =
    inl (one_status plant its end.status wanted is (inl (ap (λ (e : End). e.status) taken.end_is, (taken.arrivals, taken.standby, taken.passed, taken.told, taken.taken))) leads)

pub always : ShownPlantsArePlants → LinesEndRuns
always plants said plant its wanted before now status shows leads runs =
    alone_with parts last (λ given. StandbyEnds given.0 given.1) said (plant, its) wanted before now status
    (λ end ends. always_end plant its wanted end (plants said.0 before.files.held plant shows.0) leads ends) shows runs
