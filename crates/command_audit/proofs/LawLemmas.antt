-- What the status of an audit tells.
use Rattle.std.proofs.Common.{◌≡◌, ◌⊎◌, inl, inr, ℕ, List, [], ◌∷◌, Result, Ok, refl, sym, ◌∙◌, ap, subst, arith}
use Rattle.ctl_io.specs.Sink.{appended}
use Rattle.plant_config.specs.Plant.{PlantData}
use Rattle.plant_config.specs.IsPlant.{IsPlant}
use Rattle.trace_audit.specs.declared.verdict.Verdict.{Verdict}
use Rattle.trace_audit.specs.declared.verdict.Verdict.TheVariants.{Confirmed, BadLine, Gap, Repeat, Differs}
use Rattle.trace_audit.specs.Verdict.{IsVerdict}
use Rattle.trace_audit.proofs.OneVerdict.{one_verdict}
use Rattle.command_words.specs.Parts.{AllSaid}
use Rattle.command_rows.specs.Moment.{Moment}
use Rattle.command_rows.specs.End.{End}
use Rattle.command_rows.specs.ShownLaws.{ShownPlantsArePlants}
use Rattle.command_rows.specs.RowLaws.{WasWorked}
use Rattle.command_rows.specs.Sound.{IsSound, IsSilent}
use Rattle.command_rows.proofs.RowLawsLemmas.{have_cause}
use Rattle.command_rows.proofs.SoundLemmas.{worked_cause}
use Rattle.command_rows.proofs.AloneLemmas.{IsAloneEnd, memory_end, alone_sound, alone_with}
use Rattle.command_audit.specs.Audit.{parts, last, AuditEnds, AuditRow}
use Rattle.command_audit.specs.Verdict.{audited, verdict_status, verdict_line}
use Rattle.command_audit.specs.Laws.{WereAudited, ZeroHasConfirmed, FiveHasBadLine, IsFinding, SixHasFound, VerdictsEndRuns}

-- the end of a verdict
verdict_end : (verdict : Verdict) → IsAloneEnd (0 ∷ 1 ∷ 5 ∷ 6 ∷ []) (audited verdict)
verdict_end (Confirmed count) = record { known = inl refl; few = omega arith; memory = λ one. absurd (omega (arith, one)); no_fault = refl }
verdict_end (BadLine number) = record { known = inr (inr (inl refl)); few = omega arith; memory = λ one. absurd (omega (arith, one)); no_fault = refl }
verdict_end (Gap position) = record { known = inr (inr (inr (inl refl))); few = omega arith; memory = λ one. absurd (omega (arith, one)); no_fault = refl }
verdict_end (Repeat position) = record { known = inr (inr (inr (inl refl))); few = omega arith; memory = λ one. absurd (omega (arith, one)); no_fault = refl }
verdict_end (Differs position kept wanted) = record { known = inr (inr (inr (inl refl))); few = omega arith; memory = λ one. absurd (omega (arith, one)); no_fault = refl }

own_end : (plant : PlantData) (its : List (List ℕ)) (end : End) → AuditEnds plant its end → IsAloneEnd (0 ∷ 1 ∷ 5 ∷ 6 ∷ []) end
own_end plant its end (inl memory) = memory_end (5 ∷ 6 ∷ []) end memory
own_end plant its end (inr (verdict, is, has)) = subst (IsAloneEnd (0 ∷ 1 ∷ 5 ∷ 6 ∷ [])) (sym is) (verdict_end verdict)

pub sound : IsSound parts last AuditRow (0 ∷ 1 ∷ 5 ∷ 6 ∷ [])
sound = alone_sound parts last (λ given. AuditEnds given.0 given.1) (0 ∷ 1 ∷ 5 ∷ 6 ∷ []) (λ given end ends. own_end given.0 given.1 end ends)

pub silent : IsSilent parts last AuditRow
silent given before now end status ends = (own_end given.0 given.1 end ends.0).memory

-- The verdict of a row that was worked, with this status.
pub record HasVerdict (said : AllSaid parts last) (before now : Moment) (status : ℕ) : Type 0 where
  pub verdict : Verdict
  pub status_is : status ≡ verdict_status verdict
  pub audited : WereAudited said before now verdict

verdict_of : (said : AllSaid parts last) (before now : Moment) (status : ℕ) (so : WasWorked parts last AuditRow said before now status) → (status ≡ 1 → ⊥) → HasVerdict said before now status
verdict_of said before now status so other = elim so.ends.0 [
  | inl memory ↦ absurd (other (so.written.status_is ∙ ap (λ (e : End). e.status) memory))
  | inr (verdict, is, has) ↦ record {
    verdict = verdict;
    status_is = so.written.status_is ∙ ap (λ (e : End). e.status) is;
    audited = record {
      plant = so.given.0;
      its = so.given.1;
      opened = so.opened;
      lead = so.lead;
      is_verdict = has;
      appends = so.written.appends ∙ ap (λ (e : End). appended before.output.written e.text) is;
    };
  }
]

confirmed_of : (said : AllSaid parts last) (before now : Moment) (verdict : Verdict) → 0 ≡ verdict_status verdict → WereAudited said before now verdict → (count : ℕ) × WereAudited said before now (Confirmed count)
confirmed_of said before now (Confirmed count) is its = (count, its)
confirmed_of said before now (BadLine number) is its = absurd (omega (arith, is))
confirmed_of said before now (Gap position) is its = absurd (omega (arith, is))
confirmed_of said before now (Repeat position) is its = absurd (omega (arith, is))
confirmed_of said before now (Differs position kept wanted) is its = absurd (omega (arith, is))

pub zero : ZeroHasConfirmed
zero said before now runs =
    let so = (worked_cause parts last AuditRow (0 ∷ 1 ∷ 5 ∷ 6 ∷ []) sound said before now 0 (inl refl) runs).1 in
    let has = verdict_of said before now 0 so (λ one. omega (arith, one)) in
    confirmed_of said before now has.verdict has.status_is has.audited

bad_of : (said : AllSaid parts last) (before now : Moment) (verdict : Verdict) → 5 ≡ verdict_status verdict → WereAudited said before now verdict → (number : ℕ) × WereAudited said before now (BadLine number)
bad_of said before now (Confirmed count) is its = absurd (omega (arith, is))
bad_of said before now (BadLine number) is its = (number, its)
bad_of said before now (Gap position) is its = absurd (omega (arith, is))
bad_of said before now (Repeat position) is its = absurd (omega (arith, is))
bad_of said before now (Differs position kept wanted) is its = absurd (omega (arith, is))

pub five : FiveHasBadLine
five said before now runs = elim (have_cause parts last AuditRow said before now 5 runs) [
  | inl stop ↦ inl stop
  | inr (inl so) ↦
      let has = verdict_of said before now 5 so (λ one. omega (arith, one)) in
      inr (bad_of said before now has.verdict has.status_is has.audited)
  | inr (inr cut) ↦ absurd (let seven = cut.0 in omega (arith, seven))
]

finding_of : (verdict : Verdict) → 6 ≡ verdict_status verdict → IsFinding verdict
finding_of (Confirmed count) is = absurd (omega (arith, is))
finding_of (BadLine number) is = absurd (omega (arith, is))
finding_of (Gap position) is = tt
finding_of (Repeat position) is = tt
finding_of (Differs position kept wanted) is = tt

pub six : SixHasFound
six said before now runs =
    let so = (worked_cause parts last AuditRow (0 ∷ 1 ∷ 5 ∷ 6 ∷ []) sound said before now 6 (inr refl) runs).1 in
    let has = verdict_of said before now 6 so (λ one. omega (arith, one)) in
    (has.verdict, finding_of has.verdict has.status_is, has.audited)

always_end : (plant : PlantData) (its : List (List ℕ)) (verdict : Verdict) (end : End) → IsPlant plant → IsVerdict plant its verdict → AuditEnds plant its end → (end.status ≡ verdict_status verdict) ⊎ (end.status ≡ 1)
always_end plant its verdict end plant_is has (inl memory) = inr (ap (λ (e : End). e.status) memory)
always_end plant its verdict end plant_is has (inr (other, is, also)) =
    inl (ap (λ (e : End). e.status) is ∙ ap verdict_status (one_verdict plant its other verdict plant_is also has))

pub always : ShownPlantsArePlants → VerdictsEndRuns
always plants said plant its verdict before now status shows has runs =
    alone_with parts last (λ given. AuditEnds given.0 given.1) said (plant, its) (verdict_status verdict) before now status
    (λ end ends. always_end plant its verdict end (plants said.0 before.files.held plant shows.0) has ends) shows runs
