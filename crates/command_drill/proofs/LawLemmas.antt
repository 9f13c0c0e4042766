-- What the status of a drill tells.
use Rattle.std.proofs.Common.{◌≡◌, ◌⊎◌, inl, inr, ℕ, List, [], ◌∷◌, Result, Ok, Err, refl, sym, ◌∙◌, ap, subst, arith}
use Rattle.ctl_io.specs.Sink.{appended}
use Rattle.command_words.specs.Parts.{NoMore, AllSaid}
use Rattle.command_rows.specs.Moment.{Snapshot, Moment}
use Rattle.command_rows.specs.End.{End, Stopped}
use Rattle.command_rows.specs.Opener.{AllGiven, AllLead}
use Rattle.command_rows.specs.Sound.{IsSound, IsSilent}
use Rattle.command_rows.proofs.RowLawsLemmas.{written_or}
use Rattle.command_rows.proofs.SoundLemmas.{worked_cause}
use Rattle.command_rows.proofs.AloneLemmas.{IsAloneEnd, memory_end, done_end, alone_sound}
use Rattle.command_drill.specs.declared.asked.Drill.{Drill}
use Rattle.command_drill.specs.Drill.{parts, DrillEnds, DrillRow, IsTraceOf, drill_of, drill_text}
use Rattle.command_drill.specs.Laws.{said_drill, ZeroHasDrilled, DrillEndsWithZero, DrillsLeaveFiles}

own_end : (drill : Drill) (end : End) → DrillEnds drill end → IsAloneEnd (0 ∷ 1 ∷ []) end
own_end drill end (inl memory) = memory_end [] end memory
own_end drill end (inr (is, trace)) = done_end [] (drill_text drill) end is

pub sound : IsSound parts NoMore DrillRow (0 ∷ 1 ∷ [])
sound = alone_sound parts NoMore (λ given. DrillEnds (drill_of given.0 given.1.0 given.1.1.0)) (0 ∷ 1 ∷ []) (λ given end ends. own_end (drill_of given.0 given.1.0 given.1.1.0) end ends)

pub silent : IsSilent parts NoMore DrillRow
silent given before now end status ends = (own_end (drill_of given.0 given.1.0 given.1.1.0) end ends.0).memory

-- numbers stop no run, and are given as they were said
never_stops : {A : Type 0} (said : AllSaid parts NoMore) (before now : Snapshot) (stopped : Stopped) → AllLead parts NoMore said before now (Err stopped) → A
never_stops said before now stopped (inl lead) = absurd lead
never_stops said before now stopped (inr (one, goes)) = elim goes.others [
  | inl lead ↦ absurd lead
  | inr (two, goes) ↦ elim goes.others [
    | inl lead ↦ absurd lead
    | inr (three, goes) ↦ absurd goes.others
  ]
]

same_drill : (said : AllSaid parts NoMore) (given : AllGiven parts NoMore) (before opened : Snapshot) → AllLead parts NoMore said before opened (Ok given) → drill_of given.0 given.1.0 given.1.1.0 ≡ said_drill said
same_drill said given before opened lead =
    λ i. drill_of (lead.leads.0 i) (lead.others.leads.0 i) (lead.others.others.leads.0 i)

same_files : (said : AllSaid parts NoMore) (given : AllGiven parts NoMore) (before opened : Snapshot) → AllLead parts NoMore said before opened (Ok given) → opened ≡ before
same_files said given before opened lead = lead.others.others.others ∙ lead.others.others.leads.1 ∙ lead.others.leads.1 ∙ lead.leads.1

pub zero : ZeroHasDrilled
zero said before now runs =
    let so = (worked_cause parts NoMore DrillRow (0 ∷ 1 ∷ []) sound said before now 0 (inl refl) runs).1 in
    let same = same_drill said so.given before.files so.opened so.lead in
    elim so.ends.0 [
      | inl memory ↦ absurd (let one = ap (λ (e : End). e.status) memory in let is = so.written.status_is in omega (arith, one, is))
      | inr (is, trace) ↦ record {
        appends = so.written.appends ∙ ap (λ (e : End). appended before.output.written e.text) is ∙ ap (λ (d : Drill). appended before.output.written (drill_text d)) same;
        trace = trace.0;
        is_trace = subst (λ (d : Drill). IsTraceOf d trace.0) same trace.1;
      }
    ]

pub always : DrillEndsWithZero
always said before now status (inl stop) = never_stops said before.files now.files stop.stopped stop.lead
always said before now status (inr done) = elim (written_or done.ends.end status before now done.ends.comes) [
  | inl written ↦ elim done.ends.ends.0 [
    | inl memory ↦ inr (inl (written.status_is ∙ ap (λ (e : End). e.status) memory))
    | inr (is, trace) ↦ inl (written.status_is ∙ ap (λ (e : End). e.status) is)
  ]
  | inr not ↦ inr (inr not)
]

pub files : DrillsLeaveFiles
files said before now status (inl stop) = never_stops said before.files now.files stop.stopped stop.lead
files said before now status (inr done) = done.ends.ends.1 ∙ same_files said done.given before.files done.opened done.lead
