-- What the status of a run of `drive` tells.
use Rattle.std.proofs.Common.{◌≡◌, inl, inr, ℕ, [], ◌∷◌, Ok, Err, refl, ◌∙◌, ap, subst₂, arith}
use Rattle.ctl_io.specs.Sink.{appended}
use Rattle.command_words.specs.Parts.{NoMore, AllSaid}
use Rattle.command_rows.specs.Moment.{Snapshot}
use Rattle.command_rows.specs.End.{End, Stopped}
use Rattle.command_rows.specs.Opener.{AllGiven, AllLead}
use Rattle.command_rows.specs.Sound.{IsSound, IsSilent}
use Rattle.command_rows.proofs.RowLawsLemmas.{written_or}
use Rattle.command_rows.proofs.SoundLemmas.{worked_cause}
use Rattle.command_rows.proofs.AloneLemmas.{IsAloneEnd, memory_end, done_end, alone_sound}
use Rattle.command_drive.specs.DriveRow.{parts, drive_text, DriveEnds, DriveRow}
use Rattle.command_drive.specs.Laws.{WasDriven, ZeroHasDriven, DriveEndsWithZero, DrivesLeaveFiles}

own_end : (number wants : ℕ) (end : End) → DriveEnds number wants end → IsAloneEnd (0 ∷ 1 ∷ []) end
own_end number wants end (inl memory) = memory_end [] end memory
own_end number wants end (inr driven) = done_end [] (drive_text wants driven.drive) end driven.says

pub sound : IsSound parts NoMore DriveRow (0 ∷ 1 ∷ [])
sound = alone_sound parts NoMore (λ given. DriveEnds given.0 given.1.0) (0 ∷ 1 ∷ []) (λ given end ends. own_end given.0 given.1.0 end ends)

pub silent : IsSilent parts NoMore DriveRow
silent given before now end status ends = (own_end given.0 given.1.0 end ends.0).memory

-- numbers stop no run, and are given as they were said
never_stops : {A : Type 0} (said : AllSaid parts NoMore) (before now : Snapshot) (stopped : Stopped) → AllLead parts NoMore said before now (Err stopped) → A
never_stops said before now stopped (inl lead) = absurd lead
never_stops said before now stopped (inr (one, goes)) = elim goes.others [
  | inl lead ↦ absurd lead
  | inr (two, goes) ↦ absurd goes.others
]

same_files : (said : AllSaid parts NoMore) (given : AllGiven parts NoMore) (before opened : Snapshot) → AllLead parts NoMore said before opened (Ok given) → opened ≡ before
same_files said given before opened lead = lead.others.others ∙ lead.others.leads.1 ∙ lead.leads.1

pub zero : ZeroHasDriven
zero said before now runs =
    let so = (worked_cause parts NoMore DriveRow (0 ∷ 1 ∷ []) sound said before now 0 (inl refl) runs).1 in
    elim so.ends.0 [
      | inl memory ↦ absurd (let one = ap (λ (e : End). e.status) memory in let is = so.written.status_is in omega (arith, one, is))
      | inr driven ↦ subst₂ (λ (number wants : ℕ). WasDriven number wants before now) so.lead.leads.0 so.lead.others.leads.0 (record {
        drive = driven.drive;
        is_end = driven.is_end;
        appends = so.written.appends ∙ ap (λ (e : End). appended before.output.written e.text) driven.says;
        all_agree = driven.all_agree;
      })
    ]

pub always : DriveEndsWithZero
always said before now status (inl stop) = never_stops said before.files now.files stop.stopped stop.lead
always said before now status (inr done) = elim (written_or done.ends.end status before now done.ends.comes) [
  | inl written ↦ elim done.ends.ends.0 [
    | inl memory ↦ inr (inl (written.status_is ∙ ap (λ (e : End). e.status) memory))
    | inr driven ↦ inl (written.status_is ∙ ap (λ (e : End). e.status) driven.says)
  ]
  | inr not ↦ inr (inr not)
]

pub files : DrivesLeaveFiles
files said before now status (inl stop) = never_stops said before.files now.files stop.stopped stop.lead
files said before now status (inr done) = done.ends.ends.1 ∙ same_files said done.given before.files done.opened done.lead
