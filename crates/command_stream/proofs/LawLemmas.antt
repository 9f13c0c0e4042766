-- What the status of a replay with a stream tells.
use Rattle.std.proofs.Common.{◌≡◌, ◌≢◌, ◌⊎◌, inl, inr, ℕ, ◌+◌, ◌-◌, ◌<◌, Bool, true, false, List, [], ◌∷◌, ◌++◌, map, Option, Some, None, Result, Ok, refl, sym, ◌∙◌, ap, subst, arith}
use Rattle.std.specs.Prelude.{Contains}
use Rattle.std.proofs.lemmas.Bool.{false≢true}
use Rattle.std.proofs.lemmas.List.Elements.{Contains-push}
use Rattle.ctl_io.specs.Custody.{FilesCustody, SinkEnd}
use Rattle.ctl_io.specs.Faults.{count_after, is_faulty, one_more}
use Rattle.ctl_io.specs.Held.{Held, IsNamed, Stays}
use Rattle.ctl_io.specs.Sink.{appended}
use Rattle.plant_config.specs.Plant.{PlantData}
use Rattle.record_replay.specs.Laws.{work_of}
use Rattle.record_replay.specs.Script.{IsFirstBad}
use Rattle.record_replay.specs.ScriptLaws.{HistoriesAreOne, TurnsAnswerItems}
use Rattle.record_replay.proofs.IsReplayLemmas.{none_bad}
use Rattle.command_words.specs.Parts.{NoMore, AllSaid}
use Rattle.command_rows.specs.Lines.{line_refused}
use Rattle.command_rows.specs.Moment.{Snapshot, Moment}
use Rattle.command_rows.specs.End.{End, behind, done, ended, file_failed, out_of_memory, unwritten_status}
use Rattle.command_rows.specs.MadeFile.{IsAsMade}
use Rattle.command_rows.specs.Row.{RowRuns}
use Rattle.command_rows.specs.Shown.{AllShow}
use Rattle.command_rows.specs.RowLaws.{WasKept, WasWorked}
use Rattle.command_rows.specs.Sound.{IsSoundEnd, LeavesSound, IsSound, IsSilent}
use Rattle.command_rows.proofs.OpenerLemmas.{counts}
use Rattle.command_rows.proofs.RowLawsLemmas.{have_cause, written_or}
use Rattle.command_rows.proofs.AlwaysLemmas.{worked}
use Rattle.command_rows.proofs.SoundLemmas.{worked_cause}
use Rattle.command_replay.specs.Laws.{IsAccepted}
use Rattle.command_replay.proofs.LawLemmas.{tied_shows, not_kept}
use Rattle.command_stream.specs.Stream.{parts, GivesFile, StreamDone, StreamBroke, IsUnmade, StreamEnds, StreamRow}
use Rattle.command_stream.specs.Laws.{ZeroHasStreamed, ThreeHasFault, FiveHasRefused, AcceptedEndsWithZero, BadLineEndsWithFive, StreamsShowHistories}

-- the statuses
own_end : (plant : PlantData) (script made : List ℕ) (before now : Moment) (end : End) (status : ℕ) → StreamEnds plant script made before now end status → IsSoundEnd (0 ∷ 1 ∷ 3 ∷ 5 ∷ []) end
own_end plant script made before now end status (inl (is, left)) =
    subst (IsSoundEnd (0 ∷ 1 ∷ 3 ∷ 5 ∷ [])) (sym is) (record { known = inr (inl refl); few = omega arith; memory = λ one. record { front = []; tells = refl }; fault = λ so. absurd (false≢true so) })
own_end plant script made before now end status (inr (inl (output, is, gives))) =
    subst (IsSoundEnd (0 ∷ 1 ∷ 3 ∷ 5 ∷ [])) (sym is) (record { known = inl refl; few = omega arith; memory = λ one. absurd (omega (arith, one)); fault = λ so. absurd (false≢true so) })
own_end plant script made before now end status (inr (inr (inl (number, is, bad, gives)))) =
    subst (IsSoundEnd (0 ∷ 1 ∷ 3 ∷ 5 ∷ [])) (sym is) (record { known = inr (inr (inr (inl refl))); few = omega arith; memory = λ one. absurd (omega (arith, one)); fault = λ so. absurd (false≢true so) })
own_end plant script made before now end status (inr (inr (inr (output, is, failed)))) =
    subst (IsSoundEnd (0 ∷ 1 ∷ 3 ∷ 5 ∷ [])) (sym is) (record { known = inr (inr (inl refl)); few = omega arith; memory = λ one. absurd (omega (arith, one)); fault = λ so. refl })

-- what is left of the files
not_shown : (made name : List ℕ) (shown : Option (List ℕ)) → IsNamed made shown → name ≢ made → shown ≢ Some name
not_shown made name None named other is = cc
not_shown made name (Some its) named other is =
    let same : its ≡ name = cc in
    other (sym same ∙ named)

stays_over : (before between now : ℕ → Held) → Stays before between → Stays between now → Stays before now
stays_over before between now first second opening = second opening ∙ first opening

only_made : (made name : List ℕ) → (Contains (made ∷ []) name → ⊥) → name ≢ made
only_made made name other same = other (subst (Contains (made ∷ [])) (sym same) (Contains-push [] made))

gives_sound : (made : List ℕ) (Shows : SinkEnd → Type 0) (end : End) (before now : Snapshot) (gives : GivesFile made Shows before now) → is_faulty gives.shown.faults ≡ end.is_file_fault → LeavesSound (made ∷ []) (made ∷ []) end before now
gives_sound made Shows end before now gives faulty =
    let lent : gives.made.custody.sinks.out ≡ before.custody.sinks.out + 1 = ap (λ (c : FilesCustody). c.sinks.out) gives.makes.custody in
    let back : now.custody.sinks.out ≡ gives.made.custody.sinks.out - 1 = ap (λ (c : FilesCustody). c.sinks.out) gives.takes.custody in
    record {
      sources = ap (λ (c : FilesCustody). c.sources.out) gives.takes.custody ∙ ap (λ (c : FilesCustody). c.sources.out) gives.makes.custody;
      disks = ap (λ (c : FilesCustody). c.disks.out) gives.takes.custody ∙ ap (λ (c : FilesCustody). c.disks.out) gives.makes.custody;
      sinks = omega (arith, lent, back);
      unmade = λ none. absurd (cc);
      others = λ name other.
          stays_over (before.held name) (gives.made.held name) (now.held name) (gives.makes.others name (only_made made name other))
          (gives.takes.others name (not_shown made name gives.shown.name gives.named (only_made made name other)));
      faults = gives.takes.faults ∙ ap (λ (b : Bool). count_after b gives.made.faults) faulty ∙ ap (count_after end.is_file_fault) gives.makes.faults;
    }

unmade_sound : (made output : List ℕ) (before now : Snapshot) → IsUnmade made output before now → LeavesSound (made ∷ []) (made ∷ []) (behind output (file_failed made)) before now
unmade_sound made output before now unmade = record {
  sources = ap (λ (c : FilesCustody). c.sources.out) unmade.fails.custody;
  disks = ap (λ (c : FilesCustody). c.disks.out) unmade.fails.custody;
  sinks = ap (λ (c : FilesCustody). c.sinks.out) unmade.fails.custody;
  unmade = λ none. ap (λ (c : FilesCustody). c.sinks) unmade.fails.custody;
  others = λ name other. unmade.fails.others name (only_made made name other);
  faults = unmade.fails.faults;
}

same_sound : (made : List ℕ) (before now : Snapshot) → now ≡ before → LeavesSound (made ∷ []) (made ∷ []) out_of_memory before now
same_sound made before now same = record {
  sources = ap (λ (s : Snapshot). s.custody.sources.out) same;
  disks = ap (λ (s : Snapshot). s.custody.disks.out) same;
  sinks = ap (λ (s : Snapshot). s.custody.sinks.out) same;
  unmade = λ none. ap (λ (s : Snapshot). s.custody.sinks) same;
  others = λ name other opening. ap (λ (s : Snapshot). s.held name opening) same;
  faults = ap (λ (s : Snapshot). s.faults) same;
}

own_leaves : (plant : PlantData) (script made : List ℕ) (before now : Moment) (end : End) (status : ℕ) → StreamEnds plant script made before now end status → LeavesSound (made ∷ []) (made ∷ []) end before.files now.files
own_leaves plant script made before now end status (inl (is, inl same)) =
    subst (λ (e : End). LeavesSound (made ∷ []) (made ∷ []) e before.files now.files) (sym is) (same_sound made before.files now.files same)
own_leaves plant script made before now end status (inl (is, inr gives)) =
    subst (λ (e : End). LeavesSound (made ∷ []) (made ∷ []) e before.files now.files) (sym is)
    (gives_sound made (IsAsMade made) out_of_memory before.files now.files gives (ap is_faulty gives.shows.no_faults))
own_leaves plant script made before now end status (inr (inl (output, is, gives))) =
    subst (λ (e : End). LeavesSound (made ∷ []) (made ∷ []) e before.files now.files) (sym is)
    (gives_sound made (StreamDone plant script output status before.output.written now.output.written) (done output) before.files now.files gives (ap is_faulty gives.shows.no_faults))
own_leaves plant script made before now end status (inr (inr (inl (number, is, bad, gives)))) =
    subst (λ (e : End). LeavesSound (made ∷ []) (made ∷ []) e before.files now.files) (sym is)
    (gives_sound made (IsAsMade made) (ended 5 (line_refused number)) before.files now.files gives (ap is_faulty gives.shows.no_faults))
own_leaves plant script made before now end status (inr (inr (inr (output, is, inl unmade)))) =
    subst (λ (e : End). LeavesSound (made ∷ []) (made ∷ []) e before.files now.files) (sym is) (unmade_sound made output before.files now.files unmade)
own_leaves plant script made before now end status (inr (inr (inr (output, is, inr gives)))) =
    subst (λ (e : End). LeavesSound (made ∷ []) (made ∷ []) e before.files now.files) (sym is)
    (gives_sound made (StreamBroke plant script output status before.output.written now.output.written) (behind output (file_failed made)) before.files now.files gives gives.shows.faults)

pub sound : IsSound parts NoMore StreamRow (0 ∷ 1 ∷ 3 ∷ 5 ∷ [])
sound = record {
  own = λ given before now end status ends. own_end given.0 given.1.0 given.1.1.0 before now end status ends;
  leaves = λ given before now end status ends. own_leaves given.0 given.1.0 given.1.1.0 before now end status ends;
}

-- what each status tells
status_as : (end its : End) (status : ℕ) → status ≡ end.status → end ≡ its → status ≡ its.status
status_as end its status at is = at ∙ ap (λ (e : End). e.status) is

pub silent : IsSilent parts NoMore StreamRow
silent given before now end status (inl (is, left)) one = is
silent given before now end status (inr (inl (output, is, gives))) one = absurd (let h = status_as end (done output) 1 (sym one) is in omega (arith, h))
silent given before now end status (inr (inr (inl (number, is, bad, gives)))) one = absurd (let h = status_as end (ended 5 (line_refused number)) 1 (sym one) is in omega (arith, h))
silent given before now end status (inr (inr (inr (output, is, failed)))) one = absurd (let h = status_as end (behind output (file_failed given.1.1.0)) 1 (sym one) is in omega (arith, h))

pub zero : ZeroHasStreamed
zero said before now runs =
    let so = (worked_cause parts NoMore StreamRow (0 ∷ 1 ∷ 3 ∷ 5 ∷ []) sound said before now 0 (inl refl) runs).1 in
    elim so.ends [
      | inl (is, left) ↦ absurd (let h = status_as so.end out_of_memory 0 so.written.status_is is in omega (arith, h))
      | inr (inl (output, is, gives)) ↦ record {
        plant = so.given.0;
        script = so.given.1.0;
        made = so.given.1.1.0;
        opened = so.opened;
        lead = so.lead;
        output = output;
        gives = gives;
        appends = so.written.appends ∙ ap (λ (e : End). appended before.output.written e.text) is;
      }
      | inr (inr (inl (number, is, bad, gives))) ↦ absurd (let h = status_as so.end (ended 5 (line_refused number)) 0 so.written.status_is is in omega (arith, h))
      | inr (inr (inr (output, is, failed))) ↦ absurd (let h = status_as so.end (behind output (file_failed so.given.1.1.0)) 0 so.written.status_is is in omega (arith, h))
    ]

-- the files' count where the row was worked
count_so : (said : AllSaid parts NoMore) (before now : Moment) (status : ℕ) (so : WasWorked parts NoMore StreamRow said before now status) → now.files.faults ≡ count_after so.end.is_file_fault before.files.faults
count_so said before now status so =
    (sound.leaves so.given (record before { files = so.opened }) now so.end status so.ends).faults ∙ ap (count_after so.end.is_file_fault) (counts parts NoMore said before.files so.opened (Ok so.given) so.lead)

pub three : ThreeHasFault
three said before now runs = elim (have_cause parts NoMore StreamRow said before now 3 runs) [
  | inl stop ↦ inl stop
  | inr (inl so) ↦ elim so.ends [
    | inl (is, left) ↦ absurd (let h = status_as so.end out_of_memory 3 so.written.status_is is in omega (arith, h))
    | inr (inl (output, is, gives)) ↦ absurd (let h = status_as so.end (done output) 3 so.written.status_is is in omega (arith, h))
    | inr (inr (inl (number, is, bad, gives))) ↦ absurd (let h = status_as so.end (ended 5 (line_refused number)) 3 so.written.status_is is in omega (arith, h))
    | inr (inr (inr (output, is, failed))) ↦ inr (record {
      plant = so.given.0;
      script = so.given.1.0;
      made = so.given.1.1.0;
      opened = so.opened;
      lead = so.lead;
      output = output;
      failed = failed;
      fault = count_so said before now 3 so ∙ ap (λ (e : End). count_after e.is_file_fault before.files.faults) is;
      appends = so.written.appends ∙ ap (λ (e : End). appended before.output.written e.text) is;
    })
  ]
  | inr (inr cut) ↦ absurd (let h = cut.0 in omega (arith, h))
]

pub five : FiveHasRefused
five said before now runs = elim (have_cause parts NoMore StreamRow said before now 5 runs) [
  | inl stop ↦ inl stop
  | inr (inl so) ↦ elim so.ends [
    | inl (is, left) ↦ absurd (let h = status_as so.end out_of_memory 5 so.written.status_is is in omega (arith, h))
    | inr (inl (output, is, gives)) ↦ absurd (let h = status_as so.end (done output) 5 so.written.status_is is in omega (arith, h))
    | inr (inr (inl (number, is, bad, gives))) ↦ inr (record {
      plant = so.given.0;
      script = so.given.1.0;
      made = so.given.1.1.0;
      opened = so.opened;
      lead = so.lead;
      number = number;
      first_bad = bad;
      appends = so.written.appends ∙ ap (λ (e : End). appended before.output.written e.text) is;
    })
    | inr (inr (inr (output, is, failed))) ↦ absurd (let h = status_as so.end (behind output (file_failed so.given.1.1.0)) 5 so.written.status_is is in omega (arith, h))
  ]
  | inr (inr cut) ↦ absurd (let h = cut.0 in omega (arith, h))
]

-- what always comes: this status, or memory ran out, or the file failed
with_status : (said : AllSaid parts NoMore) (plant : PlantData) (script made : List ℕ) (wanted : ℕ) (before now : Moment) (status : ℕ)
    → ((b : Moment) (end : End) → StreamEnds plant script made b now end status → (end.status ≡ wanted) ⊎ (end.status ≡ 1) ⊎ (end.is_file_fault ≡ true))
    → AllShow parts NoMore said before.files.held (Ok (plant, (script, (made, tt)))) → RowRuns parts NoMore StreamRow said before now status → (status ≡ wanted) ⊎ WasKept before now status
with_status said plant script made wanted before now status by shows runs = elim (worked parts NoMore StreamRow said (plant, (script, (made, tt))) before now status shows runs) [
  | inr kept ↦ inr kept
  | inl works ↦ elim (written_or works.ends.end status before now works.ends.comes) [
    | inr cut ↦ inr (inr (inr cut))
    | inl written ↦ elim (by (record before { files = works.opened }) works.ends.end works.ends.ends) [
      | inl is ↦ inl (written.status_is ∙ is)
      | inr (inl one) ↦ inr (inl (written.status_is ∙ one))
      | inr (inr fault) ↦
          let own = own_end plant script made (record before { files = works.opened }) now works.ends.end status works.ends.ends in
          let left = own_leaves plant script made (record before { files = works.opened }) now works.ends.end status works.ends.ends in
          let count = left.faults ∙ ap (count_after works.ends.end.is_file_fault) (counts parts NoMore said before.files works.opened (Ok (plant, (script, (made, tt)))) works.lead) ∙ ap (λ (b : Bool). count_after b before.files.faults) fault in
          inr (inr (inl (written.status_is ∙ own.fault fault, count)))
    ]
  ]
]

accepted_end : (plant : PlantData) (script made : List ℕ) (before now : Moment) (end : End) (status : ℕ) → IsAccepted plant script → StreamEnds plant script made before now end status
    → (end.status ≡ 0) ⊎ (end.status ≡ 1) ⊎ (end.is_file_fault ≡ true)
accepted_end plant script made before now end status accept (inl (is, left)) = inr (inl (ap (λ (e : End). e.status) is))
accepted_end plant script made before now end status accept (inr (inl (output, is, gives))) = inl (ap (λ (e : End). e.status) is)
accepted_end plant script made before now end status accept (inr (inr (inl (number, is, bad, gives)))) = absurd (none_bad plant script accept.0 number accept.1 bad)
accepted_end plant script made before now end status accept (inr (inr (inr (output, is, failed)))) = inr (inr (ap (λ (e : End). e.is_file_fault) is))

pub accepted : AcceptedEndsWithZero
accepted said plant script made before now status shows accept runs =
    with_status said plant script made 0 before now status (λ b end ends. accepted_end plant script made b now end status accept ends) shows runs

bad_end : (plant : PlantData) (script made : List ℕ) (number : ℕ) (before now : Moment) (end : End) (status : ℕ) → IsFirstBad plant script number → StreamEnds plant script made before now end status
    → (end.status ≡ 5) ⊎ (end.status ≡ 1) ⊎ (end.is_file_fault ≡ true)
bad_end plant script made number before now end status bad (inl (is, left)) = inr (inl (ap (λ (e : End). e.status) is))
bad_end plant script made number before now end status bad (inr (inl (output, is, gives))) =
    let tied = gives.shows.streamed.replay in
    absurd (none_bad plant script (map work_of tied.actions) number tied.history.spelled bad)
bad_end plant script made number before now end status bad (inr (inr (inl (other, is, its, gives)))) = inl (ap (λ (e : End). e.status) is)
bad_end plant script made number before now end status bad (inr (inr (inr (output, is, failed)))) = inr (inr (ap (λ (e : End). e.is_file_fault) is))

pub refused : BadLineEndsWithFive
refused said plant script made number before now status shows bad runs =
    with_status said plant script made 5 before now status (λ b end ends. bad_end plant script made number b now end status bad ends) shows runs

module _ (one : HistoriesAreOne) (answer : TurnsAnswerItems) where
  pub shows : StreamsShowHistories
  shows said plant script made before now shown runs = elim (worked parts NoMore StreamRow said (plant, (script, (made, tt))) before now 0 shown runs) [
    | inr kept ↦ absurd (not_kept before now kept)
    | inl works ↦ elim (written_or works.ends.end 0 before now works.ends.comes) [
      | inr cut ↦ absurd (let h = cut.0 in omega (arith, h))
      | inl written ↦ elim works.ends.ends [
        | inl (is, left) ↦ absurd (let h = status_as works.ends.end out_of_memory 0 written.status_is is in omega (arith, h))
        | inr (inl (output, is, gives)) ↦
            tied_shows one answer plant script output before now gives.shows.streamed.replay (written.appends ∙ ap (λ (e : End). appended before.output.written e.text) is)
        | inr (inr (inl (number, is, bad, gives))) ↦ absurd (let h = status_as works.ends.end (ended 5 (line_refused number)) 0 written.status_is is in omega (arith, h))
        | inr (inr (inr (output, is, failed))) ↦ absurd (let h = status_as works.ends.end (behind output (file_failed made)) 0 written.status_is is in omega (arith, h))
      ]
    ]
  ]
