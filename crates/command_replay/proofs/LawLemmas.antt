-- What the status of a replay tells.
use Rattle.std.proofs.Common.{◌≡◌, ◌⊎◌, inl, inr, ℕ, List, [], ◌∷◌, ◌++◌, Result, Ok, refl, sym, ◌∙◌, ap, arith}
use Rattle.std.specs.Prelude.{map}
use Rattle.ctl_io.specs.Sink.{appended}
use Rattle.plant_config.specs.Plant.{PlantData}
use Rattle.record_replay.specs.Answered.{AnswersItsPiece}
use Rattle.record_replay.specs.Laws.{Action, Turned, Left, Polled, IsHistory, work_of}
use Rattle.record_replay.specs.Script.{IsFirstBad}
use Rattle.record_replay.specs.ScriptLaws.{HistoriesAreOne, TurnsAnswerItems}
use Rattle.record_replay.specs.TiedReplay.{IsTiedReplay}
use Rattle.record_replay.proofs.IsReplayLemmas.{none_bad}
use Rattle.command_words.specs.Parts.{NoMore, AllSaid}
use Rattle.command_rows.specs.Lines.{line_refused}
use Rattle.command_rows.specs.Moment.{Moment}
use Rattle.command_rows.specs.End.{End, done, ended}
use Rattle.command_rows.specs.RowLaws.{WasKept}
use Rattle.command_rows.specs.Sound.{IsSound, IsSilent}
use Rattle.command_rows.proofs.RowLawsLemmas.{have_cause, written_or}
use Rattle.command_rows.proofs.AlwaysLemmas.{worked}
use Rattle.command_rows.proofs.SoundLemmas.{worked_cause}
use Rattle.command_rows.proofs.AloneLemmas.{IsAloneEnd, memory_end, done_end, refused_end, alone_sound, alone_with}
use Rattle.command_replay.specs.Replay.{parts, ReplayEnds, ReplayRow}
use Rattle.command_replay.specs.Laws.{IsAccepted, ZeroHasReplayed, FiveHasRefused, AcceptedEndsWithZero, BadLineEndsWithFive, ShowsHistory, ReplaysShowHistories}

own_end : (plant : PlantData) (script : List ℕ) (end : End) → ReplayEnds plant script end → IsAloneEnd (0 ∷ 1 ∷ 5 ∷ []) end
own_end plant script end (inl memory) = memory_end (5 ∷ []) end memory
own_end plant script end (inr (inl (output, is, tied))) = done_end (5 ∷ []) output end is
own_end plant script end (inr (inr (number, is, bad))) = refused_end [] (line_refused number) end is

pub sound : IsSound parts NoMore ReplayRow (0 ∷ 1 ∷ 5 ∷ [])
sound = alone_sound parts NoMore (λ given. ReplayEnds given.0 given.1.0) (0 ∷ 1 ∷ 5 ∷ []) (λ given end ends. own_end given.0 given.1.0 end ends)

pub silent : IsSilent parts NoMore ReplayRow
silent given before now end status ends = (own_end given.0 given.1.0 end ends.0).memory

pub zero : ZeroHasReplayed
zero said before now runs =
    let so = (worked_cause parts NoMore ReplayRow (0 ∷ 1 ∷ 5 ∷ []) sound said before now 0 (inl refl) runs).1 in
    elim so.ends.0 [
      | inl memory ↦ absurd (let one = ap (λ (e : End). e.status) memory in let is = so.written.status_is in omega (arith, one, is))
      | inr (inl (output, is, tied)) ↦ record {
        plant = so.given.0;
        script = so.given.1.0;
        opened = so.opened;
        lead = so.lead;
        output = output;
        replay = tied;
        appends = so.written.appends ∙ ap (λ (e : End). appended before.output.written e.text) is;
      }
      | inr (inr (number, is, bad)) ↦ absurd (let five = ap (λ (e : End). e.status) is in let zero = so.written.status_is in omega (arith, five, zero))
    ]

pub five : FiveHasRefused
five said before now runs = elim (have_cause parts NoMore ReplayRow said before now 5 runs) [
  | inl stop ↦ inl stop
  | inr (inl so) ↦ elim so.ends.0 [
    | inl memory ↦ absurd (let one = ap (λ (e : End). e.status) memory in let is = so.written.status_is in omega (arith, one, is))
    | inr (inl (output, is, tied)) ↦ absurd (let zero = ap (λ (e : End). e.status) is in let five = so.written.status_is in omega (arith, zero, five))
    | inr (inr (number, is, bad)) ↦ inr (record {
      plant = so.given.0;
      script = so.given.1.0;
      opened = so.opened;
      lead = so.lead;
      number = number;
      first_bad = bad;
      appends = so.written.appends ∙ ap (λ (e : End). appended before.output.written e.text) is;
    })
  ]
  | inr (inr cut) ↦ absurd (let seven = cut.0 in omega (arith, seven))
]

accepted_end : (plant : PlantData) (script : List ℕ) (end : End) → IsAccepted plant script → ReplayEnds plant script end → (end.status ≡ 0) ⊎ (end.status ≡ 1)
accepted_end plant script end accepted (inl memory) = inr (ap (λ (e : End). e.status) memory)
accepted_end plant script end accepted (inr (inl (output, is, tied))) = inl (ap (λ (e : End). e.status) is)
accepted_end plant script end accepted (inr (inr (number, is, bad))) = absurd (none_bad plant script accepted.0 number accepted.1 bad)

pub accepted : AcceptedEndsWithZero
accepted said plant script before now status shows accept runs =
    alone_with parts NoMore (λ given. ReplayEnds given.0 given.1.0) said (plant, (script, tt)) 0 before now status (λ end ends. accepted_end plant script end accept ends) shows runs

bad_end : (plant : PlantData) (script : List ℕ) (number : ℕ) (end : End) → IsFirstBad plant script number → ReplayEnds plant script end → (end.status ≡ 5) ⊎ (end.status ≡ 1)
bad_end plant script number end bad (inl memory) = inr (ap (λ (e : End). e.status) memory)
bad_end plant script number end bad (inr (inl (output, is, tied))) = absurd (none_bad plant script (map work_of tied.actions) number tied.history.spelled bad)
bad_end plant script number end bad (inr (inr (other, is, its))) = inl (ap (λ (e : End). e.status) is)

pub refused : BadLineEndsWithFive
refused said plant script number before now status shows bad runs =
    alone_with parts NoMore (λ given. ReplayEnds given.0 given.1.0) said (plant, (script, tt)) 5 before now status (λ end ends. bad_end plant script number end bad ends) shows runs

-- a run that ends with 0 wasn't kept from its end
pub not_kept : (before now : Moment) → WasKept before now 0 → ⊥
not_kept before now (inl one) = omega (arith, one)
not_kept before now (inr (inl three)) = omega (arith, three.0)
not_kept before now (inr (inr seven)) = omega (arith, seven.0)

module _ (one : HistoriesAreOne) (answer : TurnsAnswerItems) where
  is_answered : (plant : PlantData) (script output : List ℕ) (actions front later : List Action) (action : Action) → IsHistory plant script output actions → actions ≡ front ++ action ∷ later → AnswersItsPiece front action
  is_answered plant script output actions front later (Turned panel piece entries sent) history is = answer plant script output actions front later panel piece sent entries history is
  is_answered plant script output actions front later (Left panel) history is = tt
  is_answered plant script output actions front later (Polled screen refresh answers) history is = tt

  pub tied_shows : (plant : PlantData) (script output : List ℕ) (before now : Moment) → IsTiedReplay plant script output → now.output.written ≡ appended before.output.written output → ShowsHistory plant script before now
  tied_shows plant script output before now tied appends = record {
    output = output;
    appends = appends;
    actions = tied.actions;
    history = tied.history;
    alone = λ other others is. one plant script other output others tied.actions is tied.history;
    answered = λ front later action is. is_answered plant script output tied.actions front later action tied.history is;
    ties = tied.ties;
  }

  pub shows : ReplaysShowHistories
  shows said plant script before now shown runs = elim (worked parts NoMore ReplayRow said (plant, (script, tt)) before now 0 shown runs) [
    | inr kept ↦ absurd (not_kept before now kept)
    | inl works ↦ elim (written_or works.ends.end 0 before now works.ends.comes) [
      | inr not ↦ absurd (let seven = not.0 in omega (arith, seven))
      | inl written ↦ elim works.ends.ends.0 [
        | inl memory ↦ absurd (let one = ap (λ (e : End). e.status) memory in let is = written.status_is in omega (arith, one, is))
        | inr (inl (output, is, tied)) ↦ tied_shows plant script output before now tied (written.appends ∙ ap (λ (e : End). appended before.output.written e.text) is)
        | inr (inr (number, is, bad)) ↦ absurd (let five = ap (λ (e : End). e.status) is in let zero = written.status_is in omega (arith, five, zero))
      ]
    ]
  ]
