-- What the exit statuses tell of a quiet run.
use Rattle.std.proofs.Common.{◌≡◌, ◌≢◌, ◌⊎◌, inl, inr, ℕ, ◌<◌, Bool, true, false, List, [], ◌∷◌, ◌++◌, Option, refl, sym, ◌∙◌, ap, subst, arith}
use Rattle.std.specs.Prelude.{Contains}
use Rattle.ctl_io.specs.Custody.{Custody, SourceEnd, SinkEnd}
use Rattle.ctl_io.specs.Faults.{one_more}
use Rattle.ctl_io.specs.Held.{Held}
use Rattle.ctl_io.specs.Sink.{appended}
use Rattle.command_words.specs.Table.{AskNone, AskOne, usage}
use Rattle.command_rows.specs.Moment.{Snapshot, Output, Moment}
use Rattle.command_rows.specs.End.{End, ended, out_of_memory, ComesTo, IsWritten}
use Rattle.command_rows.specs.RowLaws.{CouldNotWrite}
use Rattle.command_rows.proofs.RowLawsLemmas.{written_or, have_cause, no_usage, write_all}
use Rattle.command_rows.proofs.SoundLemmas.{known, worked_cause, seven_cause, leave_all}
use Rattle.command_replay.specs.Laws.{ReplaysShowHistories as ReplayRowsShow}
use Rattle.commands.specs.declared.rows.Verb.{Verb}
use Rattle.commands.specs.declared.rows.Verb.TheVariants as verbs
use Rattle.commands.specs.Rows.{AskFor, AsksFor, SaidOf, line_of, row_of, promise_of, sound_of, statuses_of, table}
use Rattle.commands.specs.Quiet.{WordsLead, StopsAtWords, Runs, RunsRow, QuietEnds}
use Rattle.commands.specs.QuietLaws.{RanOutAtWords, AskedRuns, StatusesAreKnown, TwoHasNoForm, TwoTellsUsage, NoFormEndsWithTwo, WorkIsDone, QuietSevenHasCause, QuietWritesAll, NamesFile, MakeNoFile, LeavesFiles, QuietLeaves, ReplaysShowHistories}
use Rattle.commands.proofs.SaidLemmas.{asked_so}

-- words that ask for a quiet command ask for one
one_asked : (words : List (List ℕ)) (verb : Verb) (said : SaidOf verb) → AskFor words verb said → (row_of verb).form.is_quiet ≡ true → AskOne table true words
one_asked words verb said ask quiet = record { line = line_of verb; quiet = quiet; said = said; ask = ask }

pub asked_runs : AskedRuns
asked_runs words verb said before now status ask quiet (inl stop) = elim stop.lead [
  | inl usage ↦ absurd (usage.1 (one_asked words verb said ask quiet))
  | inr memory ↦ inr (record { files = stop.files; comes = subst (λ (e : End). ComesTo e status before.output now.output) memory.0 stop.comes })
]
asked_runs words verb said before now status ask quiet (inr row) = inl (asked_so words row.verb verb row.said said (λ v s. Runs v s before now status) row.ask ask row.runs)

-- the statuses of the words
words_status : (words : List (List ℕ)) (end : End) → WordsLead words end → (end.status ≡ 2) ⊎ (end.status ≡ 1)
words_status words end (inl usage) = inl (ap (λ (e : End). e.status) usage.0)
words_status words end (inr memory) = inr (ap (λ (e : End). e.status) memory.0)

-- the parts and what stands behind them, of a command
module _ (verb : Verb) where
  row_cause : (said : SaidOf verb) (before now : Moment) (status : ℕ) → Runs verb said before now status → status < 8
  row_cause said before now status runs = (known (row_of verb).form.parts (row_of verb).form.last (promise_of verb) (statuses_of verb) (sound_of verb) said before now status runs).eight

pub eight : StatusesAreKnown
eight words before now status (inr row) = row_cause row.verb row.said before now status row.runs
eight words before now status (inl stop) = elim (written_or stop.end status before now stop.comes) [
  | inl written ↦ elim (words_status words stop.end stop.lead) [
    | inl two ↦ omega (arith, written.status_is, two)
    | inr one ↦ omega (arith, written.status_is, one)
  ]
  | inr not ↦ omega (arith, not.0)
]

-- words lead to neither 0 nor 6
not_words : (words : List (List ℕ)) (end : End) (status : ℕ) → WordsLead words end → (status ≡ 0) ⊎ (status ≡ 6) → status ≡ end.status → ⊥
not_words words end status lead one is = elim (words_status words end lead) [
  | inl two ↦ elim one [ inl zero ↦ omega (arith, is, two, zero) | inr six ↦ omega (arith, is, two, six) ]
  | inr memory ↦ elim one [ inl zero ↦ omega (arith, is, memory, zero) | inr six ↦ omega (arith, is, memory, six) ]
]

not_cut : (status : ℕ) → (status ≡ 0) ⊎ (status ≡ 6) → status ≡ 7 → ⊥
not_cut status (inl zero) is = omega (arith, zero, is)
not_cut status (inr six) is = omega (arith, six, is)

pub work_done : WorkIsDone
work_done words before now status one (inl stop) = elim (written_or stop.end status before now stop.comes) [
  | inl written ↦ absurd (not_words words stop.end status stop.lead one written.status_is)
  | inr not ↦ absurd (not_cut status one not.0)
]
work_done words before now status one (inr row) =
    let so = worked_cause (row_of row.verb).form.parts (row_of row.verb).form.last (promise_of row.verb) (statuses_of row.verb) (sound_of row.verb) row.said before now status one row.runs in
    record { verb = row.verb; said = row.said; ask = row.ask; own = so.0; worked = so.1 }

-- status 2
usage_end : (words : List (List ℕ)) (before now : Moment) → QuietEnds words before now 2 → AskNone table true words × (now.output.written ≡ appended before.output.written (usage table))
usage_end words before now (inr row) = absurd (no_usage (row_of row.verb).form.parts (row_of row.verb).form.last (promise_of row.verb) row.said before now 2 row.runs refl)
usage_end words before now (inl stop) = elim (written_or stop.end 2 before now stop.comes) [
  | inl written ↦ elim stop.lead [
    | inl none ↦ (none.1, written.appends ∙ ap (λ (e : End). appended before.output.written e.text) none.0)
    | inr memory ↦ absurd (let one = ap (λ (e : End). e.status) memory.0 in let two = written.status_is in omega (arith, one, two))
  ]
  | inr not ↦ absurd (let seven = not.0 in omega (arith, seven))
]

pub no_form : TwoHasNoForm
no_form words before now ends = (usage_end words before now ends).0

pub usage_told : TwoTellsUsage
usage_told words before now ends = (usage_end words before now ends).1

pub formless : NoFormEndsWithTwo
formless words before now status none (inr row) = absurd (none (one_asked words row.verb row.said row.ask row.quiet))
formless words before now status none (inl stop) = elim (written_or stop.end status before now stop.comes) [
  | inl written ↦ elim stop.lead [
    | inl usage ↦ inl (written.status_is ∙ ap (λ (e : End). e.status) usage.0)
    | inr memory ↦ absurd (none memory.1)
  ]
  | inr not ↦ inr not
]

-- the output
pub seven : QuietSevenHasCause
seven words before now (inr row) = seven_cause (row_of row.verb).form.parts (row_of row.verb).form.last (promise_of row.verb) (statuses_of row.verb) (sound_of row.verb) row.said before now row.runs
seven words before now (inl stop) = elim (written_or stop.end 7 before now stop.comes) [
  | inl written ↦ elim (words_status words stop.end stop.lead) [
    | inl two ↦ absurd (let is = written.status_is in omega (arith, is, two))
    | inr one ↦ absurd (let is = written.status_is in omega (arith, is, one))
  ]
  | inr not ↦ not.1
]

pub others : QuietWritesAll
others words before now status (inr row) other = write_all (row_of row.verb).form.parts (row_of row.verb).form.last (promise_of row.verb) row.said before now status row.runs other
others words before now status (inl stop) other = elim (written_or stop.end status before now stop.comes) [
  | inl written ↦ written.faults
  | inr not ↦ absurd (other not.0)
]

-- the files
pub leaves : QuietLeaves
leaves words before now status (inl stop) = record {
  sources = ap (λ (s : Snapshot). s.custody.sources.out) stop.files;
  sinks = ap (λ (s : Snapshot). s.custody.sinks.out) stop.files;
  disks = ap (λ (s : Snapshot). s.custody.disks.out) stop.files;
  unmade = λ none. ap (λ (s : Snapshot). s.custody.sinks) stop.files;
  others = λ name other opening. ap (λ (s : Snapshot). s.held name opening) stop.files;
  stay = λ not_3 not_7. ap (λ (s : Snapshot). s.faults) stop.files;
  rise = inl (ap (λ (s : Snapshot). s.faults) stop.files);
}
leaves words before now status (inr row) =
    let left = leave_all (row_of row.verb).form.parts (row_of row.verb).form.last (promise_of row.verb) (statuses_of row.verb) (sound_of row.verb) row.said before now status row.runs in
    record {
      sources = left.sources;
      sinks = left.sinks;
      disks = left.disks;
      unmade = λ none. left.unmade (none row.verb row.said row.ask);
      others = λ name other. left.others name (λ one. other (row.verb, row.said, row.ask, one));
      stay = left.stay;
      rise = left.rise;
    }

-- a replay that ends with 0
not_out : (before now : Moment) → RanOutAtWords before now 0 → ⊥
not_out before now out = elim (written_or out_of_memory 0 before now out.comes) [
  | inl written ↦ let is = written.status_is in omega (arith, is)
  | inr not ↦ let is = not.0 in omega (arith, is)
]

pub replay_shows : ReplayRowsShow → ReplaysShowHistories
replay_shows show words said plant script before now ask shown ends = elim (asked_runs words verbs.Replay said before now 0 ask refl ends) [
  | inl runs ↦ show said plant script before now shown runs
  | inr out ↦ absurd (not_out before now out)
]
