-- The table of commands, and what the row of each promises.
use Rattle.std.specs.Prelude.{◌≡◌, ◌≢◌, ℕ, Bool, List, [], ◌∷◌, map, codes, true, false}
use Rattle.std.proofs.Common.{refl}
use Rattle.command_rows.specs.Row.{Promise}
use Rattle.command_rows.specs.Sound.{IsSound, IsSilent, Nothing}
use Rattle.command_rows.proofs.AloneLemmas.{nothing_sound}
use Rattle.command_check.proofs.LawLemmas as check
use Rattle.command_replay.proofs.LawLemmas as replay
use Rattle.command_audit.proofs.LawLemmas as audit
use Rattle.command_drill.proofs.LawLemmas as drill
use Rattle.command_stream.proofs.LawLemmas as stream
use Rattle.command_monitor.proofs.LawLemmas as monitor
use Rattle.command_format.proofs.LawLemmas as format
use Rattle.command_keep.proofs.SoundLemmas as keep
use Rattle.command_standby.proofs.LawLemmas as standby
use Rattle.command_drive.proofs.LawLemmas as drive
use Rattle.commands.specs.declared.rows.Verb.{Verb}
use Rattle.commands.specs.declared.rows.Verb.TheVariants.{Check, Replay, Audit, Serve, Drill, Stream, Monitor, Format, Keep, Standby, Drive}
use Rattle.command_words.specs.Parts.{FileKind, AtLeast, AsBefore, Part, Plant, Whole, Made, Store, Later, Number, Last, NoMore, Wholes, Prefix, Form}
use Rattle.command_words.specs.Table.{Ask, Line, SaidFor}
use Rattle.command_rows.specs.Kinds.{script, trace}
use Rattle.command_monitor.specs.Monitor.{recording, MonitorRow}
use Rattle.command_check.specs.Check.{CheckRow}
use Rattle.command_replay.specs.Replay.{ReplayRow}
use Rattle.command_audit.specs.Audit.{AuditRow}
use Rattle.command_drill.specs.Drill.{DrillRow}
use Rattle.command_stream.specs.Stream.{StreamRow}
use Rattle.command_format.specs.Format.{FormatRow}
use Rattle.command_keep.specs.Keep.{KeepRow}
use Rattle.command_standby.specs.Standby.{StandbyRow}
use Rattle.command_drive.specs.DriveRow.{DriveRow}

-- What stands in the table of a command: its first word, its form, and what the usage line calls the words behind the first.
pub record Row : Type 0 where
  pub name : List ℕ
  pub form : Form
  pub words : List (List ℕ)

-- of one that waits for nobody, and of one that waits for others
abbrev pub quiet : List ℕ → List Part → Last → List (List ℕ) → Row
quiet name parts last words =
    record {
      name = name;
      form = record { parts = parts; last = last; is_quiet = true };
      words = words;
    }

abbrev pub waiting : List ℕ → List Part → Last → List (List ℕ) → Row
waiting name parts last words =
    record {
      name = name;
      form = record { parts = parts; last = last; is_quiet = false };
      words = words;
    }

-- the commands, in the order of the usage line
abbrev pub verbs : List Verb
verbs =
    Check ∷ Replay ∷ Audit ∷ Serve ∷ Drill ∷ Stream ∷ Monitor ∷ Format ∷ Keep ∷ Standby ∷ Drive
    ∷ []

-- the row of each
abbrev pub row_of : Verb → Row
row_of Check = quiet (codes "check") (Plant ∷ []) NoMore (codes "PLANT" ∷ [])
row_of Replay = quiet (codes "replay") (Plant ∷ Whole script ∷ []) NoMore
    (codes "PLANT" ∷ codes "SCRIPT" ∷ [])
row_of Audit = quiet (codes "audit") (Plant ∷ []) (Wholes trace)
    (codes "PLANT" ∷ codes "TRACE.." ∷ [])
row_of Serve = waiting (codes "serve") (Plant ∷ []) Prefix
    (codes "PLANT" ∷ codes "[PREFIX]" ∷ [])
row_of Drill = waiting (codes "drill")
    (Number (AtLeast 0) 4294967295 ∷ Number (AtLeast 1) 16 ∷ Number AsBefore 200000 ∷ []) NoMore
    (codes "NUMBER" ∷ codes "PANELS" ∷ codes "MESSAGES" ∷ [])
row_of Stream = quiet (codes "stream") (Plant ∷ Whole script ∷ Made ∷ []) NoMore
    (codes "PLANT" ∷ codes "SCRIPT" ∷ codes "OUT" ∷ [])
row_of Monitor = quiet (codes "monitor") (Whole recording ∷ []) NoMore (codes "FILE" ∷ [])
row_of Format = quiet (codes "format") (Plant ∷ Store ∷ []) NoMore
    (codes "PLANT" ∷ codes "STORE" ∷ [])
row_of Keep = quiet (codes "keep") (Plant ∷ Store ∷ Later script ∷ []) NoMore
    (codes "PLANT" ∷ codes "STORE" ∷ codes "SCRIPT" ∷ [])
row_of Standby = quiet (codes "standby") (Plant ∷ []) (Wholes trace)
    (codes "PLANT" ∷ codes "TRACE.." ∷ [])
row_of Drive = quiet (codes "drive")
    (Number (AtLeast 0) 4294967295 ∷ Number (AtLeast 1) 100000 ∷ []) NoMore
    (codes "NUMBER" ∷ codes "WANTS" ∷ [])

-- What the row of each promises. `serve` asks the net too, and its ends stand apart.
abbrev pub promise_of : (verb : Verb) → Promise (row_of verb).form.parts (row_of verb).form.last
promise_of Check = CheckRow
promise_of Replay = ReplayRow
promise_of Audit = AuditRow
promise_of Serve = Nothing (row_of Serve).form.parts (row_of Serve).form.last
promise_of Drill = DrillRow
promise_of Stream = StreamRow
promise_of Monitor = MonitorRow
promise_of Format = FormatRow
promise_of Keep = KeepRow
promise_of Standby = StandbyRow
promise_of Drive = DriveRow

-- the statuses that each may have of its own, once its inputs are opened, if all is written
abbrev pub statuses_of : Verb → List ℕ
statuses_of Check = 0 ∷ 1 ∷ []
statuses_of Replay = 0 ∷ 1 ∷ 5 ∷ []
statuses_of Audit = 0 ∷ 1 ∷ 5 ∷ 6 ∷ []
statuses_of Serve = []
statuses_of Drill = 0 ∷ 1 ∷ []
statuses_of Stream = 0 ∷ 1 ∷ 3 ∷ 5 ∷ []
statuses_of Monitor = 0 ∷ 1 ∷ []
statuses_of Format = 0 ∷ 3 ∷ []
statuses_of Keep = 0 ∷ 1 ∷ 3 ∷ 5 ∷ []
statuses_of Standby = 0 ∷ 1 ∷ 5 ∷ 6 ∷ []
statuses_of Drive = 0 ∷ 1 ∷ []

-- So the promise of each is sound.
pub sound_of : (verb : Verb) → IsSound (row_of verb).form.parts (row_of verb).form.last
    (promise_of verb) (statuses_of verb)
sound_of Check = check.sound
sound_of Replay = replay.sound
sound_of Audit = audit.sound
sound_of Serve = nothing_sound
sound_of Drill = drill.sound
sound_of Stream = stream.sound
sound_of Monitor = monitor.sound
sound_of Format = format.sound
sound_of Keep = keep.sound
sound_of Standby = standby.sound
sound_of Drive = drive.sound

-- And none says more than that memory ran out, where it did, but for `keep`, which writes as it goes.
pub silent_of : (verb : Verb) → verb ≢ Keep
    → IsSilent (row_of verb).form.parts (row_of verb).form.last (promise_of verb)
silent_of Check other = check.silent
silent_of Replay other = replay.silent
silent_of Audit other = audit.silent
silent_of Serve other = λ given before now end status ends one. absurd ends
silent_of Drill other = drill.silent
silent_of Stream other = stream.silent
silent_of Monitor other = monitor.silent
silent_of Format other = format.silent
silent_of Keep other = absurd (other refl)
silent_of Standby other = standby.silent
silent_of Drive other = drive.silent

abbrev pub line_of : Verb → Line Verb
line_of verb = record {
  verb = verb;
  name = (row_of verb).name;
  form = (row_of verb).form;
  words = (row_of verb).words;
}

-- the table
abbrev pub table : List (Line Verb)
table = map line_of verbs

-- what words say behind the name of a command
abbrev pub SaidOf : Verb → Type 0
SaidOf verb = SaidFor (line_of verb)

-- The words ask for this command, and say this behind its name.
abbrev pub AskFor : List (List ℕ) → (verb : Verb) → SaidOf verb → Type 0
AskFor words verb said = Ask table words (line_of verb) said

-- The words ask for this quiet command, or for this one that waits, and these stand behind its name.
pub record AsksFor (is_quiet : Bool) (words : List (List ℕ)) (verb : Verb)
    (behind : List (List ℕ)) : Type 0 where
  pub quiet : (row_of verb).form.is_quiet ≡ is_quiet
  pub said : SaidOf verb
  pub ask : AskFor words verb said
  pub behind_is : ask.behind ≡ behind
