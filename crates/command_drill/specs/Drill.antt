-- The command `drill`: what is given for its form, what it writes, what stands behind that, and how it may end.
use Rattle.std.specs.Prelude.{◌≡◌, ◌⊎◌, ℕ, ◌*◌, ◌<◌, ◌≤◌, ◌^◌, List, [], ◌∷◌, ◌++◌, All, length, codes}
use Rattle.std.specs.Fmt.{decimal}
use Rattle.line_text.specs.Lines.{lines}
use Rattle.plant_config.specs.DrillPlant.{drill_plant}
use Rattle.panel_session.specs.Entry.{PlantEntry}
use Rattle.trace_audit.specs.declared.verdict.Verdict.TheVariants.{Confirmed}
use Rattle.trace_audit.specs.Laws.{AreLinesOf, IsTraceable}
use Rattle.trace_audit.specs.Verdict.{IsVerdict}
use Rattle.drill.specs.Drilled.{FitsItsStream, share_of, stream_tells, told_by}
use Rattle.drill.specs.Stream.{bad_among, good_among}
use Rattle.command_words.specs.Parts.{Part, Number, AtLeast, AsBefore, NoMore}
use Rattle.command_rows.specs.Lines.{line}
use Rattle.command_rows.specs.End.{End, done, out_of_memory}
use Rattle.command_rows.specs.Row.{Promise, Alone}
use Rattle.command_drill.specs.declared.asked.Drill.{Drill}

-- the parts of its form: a number from which the drill is made, how many panels it has, and how many messages they send together
abbrev pub parts : List Part
parts = Number (AtLeast 0) 4294967295 ∷ Number (AtLeast 1) 16 ∷ Number AsBefore 200000 ∷ []

-- the lines on a drill whose history was confirmed, with how many panels it had, how many messages they sent, how many of these
-- were answered by ACK and how many by NAK, and how many sessions there were
abbrev pub drill_lines : ℕ → ℕ → ℕ → ℕ → ℕ → List ℕ
drill_lines panels messages acks naks sessions =
    line (codes "panels " ++ decimal panels) ++ line (codes "messages " ++ decimal messages)
    ++ line (codes "acks " ++ decimal acks) ++ line (codes "naks " ++ decimal naks)
    ++ line (codes "sessions " ++ decimal sessions) ++ line (codes "history confirmed")

-- how many messages each panel of a drill sends
abbrev pub each_sends : Drill → ℕ
each_sends drill = share_of drill.messages drill.panels

-- The lines of a drill. They don't depend on its number: each panel sends as many messages, and of each hundred a bad one.
abbrev pub drill_text : Drill → List ℕ
drill_text drill =
    drill_lines drill.panels (drill.panels * each_sends drill)
    (drill.panels * good_among (each_sends drill))
    (drill.panels * bad_among (each_sends drill)) drill.panels

-- A history is that of a drill: it is one of the drill's plant from its start, its entries are those of the drill's panels, and
-- each panel told the plant the messages of its good frames, in order, in a session that read all that the panel sent.
pub record IsHistoryOf (drill : Drill) (history : List PlantEntry) : Type 0 where
  pub traceable : IsTraceable (drill_plant drill.panels) history
  pub few : length history ≤ 2 ^ 62
  pub by_panels : All (λ entry. entry.seat < drill.panels) history
  pub entries : (panel : ℕ) → panel < drill.panels
      → FitsItsStream drill.number panel (each_sends drill) history
  pub told : (panel : ℕ) → panel < drill.panels
      → told_by panel history ≡ stream_tells drill.number panel (each_sends drill)

-- A trace is that of a drill: its lines are those of a history of the drill, each once, and its audit confirms as many.
pub record IsTraceOf (drill : Drill) (trace : List ℕ) : Type 0 where
  pub history : List PlantEntry
  pub is_history : IsHistoryOf drill history
  pub all : AreLinesOf (drill_plant drill.panels) history (lines trace)
  pub confirmed :
      IsVerdict (drill_plant drill.panels) (lines trace) (Confirmed (length history))

-- The drill ends so: with exactly its lines, and there is a trace of it, or without memory. That trace needn't be the one that the
-- run made, which stays in its memory: that there is one follows from the drill's numbers alone.
abbrev pub DrillEnds : Drill → End → Type 0
DrillEnds drill end = (end ≡ out_of_memory)
    ⊎ ((end ≡ done (drill_text drill)) × ((trace : List ℕ) × IsTraceOf drill trace))

-- the drill of these three numbers
abbrev pub drill_of : ℕ → ℕ → ℕ → Drill
drill_of number panels messages =
    record { number = number; panels = panels; messages = messages }

-- What it promises of the numbers that are given. It leaves the files alone.
abbrev pub DrillRow : Promise parts NoMore
DrillRow = Alone parts NoMore (λ given. DrillEnds (drill_of given.0 given.1.0 given.1.1.0))
