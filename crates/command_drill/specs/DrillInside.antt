-- What words ask of a drill, and how the code tells what it came to.
use Rattle.std.specs.Prelude.{◌≡◌, ◌⊎◌, ℕ, List}
use Rattle.command_words.specs.Parts.{NoMore, AllSaid, AllSay}
use Rattle.command_rows.specs.End.{End, done, out_of_memory}
use Rattle.command_drill.specs.declared.asked.Drill.{Drill}
use Rattle.command_drill.specs.Drill.{parts, drill_of, drill_lines}

-- Words ask for this drill, whatever they say.
abbrev pub AskFor : List (List ℕ) → Drill → Type 0
AskFor words drill = (said : AllSaid parts NoMore) → AllSay 0 parts NoMore words said
    → drill ≡ drill_of said.0 said.1.0 said.1.1.0

-- The telling of what a drill came to ends so.
abbrev pub TellsEnds : ℕ → ℕ → ℕ → ℕ → ℕ → End → Type 0
TellsEnds panels messages acks naks sessions end = (end ≡ out_of_memory)
    ⊎ (end ≡ done (drill_lines panels messages acks naks sessions))
