-- The kinds of files that more than one command reads whole.
use Rattle.std.specs.Prelude.{codes}
use Rattle.command_words.specs.Parts.{FileKind}

-- a script, at most 64 MiB
abbrev pub script : FileKind
script = record { word = codes "script"; longest = 67108864 }

-- traces, at most 256 MiB together
abbrev pub trace : FileKind
trace = record { word = codes "trace"; longest = 268435456 }
