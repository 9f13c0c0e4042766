use Rattle.std.proofs.Common.{take}
use Rattle.std.specs.Prelude.{All}
use Rattle.std.specs.String.{string_bytes}
use Rattle.command_words.specs.Words.{IsFileName}
use Rattle.command_words.proofs.names.are_names.Given as goal

abbrev pub invariant-loop-word : goal.invariant-loop-word
invariant-loop-word l = All (λ word. IsFileName (string_bytes word)) (take l.word-index l.words)
