use Rattle.std.specs.Prelude.{map}
use Rattle.command_words.specs.ReadParts.{last_as, part_as}
use Rattle.command_words.specs.Words.{texts}
use Rattle.command_words.proofs.PartsLemmas.{IsRead}
use Rattle.command_words.proofs.parts.can_say.Given as goal

abbrev pub invariant-loop-index : goal.invariant-loop-index
invariant-loop-index l = IsRead l.before l.index (map part_as l.parts) (last_as l.last) (texts l.words)
