use Rattle.std.proofs.Common.{arith}
use Rattle.std.proofs.lemmas.List.{length-map}
use Rattle.std.specs.String.{string_bytes}
use Rattle.command_words.specs.Words.{texts}
use Rattle.command_words.proofs.PartsLemmas.{few_names}
use Rattle.command_words.proofs.parts.are_few_names.Goals as goal

pub returns-then-words-le1 : goal.returns-then-words-le1
returns-then-words-le1 c =
    few_names (texts c.args.words.now) c.are_names.result (omega (arith, c.if-words-le1.true, length-map c.args.words.now string_bytes)) c.are_names.ensures
