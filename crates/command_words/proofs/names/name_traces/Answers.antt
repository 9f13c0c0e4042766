use Rattle.std.proofs.Common.{arith}
use Rattle.std.proofs.lemmas.List.{length-map}
use Rattle.std.specs.String.{string_bytes}
use Rattle.command_words.proofs.names.name_traces.Goals as goal

pub returns-then-words-le-MAX_TRACES : goal.returns-then-words-le-MAX_TRACES
returns-then-words-le-MAX_TRACES c = (
  λ is. record {
    some = omega (arith, length-map c.args.words.now string_bytes);
    few = omega (arith, length-map c.args.words.now string_bytes);
    names = c.are_names.ensures.0 is;
  },
  λ named. c.are_names.ensures.1 named.names,
)
