use Rattle.std.proofs.Common.{ap}
use Rattle.command_words.specs.ReadParts.{kind_as, last_as}
use Rattle.command_words.specs.Words.{texts}
use Rattle.command_words.proofs.PartsLemmas.{names_last, prefix_last}
use Rattle.command_words.proofs.parts.can_say_last.Goals as goal

pub returns-in-Wholes : goal.returns-in-Wholes
returns-in-Wholes c = names_last (last_as c.args.last) (kind_as c.in-Wholes.field-0) (texts c.args.words.now) c.name_traces.result (ap last_as c.in-Wholes.is) c.name_traces.ensures

pub returns-in-Prefix : goal.returns-in-Prefix
returns-in-Prefix c = prefix_last (last_as c.args.last) (texts c.args.words.now) c.are_few_names.result (ap last_as c.in-Prefix.is) c.are_few_names.ensures
