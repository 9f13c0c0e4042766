use Rattle.std.proofs.Common.{ap}
use Rattle.command_words.specs.ReadParts.{low_as, part_as}
use Rattle.command_words.proofs.PartsLemmas.{is_named, name_found, number_found, number_only}
use Rattle.command_words.proofs.parts.say_part.Goals as goal

pub returns-in-Number-clause-found : goal.returns-in-Number-clause-found
returns-in-Number-clause-found c =
    number_found c.args.before (part_as c.args.part) c.args.word.now (low_as c.in-Number.low) c.in-Number.most c.least.result (ap part_as c.in-Number.is) c.least.ensures
    c.read_number.result c.read_number.ensures.found

pub returns-in-Number-clause-only : goal.returns-in-Number-clause-only
returns-in-Number-clause-only c =
    number_only c.args.before (part_as c.args.part) c.args.word.now (low_as c.in-Number.low) c.in-Number.most c.least.result (ap part_as c.in-Number.is) c.least.ensures
    c.read_number.result c.read_number.ensures.only

pub returns-in-Plant-clause-found : goal.returns-in-Plant-clause-found
returns-in-Plant-clause-found c = name_found c.args.before (part_as c.args.part) c.args.word.now c.say_name.result (ap (λ p. is_named (part_as p)) c.in-Plant.is) c.say_name.ensures.found

pub returns-in-Whole-clause-found : goal.returns-in-Whole-clause-found
returns-in-Whole-clause-found c =
    name_found c.args.before (part_as c.args.part) c.args.word.now c.say_name-in-Whole.result (ap (λ p. is_named (part_as p)) c.in-Whole.is) c.say_name-in-Whole.ensures.found

pub returns-in-Made-clause-found : goal.returns-in-Made-clause-found
returns-in-Made-clause-found c =
    name_found c.args.before (part_as c.args.part) c.args.word.now c.say_name-in-Made.result (ap (λ p. is_named (part_as p)) c.in-Made.is) c.say_name-in-Made.ensures.found

pub returns-in-Store-clause-found : goal.returns-in-Store-clause-found
returns-in-Store-clause-found c =
    name_found c.args.before (part_as c.args.part) c.args.word.now c.say_name-in-Store.result (ap (λ p. is_named (part_as p)) c.in-Store.is) c.say_name-in-Store.ensures.found

pub returns-in-Later-clause-found : goal.returns-in-Later-clause-found
returns-in-Later-clause-found c =
    name_found c.args.before (part_as c.args.part) c.args.word.now c.say_name-in-Later.result (ap (λ p. is_named (part_as p)) c.in-Later.is) c.say_name-in-Later.ensures.found
