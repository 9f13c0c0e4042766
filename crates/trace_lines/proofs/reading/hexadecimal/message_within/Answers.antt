use Rattle.swp08_messages.specs.Text.{text}
use Rattle.swp08_messages.proofs.SpelledLemmas.{All-text}
use Rattle.trace_lines.proofs.reading.hexadecimal.message_within.Goals as goal

pub returns-in_default-clause-only : goal.returns-in_default-clause-only
returns-in_default-clause-only c = λ message is.
    c.in_default.ensures.only message is.for_plant.1 (c.decode.ensures.only (text message) (All-text message is.for_plant.1) is.text_is)

pub returns-in-Plant-clause-only : goal.returns-in-Plant-clause-only
returns-in-Plant-clause-only c = λ message is.
    c.in-Some.ensures.only message is.for_plant.1 (c.decode.ensures.only (text message) (All-text message is.for_plant.1) is.text_is)
