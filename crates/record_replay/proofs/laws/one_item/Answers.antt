use Rattle.dle_framing.proofs.LawLemmas.{reads_one}
use Rattle.swp08_messages.specs.Text.{text}
use Rattle.swp08_messages.proofs.SpelledLemmas.{Spells-text}
use Rattle.swp08_messages.proofs.ReadingLemmas.{one_message}
use Rattle.record_replay.proofs.MessageFrames.{IsData-text}
use Rattle.record_replay.proofs.laws.one_item.Goals as goal

pub returns-clause-item : goal.returns-clause-item
returns-clause-item c = λ message in_range. reads_one (text message) (IsData-text message)

pub returns-clause-own : goal.returns-clause-own
returns-clause-own c = Spells-text

pub returns-clause-only : goal.returns-clause-only
returns-clause-only c = λ message other in_range spells. one_message (text message) other message spells (Spells-text message in_range)
