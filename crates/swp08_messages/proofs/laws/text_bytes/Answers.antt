use Rattle.swp08_messages.proofs.SpelledLemmas.{All-text}
use Rattle.swp08_messages.proofs.laws.text_bytes.Goals as goal

pub returns-clause-bytes : goal.returns-clause-bytes
returns-clause-bytes c = All-text
