use Rattle.std.proofs.Common.{List, ◌++◌, ap, ◌∙◌}
use Rattle.state_store.specs.Slots.{number_of, text_of}
use Rattle.state_store.proofs.EntryLemmas.{number_leads, text_follows}
use Rattle.state_store.proofs.entry.number_bytes.Goals as goal

pub returns-clause-number : goal.returns-clause-number
returns-clause-number c = λ text. ap (λ (b : List _). number_of (b ++ text)) c.to_le_bytes.ensures ∙ number_leads c.args.number text c.ranges.number.fits

pub returns-clause-text : goal.returns-clause-text
returns-clause-text c = λ text. ap (λ (b : List _). text_of (b ++ text)) c.to_le_bytes.ensures ∙ text_follows c.args.number text
