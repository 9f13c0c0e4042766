use Rattle.plant_file.proofs.TextRanges.{answer-in-range}
use Rattle.plant_file.proofs.read.document.read_text.Goals as goal

pub returns-clause-ranges : goal.returns-clause-ranges
returns-clause-ranges c = answer-in-range _ c.read_document.result c.read_document.ensures
