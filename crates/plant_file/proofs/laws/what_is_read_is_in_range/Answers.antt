use Rattle.plant_file.proofs.TextRanges.{AreInRange-data_of_text}
use Rattle.plant_file.proofs.laws.what_is_read_is_in_range.Goals as goal

pub returns : goal.returns
returns c text file is = AreInRange-data_of_text text file is
