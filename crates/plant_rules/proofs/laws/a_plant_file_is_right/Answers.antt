use Rattle.plant_rules.proofs.FileRules.{IsFile-file_of_text}
use Rattle.plant_rules.proofs.laws.a_plant_file_is_right.Goals as goal

pub returns : goal.returns
returns c text file is = IsFile-file_of_text text file is
