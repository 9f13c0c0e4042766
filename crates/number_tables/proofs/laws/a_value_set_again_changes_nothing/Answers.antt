use Rattle.number_tables.proofs.PutLemmas.{put-get}
use Rattle.number_tables.proofs.laws.a_value_set_again_changes_nothing.Goals as goal

pub returns : goal.returns
returns g c = put-get
