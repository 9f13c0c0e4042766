use Rattle.number_tables.proofs.PutLemmas.{get-put_same, get-put_other}
use Rattle.number_tables.proofs.laws.sets_change_one_number.Goals as goal

pub returns : goal.returns
returns g c entries number value = record {
  here = get-put_same entries number value;
  others = get-put_other entries number value;
}
