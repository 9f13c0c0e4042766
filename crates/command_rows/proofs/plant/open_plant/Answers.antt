use Rattle.std.proofs.Common.{sym, refl}
use Rattle.command_rows.proofs.OpensLemmas.{match_true, match_false}
use Rattle.command_rows.proofs.plant.open_plant.Goals as goal

pub returns-in-Ok : goal.returns-in-Ok
returns-in-Ok g c = match_true _ _ _ (sym c.if-is_bench.ensures) (c.in-Ok.ensures, refl)

pub returns-in-Err : goal.returns-in-Err
returns-in-Err g c = match_true _ _ _ (sym c.if-is_bench.ensures) (tt, refl)

pub returns-else-is_bench : goal.returns-else-is_bench
returns-else-is_bench g c = match_false _ _ _ (sym c.if-is_bench.ensures) c.read_plant.ensures
