use Rattle.std.proofs.Common.{◌≡◌, true}
use Rattle.std.specs.List.{range_with_len, list_all}
use Rattle.plant_core.specs.StateFault.{shares_by_origin}
use Rattle.plant_core.proofs.in_place.all_share_by_origin.Given as goal

abbrev pub invariant-loop-earlier : goal.invariant-loop-earlier
invariant-loop-earlier l = list_all (shares_by_origin l.plant l.bytes l.dest) (range_with_len 0 l.earlier) ≡ true
