use Rattle.std.proofs.Common.{◌≡◌, take, drop, map}
use Rattle.std.specs.BTreeSet.{contains}
use Rattle.plant_rules.specs.Rules.{is_among}
use Rattle.plant_rules.specs.RulesInside.{first_twice, first_twice_from}
use Rattle.plant_rules.proofs.twice.first_repeat.Given as goal

abbrev pub invariant-loop-at : goal.invariant-loop-at
invariant-loop-at g l = record {
  seen : (entry : _) → contains g.T.Key.Ord.cmp l.seen (g.T.Keyed.key_of entry) ≡ is_among (map g.T.Keyed.numbers_of (take l.at l.entries)) (g.T.Keyed.numbers_of entry);
  rest : first_twice (map g.T.Keyed.numbers_of l.entries) ≡ first_twice_from (map g.T.Keyed.numbers_of (take l.at l.entries)) (map g.T.Keyed.numbers_of (drop l.at l.entries));
}
