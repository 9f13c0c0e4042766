use Rattle.std.proofs.Common.{◌≡◌, Some, None}
use Rattle.tie_pools.specs.DemandInside.{in_use_of, over}
use Rattle.tie_pools.proofs.OverLemmas.{exhausted_where_over, enough_where_none_over}
use Rattle.tie_pools.proofs.ties.Ties.plan_by_ties.Goals as goal
use Rattle.tie_pools.proofs.ties.Ties.plan_by_ties.Goals.{in-Some, in-None}

pub returns-clause-enough : goal.returns-clause-enough
returns-clause-enough c =
    elim c.match-over.branch [
      | in-Some w ↦ rw w.result-is tt
      | in-None w ↦
          let none : over (in_use_of c.put_in.new.demand) ≡ None = cc in
          rw w.result-is (enough_where_none_over c.args.plant.now c.args.points.now.entries c.args.changes.now c.put_in.new.demand c.put_in.ensures none)
    ]

pub returns-clause-out : goal.returns-clause-out
returns-clause-out c =
    elim c.match-over.branch [
      | in-Some w ↦
          let found : over (in_use_of c.put_in.new.demand) ≡ Some w.in-Some.fault = cc in
          rw w.result-is (exhausted_where_over c.args.plant.now c.args.points.now.entries c.args.changes.now c.put_in.new.demand c.put_in.ensures w.in-Some.fault found)
      | in-None w ↦ rw w.result-is tt
    ]
