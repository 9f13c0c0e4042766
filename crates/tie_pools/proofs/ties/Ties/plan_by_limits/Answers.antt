use Rattle.std.proofs.Common.{◌≡◌, Some, None, sym, ap, subst, ◌∙◌}
use Rattle.std.specs.Prelude.{Option}
use Rattle.tie_pools.specs.Counts.{Counts, AreCountsOf}
use Rattle.tie_pools.specs.DemandInside.{AreDemandOf, in_use_of, over}
use Rattle.tie_pools.specs.ReserveInside.{lower_of, lowest_over}
use Rattle.tie_pools.specs.declared.planned.Exhausted.{Exhausted}
use Rattle.tie_pools.proofs.ExceededLemmas.{none_exceeded, found_exhausted}
use Rattle.tie_pools.proofs.ties.Ties.plan_by_limits.Goals as goal
use Rattle.tie_pools.proofs.ties.Ties.plan_by_limits.Goals.{in-Some, in-None}

pub returns-clause-permitted : goal.returns-clause-permitted
returns-clause-permitted c =
    let counts = subst (λ (counts : Counts). AreCountsOf c.args.plant.now c.args.points.now.entries counts) (sym c.self.view_is) c.requires.counts in
    let before : AreDemandOf c.args.plant.now c.args.points.now.entries c.self.inside.demand = record { room = record { fed = counts.room.fed; used = counts.room.used; sizes = counts.room.sizes }; fed = counts.fed; used = counts.used } in
    elim c.match-lower_of.branch [
      | in-Some w ↦ rw w.result-is tt
      | in-None w ↦
          let none : None ≡ lower_of (lowest_over c.args.plant.now c.put_in.new.demand c.limits_of-limits.result None c.args.changes.now) (over (in_use_of c.put_in.new.demand)) =
          w.in-None.ensures ∙ ap (λ (held : Option Exhausted). lower_of held c.over-over.result) c.lowest_over-held.ensures ∙ ap (λ (over : Option Exhausted). lower_of (lowest_over c.args.plant.now c.put_in.new.demand c.limits_of-limits.result None c.args.changes.now) over) c.over-over.ensures in
          rw w.result-is (none_exceeded c.args.plant.now c.args.points.now.entries c.args.changes.now c.self.inside.demand c.put_in.new.demand c.limits_of-limits.result c.requires.plant c.requires.dests before c.put_in.ensures c.limits_of-limits.ensures none)
    ]

pub returns-clause-exhausted : goal.returns-clause-exhausted
returns-clause-exhausted c =
    let counts = subst (λ (counts : Counts). AreCountsOf c.args.plant.now c.args.points.now.entries counts) (sym c.self.view_is) c.requires.counts in
    let before : AreDemandOf c.args.plant.now c.args.points.now.entries c.self.inside.demand = record { room = record { fed = counts.room.fed; used = counts.room.used; sizes = counts.room.sizes }; fed = counts.fed; used = counts.used } in
    elim c.match-lower_of.branch [
      | in-Some w ↦
          let found : Some w.in-Some.fault ≡ lower_of (lowest_over c.args.plant.now c.put_in.new.demand c.limits_of-limits.result None c.args.changes.now) (over (in_use_of c.put_in.new.demand)) =
          w.in-Some.ensures ∙ ap (λ (held : Option Exhausted). lower_of held c.over-over.result) c.lowest_over-held.ensures ∙ ap (λ (over : Option Exhausted). lower_of (lowest_over c.args.plant.now c.put_in.new.demand c.limits_of-limits.result None c.args.changes.now) over) c.over-over.ensures in
          rw w.result-is (found_exhausted c.args.plant.now c.args.points.now.entries c.args.changes.now c.self.inside.demand c.put_in.new.demand c.limits_of-limits.result c.requires.plant c.requires.dests before c.put_in.ensures c.limits_of-limits.ensures w.in-Some.fault found)
      | in-None w ↦ rw w.result-is tt
    ]
