use Rattle.std.proofs.Common.{◌≡◌, ◌==◌, true, length, List, sym, ap, subst, ◌∙◌, eqb-true}
use Rattle.std.specs.Prelude.{IfOk, IfErr}
use Rattle.plant_config.specs.declared.records.Pool.{Pool}
use Rattle.tie_pools.specs.Reserve.{are_enough_for}
use Rattle.tie_pools.specs.Plans.{IsExhausted}
use Rattle.tie_pools.proofs.OverLemmas.{enough_without_pools}
use Rattle.tie_pools.proofs.AllTiesLemmas.{uses_all-is, no_master, enough_all, out_exhausted, enough_at_all, enough_for_without_pools, ok_then, err_then}
use Rattle.tie_pools.proofs.ties.Ties.plan.Goals as goal

pub returns-then-is_empty-clause-permitted : goal.returns-then-is_empty-clause-permitted
returns-then-is_empty-clause-permitted c =
    let none : (length c.pools.result.now == 0) ≡ true = cc in
    enough_for_without_pools c.args.plant.now c.args.points.now.entries c.args.master c.args.changes.now
    (ap (λ (pools : List Pool). length pools) (sym c.pools.ensures.pools) ∙ eqb-true (length c.pools.result.now) 0 none)

pub returns-then-is_empty-clause-enough : goal.returns-then-is_empty-clause-enough
returns-then-is_empty-clause-enough c =
    let none : (length c.pools.result.now == 0) ≡ true = cc in
    enough_without_pools c.args.plant.now c.args.points.now.entries c.args.changes.now
    (ap (λ (pools : List Pool). length pools) (sym c.pools.ensures.pools) ∙ eqb-true (length c.pools.result.now) 0 none)

pub returns-then-uses_all-clause-permitted : goal.returns-then-uses_all-clause-permitted
returns-then-uses_all-clause-permitted c =
    let uses = uses_all-is c.args.plant.now c.args.master (sym c.uses_all.ensures ∙ c.if-uses_all.true) in
    ok_then (λ planned enough. enough_all c.args.plant.now c.args.points.now.entries c.args.master c.args.changes.now uses ∙ enough) c.plan_by_ties.result c.plan_by_ties.ensures.enough

pub returns-then-uses_all-clause-exhausted : goal.returns-then-uses_all-clause-exhausted
returns-then-uses_all-clause-exhausted c =
    let uses = uses_all-is c.args.plant.now c.args.master (sym c.uses_all.ensures ∙ c.if-uses_all.true) in
    err_then (out_exhausted c.args.plant.now c.args.points.now.entries c.args.master c.args.changes.now uses) c.plan_by_ties.result c.plan_by_ties.ensures.out

pub returns-clause-permitted : goal.returns-clause-permitted
returns-clause-permitted c =
    let panel = no_master c.args.plant.now c.args.master (sym c.uses_all.ensures ∙ c.if-uses_all.false) in
    subst (λ master. IfOk c.plan_by_limits.result (λ planned. are_enough_for c.args.plant.now c.args.points.now.entries master c.args.changes.now ≡ true)) (sym panel) c.plan_by_limits.ensures.permitted

pub returns-clause-enough : goal.returns-clause-enough
returns-clause-enough c =
    ok_then (λ planned enough. enough_at_all c.args.plant.now c.args.points.now.entries c.args.changes.now enough) c.plan_by_limits.result c.plan_by_limits.ensures.permitted

pub returns-clause-exhausted : goal.returns-clause-exhausted
returns-clause-exhausted c =
    let panel = no_master c.args.plant.now c.args.master (sym c.uses_all.ensures ∙ c.if-uses_all.false) in
    subst (λ master. IfErr c.plan_by_limits.result (IsExhausted c.args.plant.now c.args.points.now.entries master c.args.changes.now)) (sym panel) c.plan_by_limits.ensures.exhausted
