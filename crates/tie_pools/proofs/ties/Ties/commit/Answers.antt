use Rattle.std.proofs.Common.{◌≡◌, ◌==◌, true, length, List, sym, ap, subst, ◌∙◌, eqb-true}
use Rattle.plant_config.specs.declared.records.Pool.{Pool}
use Rattle.crosspoint_state.specs.Ties.{HaveValidTies}
use Rattle.tie_pools.proofs.WithoutPools.{counts_of_any, applied_valid, applied_put_all}
use Rattle.tie_pools.proofs.ties.Ties.commit.Goals as goal

-- the plant has no pools
without : (pools its : List Pool) → pools ≡ its → (length pools == 0) ≡ true → length its ≡ 0
without pools its are none = ap (λ (pools : List Pool). length pools) (sym are) ∙ eqb-true (length pools) 0 none

pub returns-then-is_empty-clause-made : goal.returns-then-is_empty-clause-made
returns-then-is_empty-clause-made c =
    let none : (length c.pools.result.now == 0) ≡ true = cc in
    c.put_all.ensures.made
    ∙ sym (applied_put_all c.args.plant.now c.pools.ensures.plant (without c.pools.result.now c.args.plant.now.pools c.pools.ensures.pools none) c.args.points.now.entries c.args.changes.now c.requires.once c.requires.dests c.requires.valid c.requires.enough)

pub returns-then-is_empty-clause-counts : goal.returns-then-is_empty-clause-counts
returns-then-is_empty-clause-counts c =
    let none : (length c.pools.result.now == 0) ≡ true = cc in
    counts_of_any c.args.plant.now c.pools.ensures.plant (without c.pools.result.now c.args.plant.now.pools c.pools.ensures.pools none) c.args.points.now.entries c.put_all.new.points.entries c.args.self.now c.requires.counts

pub returns-then-is_empty-clause-valid : goal.returns-then-is_empty-clause-valid
returns-then-is_empty-clause-valid c =
    let none : (length c.pools.result.now == 0) ≡ true = cc in
    subst (HaveValidTies c.args.plant.now) (sym (returns-then-is_empty-clause-made c))
    (applied_valid c.args.plant.now c.pools.ensures.plant (without c.pools.result.now c.args.plant.now.pools c.pools.ensures.pools none) c.args.points.now.entries c.args.changes.now c.requires.once c.requires.dests c.requires.valid c.requires.enough)
