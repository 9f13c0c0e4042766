use Rattle.std.proofs.Common.{◌≡◌, false, [], ◌∷◌}
use Rattle.std.proofs.lemmas.Result.{IfErr-weaker}
use Rattle.tie_pools.specs.Reserve.{are_enough_for}
use Rattle.tie_pools.specs.Plans.{IsExhausted}
use Rattle.plant_core.specs.State.{is_master}
use Rattle.plant_core.proofs.Changes.{once-one, inside-one}
use Rattle.plant_core.proofs.Outcomes.{too_few}
use Rattle.plant_core.proofs.state.PlantState.plan.Goals as goal

pub plan-requires : goal.plan-requires
plan-requires c =
    let is = rw (← c.self.view_is) at c.requires in
    record {
      dests = rw c.from_ref-changes.ensures.value (inside-one c.self.inside.plant c.args.change.now is.dest);
      once = rw c.from_ref-changes.ensures.value (once-one c.args.change.now);
      counts = rw c.deref_mut.ensures.value c.self.invariant.beside.counted;
    }

pub returns-clause-exhausted : goal.returns-clause-exhausted
returns-clause-exhausted c =
    let short = rw (c.from_ref-changes.ensures.value, c.is_master-master.ensures, ← c.self.view_is) at c.plan.ensures.exhausted in
    rw (← c.self.view_is)
    (IfErr-weaker c.plan.result (IsExhausted c.self.inside.plant c.self.inside.crosspoints.entries (is_master c.self.inside.plant c.args.panel) (c.args.change.now ∷ [])) (λ fault. are_enough_for c.self.inside.plant c.self.inside.crosspoints.entries (is_master c.self.inside.plant c.args.panel) (c.args.change.now ∷ []) ≡ false)
    (too_few c.self.inside.plant c.self.inside.crosspoints.entries (is_master c.self.inside.plant c.args.panel) (c.args.change.now ∷ [])) short)
