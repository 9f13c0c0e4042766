use Rattle.std.proofs.Common.{◌≡◌, false}
use Rattle.std.proofs.lemmas.Result.{IfErr-weaker}
use Rattle.tie_pools.specs.Reserve.{are_enough_for}
use Rattle.tie_pools.specs.Plans.{IsExhausted}
use Rattle.salvo_groups.specs.Groups.{Group, group_of}
use Rattle.plant_core.specs.State.{is_master}
use Rattle.plant_core.specs.StateInside.{state_of}
use Rattle.plant_core.proofs.Outcomes.{too_few}
use Rattle.plant_core.proofs.StepValidity.{entries-inside}
use Rattle.plant_core.proofs.state.PlantState.plan_group.Goals as goal

pub plan-requires : goal.plan-requires
plan-requires c = record {
  dests = rw c.entries-entries.ensures.entries (entries-inside (state_of c.self.inside.plant c.self.inside.crosspoints c.self.inside.protects c.self.inside.groups c.self.inside.notices c.self.inside.shown) c.args.salvo c.self.invariant.valid);
  once = c.entries-entries.ensures.group.distinct;
  counts = rw c.deref_mut.ensures.value c.self.invariant.beside.counted;
}

pub returns-clause-exhausted : goal.returns-clause-exhausted
returns-clause-exhausted c =
    let group : Group = group_of c.self.inside.groups c.args.salvo in
    let short = rw (c.entries-entries.ensures.entries, c.is_master-master.ensures, ← c.self.view_is) at c.plan.ensures.exhausted in
    rw (← c.self.view_is)
    (IfErr-weaker c.plan.result (IsExhausted c.self.inside.plant c.self.inside.crosspoints.entries (is_master c.self.inside.plant c.args.panel) group) (λ fault. are_enough_for c.self.inside.plant c.self.inside.crosspoints.entries (is_master c.self.inside.plant c.args.panel) group ≡ false)
    (too_few c.self.inside.plant c.self.inside.crosspoints.entries (is_master c.self.inside.plant c.args.panel) group) short)
