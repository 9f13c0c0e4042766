use Rattle.std.proofs.Common.{◌+◌, ◌<◌, drop, ap, sym, subst, ◌∙◌}
use Rattle.plant_config.specs.Plant.{destinations_of}
use Rattle.plant_config.specs.declared.records.Change.{Change}
use Rattle.crosspoint_state.specs.Crosspoints.{NamesOnce}
use Rattle.crosspoint_state.specs.Ties.{HaveValidTies}
use Rattle.crosspoint_state.proofs.ChangeLists.{NamesOnce-drop}
use Rattle.tie_pools.specs.CommitInside.{given_each, AreReady}
use Rattle.tie_pools.proofs.EachLemmas.{next_change, ready_first, ready_behind, one_valid}
use Rattle.tie_pools.proofs.ties.Ties.give_all.Goals as goal

pub give-requires-clause-dest : goal.give-requires-clause-dest
give-requires-clause-dest c =
    subst (λ (change : Change). change.dest < destinations_of c.args.plant.now) (sym c.index-changes-index.is)
    (c.requires.dests c.loop-index.index c.index-changes-index.result c.loop-index-test.true)

pub give-requires-clause-ready : goal.give-requires-clause-ready
give-requires-clause-ready c =
    let rest = drop (c.loop-index.index + 1) c.args.changes.now in
    let next = next_change c.args.changes.now c.loop-index.index c.index-changes-index.result c.loop-index-test.true c.index-changes-index.is in
    ready_first c.loop-index.points.entries c.index-changes-index.result rest (subst (AreReady c.loop-index.points.entries) next c.loop-index.invariant.ready)

pub give-requires-clause-valid : goal.give-requires-clause-valid
give-requires-clause-valid c =
    let plant = c.args.plant.now in
    let points = c.loop-index.points.entries in
    let rest = drop (c.loop-index.index + 1) c.args.changes.now in
    let next = next_change c.args.changes.now c.loop-index.index c.index-changes-index.result c.loop-index-test.true c.index-changes-index.is in
    one_valid plant points c.index-changes-index.result rest
    (subst NamesOnce next (NamesOnce-drop c.loop-index.index c.args.changes.now c.requires.once))
    (subst (AreReady points) next c.loop-index.invariant.ready)
    (subst (HaveValidTies plant) (sym c.loop-index.invariant.points ∙ ap (given_each plant points) next) c.requires.valid)

pub loop-index-preserved : goal.loop-index-preserved
loop-index-preserved c =
    let plant = c.args.plant.now in
    let points = c.loop-index.points.entries in
    let rest = drop (c.loop-index.index + 1) c.args.changes.now in
    let next = next_change c.args.changes.now c.loop-index.index c.index-changes-index.result c.loop-index-test.true c.index-changes-index.is in
    record {
      points = ap (λ points. given_each plant points rest) c.give.ensures.points
          ∙ sym (ap (given_each plant points) next)
          ∙ c.loop-index.invariant.points;
      kept = c.give.ensures.kept;
      counts = c.give.ensures.counts;
      ready = subst (λ points. AreReady points rest) (sym c.give.ensures.points)
          (ready_behind plant points c.index-changes-index.result rest
          (subst NamesOnce next (NamesOnce-drop c.loop-index.index c.args.changes.now c.requires.once))
          (subst (AreReady points) next c.loop-index.invariant.ready));
    }
