use Rattle.std.proofs.Common.{ℕ, ◌<◌, ◌≤◌, length, Some, unwrap_or, arith, ap, sym, subst, ◌∙◌}
use Rattle.std.specs.Ordering.{nat_cmp}
use Rattle.std.specs.BTreeMap.{get}
use Rattle.plant_config.specs.Plant.{sources_of}
use Rattle.tie_pools.specs.WaysInside.{ComesTo}
use Rattle.tie_pools.proofs.LowestWays.{way_found, lowest_remote, lowest_local}
use Rattle.tie_pools.proofs.ways.way_for.Goals as goal

pub way_number-number-requires-clause-pool : goal.way_number-number-requires-clause-pool
way_number-number-requires-clause-pool c =
    let few : length c.args.plant.now.pools ≤ 256 = c.requires.plant.linked.pools.0.1 in
    omega (arith, c.in-Some.ensures.below, few)

pub way_number-number-requires-clause-origin : goal.way_number-number-requires-clause-origin
way_number-number-requires-clause-origin c =
    let few : sources_of c.args.plant.now ≤ 65536 = c.requires.plant.sources in
    omega (arith, c.origin.ensures.below, few)

pub returns-in_ok-first-in-Some-clause-way : goal.returns-in_ok-first-in-Some-clause-way
returns-in_ok-first-in-Some-clause-way c =
    let plant = c.args.plant.now in
    let few : sources_of plant ≤ 65536 = c.requires.plant.sources in
    let within : c.origin.result < 65536 = omega (arith, c.origin.ensures.below, few) in
    let inside : c.args.source < length plant.sources = omega (arith, c.requires.source, c.requires.plant.named.sources) in
    ap Some c.in_ok-first-in-Some.ensures.first
    ∙ ap (λ (number : ℕ). Some (unwrap_or (get nat_cmp c.args.lowest.now number) c.args.source)) c.way_number-number.ensures
    ∙ way_found plant c.args.source c.in-Some.pool c.origin.result c.args.lowest.now inside (sym c.in-Some.ensures.pool) c.origin.ensures.origin within c.requires.lowest

pub returns-in_ok-first-in-Some-clause-lowest : goal.returns-in_ok-first-in-Some-clause-lowest
returns-in_ok-first-in-Some-clause-lowest c =
    let plant = c.args.plant.now in
    let old = c.args.lowest.now in
    let new = c.first_at.new.lowest in
    let few : sources_of plant ≤ 65536 = c.requires.plant.sources in
    let within : c.origin.result < 65536 = omega (arith, c.origin.ensures.below, few) in
    lowest_remote plant c.args.source c.in-Some.pool c.origin.result old new (sym c.in-Some.ensures.pool) c.origin.ensures.origin within c.requires.lowest
    (subst (λ (number : ℕ). ComesTo old new number c.args.source) c.way_number-number.ensures c.in_ok-first-in-Some.ensures.lowest)

pub returns-in-None-clause-lowest : goal.returns-in-None-clause-lowest
returns-in-None-clause-lowest c =
    lowest_local c.args.plant.now c.args.source c.args.lowest.now (sym c.in-None.ensures.pool) c.requires.lowest
