use Rattle.std.proofs.Common.{◌≡◌, ◌≤◌, ◌<◌, ℕ, Bool, Option, is_none, ap, sym, ◌∙◌, arith, rules}
use Rattle.crosspoint_state.specs.Ties.{size_of}
use Rattle.plant_core.specs.StateFault.{all_share_by_origin, tie_holds}
use Rattle.plant_core.proofs.FaultLemmas.{none_unless}
use Rattle.plant_core.proofs.FirstTieLemmas.{both_same, has_origin, tie_parked, tie_missing, tie_too_great, tie_shared, size_is, ok_more}
use Rattle.plant_core.proofs.dest_fields.tie_holds.Goals as goal

pub returns-in_default-clause-holds : goal.returns-in_default-clause-holds
returns-in_default-clause-holds c =
    let none = none_unless _ _ c.in_default.not-Some c.pool_in.ensures.pool in
    let is : c.is_none.result ≡ is_none c.tie_in-tie.result = search rules in
    is ∙ ap (λ (tie : Option ℕ). is_none tie) c.tie_in-tie.ensures ∙ tie_parked c.args.plant.now c.args.bytes.now c.args.dest (sym none)

pub returns-in_default-clause-firsts : goal.returns-in_default-clause-firsts
returns-in_default-clause-firsts c =
    let none = none_unless _ _ c.in_default.not-Some c.pool_in.ensures.pool in
    λ holds. both_same c.args.plant.now c.args.bytes.now c.args.dest c.args.by_tie.now c.args.by_origin.now (sym none) c.requires.firsts

pub returns-in_default-tie-clause-holds : goal.returns-in_default-tie-clause-holds
returns-in_default-tie-clause-holds c =
    let none = none_unless _ _ c.in_default-tie.not-Some c.tie_in-tie.ensures in
    tie_missing c.args.plant.now c.args.bytes.now c.args.dest c.in-Some.pool (sym c.in-Some.ensures.pool) (sym none)

pub returns-then-get-pool-clause-holds : goal.returns-then-get-pool-clause-holds
returns-then-get-pool-clause-holds c =
    let size : size_of c.args.plant.now c.in-Some.pool ≡ c.pool.result.ties = size_is c.args.plant.now c.in-Some.pool c.pool.result c.pool.ensures.pool in
    let great : size_of c.args.plant.now c.in-Some.pool ≤ c.in-Some-tie.tie = omega (arith, size, c.get.ensures, c.if-get-pool.true) in
    tie_too_great c.args.plant.now c.args.bytes.now c.args.dest c.in-Some.pool c.in-Some-tie.tie (sym c.in-Some.ensures.pool) (sym c.in-Some-tie.ensures) great

pub returns-in_default-origin_in-clause-holds : goal.returns-in_default-origin_in-clause-holds
returns-in_default-origin_in-clause-holds c =
    let none = none_unless _ _ c.in_default-origin_in.not-Some c.origin_in.ensures in
    absurd (has_origin c.args.plant.now c.args.bytes.now c.args.dest c.in-Some.pool (sym c.in-Some.ensures.pool) (sym none))

pub returns-clause-holds : goal.returns-clause-holds
returns-clause-holds c =
    let size : size_of c.args.plant.now c.in-Some.pool ≡ c.pool.result.ties = size_is c.args.plant.now c.in-Some.pool c.pool.result c.pool.ensures.pool in
    let below : c.in-Some-tie.tie < size_of c.args.plant.now c.in-Some.pool = omega (arith, size, c.get.ensures, c.if-get-pool.false) in
    ok_more (λ (all : Bool). all ≡ all_share_by_origin c.args.plant.now c.args.bytes.now c.args.dest) (λ (all : Bool). all ≡ tie_holds c.args.plant.now c.args.bytes.now c.args.dest) c.all_share_by_origin.result
    (λ all is. tie_shared c.args.plant.now c.args.bytes.now c.args.dest c.in-Some.pool c.in-Some-tie.tie all (sym c.in-Some.ensures.pool) (sym c.in-Some-tie.ensures) below is) c.all_share_by_origin.ensures.all
