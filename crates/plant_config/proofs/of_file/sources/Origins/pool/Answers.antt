use Rattle.std.proofs.Common.{[], ◌∷◌, Some, None, bytes_eq, length, ap, ◌∙◌}
use Rattle.plant_rules.specs.Rules.{pool_key}
use Rattle.plant_file.specs.declared.entries.PoolEntry.{PoolEntry}
use Rattle.plant_config.proofs.OneMore.{position_or_len-from_position}
use Rattle.plant_config.proofs.of_file.sources.Origins.pool.Goals as goal

pub returns-in-Some : goal.returns-in-Some
returns-in-Some c =
    let remote = c.args.remote.now in
    let test = λ (pool : PoolEntry). bytes_eq (pool_key pool) (remote.from ∷ remote.matrix ∷ remote.level ∷ []) in
    let self = c.args.self.now in
    position_or_len-from_position test self.file.now.pools (Some c.in-Some.number.now) (c.in-Some.ensures.value ∙ self.known.pools (remote.from, remote.matrix, remote.level))

pub returns-in-None : goal.returns-in-None
returns-in-None c =
    let remote = c.args.remote.now in
    let test = λ (pool : PoolEntry). bytes_eq (pool_key pool) (remote.from ∷ remote.matrix ∷ remote.level ∷ []) in
    let self = c.args.self.now in
    c.of.ensures ∙ ap length c.pools.ensures
    ∙ position_or_len-from_position test self.file.now.pools None (c.in-None.ensures.value ∙ self.known.pools (remote.from, remote.matrix, remote.level))
