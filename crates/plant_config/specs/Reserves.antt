-- Which pools keep ties for masters.
use Rattle.std.specs.Prelude.{nat_lt, Bool, List}
use Rattle.std.specs.List.{list_any}
use Rattle.plant_config.specs.declared.records.Pool.{Pool}
use Rattle.plant_config.specs.Plant.{PlantData}

-- some of these pools keeps ties
abbrev pub keep_some : List Pool → Bool
keep_some pools = list_any (λ (pool : Pool). nat_lt 0 pool.reserve) pools

-- some pool of a plant keeps ties
abbrev pub has_reserve : PlantData → Bool
has_reserve plant = keep_some plant.pools
