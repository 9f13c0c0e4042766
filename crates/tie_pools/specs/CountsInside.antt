-- How the counts are kept: what a destination that takes or leaves a source does to them.
use Rattle.std.specs.Prelude.{ℕ, ◌+◌, ◌-◌, nat_eq, if◌then◌else◌, List, refl}
use Rattle.std.specs.Coded.{Coded, code_by, coded×, coded_ℕ, coded_list}
use Rattle.std.specs.FinMap.{insert}
use Rattle.number_tables.specs.Table.{Entries, Table}
use Rattle.tie_pools.specs.Counts.{count_at, numbers_code}

-- how many ways of each pool are in use, and how many ties each pool has
pub record InUse : Type 0 where
  pub used : Table ℕ
  pub sizes : List ℕ

-- how many destinations each way feeds, how many ways of each pool feed some, and how many ties each pool has
pub record Demand : Type 0 where
  pub fed : Table ℕ
  pub used : Table ℕ
  pub sizes : List ℕ

-- both are stored as the tuples of their fields
abbrev pub in_use_code : Coded InUse
in_use_code =
    code_by (Table ℕ × List ℕ) (coded× numbers_code (coded_list coded_ℕ))
    (λ in_use. (in_use.used, in_use.sizes)) (λ pair. record { used = pair.0; sizes = pair.1 })
    (λ _. refl)

abbrev pub demand_code : Coded Demand
demand_code =
    code_by (Table ℕ × (Table ℕ × List ℕ))
    (coded× numbers_code (coded× numbers_code (coded_list coded_ℕ)))
    (λ demand. (demand.fed, (demand.used, demand.sizes)))
    (λ tuple. record { fed = tuple.0; used = tuple.1.0; sizes = tuple.1.1 }) (λ _. refl)

-- a table with other entries and the same room
abbrev pub with_entries : Table ℕ → Entries ℕ → Table ℕ
with_entries table entries = record { entries = entries; room = table.room }

-- one more, and one fewer, at a number
abbrev pub more_at : Entries ℕ → ℕ → Entries ℕ
more_at counts number = insert counts number (count_at counts number + 1)

abbrev pub fewer_at : Entries ℕ → ℕ → Entries ℕ
fewer_at counts number = insert counts number (count_at counts number - 1)

-- one way more of a pool is in use, and one way fewer
abbrev pub one_more : InUse → ℕ → InUse
one_more in_use pool = record {
  used = with_entries in_use.used (more_at in_use.used.entries pool);
  sizes = in_use.sizes;
}

abbrev pub one_fewer : InUse → ℕ → InUse
one_fewer in_use pool = record {
  used = with_entries in_use.used (fewer_at in_use.used.entries pool);
  sizes = in_use.sizes;
}

-- One more destination is fed by a way of a pool. If it is the first, the pool has one more way in use.
abbrev pub fed_more : Demand → ℕ → ℕ → Demand
fed_more demand pool way = record {
  fed = with_entries demand.fed (more_at demand.fed.entries way);
  used = with_entries demand.used
      (if nat_eq (count_at demand.fed.entries way) 0 then more_at demand.used.entries pool
      else demand.used.entries);
  sizes = demand.sizes;
}

-- One destination fewer is fed by a way of a pool. If it was the last, the pool has one way fewer in use.
abbrev pub fed_less : Demand → ℕ → ℕ → Demand
fed_less demand pool way = record {
  fed = with_entries demand.fed (fewer_at demand.fed.entries way);
  used = with_entries demand.used
      (if nat_eq (count_at demand.fed.entries way) 1 then fewer_at demand.used.entries pool
      else demand.used.entries);
  sizes = demand.sizes;
}
