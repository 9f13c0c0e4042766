-- What a store answers.
use Rattle.std.specs.Prelude.{◌≡◌, ℕ, false, if◌then◌else◌, length}
use Rattle.plant_config.specs.declared.records.Change.{Change}
use Rattle.salvo_groups.specs.declared.store.Store.{Store}
use Rattle.salvo_groups.specs.declared.store.Store.TheVariants.{Stored, GroupFull}
use Rattle.salvo_groups.specs.Limits.{group_limit}
use Rattle.salvo_groups.specs.Groups.{Group, has_entry, may_store}

-- the answer to a store in this group
abbrev pub store_answer : Group → Change → Store
store_answer group change = if may_store group change then Stored else GroupFull

-- A group has no room for a destination: it has no entry of it, and as many others as it may have.
pub record HasNoRoom (group : Group) (dest : ℕ) : Type 0 where
  pub absent : has_entry group dest ≡ false
  pub full : length group ≡ group_limit
