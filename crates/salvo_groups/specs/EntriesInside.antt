-- How the entries of a group are kept.
use Rattle.std.specs.Prelude.{ℕ, ◌≤◌, ◌==◌, if◌then◌else◌, Option, position}
use Rattle.plant_config.specs.declared.records.Change.{Change}
use Rattle.salvo_groups.specs.Limits.{group_limit}
use Rattle.salvo_groups.specs.Groups.{Group, may_store, stored, IsGroup}

-- a group that was asked to store a change: the same where it may not be stored
abbrev pub asked : Group → Change → Group
asked group change = if may_store group change then stored group change else group

-- the place of a destination's entry in a group
abbrev pub place_of : Group → ℕ → Option ℕ
place_of group dest = position (λ entry. entry.dest == dest) group

-- Entries are a group, with room for as many as it may have.
pub record AreEntries (entries : Group) (room : ℕ) : Type 0 where
  pub is_group : IsGroup entries
  pub has_room : group_limit ≤ room
