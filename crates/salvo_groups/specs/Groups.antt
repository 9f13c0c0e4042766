-- Salvo groups as plain data, and what storing and clearing do to them.
use Rattle.std.specs.Prelude.{◌≡◌, ℕ, ◌≤◌, ◌==◌, nat_eq, nat_lt, Bool, ◌||◌, if◌then◌else◌, List, [], ◌∷◌, ◌++◌, length, map, replicate, slice_index_or, slice_set, Option, refl}
use Rattle.std.specs.List.{list_any, IsDistinct}
use Rattle.std.specs.Coded.{Coded, code_by, coded×, coded_ℕ, coded_list, coded_option}
use Rattle.plant_config.specs.declared.records.Change.{Change}
use Rattle.salvo_groups.specs.Limits.{salvo_limit, group_limit}

-- a group: what each of its destinations is to carry, in the order in which they were first stored
abbrev pub Group : Type 0
Group = List Change

-- a change is stored as the pair of its fields, and groups as their lists
abbrev pub change_code : Coded Change
change_code = code_by (ℕ × Option ℕ) (coded× coded_ℕ (coded_option coded_ℕ))
    (λ change. (change.dest, change.source))
    (λ pair. record { dest = pair.0; source = pair.1 }) (λ _. refl)

abbrev pub code : Coded (List Group)
code = coded_list (coded_list change_code)

-- the destinations of a group's entries, in their order
abbrev pub entry_dests : Group → List ℕ
entry_dests group = map (λ entry. entry.dest) group

-- whether a group has an entry of a destination
abbrev pub has_entry : Group → ℕ → Bool
has_entry group dest = list_any (λ entry. entry.dest == dest) group

-- A change may be stored where the group has its destination, or fewer entries than the most.
abbrev pub may_store : Group → Change → Bool
may_store group change = has_entry group change.dest || nat_lt (length group) group_limit

-- a group whose entry of the change's destination is the change
abbrev pub with_changed : Group → Change → Group
with_changed group change =
    map (λ entry. if entry.dest == change.dest then change else entry) group

-- A store changes the entry of its destination in its place, or else puts the change behind all entries.
abbrev pub stored : Group → Change → Group
stored group change =
    if has_entry group change.dest then with_changed group change else group ++ change ∷ []

-- all groups at the start: each is empty
abbrev pub start_groups : List Group
start_groups = replicate salvo_limit []

-- the group of a number, empty behind the last one
abbrev pub group_of : List Group → ℕ → Group
group_of groups number = slice_index_or groups number []

-- The groups after a store in one of them. Nothing changes where the change may not be stored.
abbrev pub with_store : List Group → ℕ → Change → List Group
with_store groups number change =
    if may_store (group_of groups number) change
    then slice_set groups number (stored (group_of groups number) change)
    else groups

-- the groups after one of them was cleared
abbrev pub with_clear : List Group → ℕ → List Group
with_clear groups number = slice_set groups number []

-- A group has no more entries than the most, and of each destination at most one.
pub record IsGroup (group : Group) : Type 0 where
  pub few : length group ≤ group_limit
  pub distinct : IsDistinct nat_eq (entry_dests group)

-- There are as many groups as there are numbers for them, and each is one.
pub record AreGroups (groups : List Group) : Type 0 where
  pub count : length groups ≡ salvo_limit
  pub each : (number : ℕ) → IsGroup (group_of groups number)
