-- What is true of all groups: what is stored is read back, and nothing else changes.
use Rattle.std.specs.Prelude.{◌≡◌, ◌≢◌, ℕ, ◌<◌, ◌==◌, nat_eq, Bool, true, false, not, if◌then◌else◌, List, [], ◌∷◌, ◌++◌, All, filter, find, reverse, Option}
use Rattle.std.specs.List.{list_any, IsDistinct}
use Rattle.plant_config.specs.declared.records.Change.{Change}
use Rattle.salvo_groups.specs.Limits.{salvo_limit}
use Rattle.salvo_groups.specs.Groups.{Group, entry_dests, may_store, group_of, with_store, with_clear, AreGroups}

-- those of some changes that are of one destination, in their order
abbrev pub changes_of : List Change → ℕ → List Change
changes_of changes dest = filter (λ change. change.dest == dest) changes

-- some destinations with one more behind them, if it isn't among them
abbrev pub with_dest : List ℕ → ℕ → List ℕ
with_dest dests dest = if list_any (nat_eq dest) dests then dests else dests ++ dest ∷ []

-- The entries of all destinations but one are the same.
abbrev pub SameEntriesBut : Group → Group → ℕ → Type 0
SameEntriesBut old new changed =
    (dest : ℕ) → dest ≢ changed → changes_of new dest ≡ changes_of old dest

-- Of its destination a group has just this change. All other entries are the same, and all destinations stand in the
-- order of before, a new one behind them.
pub record Stores (old new : Group) (change : Change) : Type 0 where
  pub given : changes_of new change.dest ≡ change ∷ []
  pub others : SameEntriesBut old new change.dest
  pub order : entry_dests new ≡ with_dest (entry_dests old) change.dest

-- All groups but one are the same.
abbrev pub SameGroupsBut : List Group → List Group → ℕ → Type 0
SameGroupsBut old new changed =
    (number : ℕ) → number ≢ changed → group_of new number ≡ group_of old number

-- A change that may be stored in a group is stored in it.
abbrev pub MadeStoresAreRead : List Group → Type 0
MadeStoresAreRead groups = (number : ℕ) (change : Change) → number < salvo_limit
    → may_store (group_of groups number) change ≡ true
    → Stores (group_of groups number) (group_of (with_store groups number change) number) change

-- A change that may not be stored changes nothing.
abbrev pub RefusedStoresChangeNothing : List Group → Type 0
RefusedStoresChangeNothing groups = (number : ℕ) (change : Change)
    → may_store (group_of groups number) change ≡ false
    → with_store groups number change ≡ groups

-- Whatever is stored in a group, the others are the same.
abbrev pub StoresAreOfOneGroup : List Group → Type 0
StoresAreOfOneGroup groups = (number : ℕ) (change : Change)
    → SameGroupsBut groups (with_store groups number change) number

-- What is stored is read back, and nothing else changes.
pub record StoresAreRead (groups : List Group) : Type 0 where
  pub made : MadeStoresAreRead groups
  pub refused : RefusedStoresChangeNothing groups
  pub others : StoresAreOfOneGroup groups

-- A group was cleared: it is empty, and the others are the same.
pub record Clears (old new : List Group) (number : ℕ) : Type 0 where
  pub empty : group_of new number ≡ []
  pub others : SameGroupsBut old new number

-- A clear empties its group and no other.
abbrev pub ClearsAreOfOneGroup : List Group → Type 0
ClearsAreOfOneGroup groups = (number : ℕ) → Clears groups (with_clear groups number) number

-- Groups stay groups, whatever is stored and cleared.
pub record StayGroups (groups : List Group) : Type 0 where
  pub store : (number : ℕ) (change : Change) → AreGroups (with_store groups number change)
  pub clear : (number : ℕ) → AreGroups (with_clear groups number)

-- All entries of all groups pass a test.
abbrev pub EntriesPass : (Change → Bool) → List Group → Type 0
EntriesPass test groups =
    (number : ℕ) → All (λ entry. test entry ≡ true) (group_of groups number)

-- A store of a change that passes the test leaves entries that all pass it.
abbrev pub StoredEntriesPass : (Change → Bool) → List Group → Type 0
StoredEntriesPass test groups = (number : ℕ) (change : Change) → test change ≡ true
    → EntriesPass test (with_store groups number change)

-- Whatever test all entries pass, they go on passing it, if each change that is stored passes it.
pub record GoOnPassing (test : Change → Bool) (groups : List Group) : Type 0 where
  pub store : StoredEntriesPass test groups
  pub clear : (number : ℕ) → EntriesPass test (with_clear groups number)

-- the groups after some stores in one of them, in their order
abbrev pub with_stores : List Group → ℕ → List Change → List Group
with_stores groups number [] = groups
with_stores groups number (change ∷ changes) =
    with_stores (with_store groups number change) number changes

-- the destinations of some stores in the order in which they are first stored, each once
abbrev pub first_dests : List Change → List ℕ
first_dests [] = []
first_dests (change ∷ changes) =
    change.dest ∷ filter (λ dest. not (dest == change.dest)) (first_dests changes)

-- the last store of a destination
abbrev pub last_store : List Change → ℕ → Option Change
last_store changes dest = find (λ change. change.dest == dest) (reverse changes)

-- what a group has for a destination
abbrev pub entry_of : Group → ℕ → Option Change
entry_of group dest = find (λ entry. entry.dest == dest) group

-- The destinations of a group are those of some stores in the order in which they were first stored, each once, and each
-- entry is the last store of its destination.
pub record Collects (changes : List Change) (group : Group) : Type 0 where
  pub order : entry_dests group ≡ first_dests changes
  pub once : IsDistinct nat_eq (entry_dests group)
  pub last : (dest : ℕ) → entry_of group dest ≡ last_store changes dest

-- Stores into an empty group that has room for all their destinations are collected in it, and the other groups are the
-- same.
pub record StoresCollect (groups : List Group) (number : ℕ) (changes : List Change) : Type 0 where
  pub collected : Collects changes (group_of (with_stores groups number changes) number)
  pub others : SameGroupsBut groups (with_stores groups number changes) number
