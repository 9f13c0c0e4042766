-- What the promises of quiet rows have in common.
use Rattle.std.specs.Prelude.{◌≡◌, ◌⊎◌, ℕ, ◌<◌, true, List, [], ◌∷◌, Contains}
use Rattle.ctl_io.specs.Faults.{count_after}
use Rattle.ctl_io.specs.Held.{Stays}
use Rattle.command_words.specs.Parts.{Part, Plant, Whole, Made, Store, Later, Number, Last}
use Rattle.command_rows.specs.Moment.{Snapshot, Moment}
use Rattle.command_rows.specs.End.{End, behind, out_of_memory, unwritten_status}
use Rattle.command_rows.specs.Opener.{AllGiven}
use Rattle.command_rows.specs.Row.{Promise}

-- the names of the files that are made, by what is given for parts
abbrev pub given_made : (parts : List Part) (last : Last) → AllGiven parts last → List (List ℕ)
given_made [] last given = []
given_made (Made ∷ parts) last given = given.0 ∷ given_made parts last given.1
given_made (Plant ∷ parts) last given = given_made parts last given.1
given_made (Whole kind ∷ parts) last given = given_made parts last given.1
given_made (Store ∷ parts) last given = given_made parts last given.1
given_made (Later kind ∷ parts) last given = given_made parts last given.1
given_made (Number low most ∷ parts) last given = given_made parts last given.1

-- the names of all files that a row asks for itself: those that it makes, its stores, and those that it reads later
abbrev pub given_own : (parts : List Part) (last : Last) → AllGiven parts last → List (List ℕ)
given_own [] last given = []
given_own (Made ∷ parts) last given = given.0 ∷ given_own parts last given.1
given_own (Store ∷ parts) last given = given.0 ∷ given_own parts last given.1
given_own (Later kind ∷ parts) last given = given.0 ∷ given_own parts last given.1
given_own (Plant ∷ parts) last given = given_own parts last given.1
given_own (Whole kind ∷ parts) last given = given_own parts last given.1
given_own (Number low most ∷ parts) last given = given_own parts last given.1

-- A status is one of these.
abbrev pub IsOneOf : List ℕ → ℕ → Type 0
IsOneOf [] status = ⊥
IsOneOf (one ∷ more) status = (status ≡ one) ⊎ IsOneOf more status

-- An end says that memory ran out, behind what the row had written until then.
pub record TellsMemory (end : End) : Type 0 where
  pub front : List ℕ
  pub tells : end ≡ behind front out_of_memory

-- A row's own end has one of these statuses, all of which stand before that of an output that failed. It is 1 only where memory ran
-- out, and a fault of the files only at 3.
pub record IsSoundEnd (statuses : List ℕ) (end : End) : Type 0 where
  pub known : IsOneOf statuses end.status
  pub few : end.status < unwritten_status
  pub memory : end.status ≡ 1 → TellsMemory end
  pub fault : end.is_file_fault ≡ true → end.status ≡ 3

-- What a row left of the files: each source, each sink and each disk that was handed out was given back, files of these names alone
-- were made, and of these alone it asked for any. Their count of faults rose by one exactly if the end is a fault of theirs.
pub record LeavesSound (made own : List (List ℕ)) (end : End) (before now : Snapshot)
    : Type 0 where
  pub sources : now.custody.sources.out ≡ before.custody.sources.out
  pub sinks : now.custody.sinks.out ≡ before.custody.sinks.out
  pub disks : now.custody.disks.out ≡ before.custody.disks.out
  pub unmade : made ≡ [] → now.custody.sinks ≡ before.custody.sinks
  pub others : (name : List ℕ) → (Contains own name → ⊥)
      → Stays (before.held name) (now.held name)
  pub faults : now.faults ≡ count_after end.is_file_fault before.faults

-- A promise whose own ends have these statuses, and which leaves the files so.
pub record IsSound (parts : List Part) (last : Last) (Ends : Promise parts last)
    (statuses : List ℕ) : Type 0 where
  pub own : (given : AllGiven parts last) (before now : Moment) (end : End) (status : ℕ)
      → Ends given before now end status → IsSoundEnd statuses end
  pub leaves : (given : AllGiven parts last) (before now : Moment) (end : End) (status : ℕ)
      → Ends given before now end status
      → LeavesSound (given_made parts last given) (given_own parts last given) end
      before.files now.files

-- A promise of ends that say nothing but that memory ran out, where it did.
abbrev pub IsSilent : (parts : List Part) (last : Last) → Promise parts last → Type 0
IsSilent parts last Ends =
    (given : AllGiven parts last) (before now : Moment) (end : End) (status : ℕ)
    → Ends given before now end status → end.status ≡ 1 → end ≡ out_of_memory

-- A promise that no end keeps.
abbrev pub Nothing : (parts : List Part) (last : Last) → Promise parts last
Nothing parts last given before now end status = ⊥
