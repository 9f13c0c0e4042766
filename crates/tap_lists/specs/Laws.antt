-- What is true of all lists, said by what is under each head.
use Rattle.std.specs.Prelude.{◌≡◌, ◌≢◌, ◌⊎◌, ◌↔◌, ◌+◌, ◌<◌, ℕ, List, ◌∷◌, ◌++◌, length, slice_get, Contains, Option, Some, None}
use Rattle.tap_lists.specs.Lists.{Lists, list_of, linked, unlinked, IsUnder, IsLoose, IsNext}

-- A member is put first in the list of a head. Every other list is as it was, and nothing else comes under any head.
pub record PutsFirst (old new : Lists) (head member : ℕ) : Type 0 where
  pub here : list_of new head ≡ member ∷ list_of old head
  pub others : (other : ℕ) → other ≢ head → list_of new other ≡ list_of old other
  pub under : (other x : ℕ) → IsUnder new other x
      ↔ (((other ≡ head) × (x ≡ member)) ⊎ IsUnder old other x)

-- A link of a member to one of the heads puts it first there.
abbrev pub LinksInsertFirst : Lists → Type 0
LinksInsertFirst lists = (head member : ℕ) → head < length lists.by_head
    → PutsFirst lists (linked lists head member) head member

-- A list closes where a member stood: what stood before it and what stood behind it are one list now.
abbrev pub Closes : List ℕ → List ℕ → ℕ → Type 0
Closes old new member = (front behind : List ℕ) → old ≡ front ++ member ∷ behind
    → ¬ Contains front member → ¬ Contains behind member → new ≡ front ++ behind

-- A member is under no head any more. Its list closes where it stood, a list without it is as it was, and every other member
-- is under the head under which it was.
pub record TakesOut (old new : Lists) (member : ℕ) : Type 0 where
  pub loose : IsLoose new member
  pub closes : (head : ℕ) → Closes (list_of old head) (list_of new head) member
  pub others : (head : ℕ) → ¬ IsUnder old head member → list_of new head ≡ list_of old head
  pub under : (head x : ℕ) → x ≢ member → IsUnder new head x ↔ IsUnder old head x

-- An unlink takes a member out.
abbrev pub UnlinksRemove : Lists → Type 0
UnlinksRemove lists = (member : ℕ) → TakesOut lists (unlinked lists member) member

-- The answers to the reads of one list, numbered from 0: the first member, and then what follows each member that was
-- answered.
pub record IsWalk (lists : Lists) (head : ℕ) (answers : ℕ → Option ℕ) : Type 0 where
  pub first : answers 0 ≡ slice_get (list_of lists head) 0
  pub next : (read member : ℕ) → answers read ≡ Some member
      → IsNext lists member (answers (read + 1))

-- Each member of a list is answered in its turn, and nothing behind the last.
pub record AnswersAll (list : List ℕ) (answers : ℕ → Option ℕ) : Type 0 where
  pub members : (place : ℕ) → place < length list → answers place ≡ slice_get list place
  pub end : answers (length list) ≡ None

-- A walk answers all members of its list, by one read more than there are members.
abbrev pub WalksAnswerAll : Lists → Type 0
WalksAnswerAll lists = (head : ℕ) (answers : ℕ → Option ℕ) → IsWalk lists head answers
    → AnswersAll (list_of lists head) answers
