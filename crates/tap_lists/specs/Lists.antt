-- Lists of members under heads, each list with the member that was linked last first.
use Rattle.std.specs.Prelude.{◌≡◌, ◌↔◌, ◌+◌, ◌<◌, ◌≤◌, ◌==◌, ℕ, not, List, [], ◌∷◌, map, filter, length, slice_get, slice_set, Contains, Option, Some, None, refl}
use Rattle.std.specs.Option.{unwrap_or}
use Rattle.std.specs.Coded.{Coded, code_by, coded×, coded_list, coded_ℕ}

-- the list of each head, by the head's number, and how many members there are: those below may be linked
pub record Lists : Type 0 where
  pub by_head : List (List ℕ)
  pub members : ℕ

-- lists are stored as the pair of their fields
abbrev pub code : Coded Lists
code =
    code_by (List (List ℕ) × ℕ) (coded× (coded_list (coded_list coded_ℕ)) coded_ℕ)
    (λ lists. (lists.by_head, lists.members))
    (λ pair. record { by_head = pair.0; members = pair.1 }) (λ _. refl)

-- the members under a head, the last linked first; none under a number that is no head
abbrev pub list_of : Lists → ℕ → List ℕ
list_of lists head = unwrap_or (slice_get lists.by_head head) []

-- a member is under this head
abbrev pub IsUnder : Lists → ℕ → ℕ → Type 0
IsUnder lists head member = Contains (list_of lists head) member

-- a member is under no head
abbrev pub IsLoose : Lists → ℕ → Type 0
IsLoose lists member = (head : ℕ) → ¬ IsUnder lists head member

-- the lists with a member put first in the list of a head
abbrev pub linked : Lists → ℕ → ℕ → Lists
linked lists head member = record {
  by_head = slice_set lists.by_head head (member ∷ list_of lists head);
  members = lists.members;
}

-- a list without a member, the others in the order in which they stood
abbrev pub without : ℕ → List ℕ → List ℕ
without member list = filter (λ other. not (other == member)) list

-- the lists with a member taken out of each
abbrev pub unlinked : Lists → ℕ → Lists
unlinked lists member = record {
  by_head = map (without member) lists.by_head;
  members = lists.members;
}

-- a head is that of a member exactly where the member is under it; without one the member is under none
abbrev pub IsHeadOf : Lists → ℕ → Option ℕ → Type 0
IsHeadOf lists member head = (h : ℕ) → (head ≡ Some h) ↔ IsUnder lists h member

-- What follows a member: wherever the member stands, it is what stands at the place behind it, and nothing at the end of a
-- list. Nothing follows a member that is loose.
pub record IsNext (lists : Lists) (member : ℕ) (next : Option ℕ) : Type 0 where
  pub behind : (head place : ℕ) → slice_get (list_of lists head) place ≡ Some member
      → next ≡ slice_get (list_of lists head) (place + 1)
  pub loose : IsLoose lists member → next ≡ None

-- No member stands at two places: neither in two lists nor twice in one. Each is below the count of members.
pub record StandOnce (lists : Lists) : Type 0 where
  pub one_head : (head other member : ℕ) → IsUnder lists head member
      → IsUnder lists other member → head ≡ other
  pub one_place : (head place other member : ℕ)
      → slice_get (list_of lists head) place ≡ Some member
      → slice_get (list_of lists head) other ≡ Some member → place ≡ other
  pub below : (head member : ℕ) → IsUnder lists head member → member < lists.members
  pub few : (head : ℕ) → length (list_of lists head) ≤ lists.members
