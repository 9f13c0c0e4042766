-- How lists are held: the first member of each head, and for each member its head and its neighbours.
use Rattle.std.specs.Prelude.{◌≡◌, ℕ, zero, suc, ◌==◌, ◌<◌, Bool, true, false, cond, not, ◌&&◌, ◌||◌, List, [], ◌∷◌, map, length, set, slice_get, slice_set, Option, Some, None, is_none}
use Rattle.std.specs.Option.{option_flatten, unwrap_or}
use Rattle.tap_lists.specs.Lists.{Lists, without}

-- what stands at an index, none past the end
abbrev pub value_at : List (Option ℕ) → ℕ → Option ℕ
value_at values index = option_flatten (slice_get values index)

-- the values with this one at an index, if there is one
abbrev pub put_at : List (Option ℕ) → Option ℕ → Option ℕ → List (Option ℕ)
put_at values None value = values
put_at values (Some index) value = set values index value

-- an index that is there, if there is one
abbrev pub IsWithin : List (Option ℕ) → Option ℕ → Type 0
IsWithin values index = (i : ℕ) → index ≡ Some i → i < length values

-- the head of a member that nothing stands before
abbrev pub head_led : Option ℕ → Option ℕ → Option ℕ
head_led before head = cond (is_none before) head None

-- whether a link leads to this number
abbrev pub leads : Option ℕ → ℕ → Bool
leads None number = false
leads (Some other) number = other == number

-- the members from this one on, each by the link of the one before it; at most so many
abbrev pub walk : List (Option ℕ) → ℕ → Option ℕ → List ℕ
walk afters count None = []
walk afters zero (Some member) = []
walk afters (suc count) (Some member) = member ∷ walk afters count (value_at afters member)

-- the list of each head
unfoldable pub walked : List (Option ℕ) → List (Option ℕ) → List (List ℕ)
walked firsts afters = map (walk afters (length afters)) firsts

-- the lists that are held so
abbrev pub lists_of : List (Option ℕ) → List (Option ℕ) → Lists
lists_of firsts afters = record { by_head = walked firsts afters; members = length afters }

-- the list of a number, empty past the last head
abbrev pub list_at : List (List ℕ) → ℕ → List ℕ
list_at lists head = unwrap_or (slice_get lists head) []

-- whether a list has a member
abbrev pub has : List ℕ → ℕ → Bool
has [] member = false
has (other ∷ others) member = (other == member) || has others member

-- whether a list has each of its members once
abbrev pub is_once : List ℕ → Bool
is_once [] = true
is_once (member ∷ members) = not (has members member) && is_once members

-- what follows a member in a list
abbrev pub after : List ℕ → ℕ → Option ℕ
after [] member = None
after (other ∷ others) member = cond (other == member) (slice_get others 0) (after others member)

-- what comes before a member in a list that has this before it
abbrev pub before : Option ℕ → List ℕ → ℕ → Option ℕ
before front [] member = None
before front (other ∷ others) member =
    cond (other == member) front (before (Some other) others member)

-- The first members, the heads and the neighbours are those of these lists.
pub record IsLinked (firsts heads afters befores : List (Option ℕ)) (lists : List (List ℕ))
    : Type 0 where
  pub firsts_count : length firsts ≡ length lists
  pub afters_count : length afters ≡ length heads
  pub befores_count : length befores ≡ length heads
  pub owned : (head member : ℕ)
      → has (list_at lists head) member ≡ leads (value_at heads member) head
  pub once : (head : ℕ) → is_once (list_at lists head) ≡ true
  pub first : (head : ℕ) → value_at firsts head ≡ slice_get (list_at lists head) 0
  pub next : (head member : ℕ) → has (list_at lists head) member ≡ true
      → value_at afters member ≡ after (list_at lists head) member
  pub last : (head member : ℕ) → has (list_at lists head) member ≡ true
      → value_at befores member ≡ before None (list_at lists head) member
  pub loose : (member : ℕ) → value_at heads member ≡ None → value_at afters member ≡ None

-- They are those of the lists that they stand for.
abbrev pub IsHeld : (firsts heads afters befores : List (Option ℕ)) → Type 0
IsHeld firsts heads afters befores =
    IsLinked firsts heads afters befores (walked firsts afters)

-- the lists with a member put first in one
abbrev pub put_first : List (List ℕ) → ℕ → ℕ → List (List ℕ)
put_first lists head member = slice_set lists head (member ∷ list_at lists head)

-- the lists without a member
abbrev pub taken_out : List (List ℕ) → ℕ → List (List ℕ)
taken_out lists member = map (without member) lists
