-- A mark, a take or a leave changes one notice, or one board.
use Rattle.std.proofs.Common.{◌≡◌, ◌≢◌, ℕ, ◌<◌, ◌≤◌, ◌==◌, not, nat_lt, cond, Bool, true, false, List, length, set, Option, Some, None, inl, inr, refl, sym, ap, subst, ◌∙◌, arith, eq-eqb, get_or-set_same, get_or-set_other}
use Rattle.std.proofs.lemmas.Bool.{cases_eq, ne_eqb, ltb-true, ltb-false, both_ways, and_parts}
use Rattle.std.proofs.lemmas.List.{set-get_or}
use Rattle.std.specs.FinSet.{contains, insert, remove}
use Rattle.change_boards.specs.declared.sort.Sort.{Sort}
use Rattle.change_boards.specs.declared.sort.Sort.TheVariants.{Source, Protect}
use Rattle.change_boards.specs.Destinations.{Destinations, lowest}
use Rattle.change_boards.specs.Board.{Board, blank, dests_of, has_notice, with_dests, marked, sooner, next}
use Rattle.change_boards.specs.Notices.{board_of, has, has_left, with_mark, with_removal}
use Rattle.change_boards.specs.Laws.{DiffersAt, Adds, IsBefore, Removes}
use Rattle.number_tables.proofs.Members.{contains_inserted, contains_removed}
use Rattle.number_tables.proofs.LowestLemmas.{IsLowest, IsLowest-lowest, none_lowest}

insert_has : (dests : Destinations) (dest : ℕ) → contains (insert dests dest) dest ≡ true
insert_has dests dest = contains_inserted dests dest dest ∙ rw (eq-eqb dest dest refl) refl

insert_other : (dests : Destinations) (dest d : ℕ) → d ≢ dest → contains (insert dests dest) d ≡ contains dests d
insert_other dests dest d other = contains_inserted dests dest d ∙ rw (ne_eqb d dest other) refl

remove_has : (dests : Destinations) (dest : ℕ) → contains (remove dests dest) dest ≡ false
remove_has dests dest = contains_removed dests dest dest ∙ rw (eq-eqb dest dest refl) refl

remove_other : (dests : Destinations) (dest d : ℕ) → d ≢ dest → contains (remove dests dest) d ≡ contains dests d
remove_other dests dest d other = contains_removed dests dest d ∙ rw (ne_eqb d dest other) refl

-- a board that differs in one notice
pub given : (board : Board) (dest : ℕ) (sort : Sort) → has_notice (with_dests board sort (insert (dests_of board sort) dest)) dest sort ≡ true
given board dest Source = insert_has board.source dest
given board dest Protect = insert_has board.protect dest

pub given_other : (board : Board) (dest : ℕ) (sort : Sort) (d : ℕ) (s : Sort) → (let notice : ℕ × Sort = (d, s) in notice ≢ (dest, sort)) →
    has_notice (with_dests board sort (insert (dests_of board sort) dest)) d s ≡ has_notice board d s
given_other board dest Source d Source other = insert_other board.source dest d (λ e. other (λ i. (e i, Source)))
given_other board dest Source d Protect other = refl
given_other board dest Protect d Source other = refl
given_other board dest Protect d Protect other = insert_other board.protect dest d (λ e. other (λ i. (e i, Protect)))

pub removed : (board : Board) (dest : ℕ) (sort : Sort) → has_notice (with_dests board sort (remove (dests_of board sort) dest)) dest sort ≡ false
removed board dest Source = remove_has board.source dest
removed board dest Protect = remove_has board.protect dest

pub removed_other : (board : Board) (dest : ℕ) (sort : Sort) (d : ℕ) (s : Sort) → (let notice : ℕ × Sort = (d, s) in notice ≢ (dest, sort)) →
    has_notice (with_dests board sort (remove (dests_of board sort) dest)) d s ≡ has_notice board d s
removed_other board dest Source d Source other = remove_other board.source dest d (λ e. other (λ i. (e i, Source)))
removed_other board dest Source d Protect other = refl
removed_other board dest Protect d Source other = refl
removed_other board dest Protect d Protect other = remove_other board.protect dest d (λ e. other (λ i. (e i, Protect)))

pub removed_less : (board : Board) (dest : ℕ) (sort : Sort) (d : ℕ) (s : Sort) → has_notice (with_dests board sort (remove (dests_of board sort) dest)) d s ≡ true → has_notice board d s ≡ true
removed_less board dest Source d Source has = (and_parts (not (d == dest)) (contains board.source d) (sym (contains_removed board.source dest d) ∙ has)).1
removed_less board dest Source d Protect has = has
removed_less board dest Protect d Source has = has
removed_less board dest Protect d Protect has = (and_parts (not (d == dest)) (contains board.protect d) (sym (contains_removed board.protect dest d) ∙ has)).1

pub same_left : (board : Board) (sort : Sort) (dests : Destinations) → (with_dests board sort dests).left ≡ board.left
same_left board Source dests = refl
same_left board Protect dests = refl

-- the board of a panel, after one panel's was replaced
pub board_same : (boards : List Board) (panel : ℕ) (board : Board) → panel < length boards → board_of (set boards panel board) panel ≡ board
board_same boards panel board within = get_or-set_same boards panel board blank within

pub board_other : (boards : List Board) (panel p : ℕ) (board : Board) → p ≢ panel → board_of (set boards panel board) p ≡ board_of boards p
board_other boards panel p board other = get_or-set_other boards panel p board blank other

-- where one panel's board differs in one notice, the boards do
one_board : (boards : List Board) (panel dest : ℕ) (sort : Sort) (board : Board) → panel < length boards →
    ((d : ℕ) (s : Sort) → (let notice : ℕ × Sort = (d, s) in notice ≢ (dest, sort)) → has_notice board d s ≡ has boards panel d s) → board.left ≡ has_left boards panel →
    DiffersAt boards (set boards panel board) panel dest sort
one_board boards panel dest sort board within same left = record {
  others = λ p d s other. elim (cases_eq p panel) [
    | inl here ↦
        rw here (ap (λ b. has_notice b d s) (board_same boards panel board within) ∙ same d s (λ e. other (λ i. (here i, (e i).0, (e i).1))))
    | inr there ↦ ap (λ b. has_notice b d s) (board_other boards panel p board there)
  ];
  left = λ p. elim (cases_eq p panel) [
    | inl here ↦ rw here (ap (λ (b : Board). b.left) (board_same boards panel board within) ∙ left)
    | inr there ↦ ap (λ (b : Board). b.left) (board_other boards panel p board there)
  ];
}

pub marked_open : (board : Board) (dest : ℕ) (sort : Sort) → board.left ≡ false → marked board dest sort ≡ with_dests board sort (insert (dests_of board sort) dest)
marked_open board dest sort open_board = rw open_board refl

pub marked_left : (board : Board) (dest : ℕ) (sort : Sort) → board.left ≡ true → marked board dest sort ≡ board
marked_left board dest sort left = rw left refl

pub with_mark-Adds : (boards : List Board) (panel dest : ℕ) (sort : Sort) → panel < length boards → has_left boards panel ≡ false → Adds boards (with_mark boards panel dest sort) panel dest sort
with_mark-Adds boards panel dest sort within stays =
    let board : Board = board_of boards panel in
    let new : Board = with_dests board sort (insert (dests_of board sort) dest) in
    subst (λ b. Adds boards (set boards panel b) panel dest sort) (sym (marked_open board dest sort stays)) (record {
      added = ap (λ b. has_notice b dest sort) (board_same boards panel new within) ∙ given board dest sort;
      rest = one_board boards panel dest sort new within (given_other board dest sort) (same_left board sort (insert (dests_of board sort) dest));
    })

-- on the board of a panel that has left nothing is marked
pub with_mark-left : (boards : List Board) (panel dest : ℕ) (sort : Sort) → has_left boards panel ≡ true → with_mark boards panel dest sort ≡ boards
with_mark-left boards panel dest sort left = ap (set boards panel) (marked_left (board_of boards panel) dest sort left) ∙ set-get_or boards panel blank

-- the next notice of a board: the board has it, and no other before it
pub record IsNext (board : Board) (dest : ℕ) (sort : Sort) : Type 0 where
  pub stood : has_notice board dest sort ≡ true
  pub first : (d : ℕ) (s : Sort) → has_notice board d s ≡ true → (let notice : ℕ × Sort = (d, s) in notice ≢ (dest, sort)) → IsBefore dest sort d s

next_source : (board : Board) (dest : ℕ) → IsLowest board.source dest → ((d : ℕ) → contains board.protect d ≡ true → dest ≤ d) → IsNext board dest Source
next_source board dest low behind = record { stood = low.has; first = first }
  where
    first : (d : ℕ) (s : Sort) → has_notice board d s ≡ true → (let notice : ℕ × Sort = (d, s) in notice ≢ (dest, Source)) → IsBefore dest Source d s
    first d Source h other =
        let apart : d ≢ dest = λ e. other (λ i. (e i, Source)) in
        inl (omega (arith, low.least d h, apart))
    first d Protect h other = elim (cases_eq dest d) [
      | inl same ↦ inr (same, refl, refl)
      | inr apart ↦ inl (omega (arith, behind d h, apart))
    ]

next_protect : (board : Board) (dest : ℕ) → IsLowest board.protect dest → ((d : ℕ) → contains board.source d ≡ true → dest < d) → IsNext board dest Protect
next_protect board dest low behind = record { stood = low.has; first = first }
  where
    first : (d : ℕ) (s : Sort) → has_notice board d s ≡ true → (let notice : ℕ × Sort = (d, s) in notice ≢ (dest, Protect)) → IsBefore dest Protect d s
    first d Source h other = inl (behind d h)
    first d Protect h other =
        let apart : d ≢ dest = λ e. other (λ i. (e i, Protect)) in
        inl (omega (arith, low.least d h, apart))

next_is : (board : Board) (dest : ℕ) (sort : Sort) (source protect : Option ℕ) → lowest board.source ≡ source → lowest board.protect ≡ protect → sooner source protect ≡ Some (dest, sort) → IsNext board dest sort
next_is board dest sort None None s p h = cc
next_is board dest sort None (Some protect) s p h =
    let mine : ℕ × Sort = (protect, Protect) in
    let same : mine ≡ (dest, sort) = cc in
    subst (λ (notice : ℕ × Sort). IsNext board notice.0 notice.1) same
    (next_protect board protect (IsLowest-lowest board.protect protect p) (λ d has. absurd (both_ways (contains board.source d) (none_lowest board.source s d) has)))
next_is board dest sort (Some source) None s p h =
    let mine : ℕ × Sort = (source, Source) in
    let same : mine ≡ (dest, sort) = cc in
    subst (λ (notice : ℕ × Sort). IsNext board notice.0 notice.1) same
    (next_source board source (IsLowest-lowest board.source source s) (λ d has. absurd (both_ways (contains board.protect d) (none_lowest board.protect p d) has)))
next_is board dest sort (Some source) (Some protect) s p h = go (nat_lt protect source) refl h
  where
    low_source : IsLowest board.source source
    low_source = IsLowest-lowest board.source source s

    low_protect : IsLowest board.protect protect
    low_protect = IsLowest-lowest board.protect protect p

    go : (b : Bool) → nat_lt protect source ≡ b → (let chosen : Option (ℕ × Sort) = cond b (Some (protect, Protect)) (Some (source, Source)) in chosen ≡ Some (dest, sort)) → IsNext board dest sort
    go true lower e =
        let mine : ℕ × Sort = (protect, Protect) in
        let same : mine ≡ (dest, sort) = cc in
        subst (λ (notice : ℕ × Sort). IsNext board notice.0 notice.1) same
        (next_protect board protect low_protect (λ d has. omega (arith, ltb-true protect source lower, low_source.least d has)))
    go false higher e =
        let mine : ℕ × Sort = (source, Source) in
        let same : mine ≡ (dest, sort) = cc in
        subst (λ (notice : ℕ × Sort). IsNext board notice.0 notice.1) same
        (next_source board source low_source (λ d has. omega (arith, ltb-false protect source higher, low_protect.least d has)))

pub next-IsNext : (board : Board) (dest : ℕ) (sort : Sort) → next board ≡ Some (dest, sort) → IsNext board dest sort
next-IsNext board dest sort h = next_is board dest sort (lowest board.source) (lowest board.protect) refl refl h

pub with_removal-Removes : (boards : List Board) (panel dest : ℕ) (sort : Sort) → panel < length boards → next (board_of boards panel) ≡ Some (dest, sort) → Removes boards (with_removal boards panel) panel dest sort
with_removal-Removes boards panel dest sort within h =
    let board : Board = board_of boards panel in
    let new : Board = with_dests board sort (remove (dests_of board sort) dest) in
    let is = next-IsNext board dest sort h in
    rw h (record {
      stood = is.stood;
      first = is.first;
      gone = ap (λ b. has_notice b dest sort) (board_same boards panel new within) ∙ removed board dest sort;
      rest = one_board boards panel dest sort new within (removed_other board dest sort) (same_left board sort (remove (dests_of board sort) dest));
    })
