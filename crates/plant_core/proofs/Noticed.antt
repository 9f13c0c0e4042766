-- The boards behind an event: who hears of a change, and what stays.
use Rattle.std.proofs.Common.{◌≡◌, ◌≢◌, ◌⊎◌, ℕ, ◌<◌, ◌≤◌, ◌==◌, ◌||◌, Bool, true, false, List, [], ◌∷◌, length, All, inl, inr, refl, sym, ap, subst, ◌∙◌, arith, suc, eq-eqb}
use Rattle.std.specs.List.{list_any}
use Rattle.std.proofs.lemmas.Bool.{cases_eq, cases_lt, both_ways, ne_eqb}
use Rattle.std.proofs.lemmas.List.{ext_get_or, get_or-map, get_or_past, length-map, length-set}
use Rattle.std.specs.Ordering.{nat_cmp}
use Rattle.std.specs.FinSet.{contains-empty}
use Rattle.change_boards.specs.declared.sort.Sort.{Sort}
use Rattle.change_boards.specs.declared.sort.Sort.TheVariants.{Source, Protect}
use Rattle.change_boards.specs.Board.{Board, IsEmpty, blank, has_notice, marked}
use Rattle.change_boards.specs.Notices.{board_of, has, has_left, with_mark}
use Rattle.change_boards.specs.Laws.{AreBoards}
use Rattle.change_boards.proofs.OneNotice.{given, given_other, same_left, board_same, board_other, marked_left, marked_open}
use Rattle.change_boards.proofs.StayBoards.{AreBoards-mark}
use Rattle.plant_core.specs.Noticed.{marked_for_all, marked_for_others, all_marked}
use Rattle.plant_core.specs.NoticeLaws.{IsHeard}

abbrev mark : ℕ → Sort → Board → Board
mark dest sort board = marked board dest sort

-- two notices are one, or they differ
pub same_notice : (d dest : ℕ) (s sort : Sort) → ((d ≡ dest) × (s ≡ sort)) ⊎ (let notice : ℕ × Sort = (d, s) in notice ≢ (dest, sort))
same_notice d dest Source Source = elim (cases_eq d dest) [ inl same ↦ inl (same, refl) | inr other ↦ inr (λ e. other (λ i. (e i).0)) ]
same_notice d dest Source Protect = inr (λ e. let sorts : Source ≡ Protect = λ i. (e i).1 in absurd cc)
same_notice d dest Protect Source = inr (λ e. let sorts : Protect ≡ Source = λ i. (e i).1 in absurd cc)
same_notice d dest Protect Protect = elim (cases_eq d dest) [ inl same ↦ inl (same, refl) | inr other ↦ inr (λ e. other (λ i. (e i).0)) ]

-- what holds of a board where its panel has left, and of the marked one else, holds of the marked one
by_mark : (board : Board) (dest : ℕ) (sort : Sort) (P : Board → Type 0) → (board.left ≡ true → P board) → (board.left ≡ false → P (marked board dest sort)) → P (marked board dest sort)
by_mark board dest sort P gone stays = go board.left refl
  where
    go : (left : Bool) → board.left ≡ left → P (marked board dest sort)
    go true left = subst P (sym (marked_left board dest sort left)) (gone left)
    go false left = stays left

-- one mark on a board: its own notice comes, no other comes or goes, and nobody leaves
mark_left : (board : Board) (dest : ℕ) (sort : Sort) → (marked board dest sort).left ≡ board.left
mark_left board dest sort =
    by_mark board dest sort (λ b. b.left ≡ board.left) (λ left. refl) (λ left. ap (λ (b : Board). b.left) (marked_open board dest sort left) ∙ same_left board sort _)

mark_gives : (board : Board) (dest : ℕ) (sort : Sort) → board.left ≡ false → has_notice (marked board dest sort) dest sort ≡ true
mark_gives board dest sort left = ap (λ b. has_notice b dest sort) (marked_open board dest sort left) ∙ given board dest sort

mark_others : (board : Board) (dest : ℕ) (sort : Sort) (d : ℕ) (s : Sort) → (let notice : ℕ × Sort = (d, s) in notice ≢ (dest, sort)) → has_notice (marked board dest sort) d s ≡ has_notice board d s
mark_others board dest sort d s other =
    by_mark board dest sort (λ b. has_notice b d s ≡ has_notice board d s) (λ left. refl)
    (λ left. ap (λ b. has_notice b d s) (marked_open board dest sort left) ∙ given_other board dest sort d s other)

mark_keeps : (board : Board) (dest : ℕ) (sort : Sort) (d : ℕ) (s : Sort) → has_notice board d s ≡ true → has_notice (marked board dest sort) d s ≡ true
mark_keeps board dest sort d s h = by_mark board dest sort (λ b. has_notice b d s ≡ true) (λ left. h) (λ left.
    elim (same_notice d dest s sort) [
      | inl same ↦ subst (λ (n : ℕ × Sort). has_notice (marked board dest sort) n.0 n.1 ≡ true) (λ i. (sym same.0 i, sym same.1 i)) (mark_gives board dest sort left)
      | inr other ↦ mark_others board dest sort d s other ∙ h
    ])

-- no notice is on the board of a panel that isn't there
pub past_none : (boards : List Board) (panel d : ℕ) (s : Sort) → length boards ≤ panel → has boards panel d s ≡ false
past_none boards panel d s past = ap (λ b. has_notice b d s) (get_or_past boards panel blank past) ∙ none s
  where
    none : (s : Sort) → has_notice blank d s ≡ false
    none Source = contains-empty nat_cmp d
    none Protect = contains-empty nat_cmp d

-- all boards are marked, each as if it alone was
pub length-all : (boards : List Board) (dest : ℕ) (sort : Sort) → length (marked_for_all boards dest sort) ≡ length boards
length-all boards dest sort = length-map boards (mark dest sort)

pub all_at : (boards : List Board) (dest : ℕ) (sort : Sort) (panel : ℕ) → panel < length boards → board_of (marked_for_all boards dest sort) panel ≡ marked (board_of boards panel) dest sort
all_at boards dest sort panel within = get_or-map (mark dest sort) boards panel blank blank within

all_alone : (boards : List Board) (dest : ℕ) (sort : Sort) (panel : ℕ) → board_of (marked_for_all boards dest sort) panel ≡ board_of (with_mark boards panel dest sort) panel
all_alone boards dest sort panel = elim (cases_lt panel (length boards)) [
  | inl within ↦ all_at boards dest sort panel within ∙ sym (board_same boards panel (marked (board_of boards panel) dest sort) within)
  | inr past ↦
      get_or_past (marked_for_all boards dest sort) panel blank (omega (arith, length-all boards dest sort))
      ∙ sym (get_or_past (with_mark boards panel dest sort) panel blank (omega (arith, length-set boards panel (marked (board_of boards panel) dest sort))))
]

AreBoards-all : (boards : List Board) (panels destinations dest : ℕ) (sort : Sort) → dest < destinations → AreBoards boards panels destinations → AreBoards (marked_for_all boards dest sort) panels destinations
AreBoards-all boards panels destinations dest sort within are =
    let marks = λ (panel : ℕ). AreBoards-mark boards panels destinations panel dest sort within are in
    record {
      count = length-all boards dest sort ∙ are.count;
      below = λ panel d s. subst (λ (b : Board). has_notice b d s ≡ true → d < destinations) (sym (all_alone boards dest sort panel)) ((marks panel).below panel d s);
      left = λ panel. subst (λ (b : Board). b.left ≡ true → IsEmpty b) (sym (all_alone boards dest sort panel)) ((marks panel).left panel);
    }

-- what holds of each board where its panel is there, and of the board of one that isn't, holds behind the marks
at_all : (boards : List Board) (dest : ℕ) (sort : Sort) (panel : ℕ) (P : Board → Type 0) → (length boards ≤ panel → P (board_of boards panel)) → (panel < length boards → P (marked (board_of boards panel) dest sort)) →
    P (board_of (marked_for_all boards dest sort) panel)
at_all boards dest sort panel P past within = elim (cases_lt panel (length boards)) [
  | inl below ↦ subst P (sym (all_at boards dest sort panel below)) (within below)
  | inr above ↦ subst P (get_or_past boards panel blank above ∙ sym (get_or_past (marked_for_all boards dest sort) panel blank (omega (arith, above, length-all boards dest sort)))) (past above)
]

all_left : (boards : List Board) (dest : ℕ) (sort : Sort) (panel : ℕ) → has_left (marked_for_all boards dest sort) panel ≡ has_left boards panel
all_left boards dest sort panel =
    at_all boards dest sort panel (λ b. b.left ≡ has_left boards panel) (λ past. refl) (λ within. mark_left (board_of boards panel) dest sort)

all_gone : (boards : List Board) (dest : ℕ) (sort : Sort) (panel : ℕ) → has_left boards panel ≡ true → board_of (marked_for_all boards dest sort) panel ≡ board_of boards panel
all_gone boards dest sort panel left =
    at_all boards dest sort panel (λ b. b ≡ board_of boards panel) (λ past. refl) (λ within. marked_left (board_of boards panel) dest sort left)

all_keeps : (boards : List Board) (dest : ℕ) (sort : Sort) (panel d : ℕ) (s : Sort) → has boards panel d s ≡ true → has (marked_for_all boards dest sort) panel d s ≡ true
all_keeps boards dest sort panel d s h =
    at_all boards dest sort panel (λ b. has_notice b d s ≡ true) (λ past. h) (λ within. mark_keeps (board_of boards panel) dest sort d s h)

all_others : (boards : List Board) (dest : ℕ) (sort : Sort) (panel d : ℕ) (s : Sort) → (let notice : ℕ × Sort = (d, s) in notice ≢ (dest, sort)) → has (marked_for_all boards dest sort) panel d s ≡ has boards panel d s
all_others boards dest sort panel d s other =
    at_all boards dest sort panel (λ b. has_notice b d s ≡ has boards panel d s) (λ past. refl) (λ within. mark_others (board_of boards panel) dest sort d s other)

-- all boards are marked, but that of the asker stays
pub length-others : (boards : List Board) (asker dest : ℕ) (sort : Sort) → length (marked_for_others boards asker dest sort) ≡ length boards
length-others boards asker dest sort = length-set (marked_for_all boards dest sort) asker (board_of boards asker) ∙ length-all boards dest sort

pub others_asker : (boards : List Board) (asker dest : ℕ) (sort : Sort) → board_of (marked_for_others boards asker dest sort) asker ≡ board_of boards asker
others_asker boards asker dest sort = elim (cases_lt asker (length boards)) [
  | inl within ↦ board_same (marked_for_all boards dest sort) asker (board_of boards asker) (omega (arith, within, length-all boards dest sort))
  | inr past ↦
      get_or_past (marked_for_others boards asker dest sort) asker blank (omega (arith, past, length-others boards asker dest sort)) ∙ sym (get_or_past boards asker blank past)
]

pub others_other : (boards : List Board) (asker dest : ℕ) (sort : Sort) (panel : ℕ) → panel ≢ asker → board_of (marked_for_others boards asker dest sort) panel ≡ board_of (marked_for_all boards dest sort) panel
others_other boards asker dest sort panel other = board_other (marked_for_all boards dest sort) asker panel (board_of boards asker) other

-- what holds of the asker's board and of each other one behind the marks, holds of each board
each_board : (boards : List Board) (asker dest : ℕ) (sort : Sort) (panel : ℕ) (P : Board → Type 0) → (panel ≡ asker → P (board_of boards panel)) → (panel ≢ asker → P (board_of (marked_for_all boards dest sort) panel)) →
    P (board_of (marked_for_others boards asker dest sort) panel)
each_board boards asker dest sort panel P own others = elim (cases_eq panel asker) [
  | inl here ↦
      subst P (sym (subst (λ n. board_of (marked_for_others boards asker dest sort) n ≡ board_of boards n) (sym here) (others_asker boards asker dest sort))) (own here)
  | inr other ↦ subst P (sym (others_other boards asker dest sort panel other)) (others other)
]

pub AreBoards-others : (boards : List Board) (panels destinations asker dest : ℕ) (sort : Sort) → dest < destinations → AreBoards boards panels destinations → AreBoards (marked_for_others boards asker dest sort) panels destinations
AreBoards-others boards panels destinations asker dest sort within are =
    let all = AreBoards-all boards panels destinations dest sort within are in
    record {
      count = length-others boards asker dest sort ∙ are.count;
      below = λ panel d s.
          each_board boards asker dest sort panel (λ b. has_notice b d s ≡ true → d < destinations) (λ here. are.below panel d s) (λ other. all.below panel d s);
      left = λ panel. each_board boards asker dest sort panel (λ b. b.left ≡ true → IsEmpty b) (λ here. are.left panel) (λ other. all.left panel);
    }

-- who hears of a change
pub others-IsHeard : (boards : List Board) (asker dest : ℕ) (sort : Sort) → IsHeard boards (marked_for_others boards asker dest sort) asker dest sort
others-IsHeard boards asker dest sort = record {
  heard = λ panel within other stays.
      ap (λ b. has_notice b dest sort) (others_other boards asker dest sort panel other ∙ all_at boards dest sort panel within) ∙ mark_gives (board_of boards panel) dest sort stays;
  own = others_asker boards asker dest sort;
  gone = λ panel left. each_board boards asker dest sort panel (λ b. b ≡ board_of boards panel) (λ here. refl) (λ other. all_gone boards dest sort panel left);
  others = λ panel d s apart. each_board boards asker dest sort panel (λ b. has_notice b d s ≡ has boards panel d s) (λ here. refl) (λ other. all_others boards dest sort panel d s apart);
  left = λ panel. each_board boards asker dest sort panel (λ b. b.left ≡ has_left boards panel) (λ here. refl) (λ other. all_left boards dest sort panel);
}

-- a mark takes no notice away
pub others_keep : (boards : List Board) (asker dest : ℕ) (sort : Sort) (panel d : ℕ) (s : Sort) → has boards panel d s ≡ true → has (marked_for_others boards asker dest sort) panel d s ≡ true
others_keep boards asker dest sort panel d s h =
    each_board boards asker dest sort panel (λ b. has_notice b d s ≡ true) (λ here. h) (λ other. all_keeps boards dest sort panel d s h)

-- all boards are marked for some destinations
pub AreBoards-marked : (dests : List ℕ) (boards : List Board) (panels destinations : ℕ) → All (λ dest. dest < destinations) dests → AreBoards boards panels destinations → AreBoards (all_marked boards dests) panels destinations
AreBoards-marked [] boards panels destinations within are = are
AreBoards-marked (dest ∷ dests) boards panels destinations within are =
    AreBoards-marked dests (marked_for_all boards dest Source) panels destinations (λ k d below. within (suc k) d (omega arith))
    (AreBoards-all boards panels destinations dest Source (within 0 dest (omega arith)) are)

pub marked_length : (dests : List ℕ) (boards : List Board) → length (all_marked boards dests) ≡ length boards
marked_length [] boards = refl
marked_length (dest ∷ dests) boards = marked_length dests (marked_for_all boards dest Source) ∙ length-all boards dest Source

pub marked_stays_left : (dests : List ℕ) (boards : List Board) (panel : ℕ) → has_left (all_marked boards dests) panel ≡ has_left boards panel
marked_stays_left [] boards panel = refl
marked_stays_left (dest ∷ dests) boards panel = marked_stays_left dests (marked_for_all boards dest Source) panel ∙ all_left boards dest Source panel

pub marked_gone : (dests : List ℕ) (boards : List Board) (panel : ℕ) → has_left boards panel ≡ true → board_of (all_marked boards dests) panel ≡ board_of boards panel
marked_gone [] boards panel left = refl
marked_gone (dest ∷ dests) boards panel left =
    marked_gone dests (marked_for_all boards dest Source) panel (all_left boards dest Source panel ∙ left) ∙ all_gone boards dest Source panel left

pub marked_keeps : (dests : List ℕ) (boards : List Board) (panel d : ℕ) (s : Sort) → has boards panel d s ≡ true → has (all_marked boards dests) panel d s ≡ true
marked_keeps [] boards panel d s h = h
marked_keeps (dest ∷ dests) boards panel d s h = marked_keeps dests (marked_for_all boards dest Source) panel d s (all_keeps boards dest Source panel d s h)

or_false : (a b : Bool) → (a || b) ≡ false → (a ≡ false) × (b ≡ false)
or_false true b h = cc
or_false false b h = (refl, h)

-- whether a destination is among some
abbrev pub is_among : List ℕ → ℕ → Bool
is_among dests d = list_any (λ dest. d == dest) dests

pub marked_heard : (dests : List ℕ) (boards : List Board) (panel d : ℕ) → is_among dests d ≡ true → panel < length boards → has_left boards panel ≡ false → has (all_marked boards dests) panel d Source ≡ true
marked_heard [] boards panel d among within stays = cc
marked_heard (dest ∷ dests) boards panel d among within stays = elim (cases_eq d dest) [
  | inl same ↦
      marked_keeps dests (marked_for_all boards dest Source) panel d Source
      (subst (λ n. has (marked_for_all boards dest Source) panel n Source ≡ true) (sym same)
      (ap (λ b. has_notice b dest Source) (all_at boards dest Source panel within) ∙ mark_gives (board_of boards panel) dest Source stays))
  | inr other ↦
      let later : is_among dests d ≡ true = rw (ne_eqb d dest other) at among in
      marked_heard dests (marked_for_all boards dest Source) panel d later (omega (arith, within, length-all boards dest Source)) (all_left boards dest Source panel ∙ stays)
]

pub marked_others : (dests : List ℕ) (boards : List Board) (panel d : ℕ) (s : Sort) → (s ≡ Source → is_among dests d ≡ false) → has (all_marked boards dests) panel d s ≡ has boards panel d s
marked_others [] boards panel d s apart = refl
marked_others (dest ∷ dests) boards panel d s apart =
    marked_others dests (marked_for_all boards dest Source) panel d s (λ of. (apart_parts (apart of)).1)
    ∙ all_others boards dest Source panel d s (λ e.
    let of : s ≡ Source = λ i. (e i).1 in
    let same : d ≡ dest = λ i. (e i).0 in
    both_ways (d == dest) (apart_parts (apart of)).0 (eq-eqb d dest same))
  where
    apart_parts : is_among (dest ∷ dests) d ≡ false → ((d == dest) ≡ false) × (is_among dests d ≡ false)
    apart_parts h = or_false (d == dest) (is_among dests d) h

-- boards are equal where each panel's is
pub same_boards : (a b : List Board) → length a ≡ length b → ((panel : ℕ) → panel < length a → board_of a panel ≡ board_of b panel) → a ≡ b
same_boards a b count same = ext_get_or blank a b count same
