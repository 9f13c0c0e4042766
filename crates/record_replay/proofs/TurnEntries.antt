-- What the entries of a turn say of the items of its session.
use Rattle.std.proofs.Common.{◌≡◌, ◌≢◌, ℕ, ◌+◌, ◌<◌, ◌≤◌, true, false, Bool, cond, List, [], ◌∷◌, ◌++◌, length, All, Some, None, refl, sym, ap, ◌∙◌, subst, arith}
use Rattle.std.specs.Prelude.{find, nat_lt}
use Rattle.std.specs.Option.{option_map}
use Rattle.std.proofs.lemmas.Bool.{ne_eqb, true≢false}
use Rattle.std.proofs.lemmas.Bool.Decides.{nat_tests}
use Rattle.std.proofs.lemmas.List.Concat.{flat_map-append}
use Rattle.std.proofs.lemmas.List.Elements.{All-head, All-tail, All-push}
use Rattle.dle_framing.specs.Items.{items}
use Rattle.plant_core.specs.declared.request.Request.{Request}
use Rattle.plant_core.specs.declared.request.Request.TheVariants.{Told, Poll, Leave, DisplayPoll}
use Rattle.plant_core.specs.declared.answer.Answer.{Answer}
use Rattle.panel_session.specs.Asked.{sent_to_plant}
use Rattle.panel_session.specs.Entry.{PlantEntry}
use Rattle.panel_session.specs.Text.{frames_of, polled_by, polled_at, is_told_at, told_at}
use Rattle.panel_session.specs.Turns.{Turn, bytes_read, entries_in, requests, ArePolls, IsTurn}

-- What an item asks: the type is `panel_session`'s own, and is named here by a function that goes over it.
abbrev ElementOf : {A B : Type 0} → (List A → B) → Type 0
ElementOf {A} f = A

abbrev pub Asked : Type 0
Asked = ElementOf (sent_to_plant 0 0)

-- a request that tells of an item before this one, or of none
abbrev is_early : ℕ → Request → Bool
is_early first (Told panel item message) = nat_lt item first
is_early first (Poll panel item turn) = true
is_early first (Leave panel) = true
is_early first (DisplayPoll screen refresh) = true

early_told : (first k : ℕ) (request : Request) → is_early first request ≡ false → k < first → is_told_at k request ≡ false
early_told first k (Told panel item message) late below = grind (arith, nat_tests)
early_told first k (Poll panel item turn) late below = refl
early_told first k (Leave panel) late below = refl
early_told first k (DisplayPoll screen refresh) late below = refl

early_polled : (first k : ℕ) (request : Request) (answers : List Answer) → is_early first request ≡ false → polled_by k request answers ≡ []
early_polled first k (Told panel item message) answers late = refl
early_polled first k (Poll panel item turn) answers late = absurd (true≢false late)
early_polled first k (Leave panel) answers late = refl
early_polled first k (DisplayPoll screen refresh) answers late = refl

-- The requests that items send to the plant are none such.
one_late : (panel first n : ℕ) (a : Asked) (others : List Asked) → first ≤ n → find (is_early first) (sent_to_plant panel (n + 1) others) ≡ None
    → find (is_early first) (sent_to_plant panel n (a ∷ others)) ≡ None
one_late panel first n a others within later = grind (arith, nat_tests)

all_late : (panel first n : ℕ) (asked : List Asked) → first ≤ n → find (is_early first) (sent_to_plant panel n asked) ≡ None
all_late panel first n [] within = refl
all_late panel first n (a ∷ asked) within = one_late panel first n a asked within (all_late panel first (n + 1) asked (omega arith))

find-none : {X : Type 0} (p : X → Bool) (x : X) (xs : List X) → find p (x ∷ xs) ≡ None → (p x ≡ false) × (find p xs ≡ None)
find-none p x xs = elim (p x) as (λ test. cond test (Some x) (find p xs) ≡ None → (test ≡ false) × (find p xs ≡ None)) [
  | true ↦ λ is. absurd cc
  | false ↦ λ is. (refl, is)
]

-- The entry of a request that tells nothing of an item.
told_at-skip : (k : ℕ) (entry : PlantEntry) (entries : List PlantEntry) → is_told_at k entry.request ≡ false → told_at k (entry ∷ entries) ≡ told_at k entries
told_at-skip k entry entries other =
    ap (λ (test : Bool). option_map (λ (entry : PlantEntry). entry.answers) (cond test (Some entry) (find (λ (entry : PlantEntry). is_told_at k entry.request) entries))) other

-- Entries of such requests tell nothing of items before `first`, and none is a poll.
late-told : (first k : ℕ) (entries : List PlantEntry) → find (is_early first) (requests entries) ≡ None → k < first → told_at k entries ≡ None
late-told first k [] late below = refl
late-told first k (entry ∷ entries) late below =
    let one = find-none (is_early first) entry.request (requests entries) late in
    told_at-skip k entry entries (early_told first k entry.request one.0 below) ∙ late-told first k entries one.1 below

late-polled : (first k : ℕ) (entries : List PlantEntry) → find (is_early first) (requests entries) ≡ None → polled_at k entries ≡ []
late-polled first k [] late = refl
late-polled first k (entry ∷ entries) late =
    let one = find-none (is_early first) entry.request (requests entries) late in
    λ i. frames_of (early_polled first k entry.request entry.answers one.0 i) ++ late-polled first k entries one.1 i

-- Polls tell nothing of any item, and are made behind the turn's items.
module _ (panel item turn : ℕ) where
  abbrev IsPoll : PlantEntry → Type 0
  IsPoll entry = entry.request ≡ Poll panel item turn

  polls-told : (k : ℕ) (polls : List PlantEntry) → All IsPoll polls → told_at k polls ≡ None
  polls-told k [] are = refl
  polls-told k (entry ∷ polls) are = told_at-skip k entry polls (ap (is_told_at k) (All-head IsPoll entry polls are)) ∙ polls-told k polls (All-tail IsPoll entry polls are)

  polls-polled : (k : ℕ) (polls : List PlantEntry) → k ≢ item → All IsPoll polls → polled_at k polls ≡ []
  polls-polled k [] apart are = refl
  polls-polled k (entry ∷ polls) apart are =
      ap (λ (request : Request). frames_of (polled_by k request entry.answers) ++ polled_at k polls) (All-head IsPoll entry polls are)
      ∙ ap (λ (test : Bool). frames_of (cond test entry.answers []) ++ polled_at k polls) (ne_eqb item k (λ is. apart (sym is)))
      ∙ polls-polled k polls apart (All-tail IsPoll entry polls are)

  all_polls : (polls : List PlantEntry) → ArePolls (Poll panel item turn) polls → All IsPoll polls
  all_polls polls are =
      let AllPoll : List PlantEntry → Type 0 = λ polls. All IsPoll polls in
      subst AllPoll (sym are.polls_are) (All-push IsPoll are.answered are.last (λ k d below. (are.each k d below).0) are.last_poll)

-- What entries say of an item where those in front say nothing, or those behind.
told_at-behind : (k : ℕ) (entries more : List PlantEntry) → told_at k entries ≡ None → told_at k (entries ++ more) ≡ told_at k more
told_at-behind k [] more none = refl
told_at-behind k (entry ∷ entries) more none =
    let answers : PlantEntry → List Answer = λ entry. entry.answers in
    let tells : PlantEntry → Bool = λ entry. is_told_at k entry.request in
    (elim (is_told_at k entry.request) as (λ test. option_map answers (cond test (Some entry) (find tells entries)) ≡ None
    → option_map answers (cond test (Some entry) (find tells (entries ++ more))) ≡ told_at k more) [
      | true ↦ λ none. absurd cc
      | false ↦ λ none. told_at-behind k entries more none
    ]) none

pub told_at-front : (k : ℕ) (entries more : List PlantEntry) → told_at k more ≡ None → told_at k (entries ++ more) ≡ told_at k entries
told_at-front k [] more none = none
told_at-front k (entry ∷ entries) more none =
    let answers : PlantEntry → List Answer = λ entry. entry.answers in
    let tells : PlantEntry → Bool = λ entry. is_told_at k entry.request in
    elim (is_told_at k entry.request) as (λ test. option_map answers (cond test (Some entry) (find tells (entries ++ more)))
    ≡ option_map answers (cond test (Some entry) (find tells entries))) [
      | true ↦ refl
      | false ↦ told_at-front k entries more none
    ]

pub polled_at-append : (k : ℕ) (entries more : List PlantEntry) → polled_at k (entries ++ more) ≡ polled_at k entries ++ polled_at k more
polled_at-append k entries more = flat_map-append (λ (entry : PlantEntry). frames_of (polled_by k entry.request entry.answers)) entries more

-- The entries of a turn tell nothing of the items before its first, and its polls are all made behind its last.
pub record IsOfTurn (first next : ℕ) (entries : List PlantEntry) : Type 0 where
  pub told : (k : ℕ) → k < first → told_at k entries ≡ None
  pub polled : (k : ℕ) → k ≢ next → polled_at k entries ≡ []

pub turn_entries : (panel : ℕ) (before : List Turn) (turn : Turn) → IsTurn panel before turn
    → IsOfTurn (length (items (bytes_read before))) (length (items (bytes_read before ++ turn.piece))) (entries_in turn)
turn_entries panel before turn is =
    let first = length (items (bytes_read before)) in
    let next = length (items (bytes_read before ++ turn.piece)) in
    let late : find (is_early first) (requests turn.told) ≡ None = ap (find (is_early first)) is.told ∙ all_late panel first first is.asked (omega arith) in
    let polls = all_polls panel next (length before) turn.polls is.polls in
    record {
      told = λ k below. told_at-behind k turn.told turn.polls (late-told first k turn.told late below) ∙ polls-told panel next (length before) k turn.polls polls;
      polled = λ k apart.
          polled_at-append k turn.told turn.polls ∙ (λ i. late-polled first k turn.told late i ++ polls-polled panel next (length before) k turn.polls apart polls i);
    }
