-- What is kept over whole lists of arrivals.
use Rattle.std.proofs.Common.{◌≡◌, ℕ, ◌+◌, ◌-◌, ◌<◌, ◌≤◌, ◌⊎◌, zero, suc, List, [], ◌∷◌, ◌++◌, length, take, drop, slice_get, slice_set, Some, inl, inr, refl, sym, ap, subst, ◌∙◌, arith}
use Rattle.std.proofs.lemmas.List.{take-append-drop, length-take-le}
use Rattle.std.proofs.lemmas.Option.{slice_get_within}
use Rattle.std.proofs.lemmas.Bool.{cases_eq, cases_lt}
use Rattle.plant_config.specs.Plant.{PlantData}
use Rattle.plant_core.specs.declared.request.Request.{Request}
use Rattle.plant_core.specs.HistoryLaws.{PlantEntry}
use Rattle.standby.specs.declared.took.Took.{Took}
use Rattle.standby.specs.declared.took.Took.TheVariants.{Old, Beyond, Differs, Kept, Applied}
use Rattle.standby.specs.Standby.{Data, IsKeptAt, start, limit, in_row, keeps, applies}
use Rattle.standby.specs.Table.{Takes}
use Rattle.standby.specs.Follows.{Follows}
use Rattle.standby.specs.Arrivals.{Arrival, WasSent, WereSent, Runs, IsAtFront, Came, Has}
use Rattle.standby.specs.Laws.{StatesAreOfFronts, FrontsAreExact, NothingIsLost}
use Rattle.standby.proofs.WindowLemmas.{get-set_same, get-set_other, get-drop, kept_still}
use Rattle.standby.proofs.RowLemmas.{row_has, row_ends}
use Rattle.standby.proofs.StandbyLemmas.{kept_applies, kept_keeps, kept_start}
use Rattle.standby.proofs.FollowLemmas.{goes_on, new_follows}

-- what was sent is followed
pub runs_follow : (plant : PlantData) (history : List PlantEntry) (arrivals : List Arrival) (old new : Data) → Follows plant history old → WereSent history arrivals → Runs old arrivals new → Follows plant history new
runs_follow plant history [] old new follows sent runs = subst (Follows plant history) runs follows
runs_follow plant history (arrival ∷ arrivals) old new follows sent runs =
    let on = goes_on plant history old follows arrival.position arrival.request runs.0 runs.1 runs.2 sent.0 in
    runs_follow plant history arrivals runs.1 new on.follows sent.1 runs.3

pub at_front : (plant : PlantData) (history : List PlantEntry) (standby : Data) → Follows plant history standby → IsAtFront plant history standby
at_front plant history standby follows = record {
  front = take standby.applied history;
  later = drop standby.applied history;
  parts = sym (take-append-drop standby.applied history);
  applied = sym (length-take-le standby.applied history follows.within);
  state = follows.state;
}

pub states_are_of_fronts : StatesAreOfFronts
states_are_of_fronts plant places history arrivals standby sent runs =
    at_front plant history standby (runs_follow plant history arrivals (start plant places) standby (new_follows plant places history) sent runs)

-- All that is applied or kept is known, and nothing is kept for the first position that isn't applied.
record Knows (C : ℕ → Type 0) (standby : Data) : Type 0 where
  applied : (position : ℕ) → position < standby.applied → C position
  kept : (position : ℕ) (request : Request) → IsKeptAt standby position request → C position
  missing : (request : Request) → IsKeptAt standby standby.applied request → ⊥

knows-more : (C D : ℕ → Type 0) (standby : Data) → ((position : ℕ) → C position → D position) → Knows C standby → Knows D standby
knows-more C D standby more knows = record {
  applied = λ position below. more position (knows.applied position below);
  kept = λ position request is. more position (knows.kept position request is);
  missing = knows.missing;
}

-- what is known, and this position
abbrev With : (ℕ → Type 0) → ℕ → ℕ → Type 0
With C at position = C position ⊎ (position ≡ at)

knows-keeps : (C : ℕ → Type 0) (old : Data) (at : ℕ) (request : Request) → Knows C old → old.applied < at → Knows (With C at) (keeps old at request)
knows-keeps C old at request knows above = record {
  applied = λ position below. inl (knows.applied position below);
  kept = λ position other is. elim (kept_keeps old at request position other (omega (arith, above)) is) [
    | inl here ↦ inr here.0
    | inr there ↦ inl (knows.kept position other there)
  ];
  missing = λ other is. elim (kept_keeps old at request old.applied other (omega (arith, above)) is) [
    | inl here ↦ absurd (omega (arith, above, here.0))
    | inr there ↦ knows.missing other there
  ];
}

knows-applies : (C : ℕ → Type 0) (old : Data) (request : Request) → Knows C old → Knows (With C old.applied) (applies old request)
knows-applies C old request knows = record {
  applied = of;
  kept = λ position other is. inl (knows.kept position other (kept_applies old request position other is));
  missing = λ other is. ends other (kept_applies old request (old.applied + suc (length (in_row (drop 1 old.window)))) other is);
}
  where
    row : (offset : ℕ) → offset < length (in_row (drop 1 old.window)) → C (old.applied + suc offset)
    row offset within =
        let has = row_has (drop 1 old.window) offset within in
        knows.kept (old.applied + suc offset) has.0 (record {
          offset = 1 + offset;
          position_is = omega arith;
          kept = sym (get-drop 1 offset old.window) ∙ has.1;
        })

    at : (position : ℕ) (offset : ℕ) → position ≡ old.applied + offset → offset < suc (length (in_row (drop 1 old.window))) → With C old.applied position
    at position zero is within = inr (omega (arith, is))
    at position (suc offset) is within = inl (subst C (sym is) (row offset (omega (arith, within))))

    of : (position : ℕ) → position < old.applied + suc (length (in_row (drop 1 old.window))) → With C old.applied position
    of position below = elim (cases_lt position old.applied) [
      | inl before ↦ inl (knows.applied position before)
      | inr behind ↦ at position (position - old.applied) (omega (arith, behind)) (omega (arith, behind, below))
    ]

    ends : (other : Request) → IsKeptAt old (old.applied + suc (length (in_row (drop 1 old.window)))) other → ⊥
    ends other is =
        let same : is.offset ≡ 1 + length (in_row (drop 1 old.window)) = omega (arith, is.position_is) in
        row_ends (drop 1 old.window) other (get-drop 1 (length (in_row (drop 1 old.window))) old.window ∙ ap (slice_get old.window) (sym same) ∙ is.kept)

knows-takes : (C : ℕ → Type 0) (old : Data) (at : ℕ) (request : Request) (took : Took) (new : Data) → Knows C old → Takes old at request took new → Knows (With C at) new
knows-takes C old at request Old new knows takes = subst (Knows (With C at)) (sym takes.unchanged) (knows-more C (With C at) old (λ position c. inl c) knows)
knows-takes C old at request (Beyond told) new knows takes = subst (Knows (With C at)) (sym takes.unchanged) (knows-more C (With C at) old (λ position c. inl c) knows)
knows-takes C old at request Differs new knows takes = subst (Knows (With C at)) (sym takes.unchanged) (knows-more C (With C at) old (λ position c. inl c) knows)
knows-takes C old at request Kept new knows takes = subst (Knows (With C at)) (sym takes.is) (knows-keeps C old at request knows takes.above)
knows-takes C old at request (Applied told) new knows takes =
    subst (Knows (With C at)) (sym takes.is) (subst (λ here. Knows (With C here) (applies old request)) (sym takes.here) (knows-applies C old request knows))

came_later : (arrival : Arrival) (arrivals : List Arrival) (position : ℕ) → Came arrivals position → Came (arrival ∷ arrivals) position
came_later arrival arrivals position came = record {
  before = arrival ∷ came.before;
  arrival = came.arrival;
  behind = came.behind;
  parts = ap (λ all. arrival ∷ all) came.parts;
  position_is = came.position_is;
}

came_first : (arrival : Arrival) (arrivals : List Arrival) → Came (arrival ∷ arrivals) arrival.position
came_first arrival arrivals = record {
  before = [];
  arrival = arrival;
  behind = arrivals;
  parts = refl;
  position_is = refl;
}

runs_know : (C : ℕ → Type 0) (arrivals : List Arrival) (old new : Data) → Knows C old → Runs old arrivals new → Knows (λ position. C position ⊎ Came arrivals position) new
runs_know C [] old new knows runs = subst (Knows (λ position. C position ⊎ Came [] position)) runs (knows-more C (λ position. C position ⊎ Came [] position) old (λ position c. inl c) knows)
runs_know C (arrival ∷ arrivals) old new knows runs =
    let first = knows-takes C old arrival.position arrival.request runs.0 runs.1 knows runs.2 in
    let all = runs_know (With C arrival.position) arrivals runs.1 new first runs.3 in
    knows-more (λ position. With C arrival.position position ⊎ Came arrivals position) (λ position. C position ⊎ Came (arrival ∷ arrivals) position) new more all
  where
    more : (position : ℕ) → With C arrival.position position ⊎ Came arrivals position → C position ⊎ Came (arrival ∷ arrivals) position
    more position (inl (inl c)) = inl c
    more position (inl (inr here)) = inr (subst (Came (arrival ∷ arrivals)) (sym here) (came_first arrival arrivals))
    more position (inr came) = inr (came_later arrival arrivals position came)

only : (arrivals : List Arrival) (position : ℕ) → ⊥ ⊎ Came arrivals position → Came arrivals position
only arrivals position (inl none) = absurd none
only arrivals position (inr came) = came

pub fronts_are_exact : FrontsAreExact
fronts_are_exact plant places arrivals standby runs = record {
  applied = λ position below. only arrivals position (knows.applied position below);
  kept = λ position request is. only arrivals position (knows.kept position request is);
  missing = knows.missing;
}
  where
    knows : Knows (λ position. ⊥ ⊎ Came arrivals position) standby
    knows = runs_know (λ position. ⊥) arrivals (start plant places) standby (record {
      applied = λ position below. omega arith;
      kept = λ position request is. kept_start plant places position request is;
      missing = λ request is. kept_start plant places 0 request is;
    }) runs

-- What is there stays there.
has-keeps : (old : Data) (at : ℕ) (request : Request) (arrival : Arrival) → old.applied < at → ((other : Request) → IsKeptAt old at other → other ≡ request) → Has old arrival → Has (keeps old at request) arrival
has-keeps old at request arrival above alone (inl below) = inl below
has-keeps old at request arrival above alone (inr is) = inr (record {
  offset = is.offset;
  position_is = is.position_is;
  kept = elim (cases_eq is.offset (at - old.applied)) [
    | inl here ↦
        let place : at ≡ old.applied + is.offset = omega (arith, above, here) in
        let same : arrival.request ≡ request = alone arrival.request (record { offset = is.offset; position_is = place; kept = is.kept }) in
        let within = slice_get_within old.window is.offset (Some arrival.request) is.kept in
        subst (λ n. slice_get (slice_set old.window n (Some request)) is.offset ≡ Some (Some arrival.request)) here
        (get-set_same old.window is.offset (Some request) within ∙ ap (λ asked. Some (Some asked)) (sym same))
    | inr there ↦ get-set_other old.window (at - old.applied) is.offset (Some request) there ∙ is.kept
  ];
})

has-applies : (old : Data) (request : Request) (arrival : Arrival) → Has old arrival → Has (applies old request) arrival
has-applies old request arrival (inl below) = inl (omega (arith, below))
has-applies old request arrival (inr is) = elim (cases_lt is.offset (suc (length (in_row (drop 1 old.window))))) [
  | inl below ↦ inl (omega (arith, below, is.position_is))
  | inr behind ↦ inr (record {
    offset = is.offset - suc (length (in_row (drop 1 old.window)));
    position_is = omega (arith, behind, is.position_is);
    kept =
        let same : is.offset ≡ suc (length (in_row (drop 1 old.window))) + (is.offset - suc (length (in_row (drop 1 old.window)))) = omega (arith, behind) in
        kept_still (suc (length (in_row (drop 1 old.window)))) (is.offset - suc (length (in_row (drop 1 old.window)))) old.window arrival.request (ap (slice_get old.window) (sym same) ∙ is.kept);
  })
]

has-takes : (old : Data) (at : ℕ) (request : Request) (took : Took) (new : Data) (arrival : Arrival) → Takes old at request took new → Has old arrival → Has new arrival
has-takes old at request Old new arrival takes has = subst (λ standby. Has standby arrival) (sym takes.unchanged) has
has-takes old at request (Beyond told) new arrival takes has = subst (λ standby. Has standby arrival) (sym takes.unchanged) has
has-takes old at request Differs new arrival takes has = subst (λ standby. Has standby arrival) (sym takes.unchanged) has
has-takes old at request Kept new arrival takes has = subst (λ standby. Has standby arrival) (sym takes.is) (has-keeps old at request arrival takes.above takes.may.alone has)
has-takes old at request (Applied told) new arrival takes has = subst (λ standby. Has standby arrival) (sym takes.is) (has-applies old request arrival has)

runs_have : (arrivals : List Arrival) (old new : Data) (arrival : Arrival) → Runs old arrivals new → Has old arrival → Has new arrival
runs_have [] old new arrival runs has = subst (λ standby. Has standby arrival) runs has
runs_have (next ∷ arrivals) old new arrival runs has =
    runs_have arrivals runs.1 new arrival runs.3 (has-takes old next.position next.request runs.0 runs.1 arrival runs.2 has)

-- what comes is there afterwards, or it was beyond the window
has_it : (plant : PlantData) (history : List PlantEntry) (old : Data) (arrival : Arrival) (took : Took) (new : Data) → Follows plant history old → WasSent history arrival → Takes old arrival.position arrival.request took new → Has new arrival ⊎ (limit old ≤ arrival.position)
has_it plant history old arrival Old new follows sent takes = inl (inl (subst (λ (standby : Data). arrival.position < standby.applied) (sym takes.unchanged) takes.below))
has_it plant history old arrival (Beyond told) new follows sent takes = inr (omega (arith, takes.told_is, takes.beyond))
has_it plant history old arrival Differs new follows sent takes =
    let on = goes_on plant history old follows arrival.position arrival.request Differs new takes sent in
    absurd (on.same refl)
has_it plant history old arrival Kept new follows sent takes = inl (inr (subst (λ standby. IsKeptAt standby arrival.position arrival.request) (sym takes.is) (record {
  offset = arrival.position - old.applied;
  position_is = omega (arith, takes.above);
  kept = get-set_same old.window (arrival.position - old.applied) (Some arrival.request) (omega (arith, takes.above, takes.may.within));
})))
has_it plant history old arrival (Applied told) new follows sent takes =
    inl (inl (subst (λ (standby : Data). arrival.position < standby.applied) (sym takes.is) (omega (arith, takes.here))))

sent_before : (history : List PlantEntry) (before behind : List Arrival) → WereSent history (before ++ behind) → WereSent history before × WereSent history behind
sent_before history [] behind sent = (tt, sent)
sent_before history (arrival ∷ before) behind sent =
    let parts = sent_before history before behind sent.1 in
    ((sent.0, parts.0), parts.1)

pub nothing_is_lost : NothingIsLost
nothing_is_lost plant places history before behind arrival between last sent earlier later =
    elim (has_it plant history between arrival later.0 later.1 follows parts.1.0 later.2) [
      | inl has ↦ inl (runs_have behind later.1 last arrival later.3 has)
      | inr beyond ↦ inr beyond
    ]
  where
    parts : WereSent history before × WereSent history (arrival ∷ behind)
    parts = sent_before history before (arrival ∷ behind) sent

    follows : Follows plant history between
    follows = runs_follow plant history before (start plant places) between (new_follows plant places history) parts.0 earlier
