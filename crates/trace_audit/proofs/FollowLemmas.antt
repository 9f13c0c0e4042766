-- Entries that follow one another from a state of the plant, and what is found in them in any order.
use Rattle.std.proofs.Common.{◌≡◌, ℕ, zero, suc, ◌+◌, ◌<◌, ◌≤◌, ◌==◌, Bool, true, false, if◌then◌else◌, List, [], ◌∷◌, ◌++◌, length, All, Some, None, refl, sym, ap, ◌∙◌, subst, inl, inr, eqb-true, eq-or-lt_of_le, append-nil, append_assoc, length-append, arith}
use Rattle.std.specs.Prelude.{bytes_eq}
use Rattle.std.specs.List.{fold}
use Rattle.std.specs.List.Sorted.{IsPermutation}
use Rattle.std.proofs.lemmas.Slice.Eq.{bytes_eq-Decides}
use Rattle.std.proofs.lemmas.List.Elements.{All-head, filter_passes}
use Rattle.std.proofs.lemmas.List.Sums.{fold-append}
use Rattle.plant_config.specs.Plant.{PlantData}
use Rattle.plant_core.specs.State.{State, start}
use Rattle.plant_core.specs.Step.{step}
use Rattle.trace_lines.specs.TraceLine.{entry_text}
use Rattle.trace_audit.specs.declared.verdict.Verdict.TheVariants.{Differs}
use Rattle.trace_lines.specs.Trace.{TracedEntry}
use Rattle.trace_audit.specs.Verdict.{entries_at, entries_below, state_at, wanted_reply, compared, fault_of, finding, AreRightBelow}
use Rattle.trace_audit.proofs.PlaceLemmas.{AreFrom, at-moved, at-from, below-more}

-- where an entry stands
abbrev pub place : TracedEntry → ℕ
place entry = entry.position

-- its line
abbrev pub line_of : TracedEntry → List ℕ
line_of entry = entry_text entry.position entry.request entry.reply

-- the state behind an entry, and behind several
abbrev pub behind : State → TracedEntry → State
behind state entry = (step state entry.request).state

-- Each entry has the next position, and the reply that the plant gives behind those before it.
abbrev pub Follow : PlantData → ℕ → State → List TracedEntry → Type 0
Follow plant position state [] = Unit {0}
Follow plant position state (entry ∷ entries) =
    (entry.position ≡ position) × (entry.reply ≡ wanted_reply plant state entry.request) × Follow plant (position + 1) (behind state entry) entries

pub follow-from : (plant : PlantData) (position : ℕ) (state : State) (entries : List TracedEntry) → Follow plant position state entries → AreFrom place position entries
follow-from plant position state [] follow = tt
follow-from plant position state (entry ∷ entries) follow = (follow.0, follow-from plant (position + 1) (behind state entry) entries follow.2)

follow-push : (plant : PlantData) (position : ℕ) (state : State) (entries : List TracedEntry) (entry : TracedEntry) → Follow plant position state entries
    → entry.position ≡ position + length entries → entry.reply ≡ wanted_reply plant (fold behind state entries) entry.request → Follow plant position state (entries ++ entry ∷ [])
follow-push plant position state [] entry follow is reply = let here : entry.position ≡ position = omega (arith, is) in (here, reply, tt)
follow-push plant position state (first ∷ entries) entry follow is reply =
    (follow.0, follow.1, follow-push plant (position + 1) (behind state first) entries entry follow.2 (omega (arith, is)) reply)

-- What is compared is right where it is the same, and nowhere else.
right-same : (position : ℕ) (kept wanted : List ℕ) → kept ≡ wanted → compared position kept wanted ≡ None
right-same position kept wanted same =
    ap (λ (test : Bool). if test then None else Some (Differs position kept wanted)) ((bytes_eq-Decides kept wanted).1 same)

same-right : (position : ℕ) (kept wanted : List ℕ) → compared position kept wanted ≡ None → kept ≡ wanted
same-right position kept wanted right =
    elim (bytes_eq kept wanted) as (λ test. bytes_eq kept wanted ≡ test → (if test then None else Some (Differs position kept wanted)) ≡ None → kept ≡ wanted) [
      | true ↦ λ is none. (bytes_eq-Decides kept wanted).0 is
      | false ↦ λ is none. absurd cc
    ] refl right

-- Where nothing is wrong at a position one entry stands there, with the reply that is wanted.
pub record IsRight (plant : PlantData) (state : State) (entries : List TracedEntry) : Type 0 where
  pub entry : TracedEntry
  pub only : entries ≡ entry ∷ []
  pub reply : entry.reply ≡ wanted_reply plant state entry.request

pub none-right : (plant : PlantData) (state : State) (position : ℕ) (entries : List TracedEntry) → fault_of plant state position entries ≡ None → IsRight plant state entries
none-right plant state position [] none = absurd cc
none-right plant state position (entry ∷ []) none = record { entry = entry; only = refl; reply = same-right position entry.reply (wanted_reply plant state entry.request) none }
none-right plant state position (entry ∷ other ∷ others) none = absurd cc

-- What is found at a position where one entry stands.
found-one : (plant : PlantData) (entries : List TracedEntry) (position : ℕ) (state : State) (entry : TracedEntry) → state_at plant entries position ≡ state → entries_at position entries ≡ entry ∷ []
    → entry.reply ≡ wanted_reply plant state entry.request → finding plant entries position ≡ None
found-one plant entries position state entry is only reply =
    ap (λ (state : State). fault_of plant state position (entries_at position entries)) is
    ∙ ap (fault_of plant state position) only
    ∙ right-same position entry.reply (wanted_reply plant state entry.request) reply

-- Each of these entries that stands alone among them stands alone among others.
abbrev pub StandAlone : List TracedEntry → List TracedEntry → Type 0
StandAlone all entries = (position : ℕ) (entry : TracedEntry) → position < length all → entries_at position all ≡ entry ∷ [] → entries_at position entries ≡ entry ∷ []

-- Entries that follow one another are right wherever they stand alone: behind a front of them,
right-behind : (plant : PlantData) (all entries : List TracedEntry) (front rest : List TracedEntry) → all ≡ front ++ rest → StandAlone all entries → AreFrom place 0 all
    → entries_below (length front) entries ≡ front → Follow plant (length front) (fold behind (start plant) front) rest
    → (position : ℕ) → length front ≤ position → position < length all → finding plant entries position ≡ None
right-behind plant all entries front [] is alone from below follow position least within =
    let whole : all ≡ front = is ∙ append-nil front in
    absurd (omega (arith, ap (length {A = TracedEntry}) whole))
right-behind plant all entries front (entry ∷ rest) is alone from below follow position least within =
    let numbered : AreFrom place 0 (front ++ entry ∷ rest) = subst (AreFrom place 0) is from in
    let count : 0 + length front ≡ length front = omega arith in
    let inside : length front < length all = omega (arith, ap (length {A = TracedEntry}) is, length-append front (entry ∷ rest)) in
    let only : entries_at (length front) entries ≡ entry ∷ [] =
    alone (length front) entry inside
    (ap (entries_at (length front)) is ∙ subst (λ (number : ℕ). entries_at number (front ++ entry ∷ rest) ≡ entry ∷ []) count (at-from place 0 front entry rest numbered)) in
    let state : state_at plant entries (length front) ≡ fold behind (start plant) front = ap (fold behind (start plant)) below in
    let found : finding plant entries (length front) ≡ None = found-one plant entries (length front) (fold behind (start plant) front) entry state only follow.1 in
    elim (eq-or-lt_of_le least) [
      | inl here ↦ subst (λ (number : ℕ). finding plant entries number ≡ None) here found
      | inr later ↦
          let grown : length (front ++ entry ∷ []) ≡ length front + 1 = length-append front (entry ∷ []) in
          let whole : all ≡ (front ++ entry ∷ []) ++ rest = is ∙ sym (append_assoc front (entry ∷ []) rest) in
          let more : entries_below (length (front ++ entry ∷ [])) entries ≡ front ++ entry ∷ [] =
          ap (λ (number : ℕ). entries_below number entries) grown ∙ below-more place (length front) entries ∙ cc (below, only) in
          let follows : Follow plant (length (front ++ entry ∷ [])) (fold behind (start plant) (front ++ entry ∷ [])) rest =
          subst (λ (number : ℕ). Follow plant number (fold behind (start plant) (front ++ entry ∷ [])) rest) (sym grown)
          (subst (λ (state : State). Follow plant (length front + 1) state rest) (sym (fold-append behind (start plant) front (entry ∷ []))) follow.2) in
          right-behind plant all entries (front ++ entry ∷ []) rest whole alone from more follows position (omega (arith, grown, later)) within
    ]

-- and so all of them.
pub alone-right : (plant : PlantData) (all entries : List TracedEntry) → StandAlone all entries → Follow plant 0 (start plant) all → AreRightBelow plant entries (length all)
alone-right plant all entries alone follow position within =
    right-behind plant all entries [] all refl alone (follow-from plant 0 (start plant) all follow) refl follow position (omega arith) within

pub follow-right : (plant : PlantData) (all entries : List TracedEntry) → IsPermutation all entries → Follow plant 0 (start plant) all → AreRightBelow plant entries (length all)
follow-right plant all entries moved follow = alone-right plant all entries (λ position entry within is. at-moved place position entry all entries moved is) follow

-- Where nothing is wrong below a position, the entries there follow one another, one at each.
pub right-follow : (plant : PlantData) (entries : List TracedEntry) (position : ℕ) → AreRightBelow plant entries position
    → Follow plant 0 (start plant) (entries_below position entries) × (length (entries_below position entries) ≡ position)
right-follow plant entries zero right = (tt, refl)
right-follow plant entries (suc position) right =
    let next : position + 1 ≡ suc position = omega arith in
    let before = right-follow plant entries position (λ earlier within. right earlier (omega arith)) in
    let is = none-right plant (state_at plant entries position) position (entries_at position entries) (right position (omega arith)) in
    let passes : All (λ (entry : TracedEntry). (entry.position == position) ≡ true) (is.entry ∷ []) =
    subst (All (λ (entry : TracedEntry). (entry.position == position) ≡ true)) is.only (filter_passes (λ (entry : TracedEntry). entry.position == position) entries) in
    let here : is.entry.position ≡ position = eqb-true is.entry.position position (All-head (λ (entry : TracedEntry). (entry.position == position) ≡ true) is.entry [] passes) in
    let grown : entries_below (suc position) entries ≡ entries_below position entries ++ is.entry ∷ [] =
    ap (λ (number : ℕ). entries_below number entries) (sym next) ∙ below-more place position entries ∙ ap (λ (list : List TracedEntry). entries_below position entries ++ list) is.only in (
      subst (Follow plant 0 (start plant)) (sym grown) (follow-push plant 0 (start plant) (entries_below position entries) is.entry before.0 (omega (arith, here, before.1)) is.reply),
      ap (length {A = TracedEntry}) grown ∙ length-append (entries_below position entries) (is.entry ∷ []) ∙ ap (λ (count : ℕ). count + 1) before.1 ∙ next,
    )
