-- What a finding says of a trace.
use Rattle.std.proofs.Common.{◌≡◌, ◌≢◌, ℕ, ◌+◌, ◌<◌, ◌≤◌, true, false, if◌then◌else◌, List, [], ◌∷◌, ◌++◌, length, get_or, map, All, Some, None, refl, sym, ap, ◌∙◌, subst, inl, inr, arith}
use Rattle.std.specs.Prelude.{bytes_eq}
use Rattle.std.specs.List.{fold}
use Rattle.std.specs.List.Sorted.{IsPermutation}
use Rattle.std.proofs.Math.ListN.{length-map}
use Rattle.std.proofs.lemmas.Bool.{false≢true}
use Rattle.std.proofs.lemmas.List.{map-append}
use Rattle.std.proofs.lemmas.Slice.Eq.{bytes_eq-Decides}
use Rattle.std.proofs.lemmas.List.Elements.{All-nil, All-cons, All-head, All-tail, All-weaker, All-append, All-map}
use Rattle.std.proofs.lemmas.List.Sorted.{IsPermutation-map, IsPermutation-sym, All-permutation}
use Rattle.history_lock.specs.History.{run}
use Rattle.plant_config.specs.Plant.{PlantData}
use Rattle.plant_core.specs.State.{State, start, FitsPlant}
use Rattle.plant_core.specs.Step.{step}
use Rattle.plant_core.specs.Laws.{StepsKeepThePlant}
use Rattle.panel_session.specs.Entry.{PlantEntry}
use Rattle.trace_lines.specs.TraceLine.{trace_limit}
use Rattle.panel_session.specs.Reply.{reply_text}
use Rattle.trace_audit.specs.declared.verdict.Verdict.{Verdict}
use Rattle.trace_audit.specs.declared.verdict.Verdict.TheVariants.{Confirmed, BadLine, Gap, Repeat, Differs}
use Rattle.trace_lines.specs.Trace.{TracedEntry, HasTraceNumbers, LineTells}
use Rattle.trace_audit.specs.Verdict.{position_count, entries_below, entries_at, state_at, wanted_reply, fault_of, IsFirstFinding, IsOfEntries, IsVerdict}
use Rattle.trace_audit.specs.Laws.{lines_from, IsTraceable}
use Rattle.trace_audit.specs.FindingLaws.{TellsAt, IsToldBelow, IsGap, IsRepeat, IsDifference, GapsAreSo, RepeatsAreSo, DifferencesAreSo}
use Rattle.trace_audit.proofs.PlaceLemmas.{above, all-parts, at-place, above-place, below-place, count-most}
use Rattle.trace_audit.proofs.FollowLemmas.{place, line_of, behind, right-follow}
use Rattle.trace_audit.proofs.HistoryLemmas.{IsTold, told-lines, made_of, lines-made, length-made, numbers-made, legal-made}

-- what is so of a whole list is so of its front, and of what is behind that
all-front : {X : Type 0} (P : X → Type 0) (front rest : List X) → All P (front ++ rest) → All P front
all-front P [] rest all = All-nil P
all-front P (item ∷ front) rest all = All-cons P item front (All-head P item (front ++ rest) all) (all-front P front rest (All-tail P item (front ++ rest) all))

pub all-back : {X : Type 0} (P : X → Type 0) (front rest : List X) → All P (front ++ rest) → All P rest
all-back P [] rest all = all
all-back P (item ∷ front) rest all = all-back P front rest (All-tail P item (front ++ rest) all)

-- what a history that entries make leaves is what the entries leave
run-made : (state : State) (entries : List TracedEntry) → run step state (made_of state entries) ≡ fold behind state entries
run-made state [] = refl
run-made state (entry ∷ entries) = run-made (behind state entry) entries

-- The entries of a trace at and behind a position, below which nothing is wrong.
record IsFoundAt (plant : PlantData) (lines : List (List ℕ)) (position : ℕ) (verdict : Verdict) : Type 0 where
  entries : List TracedEntry
  history : List PlantEntry
  below : IsToldBelow plant lines position history (map line_of (entries_at position entries ++ above place position entries))
  told : All (IsTold plant) (entries_at position entries ++ above place position entries)
  state : run step (start plant) history ≡ state_at plant entries position
  found : fault_of plant (state_at plant entries position) position (entries_at position entries) ≡ Some verdict
  some : 1 ≤ length (entries_at position entries ++ above place position entries)

-- Where there are more positions than these, something is left.
some-left : (position : ℕ) (ordered rest entries : List TracedEntry) → IsPermutation (ordered ++ rest) entries → All (λ (entry : TracedEntry). entry.position < position) ordered
    → position < position_count entries → 1 ≤ length rest
some-left position ordered (entry ∷ rest) entries moved under within = omega arith
some-left position ordered [] entries moved under within =
    let Below : TracedEntry → Type 0 = λ entry. entry.position < position in
    let all : All Below entries = All-permutation Below (ordered ++ []) entries moved (All-append Below ordered [] under (All-nil Below)) in
    absurd (omega (arith, count-most place position entries all))

-- something is wrong at this position by a finding
abbrev position_in : Verdict → ℕ
position_in (Confirmed count) = 0
position_in (BadLine number) = 0
position_in (Gap position) = position
position_in (Repeat position) = position
position_in (Differs position kept wanted) = position

fault-place : (plant : PlantData) (state : State) (position : ℕ) (entries : List TracedEntry) (verdict : Verdict) → fault_of plant state position entries ≡ Some verdict → position_in verdict ≡ position
fault-place plant state position [] verdict found = let same : Gap position ≡ verdict = cc in ap position_in (sym same)
fault-place plant state position (entry ∷ []) verdict found =
    let wanted : List ℕ = wanted_reply plant state entry.request in
    elim (bytes_eq entry.reply wanted) as (λ test. (if test then None else Some (Differs position entry.reply wanted)) ≡ Some verdict → position_in verdict ≡ position) [
      | true ↦ λ found. absurd cc
      | false ↦ λ found. let same : Differs position entry.reply wanted ≡ verdict = cc in ap position_in (sym same)
    ] found
fault-place plant state position (entry ∷ other ∷ others) verdict found = let same : Repeat position ≡ verdict = cc in ap position_in (sym same)

module _ (keeps : StepsKeepThePlant) where
  found-at : (plant : PlantData) (lines : List (List ℕ)) (verdict : Verdict) (of : IsOfEntries plant lines verdict) (first : IsFirstFinding plant of.entries verdict) → IsFoundAt plant lines first.position verdict
  found-at plant lines verdict of first =
      let entries : List TracedEntry = of.entries in
      let position : ℕ = first.position in
      let ordered : List TracedEntry = entries_below position entries in
      let rest : List TracedEntry = entries_at position entries ++ above place position entries in
      let follow = right-follow plant entries position first.before in
      let moved : IsPermutation (ordered ++ rest) entries = all-parts place position entries in
      let told = told-lines plant lines entries of.told in
      let each : All (IsTold plant) (ordered ++ rest) = All-permutation (IsTold plant) entries (ordered ++ rest) (IsPermutation-sym (ordered ++ rest) entries moved) told.1 in
      let front : All (IsTold plant) ordered = all-front (IsTold plant) ordered rest each in
      let history : List PlantEntry = made_of (start plant) ordered in
      let within : position_count entries ≤ trace_limit + 1 =
      count-most place (trace_limit + 1) entries (All-weaker (IsTold plant) (λ (entry : TracedEntry). entry.position < trace_limit + 1) (λ entry told. omega (arith, told.position)) entries told.1) in
      let long : length history ≡ position = length-made (start plant) ordered ∙ follow.1 in
      let is_history : IsTraceable plant history = record {
        legal = legal-made keeps plant (start plant) ordered refl (All-weaker (IsTold plant) (λ (entry : TracedEntry). FitsPlant plant entry.request) (λ entry told. told.fits) ordered front);
        few = omega (arith, long, within, first.within);
        numbers = numbers-made (start plant) ordered (All-weaker (IsTold plant) (λ (entry : TracedEntry). HasTraceNumbers entry.request) (λ entry told. told.numbers) ordered front);
      } in
      let lines_are : map line_of (ordered ++ rest) ≡ lines_from plant 0 history ++ map line_of rest =
      map-append line_of ordered rest ∙ ap (λ (texts : List (List ℕ)). texts ++ map line_of rest) (sym (lines-made plant 0 (start plant) ordered follow.0)) in
      record {
        entries = entries;
        history = history;
        below = record {
          is_history = is_history;
          long = long;
          place = subst (IsPermutation (lines_from plant 0 history ++ map line_of rest)) (sym told.0)
              (subst (λ (texts : List (List ℕ)). IsPermutation texts (map line_of entries)) lines_are (IsPermutation-map line_of (ordered ++ rest) entries moved));
        };
        told = all-back (IsTold plant) ordered rest each;
        state = run-made (start plant) ordered;
        found = first.found;
        some = some-left position ordered rest entries moved (below-place place position entries) first.within;
      }

-- Which entries stand where a gap is found,
gap-none : (plant : PlantData) (state : State) (position other : ℕ) (entries : List TracedEntry) → fault_of plant state position entries ≡ Some (Gap other) → entries ≡ []
gap-none plant state position other [] found = refl
gap-none plant state position other (entry ∷ []) found =
    let wanted : List ℕ = wanted_reply plant state entry.request in
    elim (bytes_eq entry.reply wanted) as (λ test. (if test then None else Some (Differs position entry.reply wanted)) ≡ Some (Gap other) → entry ∷ [] ≡ []) [
      | true ↦ λ found. absurd cc
      | false ↦ λ found. absurd cc
    ] found
gap-none plant state position other (entry ∷ another ∷ others) found = absurd cc

-- a repeat,
record AreSeveral (entries : List TracedEntry) : Type 0 where
  one : TracedEntry
  another : TracedEntry
  others : List TracedEntry
  are : entries ≡ one ∷ another ∷ others

repeat-several : (plant : PlantData) (state : State) (position other : ℕ) (entries : List TracedEntry) → fault_of plant state position entries ≡ Some (Repeat other) → AreSeveral entries
repeat-several plant state position other [] found = absurd cc
repeat-several plant state position other (entry ∷ []) found =
    let wanted : List ℕ = wanted_reply plant state entry.request in
    elim (bytes_eq entry.reply wanted) as (λ test. (if test then None else Some (Differs position entry.reply wanted)) ≡ Some (Repeat other) → AreSeveral (entry ∷ [])) [
      | true ↦ λ found. absurd cc
      | false ↦ λ found. absurd cc
    ] found
repeat-several plant state position other (entry ∷ another ∷ others) found = record { one = entry; another = another; others = others; are = refl }

-- and a difference.
record IsOther (plant : PlantData) (state : State) (kept wanted : List ℕ) (entries : List TracedEntry) : Type 0 where
  entry : TracedEntry
  only : entries ≡ entry ∷ []
  kept_is : entry.reply ≡ kept
  wanted_is : wanted_reply plant state entry.request ≡ wanted
  differ : kept ≢ wanted

differs-other : (plant : PlantData) (state : State) (position other : ℕ) (kept wanted : List ℕ) (entries : List TracedEntry) → fault_of plant state position entries ≡ Some (Differs other kept wanted)
    → IsOther plant state kept wanted entries
differs-other plant state position other kept wanted [] found = absurd cc
differs-other plant state position other kept wanted (entry ∷ another ∷ others) found = absurd cc
differs-other plant state position other kept wanted (entry ∷ []) found =
    let due : List ℕ = wanted_reply plant state entry.request in
    elim (bytes_eq entry.reply due) as (λ test. bytes_eq entry.reply due ≡ test → (if test then None else Some (Differs position entry.reply due)) ≡ Some (Differs other kept wanted) → IsOther plant state kept wanted (entry ∷ [])) [
      | true ↦ λ is found. absurd cc
      | false ↦ λ is found.
          let kept_is : entry.reply ≡ kept = cc in
          let wanted_is : due ≡ wanted = cc in
          record {
            entry = entry;
            only = refl;
            kept_is = kept_is;
            wanted_is = wanted_is;
            differ = λ same. false≢true (sym is ∙ (bytes_eq-Decides entry.reply due).1 (kept_is ∙ same ∙ sym wanted_is));
          }
    ] refl found

-- So the lines of entries stand.
lines-stand : (plant : PlantData) (IsSo : ℕ → Type 0) (entries : List TracedEntry) → All (IsTold plant) entries → All (λ (entry : TracedEntry). IsSo entry.position) entries
    → All (TellsAt plant IsSo) (map line_of entries)
lines-stand plant IsSo entries told so =
    let StandsSo : TracedEntry → Type 0 = λ entry. TellsAt plant IsSo (line_of entry) in
    All-map (TellsAt plant IsSo) line_of entries (λ k d within. (get_or entries k d, told k d within, so k d within))

gap-so : (plant : PlantData) (lines : List (List ℕ)) (position other : ℕ) → IsFoundAt plant lines position (Gap other) → IsGap plant lines position
gap-so plant lines position other at =
    let high : List TracedEntry = above place position at.entries in
    let none : entries_at position at.entries ≡ [] = gap-none plant (state_at plant at.entries position) position other (entries_at position at.entries) at.found in
    let told : All (IsTold plant) high = all-back (IsTold plant) (entries_at position at.entries) high at.told in
    record {
      history = at.history;
      others = map line_of high;
      below = subst (λ (list : List TracedEntry). IsToldBelow plant lines position at.history (map line_of (list ++ high))) none at.below;
      some = omega (arith, subst (λ (list : List TracedEntry). 1 ≤ length (list ++ high)) none at.some, length-map high line_of);
      behind = lines-stand plant (λ other. position < other) high told (above-place place position at.entries);
    }

repeat-so : (plant : PlantData) (lines : List (List ℕ)) (position other : ℕ) → IsFoundAt plant lines position (Repeat other) → IsRepeat plant lines position
repeat-so plant lines position other at =
    let here : List TracedEntry = entries_at position at.entries in
    let high : List TracedEntry = above place position at.entries in
    let are = repeat-several plant (state_at plant at.entries position) position other here at.found in
    let Here : TracedEntry → Type 0 = λ entry. entry.position ≡ position in
    let Behind : TracedEntry → Type 0 = λ entry. position ≤ entry.position in
    let told : All (IsTold plant) (are.one ∷ are.another ∷ (are.others ++ high)) = subst (λ (list : List TracedEntry). All (IsTold plant) (list ++ high)) are.are at.told in
    let stand : All Here (are.one ∷ are.another ∷ are.others) = subst (All Here) are.are (at-place place position at.entries) in
    let told_later = All-tail (IsTold plant) are.one (are.another ∷ (are.others ++ high)) told in
    let stand_later = All-tail Here are.one (are.another ∷ are.others) stand in
    let rest : All Behind (are.others ++ high) =
    All-append Behind are.others high
    (All-weaker Here Behind (λ entry is. omega (arith, is)) are.others (All-tail Here are.another are.others stand_later))
    (All-weaker (λ (entry : TracedEntry). position < entry.position) Behind (λ entry is. omega (arith, is)) high (above-place place position at.entries)) in
    record {
      history = at.history;
      one = line_of are.one;
      another = line_of are.another;
      others = map line_of (are.others ++ high);
      below = subst (λ (list : List TracedEntry). IsToldBelow plant lines position at.history (map line_of (list ++ high))) are.are at.below;
      first = (are.one, All-head (IsTold plant) are.one (are.another ∷ (are.others ++ high)) told, All-head Here are.one (are.another ∷ are.others) stand);
      second = (are.another, All-head (IsTold plant) are.another (are.others ++ high) told_later, All-head Here are.another are.others stand_later);
      behind = lines-stand plant (λ other. position ≤ other) (are.others ++ high) (All-tail (IsTold plant) are.another (are.others ++ high) told_later) rest;
    }

differs-so : (plant : PlantData) (lines : List (List ℕ)) (position other : ℕ) (kept wanted : List ℕ) → IsFoundAt plant lines position (Differs other kept wanted) → IsDifference plant lines position kept wanted
differs-so plant lines position other kept wanted at =
    let here : List TracedEntry = entries_at position at.entries in
    let high : List TracedEntry = above place position at.entries in
    let is = differs-other plant (state_at plant at.entries position) position other kept wanted here at.found in
    let told : All (IsTold plant) (is.entry ∷ high) = subst (λ (list : List TracedEntry). All (IsTold plant) (list ++ high)) is.only at.told in
    let stand : All (λ (entry : TracedEntry). entry.position ≡ position) (is.entry ∷ []) = subst (All (λ (entry : TracedEntry). entry.position ≡ position)) is.only (at-place place position at.entries) in
    let stands : is.entry.position ≡ position = All-head (λ (entry : TracedEntry). entry.position ≡ position) is.entry [] stand in
    let kept_is : is.entry.reply ≡ kept = is.kept_is in
    let whole : TracedEntry = record { position = position; request = is.entry.request; reply = kept } in
    let same : is.entry ≡ whole = λ i. record { position = stands i; request = is.entry.request; reply = kept_is i } in
    record {
      history = at.history;
      line = line_of is.entry;
      request = is.entry.request;
      others = map line_of high;
      below = subst (λ (list : List TracedEntry). IsToldBelow plant lines position at.history (map line_of (list ++ high))) is.only at.below;
      tells = subst (LineTells plant (line_of is.entry)) same (All-head (IsTold plant) is.entry high told);
      wanted_is = sym is.wanted_is ∙ ap (λ (state : State). reply_text plant is.entry.request (step state is.entry.request).answers) (sym at.state);
      differ = is.differ;
      behind = lines-stand plant (λ other. position < other) high (All-tail (IsTold plant) is.entry high told) (above-place place position at.entries);
    }

-- What is found is so.
module _ (keeps : StepsKeepThePlant) where
  -- A verdict that is no bad line's and confirms nothing is found at its position.
  found-so : (plant : PlantData) (lines : List (List ℕ)) (verdict : Verdict) → ((number : ℕ) → verdict ≢ BadLine number) → ((count : ℕ) → verdict ≢ Confirmed count)
      → IsVerdict plant lines verdict → IsFoundAt plant lines (position_in verdict) verdict
  found-so plant lines verdict good some (inl bad) = absurd (good (length bad.before + 1) bad.counted)
  found-so plant lines verdict good some (inr of) =
      elim of.verdict_is [
        | inl first ↦
            let is : position_in verdict ≡ first.position = fault-place plant (state_at plant of.entries first.position) first.position (entries_at first.position of.entries) verdict first.found in
            subst (λ (position : ℕ). IsFoundAt plant lines position verdict) (sym is) (found-at keeps plant lines verdict of first)
        | inr confirmed ↦ absurd (some (length of.entries) confirmed.counted)
      ]

  pub gaps-so : GapsAreSo
  gaps-so plant lines position is = gap-so plant lines position position (found-so plant lines (Gap position) (λ number same. cc) (λ count same. cc) is)

  pub repeats-so : RepeatsAreSo
  repeats-so plant lines position is = repeat-so plant lines position position (found-so plant lines (Repeat position) (λ number same. cc) (λ count same. cc) is)

  pub differences-so : DifferencesAreSo
  differences-so plant lines position kept wanted is =
      differs-so plant lines position position kept wanted (found-so plant lines (Differs position kept wanted) (λ number same. cc) (λ count same. cc) is)
