-- A confirmed trace and a legal history are the same thing.
use Rattle.std.proofs.Common.{◌≡◌, ◌⊎◌, ℕ, suc, ◌+◌, ◌<◌, ◌≤◌, true, false, if◌then◌else◌, List, [], ◌∷◌, length, map, All, Some, None, refl, sym, ap, ◌∙◌, subst, inl, inr, arith}
use Rattle.std.specs.Prelude.{bytes_eq}
use Rattle.std.specs.List.Sorted.{IsPermutation}
use Rattle.std.proofs.lemmas.List.Elements.{All-nil, All-cons, All-head, All-tail, All-weaker}
use Rattle.std.proofs.lemmas.List.Sorted.{IsPermutation-map, IsPermutation-sym, All-permutation, length_permutation}
use Rattle.history_lock.specs.History.{IsLegal, entry_at}
use Rattle.plant_config.specs.Plant.{PlantData}
use Rattle.plant_core.specs.State.{State, start, Fits, FitsPlant, IsValid}
use Rattle.plant_core.specs.Short.{StaysShort}
use Rattle.plant_core.specs.Step.{step}
use Rattle.plant_core.specs.Laws.{StartsAreValid, StepsStayValid, StartsAreShort, StepsStayShort, StepsKeepThePlant}
use Rattle.plant_core.specs.declared.request.Request.{Request}
use Rattle.panel_session.specs.Entry.{PlantEntry}
use Rattle.trace_lines.specs.TraceLine.{trace_limit, entry_text}
use Rattle.panel_session.specs.Reply.{reply_text}
use Rattle.trace_audit.specs.declared.verdict.Verdict.TheVariants.{Confirmed, BadLine, Differs}
use Rattle.line_text.specs.Cut.{longest_line}
use Rattle.trace_lines.specs.Trace.{TracedEntry, IsReplyText, HasTraceNumbers, LineTells}
use Rattle.trace_audit.specs.Verdict.{LinesTell}
use Rattle.trace_audit.specs.Verdict.{position_count, entries_below, entries_at, state_at, wanted_reply, fault_of, IsFirstFinding, AreConfirmed, IsOfEntries}
use Rattle.trace_audit.specs.Laws.{lines_from, IsTraceable, AreLinesOf, HistoriesAreConfirmed, ConfirmedAreHistories}
use Rattle.trace_audit.proofs.MovedLemmas.{map-moved}
use Rattle.trace_audit.proofs.PlaceLemmas.{below-all, below-from, count-above, count-most}
use Rattle.trace_audit.proofs.FollowLemmas.{place, line_of, behind, Follow, follow-from, follow-right, right-follow}

-- An entry is told by its own line,
abbrev pub IsTold : PlantData → TracedEntry → Type 0
IsTold plant entry = LineTells plant (line_of entry) entry

-- and where each is, their lines tell them.
pub lines-told : (plant : PlantData) (entries : List TracedEntry) → All (IsTold plant) entries → LinesTell plant (map line_of entries) entries
lines-told plant [] all = tt
lines-told plant (entry ∷ entries) all = (All-head (IsTold plant) entry entries all, lines-told plant entries (All-tail (IsTold plant) entry entries all))

pub told-lines : (plant : PlantData) (lines : List (List ℕ)) (entries : List TracedEntry) → LinesTell plant lines entries → (lines ≡ map line_of entries) × All (IsTold plant) entries
told-lines plant [] [] told = (refl, All-nil (IsTold plant))
told-lines plant [] (entry ∷ entries) told = absurd told
told-lines plant (line ∷ lines) [] told = absurd told
told-lines plant (line ∷ lines) (entry ∷ entries) told =
    let more = told-lines plant lines entries told.1 in
    let is : line ≡ line_of entry = told.0.text in
    let rest : lines ≡ map line_of entries = more.0 in
    (cc, All-cons (IsTold plant) entry entries (subst (λ (text : List ℕ). LineTells plant text entry) is told.0) more.1)

-- the entries that the lines of a history tell
abbrev pub traced_from : PlantData → ℕ → List PlantEntry → List TracedEntry
traced_from plant position [] = []
traced_from plant position (entry ∷ later) =
    record { position = position; request = entry.request; reply = reply_text plant entry.request entry.answers } ∷ traced_from plant (position + 1) later

pub lines-traced : (plant : PlantData) (position : ℕ) (history : List PlantEntry) → lines_from plant position history ≡ map line_of (traced_from plant position history)
lines-traced plant position [] = refl
lines-traced plant position (entry ∷ later) =
    ap (λ (lines : List (List ℕ)). entry_text position entry.request (reply_text plant entry.request entry.answers) ∷ lines) (lines-traced plant (position + 1) later)

pub length-traced : (plant : PlantData) (position : ℕ) (history : List PlantEntry) → length (traced_from plant position history) ≡ length history
length-traced plant position [] = refl
length-traced plant position (entry ∷ later) = ap suc (length-traced plant (position + 1) later)

pub traced-follow : (plant : PlantData) (position : ℕ) (state : State) (history : List PlantEntry) → IsLegal step Fits state history → Follow plant position state (traced_from plant position history)
traced-follow plant position state [] legal = tt
traced-follow plant position state (entry ∷ later) legal =
    (refl, ap (reply_text plant entry.request) legal.1, traced-follow plant (position + 1) (step state entry.request).state later legal.2)

-- the history that entries make
abbrev pub made_of : State → List TracedEntry → List PlantEntry
made_of state [] = []
made_of state (entry ∷ entries) = entry_at step state 0 entry.request ∷ made_of (behind state entry) entries

pub lines-made : (plant : PlantData) (position : ℕ) (state : State) (entries : List TracedEntry) → Follow plant position state entries → lines_from plant position (made_of state entries) ≡ map line_of entries
lines-made plant position state [] follow = refl
lines-made plant position state (entry ∷ entries) follow =
    let first : entry_text position entry.request (wanted_reply plant state entry.request) ≡ line_of entry =
    ap (λ (number : ℕ). entry_text number entry.request (wanted_reply plant state entry.request)) (sym follow.0) ∙ ap (entry_text entry.position entry.request) (sym follow.1) in
    let more = lines-made plant (position + 1) (behind state entry) entries follow.2 in
    cc

pub length-made : (state : State) (entries : List TracedEntry) → length (made_of state entries) ≡ length entries
length-made state [] = refl
length-made state (entry ∷ entries) = ap suc (length-made (behind state entry) entries)

pub numbers-made : (state : State) (entries : List TracedEntry) → All (λ (entry : TracedEntry). HasTraceNumbers entry.request) entries → All (λ (entry : PlantEntry). HasTraceNumbers entry.request) (made_of state entries)
numbers-made state [] all = All-nil (λ (entry : PlantEntry). HasTraceNumbers entry.request)
numbers-made state (entry ∷ entries) all =
    All-cons (λ (entry : PlantEntry). HasTraceNumbers entry.request) (entry_at step state 0 entry.request) (made_of (behind state entry) entries)
    (All-head (λ (entry : TracedEntry). HasTraceNumbers entry.request) entry entries all)
    (numbers-made (behind state entry) entries (All-tail (λ (entry : TracedEntry). HasTraceNumbers entry.request) entry entries all))

module _ (keeps : StepsKeepThePlant) where
  pub legal-made : (plant : PlantData) (state : State) (entries : List TracedEntry) → state.plant ≡ plant → All (λ (entry : TracedEntry). FitsPlant plant entry.request) entries → IsLegal step Fits state (made_of state entries)
  legal-made plant state [] is all = tt
  legal-made plant state (entry ∷ entries) is all = (
    subst (λ (plant : PlantData). FitsPlant plant entry.request) (sym is) (All-head (λ (entry : TracedEntry). FitsPlant plant entry.request) entry entries all),
    refl,
    legal-made plant (behind state entry) entries (keeps state entry.request ∙ is) (All-tail (λ (entry : TracedEntry). FitsPlant plant entry.request) entry entries all),
  )

-- No finding confirms.
found-other : (plant : PlantData) (state : State) (position count : ℕ) (entries : List TracedEntry) → fault_of plant state position entries ≡ Some (Confirmed count) → ⊥
found-other plant state position count [] found = cc
found-other plant state position count (entry ∷ []) found =
    let wanted : List ℕ = wanted_reply plant state entry.request in
    elim (bytes_eq entry.reply wanted) as (λ test. (if test then None else Some (Differs position entry.reply wanted)) ≡ Some (Confirmed count) → ⊥) [
      | true ↦ λ found. cc
      | false ↦ λ found. cc
    ] found
found-other plant state position count (entry ∷ other ∷ others) found = cc

-- A line with this reply tells its entry.
pub record TellsReply (plant : PlantData) (position : ℕ) (request : Request) (reply : List ℕ) : Type 0 where
  pub within : length (entry_text position request reply) ≤ longest_line
  pub text : IsReplyText reply

-- Each reply of the plant is of a line that does.
abbrev pub ReplyTells : Type 0
ReplyTells = (plant : PlantData) (position : ℕ) (state : State) (request : Request) → state.plant ≡ plant → IsValid state → StaysShort state → position ≤ trace_limit → HasTraceNumbers request → Fits state request
    → TellsReply plant position request (wanted_reply plant state request)

-- What is confirmed is a history.
module _ (keeps : StepsKeepThePlant) where
  pub confirmed-histories : ConfirmedAreHistories
  confirmed-histories plant lines count (inl bad) = absurd (let same : Confirmed count ≡ BadLine (length bad.before + 1) = bad.counted in cc)
  confirmed-histories plant lines count (inr of) = confirmed of of.verdict_is
    where
      confirmed : (of : IsOfEntries plant lines (Confirmed count)) → IsFirstFinding plant of.entries (Confirmed count) ⊎ AreConfirmed plant of.entries (Confirmed count)
          → (history : List PlantEntry) × IsTraceable plant history × AreLinesOf plant history lines × (length history ≡ count)
      confirmed of (inl first) = absurd (found-other plant (state_at plant of.entries first.position) first.position count (entries_at first.position of.entries) first.found)
      confirmed of (inr all) =
          let most : ℕ = position_count of.entries in
          let ordered : List TracedEntry = entries_below most of.entries in
          let follow = right-follow plant of.entries most all.right in
          let moved : IsPermutation ordered of.entries = below-all place most of.entries (count-above place of.entries) in
          let told = told-lines plant lines of.entries of.told in
          let each : All (IsTold plant) ordered = All-permutation (IsTold plant) of.entries ordered (IsPermutation-sym ordered of.entries moved) told.1 in
          let history : List PlantEntry = made_of (start plant) ordered in
          let long : length history ≡ most = length-made (start plant) ordered ∙ follow.1 in
          let within : most ≤ trace_limit + 1 =
          count-most place (trace_limit + 1) of.entries (All-weaker (IsTold plant) (λ (entry : TracedEntry). entry.position < trace_limit + 1) (λ entry told. omega (arith, told.position)) of.entries told.1) in
          let counted : count ≡ length of.entries = (let same : Confirmed count ≡ Confirmed (length of.entries) = all.counted in cc) in
          let lines_are : lines_from plant 0 history ≡ map line_of ordered = lines-made plant 0 (start plant) ordered follow.0 in
          let is_history : IsTraceable plant history = record {
            legal = legal-made keeps plant (start plant) ordered refl (All-weaker (IsTold plant) (λ (entry : TracedEntry). FitsPlant plant entry.request) (λ entry told. told.fits) ordered each);
            few = omega (arith, long, within);
            numbers = numbers-made (start plant) ordered (All-weaker (IsTold plant) (λ (entry : TracedEntry). HasTraceNumbers entry.request) (λ entry told. told.numbers) ordered each);
          } in
          let order : AreLinesOf plant history lines =
          subst (λ (texts : List (List ℕ)). IsPermutation texts lines) (sym lines_are)
          (subst (IsPermutation (map line_of ordered)) (sym told.0) (IsPermutation-map line_of ordered of.entries moved)) in
          (history, is_history, order, omega (arith, length-made (start plant) ordered, length_permutation ordered of.entries moved, counted))

-- The entries of a history that fit the plant are told by their lines.
module _ (keeps : StepsKeepThePlant) (starts : StartsAreValid) (stay : StepsStayValid) (starts_short : StartsAreShort) (stay_short : StepsStayShort) (tells : ReplyTells) where
  pub traced-told : (plant : PlantData) (position : ℕ) (state : State) (history : List PlantEntry) → state.plant ≡ plant → IsValid state → StaysShort state → position + length history ≤ trace_limit + 1
      → IsLegal step Fits state history → All (λ (entry : PlantEntry). HasTraceNumbers entry.request) history → All (IsTold plant) (traced_from plant position history)
  traced-told plant position state [] is valid short within legal numbers = All-nil (IsTold plant)
  traced-told plant position state (entry ∷ later) is valid short within legal numbers =
      let number : HasTraceNumbers entry.request = All-head (λ (entry : PlantEntry). HasTraceNumbers entry.request) entry later numbers in
      let first : TracedEntry = record { position = position; request = entry.request; reply = reply_text plant entry.request entry.answers } in
      let wanted : reply_text plant entry.request entry.answers ≡ wanted_reply plant state entry.request = ap (reply_text plant entry.request) legal.1 in
      let reply : TellsReply plant position entry.request (reply_text plant entry.request entry.answers) =
      subst (TellsReply plant position entry.request) (sym wanted) (tells plant position state entry.request is valid short (omega arith) number legal.0) in
      All-cons (IsTold plant) first (traced_from plant (position + 1) later)
      (record {
        text = refl;
        within = reply.within;
        position = omega arith;
        numbers = number;
        fits = subst (λ (plant : PlantData). FitsPlant plant entry.request) is legal.0;
        reply = reply.text;
      })
      (traced-told plant (position + 1) (step state entry.request).state later (keeps state entry.request ∙ is) (stay state entry.request valid) (stay_short state entry.request valid short legal.0) (omega arith) legal.2
      (All-tail (λ (entry : PlantEntry). HasTraceNumbers entry.request) entry later numbers))

  -- The lines of a history are confirmed.
  pub histories-confirmed : HistoriesAreConfirmed
  histories-confirmed plant history lines is_plant is order =
      let traced : List TracedEntry = traced_from plant 0 history in
      let made : IsPermutation (map line_of traced) lines = subst (λ (texts : List (List ℕ)). IsPermutation texts lines) (lines-traced plant 0 history) order in
      let so = map-moved line_of traced lines made in
      let follow = traced-follow plant 0 (start plant) history is.legal in
      let each : All (IsTold plant) traced = traced-told plant 0 (start plant) history refl (starts plant is_plant) (starts_short plant) (omega (arith, is.few)) is.legal is.numbers in
      let moved : All (IsTold plant) so.moved = All-permutation (IsTold plant) traced so.moved so.order each in
      let long : length so.moved ≡ length history = length_permutation traced so.moved so.order ∙ length-traced plant 0 history in
      let numbered : All (λ (entry : TracedEntry). entry.position < length traced) traced = below-from place 0 (length traced) traced (follow-from plant 0 (start plant) traced follow) (omega arith) in
      let most : position_count so.moved ≤ length traced =
      count-most place (length traced) so.moved (All-permutation (λ (entry : TracedEntry). entry.position < length traced) traced so.moved so.order numbered) in
      inr (record {
        entries = so.moved;
        told = subst (λ (texts : List (List ℕ)). LinesTell plant texts so.moved) (sym so.is) (lines-told plant so.moved moved);
        verdict_is = inr (record {
          right = λ earlier within. follow-right plant traced so.moved so.order follow earlier (omega arith);
          counted = ap Confirmed (sym long);
        });
      })
