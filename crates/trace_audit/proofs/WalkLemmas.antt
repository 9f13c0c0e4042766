-- How the positions of a trace are walked.
use Rattle.std.proofs.Common.{◌≡◌, ℕ, ◌+◌, ◌<◌, ◌≤◌, List, [], ◌∷◌, ◌++◌, length, Option, None, Some, refl, sym, ap, ◌∙◌, subst, below_more, arith}
use Rattle.std.specs.List.{fold}
use Rattle.std.proofs.lemmas.List.Sums.{fold-append}
use Rattle.plant_config.specs.Plant.{PlantData}
use Rattle.plant_config.proofs.OneMore.{flat_map-range_more}
use Rattle.plant_core.specs.declared.request.Request.{Request}
use Rattle.plant_core.specs.declared.request.Request.TheVariants.{Told, Poll, Leave, DisplayPoll}
use Rattle.plant_core.specs.declared.answer.Answer.{Answer}
use Rattle.plant_core.specs.Answer.{IsAnswerCount}
use Rattle.plant_core.specs.State.{State, start, IsValid}
use Rattle.plant_core.specs.Step.{step}
use Rattle.plant_core.proofs.CountLemmas.{answers_within, room_within}
use Rattle.panel_session.specs.Reply.{MayReply}
use Rattle.display_packets.specs.DisplayPacket.{AreLamps}
use Rattle.display_packets.proofs.LampLemmas.{display_poll-lamps}
use Rattle.trace_audit.specs.declared.kept.Row.{Row}
use Rattle.trace_audit.specs.declared.kept.Kept.{Kept}
use Rattle.trace_audit.specs.declared.walk.Walker.{Walker}
use Rattle.trace_audit.specs.declared.verdict.Verdict.{Verdict}
use Rattle.trace_audit.specs.declared.verdict.Verdict.TheVariants.{Gap, Repeat}
use Rattle.trace_lines.specs.Trace.{TracedEntry}
use Rattle.trace_audit.specs.Verdict.{entries_at, entries_below, state_at, fault_of, finding, IsFirstFinding}
use Rattle.trace_audit.specs.RowsInside.{row_at}
use Rattle.trace_audit.specs.KeptInside.{HasRow, IsRow, AreKept, IsReady, IsLooked, HasWalked}

-- A step has few answers,
pub few_answers : (state : State) (request : Request) (answers : List Answer) → IsValid state → IsAnswerCount state.plant request (length answers) → length answers ≤ 1024
few_answers state request answers valid count =
    omega (arith, answers_within state.plant request (length answers) count, room_within state.plant valid.is_plant)

-- which may be told as its reply.
pub may_reply : (plant : PlantData) (state : State) (request : Request) (answers : List Answer) → state.plant ≡ plant → IsValid state → IsAnswerCount state.plant request (length answers) → answers ≡ (step state request).answers → MayReply plant request answers
may_reply plant state (DisplayPoll screen refresh) answers plant_is valid count is =
    let Of : PlantData → Type 0 = λ plant. AreLamps plant (step state (DisplayPoll screen refresh)).answers in
    let lamps : AreLamps plant (step state (DisplayPoll screen refresh)).answers = subst Of plant_is (display_poll-lamps state screen refresh valid) in
    let At : List Answer → Type 0 = λ answers. AreLamps plant answers in
    (count, subst At (sym is) lamps)
may_reply plant state (Told panel item message) answers plant_is valid count is = tt
may_reply plant state (Poll panel item turn) answers plant_is valid count is = tt
may_reply plant state (Leave panel) answers plant_is valid count is = tt

-- the state behind a position that has one entry
state_at-more : (plant : PlantData) (entries : List TracedEntry) (position : ℕ) (entry : TracedEntry) → entries_at position entries ≡ entry ∷ [] → state_at plant entries (position + 1) ≡ (step (state_at plant entries position) entry.request).state
state_at-more plant entries position entry one =
    let go : State → TracedEntry → State = λ state entry. (step state entry.request).state in
    let at : ℕ → List TracedEntry = λ earlier. entries_at earlier entries in
    ap (fold go (start plant)) (flat_map-range_more at position)
    ∙ fold-append go (start plant) (entries_below position entries) (at position)
    ∙ ap (fold go (state_at plant entries position)) one

-- the row of a position is that of its entries
row-of : (plant : PlantData) (kept : Kept) (entries : List TracedEntry) (position : ℕ) (row : Option Row) → AreKept plant kept entries → row_at kept.rows position ≡ row → IsRow plant row (entries_at position entries)
row-of plant kept entries position row are is =
    let Of : Option Row → Type 0 = λ row. IsRow plant row (entries_at position entries) in
    subst Of is (are.rows position)

-- what is found at a position in the state there
finding-at : (plant : PlantData) (entries : List TracedEntry) (position : ℕ) (state : State) (found : Option Verdict) → state ≡ state_at plant entries position → fault_of plant state position (entries_at position entries) ≡ found → finding plant entries position ≡ found
finding-at plant entries position state found is fault =
    ap (λ state. fault_of plant state position (entries_at position entries)) (sym is) ∙ fault

-- Where nothing is found, there is one entry.
one-entry : (plant : PlantData) (state : State) (position : ℕ) (entries before : List TracedEntry) (last : TracedEntry) → entries ≡ before ++ last ∷ [] → fault_of plant state position entries ≡ None → entries ≡ last ∷ []
one-entry plant state position entries [] last is none = is
one-entry plant state position entries (entry ∷ []) last is none =
    let wrong : Some (Repeat position) ≡ None = sym (ap (fault_of plant state position) is) ∙ none in absurd cc
one-entry plant state position entries (entry ∷ other ∷ others) last is none =
    let wrong : Some (Repeat position) ≡ None = sym (ap (fault_of plant state position) is) ∙ none in absurd cc

-- Where nothing is found at a position the next one comes,
pub walked-more : (plant : PlantData) (kept : Kept) (position : ℕ) (row : Row) (old new : Walker) → HasWalked plant kept position old → row_at kept.rows position ≡ Some row → IsReady plant new → IsLooked plant position row old.state new.state None → HasWalked plant kept (position + 1) new
walked-more plant kept position row old new walked is ready looked = record {
  ready = ready;
  right = λ entries are.
      let has : HasRow plant row (entries_at position entries) = row-of plant kept entries position (Some row) are is in
      below_more (λ earlier. finding plant entries earlier ≡ None) position (walked.right entries are)
      (finding-at plant entries position old.state None (walked.state entries are) (looked (entries_at position entries) has).0);
  state = λ entries are.
      let has : HasRow plant row (entries_at position entries) = row-of plant kept entries position (Some row) are is in
      let found = looked (entries_at position entries) has in
      let one : entries_at position entries ≡ has.last ∷ [] =
      one-entry plant old.state position (entries_at position entries) has.before has.last has.place found.0 in
      let asked : State → Request → State = λ state request. (step state request).state in
      found.1 refl
      ∙ ap (λ state. asked state row.request) (walked.state entries are)
      ∙ ap (asked (state_at plant entries position)) has.request
      ∙ sym (state_at-more plant entries position has.last one);
}

-- and where there is no row, that is the first finding.
pub walked-gap : (plant : PlantData) (kept : Kept) (position : ℕ) (walker : Walker) (entries : List TracedEntry) → HasWalked plant kept position walker → row_at kept.rows position ≡ None → position < kept.positions → AreKept plant kept entries → IsFirstFinding plant entries (Gap position)
walked-gap plant kept position walker entries walked is within are = record {
  position = position;
  within = subst (λ count. position < count) are.positions within;
  before = walked.right entries are;
  found = ap (fault_of plant (state_at plant entries position) position) (row-of plant kept entries position None are is);
}
