-- What is so of a trace is found.
use Rattle.std.proofs.Common.{◌≡◌, ◌≢◌, ℕ, ◌+◌, ◌<◌, ◌≤◌, true, false, if◌then◌else◌, List, [], ◌∷◌, ◌++◌, length, map, All, Some, None, refl, sym, ap, ◌∙◌, subst, inl, inr, arith}
use Rattle.std.specs.Prelude.{bytes_eq}
use Rattle.std.specs.List.{fold}
use Rattle.std.specs.List.Sorted.{IsPermutation}
use Rattle.std.proofs.Math.ListN.{length-map}
use Rattle.std.proofs.lemmas.List.{map-append}
use Rattle.std.proofs.lemmas.Slice.Eq.{bytes_eq-Decides}
use Rattle.std.proofs.lemmas.List.Elements.{All-nil, All-cons, All-head, All-tail, All-weaker, All-append}
use Rattle.std.proofs.lemmas.List.Sorted.{IsPermutation-sym, All-permutation}
use Rattle.history_lock.specs.History.{run}
use Rattle.plant_config.specs.Plant.{PlantData}
use Rattle.plant_config.specs.IsPlant.{IsPlant}
use Rattle.plant_core.specs.State.{State, start}
use Rattle.plant_core.specs.Step.{step}
use Rattle.plant_core.specs.Laws.{StartsAreValid, StepsStayValid, StartsAreShort, StepsStayShort, StepsKeepThePlant}
use Rattle.panel_session.specs.Entry.{PlantEntry}
use Rattle.trace_audit.specs.declared.verdict.Verdict.{Verdict}
use Rattle.trace_audit.specs.declared.verdict.Verdict.TheVariants.{Gap, Repeat, Differs}
use Rattle.trace_lines.specs.Trace.{TracedEntry, LineTells}
use Rattle.trace_audit.specs.Verdict.{LinesTell}
use Rattle.trace_audit.specs.Verdict.{position_count, entries_below, entries_at, state_at, wanted_reply, fault_of, AreRightBelow, IsVerdict}
use Rattle.trace_audit.specs.Laws.{lines_from}
use Rattle.trace_audit.specs.FindingLaws.{TellsAt, IsToldBelow, GapsAreFound, RepeatsAreFound, DifferencesAreFound}
use Rattle.trace_audit.proofs.MovedLemmas.{map-moved}
use Rattle.trace_audit.proofs.PlaceLemmas.{at-none, at-append, at-here, at-moved, length-at, below-are, below-from, count-above}
use Rattle.trace_audit.proofs.FollowLemmas.{place, line_of, behind, StandAlone, follow-from, alone-right}
use Rattle.trace_audit.proofs.HistoryLemmas.{IsTold, ReplyTells, lines-told, traced_from, lines-traced, length-traced, traced-follow, traced-told}
use Rattle.trace_audit.proofs.FindingLemmas.{all-back}

-- what a history leaves is what its entries leave
run-traced : (plant : PlantData) (position : ℕ) (state : State) (history : List PlantEntry) → run step state history ≡ fold behind state (traced_from plant position history)
run-traced plant position state [] = refl
run-traced plant position state (entry ∷ later) = run-traced plant (position + 1) (step state entry.request).state later

-- The entries of lines that stand so.
record AreOf (plant : PlantData) (IsSo : ℕ → Type 0) (lines : List (List ℕ)) : Type 0 where
  entries : List TracedEntry
  are : lines ≡ map line_of entries
  told : All (IsTold plant) entries
  so : All (λ (entry : TracedEntry). IsSo entry.position) entries

told-itself : (plant : PlantData) (line : List ℕ) (entry : TracedEntry) → LineTells plant line entry → IsTold plant entry
told-itself plant line entry tells = subst (λ (text : List ℕ). LineTells plant text entry) tells.text tells

stand-of : (plant : PlantData) (IsSo : ℕ → Type 0) (lines : List (List ℕ)) → All (TellsAt plant IsSo) lines → AreOf plant IsSo lines
stand-of plant IsSo [] all = record { entries = []; are = refl; told = All-nil (IsTold plant); so = All-nil (λ (entry : TracedEntry). IsSo entry.position) }
stand-of plant IsSo (line ∷ lines) all =
    let first = All-head (TellsAt plant IsSo) line lines all in
    let more = stand-of plant IsSo lines (All-tail (TellsAt plant IsSo) line lines all) in
    let is : line ≡ line_of first.0 = first.1.text in
    let rest : lines ≡ map line_of more.entries = more.are in
    record {
      entries = first.0 ∷ more.entries;
      are = cc;
      told = All-cons (IsTold plant) first.0 more.entries (told-itself plant line first.0 first.1) more.told;
      so = All-cons (λ (entry : TracedEntry). IsSo entry.position) first.0 more.entries first.2 more.so;
    }

-- Lines of a history and of entries from a position on.
record IsReady (plant : PlantData) (lines : List (List ℕ)) (position : ℕ) (history : List PlantEntry) (rest : List TracedEntry) : Type 0 where
  entries : List TracedEntry
  told : LinesTell plant lines entries
  right : AreRightBelow plant entries position
  state : state_at plant entries position ≡ run step (start plant) history
  long : length (entries_at position entries) ≡ length (entries_at position rest)
  alone : (entry : TracedEntry) → entries_at position rest ≡ entry ∷ [] → entries_at position entries ≡ entry ∷ []
  within : All (λ (entry : TracedEntry). entry.position < position_count entries) rest

module _ (keeps : StepsKeepThePlant) (starts : StartsAreValid) (stay : StepsStayValid) (starts_short : StartsAreShort) (stay_short : StepsStayShort) (tells : ReplyTells) where
  ready : (plant : PlantData) (lines : List (List ℕ)) (position : ℕ) (history : List PlantEntry) (rest : List TracedEntry) → IsPlant plant → IsToldBelow plant lines position history (map line_of rest)
      → All (IsTold plant) rest → All (λ (entry : TracedEntry). position ≤ entry.position) rest → IsReady plant lines position history rest
  ready plant lines position history rest is_plant is told_rest least =
      let traced : List TracedEntry = traced_from plant 0 history in
      let all : List TracedEntry = traced ++ rest in
      let texts : lines_from plant 0 history ++ map line_of rest ≡ map line_of all =
      ap (λ (front : List (List ℕ)). front ++ map line_of rest) (lines-traced plant 0 history) ∙ sym (map-append line_of traced rest) in
      let so = map-moved line_of all lines (subst (λ (texts : List (List ℕ)). IsPermutation texts lines) texts is.place) in
      let entries : List TracedEntry = so.moved in
      let follow = traced-follow plant 0 (start plant) history is.is_history.legal in
      let from = follow-from plant 0 (start plant) traced follow in
      let long : length traced ≡ position = length-traced plant 0 history ∙ is.long in
      let front : All (IsTold plant) traced =
      traced-told keeps starts stay starts_short stay_short tells plant 0 (start plant) history refl (starts plant is_plant) (starts_short plant) (omega (arith, is.is_history.few)) is.is_history.legal is.is_history.numbers in
      let each : All (IsTold plant) entries = All-permutation (IsTold plant) all entries so.order (All-append (IsTold plant) traced rest front told_rest) in
      let none_behind : (number : ℕ) → number < length traced → entries_at number rest ≡ [] =
      λ number below. at-none place number rest (All-weaker (λ (entry : TracedEntry). position ≤ entry.position) (λ (entry : TracedEntry). entry.position ≢ number) (λ entry at same. absurd (omega (arith, at, same, below, long))) rest least) in
      let alone : StandAlone traced entries =
      λ number entry below one.
      at-moved place number entry all entries so.order
      (at-append place number traced rest ∙ ap (λ (list : List TracedEntry). list ++ entries_at number rest) one ∙ ap (λ (list : List TracedEntry). entry ∷ list) (none_behind number below)) in
      let under : entries_below (length traced) entries ≡ traced = below-are place traced entries from alone in
      let none_before : entries_at position traced ≡ [] =
      at-none place position traced
      (All-weaker (λ (entry : TracedEntry). entry.position < length traced) (λ (entry : TracedEntry). entry.position ≢ position) (λ entry below same. absurd (omega (arith, below, same, long))) traced
      (below-from place 0 (length traced) traced from (omega arith))) in
      let here : entries_at position all ≡ entries_at position rest =
      at-append place position traced rest ∙ ap (λ (list : List TracedEntry). list ++ entries_at position rest) none_before in
      record {
        entries = entries;
        told = subst (λ (texts : List (List ℕ)). LinesTell plant texts entries) (sym so.is) (lines-told plant entries each);
        right = subst (AreRightBelow plant entries) long (alone-right plant traced entries alone follow);
        state = ap (λ (number : ℕ). state_at plant entries number) (sym long) ∙ ap (fold behind (start plant)) under ∙ sym (run-traced plant 0 (start plant) history);
        long = length-at place position all entries so.order ∙ ap (length {A = TracedEntry}) here;
        alone = λ entry one. at-moved place position entry all entries so.order (here ∙ one);
        within = all-back (λ (entry : TracedEntry). entry.position < position_count entries) traced rest
            (All-permutation (λ (entry : TracedEntry). entry.position < position_count entries) entries all (IsPermutation-sym all entries so.order) (count-above place entries));
      }

-- A fault at the position of such lines is their verdict.
fault-found : (plant : PlantData) (lines : List (List ℕ)) (position : ℕ) (history : List PlantEntry) (rest : List TracedEntry) (is : IsReady plant lines position history rest) (verdict : Verdict)
    → position < position_count is.entries → fault_of plant (run step (start plant) history) position (entries_at position is.entries) ≡ Some verdict → IsVerdict plant lines verdict
fault-found plant lines position history rest is verdict within fault =
    inr (record {
      entries = is.entries;
      told = is.told;
      verdict_is = inl (record {
        position = position;
        within = within;
        before = is.right;
        found = ap (λ (state : State). fault_of plant state position (entries_at position is.entries)) is.state ∙ fault;
      });
    })

none-gap : (plant : PlantData) (state : State) (position : ℕ) (entries : List TracedEntry) → length entries ≡ 0 → fault_of plant state position entries ≡ Some (Gap position)
none-gap plant state position [] none = refl
none-gap plant state position (entry ∷ entries) none = absurd (omega arith)

several-repeat : (plant : PlantData) (state : State) (position : ℕ) (entries : List TracedEntry) → 2 ≤ length entries → fault_of plant state position entries ≡ Some (Repeat position)
several-repeat plant state position [] many = absurd (omega arith)
several-repeat plant state position (entry ∷ []) many = absurd (omega arith)
several-repeat plant state position (entry ∷ another ∷ others) many = refl

other-differs : (plant : PlantData) (state : State) (position : ℕ) (entry : TracedEntry) (wanted : List ℕ) → wanted ≡ wanted_reply plant state entry.request → entry.reply ≢ wanted
    → fault_of plant state position (entry ∷ []) ≡ Some (Differs position entry.reply wanted)
other-differs plant state position entry wanted is differ =
    let due : List ℕ = wanted_reply plant state entry.request in
    elim (bytes_eq entry.reply due) as (λ test. bytes_eq entry.reply due ≡ test → (if test then None else Some (Differs position entry.reply due)) ≡ Some (Differs position entry.reply wanted)) [
      | true ↦ λ same. absurd (differ ((bytes_eq-Decides entry.reply due).0 same ∙ sym is))
      | false ↦ λ other. ap (λ (text : List ℕ). Some (Differs position entry.reply text)) (sym is)
    ] refl

module _ (keeps : StepsKeepThePlant) (starts : StartsAreValid) (stay : StepsStayValid) (starts_short : StartsAreShort) (stay_short : StepsStayShort) (tells : ReplyTells) where
  pub gaps-found : GapsAreFound
  gaps-found plant lines position is_plant gap =
      let of = stand-of plant (λ other. position < other) gap.others gap.behind in
      let rest : List TracedEntry = of.entries in
      let below : IsToldBelow plant lines position gap.history (map line_of rest) = subst (IsToldBelow plant lines position gap.history) of.are gap.below in
      let is = ready keeps starts stay starts_short stay_short tells plant lines position gap.history rest is_plant below of.told
      (All-weaker (λ (entry : TracedEntry). position < entry.position) (λ (entry : TracedEntry). position ≤ entry.position) (λ entry at. omega (arith, at)) rest of.so) in
      let none : entries_at position rest ≡ [] =
      at-none place position rest (All-weaker (λ (entry : TracedEntry). position < entry.position) (λ (entry : TracedEntry). entry.position ≢ position) (λ entry at same. absurd (omega (arith, at, same))) rest of.so) in
      let some : 1 ≤ length rest = subst (λ (count : ℕ). 1 ≤ count) (ap (length {A = List ℕ}) of.are ∙ length-map rest line_of) gap.some in
      fault-found plant lines position gap.history rest is (Gap position) (first-within position (position_count is.entries) rest some of.so is.within)
      (none-gap plant (run step (start plant) gap.history) position (entries_at position is.entries) (is.long ∙ ap (length {A = TracedEntry}) none))
    where
      first-within : (position most : ℕ) (rest : List TracedEntry) → 1 ≤ length rest → All (λ (entry : TracedEntry). position < entry.position) rest → All (λ (entry : TracedEntry). entry.position < most) rest → position < most
      first-within position most [] some above below = absurd (omega arith)
      first-within position most (entry ∷ rest) some above below =
          omega (arith, All-head (λ (entry : TracedEntry). position < entry.position) entry rest above, All-head (λ (entry : TracedEntry). entry.position < most) entry rest below)

  pub repeats-found : RepeatsAreFound
  repeats-found plant lines position is_plant repeat =
      let of = stand-of plant (λ other. position ≤ other) repeat.others repeat.behind in
      let one : TracedEntry = repeat.first.0 in
      let another : TracedEntry = repeat.second.0 in
      let rest : List TracedEntry = one ∷ another ∷ of.entries in
      let At : TracedEntry → Type 0 = λ entry. position ≤ entry.position in
      let first : repeat.one ≡ line_of one = repeat.first.1.text in
      let second : repeat.another ≡ line_of another = repeat.second.1.text in
      let others : repeat.others ≡ map line_of of.entries = of.are in
      let texts : repeat.one ∷ repeat.another ∷ repeat.others ≡ map line_of rest = cc in
      let below : IsToldBelow plant lines position repeat.history (map line_of rest) = subst (IsToldBelow plant lines position repeat.history) texts repeat.below in
      let is_one : one.position ≡ position = repeat.first.2 in
      let is_another : another.position ≡ position = repeat.second.2 in
      let told : All (IsTold plant) rest =
      All-cons (IsTold plant) one (another ∷ of.entries) (told-itself plant repeat.one one repeat.first.1)
      (All-cons (IsTold plant) another of.entries (told-itself plant repeat.another another repeat.second.1) of.told) in
      let least : All At rest = All-cons At one (another ∷ of.entries) (omega arith) (All-cons At another of.entries (omega arith) of.so) in
      let is = ready keeps starts stay starts_short stay_short tells plant lines position repeat.history rest is_plant below told least in
      let here : entries_at position rest ≡ one ∷ another ∷ entries_at position of.entries =
      at-here place position one (another ∷ of.entries) is_one ∙ ap (λ (list : List TracedEntry). one ∷ list) (at-here place position another of.entries is_another) in
      fault-found plant lines position repeat.history rest is (Repeat position)
      (omega (arith, All-head (λ (entry : TracedEntry). entry.position < position_count is.entries) one (another ∷ of.entries) is.within, is_one))
      (several-repeat plant (run step (start plant) repeat.history) position (entries_at position is.entries) (omega (arith, is.long, ap (length {A = TracedEntry}) here)))

  pub differences-found : DifferencesAreFound
  differences-found plant lines position kept wanted is_plant other =
      let of = stand-of plant (λ other. position < other) other.others other.behind in
      let entry : TracedEntry = record { position = position; request = other.request; reply = kept } in
      let rest : List TracedEntry = entry ∷ of.entries in
      let At : TracedEntry → Type 0 = λ entry. position ≤ entry.position in
      let line : other.line ≡ line_of entry = other.tells.text in
      let others : other.others ≡ map line_of of.entries = of.are in
      let texts : other.line ∷ other.others ≡ map line_of rest = cc in
      let below : IsToldBelow plant lines position other.history (map line_of rest) = subst (IsToldBelow plant lines position other.history) texts other.below in
      let told : All (IsTold plant) rest = All-cons (IsTold plant) entry of.entries (told-itself plant other.line entry other.tells) of.told in
      let least : All At rest =
      All-cons At entry of.entries (omega arith) (All-weaker (λ (entry : TracedEntry). position < entry.position) At (λ entry at. omega (arith, at)) of.entries of.so) in
      let is = ready keeps starts stay starts_short stay_short tells plant lines position other.history rest is_plant below told least in
      let none : entries_at position of.entries ≡ [] =
      at-none place position of.entries
      (All-weaker (λ (entry : TracedEntry). position < entry.position) (λ (entry : TracedEntry). entry.position ≢ position) (λ entry at same. absurd (omega (arith, at, same))) of.entries of.so) in
      let here : entries_at position rest ≡ entry ∷ [] = at-here place position entry of.entries refl ∙ ap (λ (list : List TracedEntry). entry ∷ list) none in
      let only : entries_at position is.entries ≡ entry ∷ [] = is.alone entry here in
      let state : State = run step (start plant) other.history in
      fault-found plant lines position other.history rest is (Differs position kept wanted)
      (All-head (λ (entry : TracedEntry). entry.position < position_count is.entries) entry of.entries is.within)
      (ap (fault_of plant state position) only ∙ other-differs plant state position entry wanted other.wanted_is other.differ)
