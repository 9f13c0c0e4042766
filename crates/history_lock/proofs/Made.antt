-- What a turn leaves.
use Rattle.std.proofs.Common.{◌≡◌, ℕ, ◌+◌, ◌<◌, ◌^◌, ◌==◌, eq-eqb, if◌then◌else◌, List, [], ◌∷◌, ◌++◌, length, slice_index, All, refl, ap, sym, ◌∙◌, subst, arith, Some, length-append}
use Rattle.std.proofs.lemmas.List.Elements.{filter-append}
use Rattle.history_lock.specs.declared.entry.Entry.{Entry}
use Rattle.history_lock.specs.declared.view.View.{View}
use Rattle.history_lock.specs.Step.{Stepped}
use Rattle.history_lock.specs.History.{run, IsLegal, entry_at, entries_of}
use Rattle.history_lock.specs.Plays.{Hand, number_of, ended, Enters, HasMachine}
use Rattle.history_lock.proofs.HistoryLemmas.{legal_snoc}
use Rattle.history_lock.specs.Seats.{SeatData}
use Rattle.history_lock.specs.Calls.{asked_by}
use Rattle.history_lock.specs.CallsInside.{IsMade}

module _ {State Request Answer : Type 0} (step : State → Request → Stepped State Answer) (Fits : State → Request → Type 0) (room : State → ℕ) where
  abbrev V : Type 0
  V = View State Request Answer

  -- a seat with one number that entered has the machine
  pub has_machine : (m m' : Hand State Request Answer) (first : State) (t n : ℕ) → Enters step Fits room m first t m' → m.1 ≡ [] → m.0.numbers ≡ n ∷ [] → m.0.first ≡ Some first → m.0.former ≡ []
      → HasMachine step Fits room m' first
  has_machine m m' first t n e empty number is_first all_seen = record {
    t = t;
    n = n;
    desk = e.desk;
    holds = ap (λ (v : V). v.stage) e.view_is;
    slot = e.slot_is ∙ ap (λ c. (0, e.desk) ∷ c) empty;
    number = ap (λ (v : V). v.numbers) e.view_is ∙ number;
    first_is = ap (λ (v : V). v.first) e.view_is ∙ is_first;
    all_seen = ap (λ (v : V). v.former) e.view_is ∙ all_seen;
    machine = e.machine_is ∙ sym (ap (λ (v : V). run step first v.seen) e.view_is);
    accepts = e.accepts;
  }

  -- the call that a turn makes
  pub made : (m m' m'' : Hand State Request Answer) (first : State) (t n : ℕ) (request : Request) (answers : List Answer) (before after : SeatData State Request Answer)
      → Enters step Fits room m first t m' → m.0.numbers ≡ n ∷ [] → Fits first request → t < 2 ^ 62
      → answers ≡ (step (run step first m'.0.seen) request).answers → m''.0 ≡ ended step first m'.0 request
      → before.first ≡ first → before.number ≡ n → before.seen ≡ m.0.seen → after.seen ≡ m''.0.seen
      → IsMade step Fits before after t request answers
  made m m' m'' first t n request answers before after e number fits below answered is first_is number_is seen_is after_is =
      let history : m'.0.seen ≡ e.history = ap (λ (v : V). v.seen) e.view_is in
      let numbered : number_of m'.0 ≡ before.number = ap (λ (v : V). number_of v) e.view_is ∙ (ap (λ (l : List ℕ). slice_index l 0) number ∙ sym number_is) in
      let entry : Entry Request Answer = asked_by before request answers in
      let entry_is : entry_at step (run step first m'.0.seen) (number_of m'.0) request ≡ entry = λ i. record { seat = numbered i; request = request; answers = sym answered i } in
      let all : after.seen ≡ e.history ++ entry ∷ [] = after_is ∙ (ap (λ (v : V). v.seen) is ∙ (λ i. history i ++ entry_is i ∷ [])) in
      let own : entries_of n e.history ≡ entries_of n m.0.seen = subst (λ (l : List ℕ). All (λ k. entries_of k e.history ≡ entries_of k m.0.seen) l) number e.own 0 0 (omega arith) in
      let fits_there : Fits (run step first e.history) request = subst (λ x. Fits x request) e.machine_is (e.accepts.still_fits request fits) in
      let is_entry : entry_at step (run step first e.history) before.number request ≡ entry =
      λ i. record { seat = before.number; request = request; answers = (ap (λ (v : V). (step (run step first v.seen) request).answers) (sym e.view_is) ∙ sym answered) i } in record {
        legal = subst (λ h. IsLegal step Fits before.first h) (sym all) (subst (λ f. IsLegal step Fits f (e.history ++ entry ∷ [])) (sym first_is)
            (subst (λ x. IsLegal step Fits first (e.history ++ x ∷ [])) is_entry (legal_snoc step Fits first e.history before.number request e.legal fits_there)));
        numbered = (ap length all ∙ (length-append e.history (entry ∷ []) ∙ ap (λ k. k + 1) e.length_is), below);
        goes_on = (e.later.0, all ∙ ap (λ h. h ++ entry ∷ []) (sym (ap (λ h. h ++ e.later.0) seen_is ∙ e.later.1)));
        own = ap (entries_of before.number) all ∙ (filter-append (λ x. x.seat == before.number) e.history (entry ∷ [])
            ∙ (λ i. (ap (λ k. entries_of k e.history) number_is ∙ (own ∙ λ j. entries_of (sym number_is j) (sym seen_is j))) i ++ (if eq-eqb before.number before.number refl i then entry ∷ [] else [])));
      }
