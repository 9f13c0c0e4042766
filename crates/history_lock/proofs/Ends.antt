-- The step that ends a turn: what was asked of the machine ends the history.
use Rattle.std.proofs.Common.{◌≡◌, ◌≢◌, ℕ, ◌+◌, ◌%◌, ◌<◌, ◌≤◌, ◌^◌, ◌==◌, ne_eqb, Bool, if◌then◌else◌, List, [], ◌∷◌, ◌++◌, length, set, slice_index, All, refl, ap, sym, ◌∙◌, subst, ⊎_elim, inl, arith, Option, Some, IfSome, length-append}
use Rattle.std.proofs.lemmas.Option.{IfSome_then}
use Rattle.std.proofs.lemmas.List.Elements.{All-append, filter-append}
use Rattle.std.proofs.lemmas.List.{append-nil}
use Rattle.std.proofs.Math.Nat.{mod-eq_of_lt}
use Rattle.seen_value.specs.declared.seen.Seen.{Seen}
use mathlib.Core.Option.{some}
use mathlib.Core.List.{IsPrefix}
use lib.ListN.{get_elem?}
use Rattle.atomic_table.specs.Table as table
use Rattle.history_lock.specs.declared.entry.Entry.{Entry}
use Rattle.history_lock.specs.declared.view.Start.{Start}
use Rattle.history_lock.specs.declared.view.Desk.{Desk}
use Rattle.history_lock.specs.declared.view.View.{View}
use Rattle.history_lock.specs.declared.view.Stage.TheVariants.{Idle, Holds}
use Rattle.history_lock.specs.Step.{Stepped}
use Rattle.history_lock.specs.History.{run, IsLegal, entry_at, entries_of}
use Rattle.history_lock.specs.Rule.{Accepts, Knows, Kept, LockTable, ticket_of}
use Rattle.history_lock.specs.Plays.{Hand, number_of, turn_ended, ended, IsAsked}
use Rattle.history_lock.proofs.HistoryLemmas.{run-append, legal_snoc}
use Rattle.history_lock.proofs.Fronts.{front_self, front_append, front_trans}
use Rattle.history_lock.proofs.Places.{still, each_set, All_one}

module _ {State Request Answer : Type 0} (step : State → Request → Stepped State Answer) (Fits : State → Request → Type 0) (room : State → ℕ) (start : Start State) where
  abbrev T : Type 0
  T = LockTable step Fits room

  abbrev V : Type 0
  V = View State Request Answer

  -- an entry of another seat is none of this one's
  others_entry : (history : List (Entry Request Answer)) (e : Entry Request Answer) (n : ℕ) → e.seat ≢ n → entries_of n (history ++ e ∷ []) ≡ entries_of n history
  others_entry history e n other =
      filter-append (λ x. x.seat == n) history (e ∷ [])
      ∙ (ap (λ (b : Bool). entries_of n history ++ (if b then e ∷ [] else [])) (ne_eqb e.seat n other) ∙ append-nil (entries_of n history))

  -- what is so of another seat's view stays so
  stays_known : (history later : List (Entry Request Answer)) (e : Entry Request Answer) (ticket given id j t : ℕ) (owner bearer : ℕ → ℕ) (u : V) → later ≡ history ++ e ∷ [] → j ≢ id
      → owner (length history) ≡ id → bearer e.seat ≡ id → length history < ticket → ticket ≤ 2 ^ 62
      → Knows step Fits room start.machine.value history ticket given owner bearer j u → Knows step Fits room start.machine.value later ticket given owner bearer j u
  stays_known history later e ticket given id j t owner bearer u is other owns bears more limit known =
      let longer : length later ≡ length history + 1 = ap length is ∙ length-append history (e ∷ []) in
      let apart : (k : ℕ) → owner k ≡ j → k ≢ length history = λ k h same. other (sym h ∙ (ap owner same ∙ owns)) in record {
        first_is = known.first_is;
        seen_is = subst (λ h. IsPrefix u.seen h) (sym is) (front_trans u.seen history (history ++ e ∷ []) known.seen_is (front_append history (e ∷ [])));
        former_are = λ k d l. let f = known.former_are k d l in (f.0, λ i x b. let n = f.1 i x b in (n.0, n.1, ap (entries_of _) is ∙ (others_entry history e _ (λ same. other (sym n.1 ∙ (ap bearer (sym same) ∙ bears))) ∙ n.2), n.3));
        number_is = λ k d l. let n = known.number_is k d l in
            (n.0, n.1, ap (entries_of _) is ∙ (others_entry history e _ (λ same. other (sym n.1 ∙ (ap bearer (sym same) ∙ bears))) ∙ n.2));
        given_is = known.given_is;
        ticket_is = IfSome_then (ticket_of u.stage) known.ticket_is (λ k h. let n = apart k h.2 in (omega (arith, longer, h.0, n), h.1, h.2, h.3));
        holds = λ k h. let mine = subst (λ (o : Option ℕ). IfSome o (λ x. (length history ≤ x) × (x < ticket) × (owner x ≡ j) × (0 < length u.numbers))) (ap ticket_of h) known.ticket_is in
            absurd (apart k mine.2 (known.holds k h).0);
        read_is = IfSome_then u.read known.read_is (λ r le. omega (arith, longer, le));
        ticket_full_is = known.ticket_full_is;
        serving_full_is = λ full. absurd (let h = known.serving_full_is full in omega (arith, h));
      }

  module _ (slots id t n : ℕ) (m : Hand State Request Answer) (first : State) (desk : Desk State Request) (request : Request)
      (holds : m.0.stage ≡ Holds t) (is_first : m.0.first ≡ Some first) (all_seen : m.0.former ≡ []) (slot : m.1 ≡ (0, desk) ∷ []) (asks : IsAsked desk request) (number : m.0.numbers ≡ n ∷ [])
      (machine : desk.machine ≡ (step (run step first m.0.seen) request).state) (fits : Fits (run step first m.0.seen) request)
      (accepts : Accepts step Fits room first desk.machine) where
    abbrev entry : Entry Request Answer
    entry = entry_at step (run step first m.0.seen) (number_of m.0) request

    abbrev after : V
    after = record m.0 { stage = Idle; seen = m.0.seen ++ entry ∷ [] }

    grows : (s : T) (kept : Kept step Fits room start s) → get_elem? s.views id ≡ some m.0
        → Kept step Fits room start record { words = set s.words 0 ((slice_index s.words 0 + 1) % 2 ^ 64); homes = set s.homes 0 (some desk); views = set s.views id after }
    grows s kept here =
        let knows = kept.each_view id m.0 here in
        let one : first ≡ start.machine.value = subst (λ (o : Option State). IfSome o (λ x. x ≡ start.machine.value)) is_first knows.first_is in
        let turn : t ≡ length kept.history = (knows.holds t holds).0 in
        let seen : m.0.seen ≡ kept.history = (knows.holds t holds).1 in
        let mine = subst (λ (o : Option ℕ). IfSome o (λ x. (length kept.history ≤ x) × (x < kept.ticket) × (kept.owner x ≡ id) × (0 < length m.0.numbers))) (ap ticket_of holds) knows.ticket_is in
        let longer : length (m.0.seen ++ entry ∷ []) ≡ length kept.history + 1 = length-append m.0.seen (entry ∷ []) ∙ ap (λ h. length h + 1) seen in
        let count : (slice_index s.words 0 + 1) % 2 ^ 64 ≡ length (m.0.seen ++ entry ∷ []) =
        ap (λ ws. (slice_index ws 0 + 1) % 2 ^ 64) kept.words_are ∙ (mod-eq_of_lt {n = length kept.history + 1} {m = 2 ^ 64} (omega (arith, kept.in_order, kept.limit)) ∙ sym longer) in
        let numbered = subst (λ (l : List ℕ). All (λ k. (k < kept.given) × (kept.bearer k ≡ id) × (entries_of k kept.history ≡ entries_of k m.0.seen)) l) number knows.number_is 0 0 (omega arith) in
        let is_number : number_of m.0 ≡ n = ap (λ (l : List ℕ). slice_index l 0) number in
        let run_is : run step start.machine.value (m.0.seen ++ entry ∷ []) ≡ desk.machine =
        ap (λ f. run step f (m.0.seen ++ entry ∷ [])) (sym one) ∙ (run-append step first m.0.seen (entry ∷ []) ∙ sym machine) in
        let homes : set s.homes 0 (some desk) ≡ some desk ∷ [] = ⊎_elim (λ home. ap (λ hs. set hs 0 (some desk)) home.1) (λ out. ap (λ hs. set hs 0 (some desk)) out.0) kept.machine_is in record {
          history = m.0.seen ++ entry ∷ [];
          ticket = kept.ticket;
          given = kept.given;
          owner = kept.owner;
          bearer = kept.bearer;
          words_are = ap (λ ws. set ws 0 ((slice_index s.words 0 + 1) % 2 ^ 64)) kept.words_are ∙ ap (λ k. k ∷ kept.ticket ∷ []) count;
          in_order = omega (arith, longer, mine.1, turn);
          limit = kept.limit;
          legal = subst (λ f. IsLegal step Fits f (m.0.seen ++ entry ∷ [])) one
              (legal_snoc step Fits first m.0.seen (number_of m.0) request (subst (λ h. IsLegal step Fits first h) (sym seen) (subst (λ f. IsLegal step Fits f kept.history) (sym one) kept.legal)) fits);
          accepts = subst (λ x. Accepts step Fits room start.machine.value x) (sym run_is) (subst (λ f. Accepts step Fits room f desk.machine) one accepts);
          some_given = kept.some_given;
          by_seats = All-append (λ (e : Entry Request Answer). e.seat < kept.given) m.0.seen (entry ∷ []) (subst (λ h. All (λ (e : Entry Request Answer). e.seat < kept.given) h) (sym seen) kept.by_seats)
              (All_one (λ (e : Entry Request Answer). e.seat < kept.given) entry (subst (λ x. x < kept.given) (sym is_number) numbered.0));
          each_ticket = λ k low high. let u = kept.each_ticket k (omega (arith, longer, low)) high in
              still (λ (x : V). ticket_of x.stage ≡ Some k) s.views id (kept.owner k) m.0 after u.0 here u.1 u.2 (λ h. absurd (let same : t ≡ k = cc (ap ticket_of holds, h) in omega (arith, longer, low, same, turn)));
          machine_is = inl (desk, homes, sym run_is);
          each_view = each_set (Knows step Fits room start.machine.value (m.0.seen ++ entry ∷ []) kept.ticket kept.given kept.owner kept.bearer) s.views id after record {
            first_is = knows.first_is;
            seen_is = front_self (m.0.seen ++ entry ∷ []);
            former_are = subst (λ l. All (λ f. IsPrefix f.seen (m.0.seen ++ entry ∷ []) × All (λ k. (k < kept.given) × (kept.bearer k ≡ id) × (entries_of k (m.0.seen ++ entry ∷ []) ≡ entries_of k f.seen) × (entries_of k (m.0.seen ++ entry ∷ []) ≡ entries_of k f.seen)) f.numbers) l) (sym all_seen) (λ k d l. absurd (omega arith));
            number_is = λ k d l. let h = knows.number_is k d l in (h.0, h.1, refl);
            given_is = knows.given_is;
            ticket_is = tt;
            holds = λ k h. absurd cc;
            read_is = IfSome_then m.0.read knows.read_is (λ r le. omega (arith, longer, le));
            ticket_full_is = knows.ticket_full_is;
            serving_full_is = λ full. absurd (let h = knows.serving_full_is full in omega (arith, h, mine.1, turn, kept.limit));
          } (λ j u other at. stays_known kept.history (m.0.seen ++ entry ∷ []) entry kept.ticket kept.given id j t kept.owner kept.bearer u (ap (λ h. h ++ entry ∷ []) seen) other
              (ap kept.owner (sym turn) ∙ mine.2) (ap kept.bearer is_number ∙ numbered.1) (omega (arith, mine.1, turn)) kept.limit (kept.each_view j u at));
        }

    pub ends : (at : table.Step (Desk State Request)) → table.Allows (Kept step Fits room start) slots id m 0 (λ k. (k + 1) % 2 ^ 64) (turn_ended step Fits room at m)
    ends at s kept size here small = (
      after,
      table.gives,
      tt,
      subst (λ (c : List (ℕ × Desk State Request)). Kept step Fits room start record { words = set s.words 0 ((slice_index s.words 0 + 1) % 2 ^ 64); homes = table.put_back s.homes c; views = set s.views id after }) (sym slot) (grows s kept here),
      λ t' first' desk' request' holds' is_first' slot' asks'.
          let slots : (0, desk) ≡ (0, desk') = cc (slot, slot') in
          let desks : desk.asked ≡ desk'.asked = ap (λ (x : ℕ × Desk State Request). x.1.asked) slots in
          let one : asks.0 ≡ asks'.0 = cc (asks.1, asks'.1, desks) in
          let requests : request ≡ request' = sym asks.2 ∙ (ap (λ (x : Seen Request). x.value) one ∙ asks'.2) in
          let firsts : first ≡ first' = cc (is_first, is_first') in
          λ i. (ended step (firsts i) m.0 (requests i), ap table.rest slot i),
    )
