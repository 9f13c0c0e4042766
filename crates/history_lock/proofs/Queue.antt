-- The exchange that takes a ticket.
use Rattle.std.proofs.Common.{◌≡◌, ◌≢◌, ℕ, ◌+◌, ◌<◌, ◌≤◌, ◌^◌, ◌==◌, eq-eqb, ne_eqb, Bool, true, false, if◌then◌else◌, [], ◌∷◌, ◌++◌, length, set, slice_index, MatchBool, refl, ap, sym, ◌∙◌, subst, ⊎_elim, inl, inr, arith, Option, Some, None, IfSome}
use Rattle.std.proofs.lemmas.Bool.Decides.{Decides-eqb}
use Rattle.std.proofs.lemmas.Option.{IfSome_then}
use mathlib.Core.Logic.{dite}
use mathlib.Core.Option.{none, some}
use native.Mathlib.Decide.{ℕ_discrete}
use lib.ListN.{get_elem?}
use lib.Seq.{set-get_or}
use prog.Atomic.{either}
use Rattle.atomic_table.specs.Table as table
use Rattle.atomic_table.proofs.Lists.{set_here}
use Rattle.history_lock.specs.declared.view.Start.{Start}
use Rattle.history_lock.specs.declared.view.Desk.{Desk}
use Rattle.history_lock.specs.declared.view.View.{View}
use Rattle.history_lock.specs.declared.view.Stage.TheVariants.{Idle, Waits, Holds}
use Rattle.history_lock.specs.Step.{Stepped}
use Rattle.history_lock.specs.Rule.{Knows, Kept, LockTable, ticket_of}
use Rattle.history_lock.specs.Plays.{Hand, waiting, queued, ticket_taken, ticket_tried}
use Rattle.history_lock.proofs.Places.{inside, still, each_set}
use Rattle.history_lock.proofs.Stays.{stays, unmoved}

-- f, but a at i
abbrev pub put : {A : Type 0} → (ℕ → A) → ℕ → A → ℕ → A
put f i a j = if j == i then a else f j

module _ {A : Type 0} where
  pub put_here : (f : ℕ → A) (i : ℕ) (a : A) (j : ℕ) → j ≡ i → put f i a j ≡ a
  put_here f i a j e = ap (λ (b : Bool). if b then a else f j) (eq-eqb j i e)

  pub put_else : (f : ℕ → A) (i : ℕ) (a : A) (j : ℕ) → j ≢ i → put f i a j ≡ f j
  put_else f i a j other = ap (λ (b : Bool). if b then a else f j) (ne_eqb j i other)

module _ {State Request Answer : Type 0} (step : State → Request → Stepped State Answer) (Fits : State → Request → Type 0) (room : State → ℕ) (start : Start State) where
  abbrev T : Type 0
  T = LockTable step Fits room

  abbrev V : Type 0
  V = View State Request Answer

  -- one ticket more is out, and an idle seat with a number has it, with no mark of `ticket` but the one that it had
  pub queues : (s : T) (kept : Kept step Fits room start s) (id t : ℕ) (v : V) (full : Bool) → get_elem? s.views id ≡ some v → v.stage ≡ Idle → 0 < length v.numbers
      → kept.ticket ≡ t → t < 2 ^ 62 → (full ≡ true → v.ticket_full ≡ true)
      → Kept step Fits room start record { words = set s.words 1 (t + 1); homes = s.homes; views = set s.views id (record v { stage = Waits t; ticket_full = full }) }
  queues s kept id t v full here idle numbered is below mark =
      let first : State = start.machine.value in
      let w : V = record v { stage = Waits t; ticket_full = full } in
      let no_ticket : (k : ℕ) → ticket_of v.stage ≡ Some k → ⊥ = λ k h. absurd (cc (ap ticket_of idle, h)) in
      let knows = kept.each_view id v here in record {
        history = kept.history;
        ticket = t + 1;
        given = kept.given;
        owner = put kept.owner t id;
        bearer = kept.bearer;
        words_are = ap (λ ws. set ws 1 (t + 1)) kept.words_are;
        in_order = omega (arith, kept.in_order);
        limit = omega arith;
        legal = kept.legal;
        accepts = kept.accepts;
        some_given = kept.some_given;
        by_seats = kept.by_seats;
        each_ticket = λ k low high. dite (ℕ_discrete k t)
            (λ e. (w, (ap (get_elem? (set s.views id w)) (put_here kept.owner t id k e) ∙ set_here s.views id w (inside s.views id v here)), ap (λ (x : ℕ). Some x) (sym e)))
            (λ other. let u = kept.each_ticket k low (omega arith) in
            let x = still (λ (y : V). ticket_of y.stage ≡ Some k) s.views id (kept.owner k) v w u.0 here u.1 u.2 (λ h. absurd (no_ticket k h)) in
            (x.0, (ap (get_elem? (set s.views id w)) (put_else kept.owner t id k other) ∙ x.1), x.2));
        machine_is = ⊎_elim inl (λ out. inr (out.0, (let u = out.1 in let x = still (λ (y : V). y.stage ≡ Holds u.2) s.views id u.0 v w u.1 here u.3 u.4 (λ h. absurd (no_ticket u.2 (ap ticket_of h))) in (u.0, x.0, u.2, x.1, x.2)))) kept.machine_is;
        each_view = each_set (Knows step Fits room first kept.history (t + 1) kept.given (put kept.owner t id) kept.bearer) s.views id w record {
          first_is = knows.first_is;
          seen_is = knows.seen_is;
          former_are = knows.former_are;
          number_is = knows.number_is;
          given_is = knows.given_is;
          ticket_is = (omega (arith, kept.in_order), omega arith, put_here kept.owner t id t refl, numbered);
          holds = λ k h. absurd cc;
          read_is = knows.read_is;
          ticket_full_is = λ h. absurd (omega (arith, knows.ticket_full_is (mark h)));
          serving_full_is = knows.serving_full_is;
        } (λ j u other at. let known = kept.each_view j u at in record {
          first_is = known.first_is;
          seen_is = known.seen_is;
          former_are = known.former_are;
          number_is = known.number_is;
          given_is = known.given_is;
          ticket_is = IfSome_then (ticket_of u.stage) known.ticket_is (λ k h. (h.0, omega (arith, h.1), put_else kept.owner t id k (λ e. omega (arith, h.1)) ∙ h.2, h.3));
          holds = known.holds;
          read_is = known.read_is;
          ticket_full_is = λ h. absurd (omega (arith, known.ticket_full_is h));
          serving_full_is = known.serving_full_is;
        });
      }

  module _ (slots id t : ℕ) (m : Hand State Request Answer) (idle : m.0.stage ≡ Idle) (numbered : 0 < length m.0.numbers) (below : t < 2 ^ 62) where
    pub takes_ticket : table.Allows (Kept step Fits room start) slots id m 1 (λ n. either (n == t) (t + 1) n) (ticket_taken (table.step slots 1 t (t + 1) none) m)
    takes_ticket s kept size here small = cases (slice_index s.words 1 == t) refl
      where
        cases : (b : Bool) → (slice_index s.words 1 == t) ≡ b
            → (w : V) × (a : table.Act (Desk State Request)) × table.Valid s.homes m.1 a
            × Kept step Fits room start (table.stepped s 1 (either b (t + 1) (slice_index s.words 1)) id m.1 w a)
            × (let m' : Hand State Request Answer = (w, table.carried_after m.1 a) in MatchBool b (m' ≡ (queued m.0 t, m.1)) (m' ≡ m))
        cases true is = let here_is : slice_index s.words 1 ≡ t = (Decides-eqb _ t).0 is in
            (queued m.0 t, table.keeps, tt, queues s kept id t m.0 false here idle numbered (sym (ap (λ ws. slice_index ws 1) kept.words_are) ∙ here_is) below (λ h. absurd cc), refl)
        cases false is = (m.0, table.keeps, tt, unmoved step Fits room start s kept id 1 m.0 here, refl)

    pub tries_ticket : m.0.read ≡ Some t → table.Allows (Kept step Fits room start) slots id m 1 (λ n. either (n == t) (t + 1) n) (ticket_tried (table.step slots 1 t (t + 1) none) m)
    tries_ticket read s kept size here small = cases (slice_index s.words 1 == t) refl
      where
        cases : (b : Bool) → (slice_index s.words 1 == t) ≡ b
            → (w : V) × (a : table.Act (Desk State Request)) × table.Valid s.homes m.1 a
            × Kept step Fits room start (table.stepped s 1 (either b (t + 1) (slice_index s.words 1)) id m.1 w a)
            × (let m' : Hand State Request Answer = (w, table.carried_after m.1 a) in
            MatchBool b (m' ≡ (waiting m.0 t, m.1)) ((t < slice_index s.words 1) × (m' ≡ (record m.0 { read = None; tried = m.0.tried ++ (t, slice_index s.words 1) ∷ [] }, m.1))))
        cases true is = let here_is : slice_index s.words 1 ≡ t = (Decides-eqb _ t).0 is in
            (waiting m.0 t, table.keeps, tt, queues s kept id t m.0 m.0.ticket_full here idle numbered (sym (ap (λ ws. slice_index ws 1) kept.words_are) ∙ here_is) below (λ h. h), refl)
        cases false is =
            let n : ℕ = slice_index s.words 1 in
            let knows = kept.each_view id m.0 here in
            let w : V = record m.0 { read = None; tried = m.0.tried ++ (t, n) ∷ [] } in
            let at_least : t ≤ length kept.history = subst (λ (o : Option ℕ). IfSome o (λ x. x ≤ length kept.history)) read knows.read_is in
            let found : n ≡ kept.ticket = ap (λ ws. slice_index ws 1) kept.words_are in
            let other : n ≢ t = λ e. absurd (cc (is, eq-eqb n t e)) in (
              w,
              table.keeps,
              tt,
              stays step Fits room start s kept id m.0 w (set s.words 1 n) here refl record {
                first_is = knows.first_is;
                seen_is = knows.seen_is;
                former_are = knows.former_are;
                number_is = knows.number_is;
                given_is = knows.given_is;
                ticket_is = knows.ticket_is;
                holds = knows.holds;
                read_is = tt;
                ticket_full_is = knows.ticket_full_is;
                serving_full_is = knows.serving_full_is;
              } (set-get_or s.words 1 0),
              (omega (arith, kept.in_order), refl),
            )
