-- A seat or a note comes to the table.
use Rattle.std.proofs.Common.{◌≡◌, ◌≢◌, ℕ, ◌+◌, ◌%◌, ◌<◌, ◌≤◌, ◌^◌, ◌==◌, eqb, eq-eqb, ne_eqb, Bool, true, false, if◌then◌else◌, List, [], ◌∷◌, ◌++◌, length, set, get_or, slice_index, All, MatchBool, refl, ap, sym, ◌∙◌, subst, ⊎_elim, inl, inr, arith, Option, Some, None, IfSome, length-append, filter}
use Rattle.std.proofs.lemmas.Option.{IfSome_then}
use mathlib.Core.Option.{none, some}
use lib.ListN.{get_elem?}
use Rattle.atomic_table.specs.Table as table
use Rattle.atomic_table.proofs.Lists.{at_longer}
use Rattle.history_lock.specs.declared.entry.Entry.{Entry}
use Rattle.history_lock.specs.declared.view.Start.{Start}
use Rattle.history_lock.specs.declared.view.Desk.{Desk}
use Rattle.history_lock.specs.declared.view.View.{View}
use Rattle.history_lock.specs.declared.view.Stage.TheVariants.{Idle, Holds}
use Rattle.history_lock.specs.Step.{Stepped}
use Rattle.history_lock.specs.History.{entries_of}
use Rattle.history_lock.specs.Rule.{Accepts, Knows, Kept, LockTable, IsHome, IsOut, ticket_of}
use Rattle.history_lock.specs.Plays.{gave, given_to}
use Rattle.history_lock.proofs.Places.{inside, still, each_set, at_end, All_one}
use Rattle.std.specs.Option.{option_map, unwrap_or}
use Rattle.history_lock.proofs.Queue.{put, put_here, put_else}

length_set : {A : Type 0} (l : List A) (i : ℕ) (a : A) → length (set l i a) ≡ length l
length_set l i a = Rattle.std.proofs.Common.length-set l i a

-- no entry has a number that was not given
none_of : {Request Answer : Type 0} (history : List (Entry Request Answer)) (k : ℕ) → All (λ e. e.seat < k) history → entries_of k history ≡ []
none_of [] k below = refl
none_of (e ∷ history) k below =
    let first : e.seat < k = below 0 e (omega arith) in
    ap (λ (b : Bool). if b then e ∷ entries_of k history else entries_of k history) (ne_eqb e.seat k (λ same. omega arith)) ∙ none_of history k (λ i d l. below (Rattle.std.proofs.Common.suc i) d (omega arith))

module _ {State Request Answer : Type 0} (step : State → Request → Stepped State Answer) (Fits : State → Request → Type 0) (room : State → ℕ) (start : Start State) where
  abbrev T : Type 0
  T = LockTable step Fits room

  abbrev V : Type 0
  V = View State Request Answer

  -- the rule with one view more, and another of one seat
  pub comes : (s : T) (kept : Kept step Fits room start s) (id given : ℕ) (bearer : ℕ → ℕ) (v w r : V) → get_elem? s.views id ≡ some v → w.stage ≡ v.stage
      → kept.given ≤ given → given ≤ start.seats
      → Knows step Fits room start.machine.value kept.history kept.ticket given kept.owner bearer id w
      → Knows step Fits room start.machine.value kept.history kept.ticket given kept.owner bearer (length s.views) r
      → ((j : ℕ) (u : V) → j ≢ id → j < length s.views → Knows step Fits room start.machine.value kept.history kept.ticket kept.given kept.owner kept.bearer j u → Knows step Fits room start.machine.value kept.history kept.ticket given kept.owner bearer j u)
      → Kept step Fits room start record { words = s.words; homes = s.homes; views = set s.views id w ++ r ∷ [] }
  comes s kept id given bearer v w r at same more most knows new others =
      let stays : (P : V → Type 0) (j : ℕ) (u : V) → get_elem? s.views j ≡ some u → P u → (P v → P w) → (x : V) × (get_elem? (set s.views id w ++ r ∷ []) j ≡ some x) × P x =
      λ P j u at' known keep. let x = still P s.views id j v w u at at' known keep in (x.0, at_longer (set s.views id w) (r ∷ []) j x.0 x.1, x.2) in record {
        history = kept.history;
        ticket = kept.ticket;
        given = given;
        owner = kept.owner;
        bearer = bearer;
        words_are = kept.words_are;
        in_order = kept.in_order;
        limit = kept.limit;
        legal = kept.legal;
        accepts = kept.accepts;
        some_given = most;
        by_seats = λ k d l. let h = kept.by_seats k d l in omega (arith, h, more);
        each_ticket = λ t low high. let u = kept.each_ticket t low high in stays (λ (x : V). ticket_of x.stage ≡ Some t) (kept.owner t) u.0 u.1 u.2 (λ h. ap ticket_of same ∙ h);
        machine_is = ⊎_elim inl (λ out. inr (out.0, (let u = out.1 in let x = stays (λ (y : V). y.stage ≡ Holds u.2) u.0 u.1 u.3 u.4 (λ h. same ∙ h) in (u.0, x.0, u.2, x.1, x.2)))) kept.machine_is;
        each_view = λ j u e. ⊎_elim
            (λ (old : get_elem? (set s.views id w) j ≡ some u). each_set (Knows step Fits room start.machine.value kept.history kept.ticket given kept.owner bearer) s.views id w knows
            (λ i x other here. others i x other (inside s.views i x here) (kept.each_view i x here)) j u old)
            (λ (t : (j ≡ length (set s.views id w)) × (r ≡ u)).
            subst (λ (x : ℕ × V). Knows step Fits room start.machine.value kept.history kept.ticket given kept.owner bearer x.0 x.1) (λ i. (sym (t.0 ∙ length_set s.views id w) i, t.1 i)) new)
            (at_end (set s.views id w) r u j e);
      }

  pub gives_seat : (id k : ℕ) (v : V) → v.given ≡ Some k → v.stage ≡ Idle → k < start.seats → table.Splits (Kept step Fits room start) id v (gave v) (given_to v)
  gives_seat id k v is idle below s kept here =
      let knows = kept.each_view id v here in
      let given = subst (λ (o : Option ℕ). IfSome o (λ x. (x ≡ kept.given) × (id ≡ 0))) is knows.given_is in
      let number : unwrap_or v.given 0 ≡ k = ap (λ (o : Option ℕ). unwrap_or o 0) is in
      let new : ℕ = length s.views in
      let bearer : ℕ → ℕ = put kept.bearer k new in
      let old : (n j : ℕ) → (n < kept.given) → kept.bearer n ≡ j → bearer n ≡ j = λ n j l h. put_else kept.bearer k new n (λ e. omega (arith, given.0)) ∙ h in
      comes s kept id (k + 1) bearer v (gave v) (given_to v) here refl (omega (arith, given.0)) (omega arith) record {
        first_is = knows.first_is;
        seen_is = knows.seen_is;
        former_are = λ i d l. let f = knows.former_are i d l in (f.0, λ a b c. let h = f.1 a b c in (omega (arith, h.0, given.0), old _ _ h.0 h.1, h.2, h.3));
        number_is = λ n d l. let h = knows.number_is n d l in (omega (arith, h.0, given.0), old _ _ h.0 h.1, h.2);
        given_is = subst (λ (o : Option ℕ). IfSome (option_map (λ x. x + 1) o) (λ x. (x ≡ k + 1) × (id ≡ 0))) (sym is) (refl, given.1);
        ticket_is = knows.ticket_is;
        holds = knows.holds;
        read_is = knows.read_is;
        ticket_full_is = knows.ticket_full_is;
        serving_full_is = knows.serving_full_is;
      } record {
        first_is = knows.first_is;
        seen_is = (kept.history, refl);
        former_are = λ i d l. absurd (omega arith);
        number_is = All_number k new bearer kept.history number (put_here kept.bearer k new k refl) (none_of kept.history k (subst (λ (x : ℕ). All (λ (e : Entry Request Answer). e.seat < x) kept.history) (sym given.0) kept.by_seats));
        given_is = tt;
        ticket_is = tt;
        holds = λ t h. absurd cc;
        read_is = tt;
        ticket_full_is = λ h. absurd cc;
        serving_full_is = λ h. absurd cc;
      } (λ j u other inside_ known. record {
        first_is = known.first_is;
        seen_is = known.seen_is;
        former_are = λ i d l. let f = known.former_are i d l in (f.0, λ a b c. let h = f.1 a b c in (omega (arith, h.0, given.0), old _ _ h.0 h.1, h.2, h.3));
        number_is = λ n d l. let h = known.number_is n d l in (omega (arith, h.0, given.0), old _ _ h.0 h.1, h.2);
        given_is = IfSome_then u.given known.given_is (λ x h. absurd (other (h.1 ∙ sym given.1)));
        ticket_is = known.ticket_is;
        holds = known.holds;
        read_is = known.read_is;
        ticket_full_is = known.ticket_full_is;
        serving_full_is = known.serving_full_is;
      })
    where
      All_number : (k new : ℕ) (bearer : ℕ → ℕ) (history : List (Entry Request Answer)) → {x : ℕ} → x ≡ k → bearer k ≡ new → entries_of k history ≡ []
          → All (λ n. (n < k + 1) × (bearer n ≡ new) × (entries_of n history ≡ entries_of n [])) (x ∷ [])
      All_number k new bearer history {x} is bears none_there = subst (λ (y : ℕ). All (λ n. (n < k + 1) × (bearer n ≡ new) × (entries_of n history ≡ [])) (y ∷ [])) (sym is)
          (All_one (λ n. (n < k + 1) × (bearer n ≡ new) × (entries_of n history ≡ [])) k (omega arith, bears, none_there))

  -- the table at the start
  pub opens : (machine : State) → start.machine.value ≡ machine → (desk : Desk State Request) → desk.machine ≡ machine → Kept step Fits room start (table.opening (0 ∷ 0 ∷ []) (desk ∷ []) (Rattle.history_lock.specs.Rule.maker step Fits room start))
  opens machine is desk has = record {
    history = [];
    ticket = 0;
    given = 0;
    owner = λ _. 0;
    bearer = λ _. 0;
    words_are = refl;
    in_order = omega arith;
    limit = omega arith;
    legal = tt;
    accepts = record { same_room = refl; still_fits = λ request h. h };
    some_given = omega arith;
    by_seats = λ k d l. absurd (omega arith);
    each_ticket = λ t low high. absurd (omega arith);
    machine_is = inl (desk, refl, has ∙ sym is);
    each_view = one;
  }
    where
      one : (id : ℕ) (v : V) → get_elem? (Rattle.history_lock.specs.Rule.maker step Fits room start ∷ []) id ≡ some v → Knows step Fits room start.machine.value [] 0 0 (λ _. 0) (λ _. 0) id v
      one Rattle.std.proofs.Common.zero v e = subst (λ (x : V). Knows step Fits room start.machine.value [] 0 0 (λ _. 0) (λ _. 0) 0 x) (mathlib.Core.Option.some-injective _ v e) record {
        first_is = refl;
        seen_is = ([], refl);
        former_are = λ i d l. absurd (omega arith);
        number_is = λ i d l. absurd (omega arith);
        given_is = (refl, refl);
        ticket_is = tt;
        holds = λ t h. absurd cc;
        read_is = tt;
        ticket_full_is = λ h. absurd cc;
        serving_full_is = λ h. absurd cc;
      }
      one (Rattle.std.proofs.Common.suc id) v e = absurd (mathlib.Core.Option.some-ne-none v (sym e))
