-- A note is made, and notes and seats are joined to a seat.
use Rattle.std.proofs.Common.{◌≡◌, ◌≢◌, ℕ, ◌<◌, ◌≤◌, ◌==◌, eq-eqb, ne_eqb, Bool, true, false, if◌then◌else◌, List, [], ◌∷◌, ◌++◌, length, set, slice_index, All, refl, ap, sym, ◌∙◌, subst, ⊎_elim, inl, inr, arith, Option, Some, IfSome, ltb, ◌||◌, ◌⊎◌}
use Rattle.std.proofs.lemmas.List.Elements.{All-append}
use Rattle.std.proofs.lemmas.List.{append-nil}
use mathlib.Core.Option.{some}
use mathlib.Core.List.{IsPrefix}
use lib.ListN.{get_elem?}
use lib.Seq.{set-get_or}
use Rattle.atomic_table.specs.Table as table
use Rattle.atomic_table.proofs.Lists.{set_else}
use Rattle.history_lock.specs.declared.entry.Entry.{Entry}
use Rattle.history_lock.specs.declared.view.Start.{Start}
use Rattle.history_lock.specs.declared.view.Desk.{Desk}
use Rattle.history_lock.specs.declared.view.View.{View}
use Rattle.history_lock.specs.declared.view.Stage.{Stage}
use Rattle.history_lock.specs.declared.view.Stage.TheVariants.{Idle, Holds}
use Rattle.history_lock.specs.Step.{Stepped}
use Rattle.history_lock.specs.History.{entries_of}
use Rattle.history_lock.specs.Rule.{Knows, Kept, LockTable, ticket_of}
use Rattle.history_lock.specs.Plays.{Hand, noted, spent, was, longer, with_note, with_seat, looked}
use Rattle.history_lock.proofs.Fronts.{front_self, front_trans, front_shorter, found_between}
use Rattle.history_lock.proofs.Places.{still, each_set, All-cons}
use Rattle.std.proofs.lemmas.Bool.Decides.{Decides-ltb}
use Rattle.history_lock.specs.declared.view.Former.{Former}
use Rattle.history_lock.specs.Rule.{WasSeen}
use Rattle.history_lock.proofs.Stays.{stays}
use Rattle.history_lock.proofs.Comes.{comes}

-- the bearers, once one gave all its numbers to another
moved : (ℕ → ℕ) → ℕ → ℕ → ℕ → ℕ
moved bearer other id n = if bearer n == other then id else bearer n

moved_here : (bearer : ℕ → ℕ) (other id n : ℕ) → bearer n ≡ other → moved bearer other id n ≡ id
unfolding moved
moved_here bearer other id n e = ap (λ (b : Bool). if b then id else bearer n) (eq-eqb (bearer n) other e)

moved_else : (bearer : ℕ → ℕ) (other id n : ℕ) → bearer n ≢ other → moved bearer other id n ≡ bearer n
unfolding moved
moved_else bearer other id n e = ap (λ (b : Bool). if b then id else bearer n) (ne_eqb (bearer n) other e)

either_true : (a b : Bool) → (a || b) ≡ true → (a ≡ true) ⊎ (b ≡ true)
either_true true b e = inl refl
either_true false b e = inr e

module _ {A : Type 0} where
  not_below : (xs ys : List A) → ltb (length xs) (length ys) ≡ false → length ys ≤ length xs
  not_below xs ys e = let n : ¬ (length xs < length ys) = λ h. absurd (cc (e, (Decides-ltb (length xs) (length ys)).1 h)) in omega (arith, n)

  -- the longer of two fronts of the history is a front of it, and begins with both
  longer_is : (xs ys zs : List A) → IsPrefix xs zs → IsPrefix ys zs → IsPrefix xs (longer xs ys) × IsPrefix ys (longer xs ys) × IsPrefix (longer xs ys) zs
  longer_is xs ys zs p q = cases (ltb (length xs) (length ys)) refl
    where
      cases : (b : Bool) → ltb (length xs) (length ys) ≡ b
          → let l : List A = if b then ys else xs in IsPrefix xs l × IsPrefix ys l × IsPrefix l zs
      cases true is = (front_shorter xs ys zs p q (let h = (Decides-ltb (length xs) (length ys)).0 is in omega (arith, h)), front_self ys, q)
      cases false is = (front_self xs, front_shorter ys xs zs q p (let h = not_below xs ys is in omega (arith, h)), p)

module _ {State Request Answer : Type 0} (step : State → Request → Stepped State Answer) (Fits : State → Request → Type 0) (room : State → ℕ) (start : Start State) where
  abbrev T : Type 0
  T = LockTable step Fits room

  abbrev V : Type 0
  V = View State Request Answer

  -- a note comes to the table
  pub notes : (id : ℕ) (v : V) → table.Splits (Kept step Fits room start) id v v (noted v)
  notes id v s kept here =
      let knows = kept.each_view id v here in
      comes step Fits room start s kept id kept.given kept.bearer v v (noted v) here refl (omega arith) kept.some_given knows record {
        first_is = knows.first_is;
        seen_is = knows.seen_is;
        former_are = λ i d l. absurd (omega arith);
        number_is = λ i d l. absurd (omega arith);
        given_is = tt;
        ticket_is = tt;
        holds = λ t h. absurd cc;
        read_is = tt;
        ticket_full_is = λ h. absurd cc;
        serving_full_is = λ h. absurd cc;
      } (λ j u other below known. known)

  pub looks : (slots id : ℕ) (m : Hand State Request Answer) (at : table.Step (Desk State Request)) → table.Allows (Kept step Fits room start) slots id m 0 (λ n. n) (looked at m)
  looks slots id m at s kept size here small =
      let knows = kept.each_view id m.0 here in
      let w : V = record m.0 { former = [] } in (
        w,
        table.keeps,
        tt,
        stays step Fits room start s kept id m.0 w (set s.words 0 (slice_index s.words 0)) here refl record {
          first_is = knows.first_is;
          seen_is = knows.seen_is;
          former_are = λ i d l. absurd (omega arith);
          number_is = knows.number_is;
          given_is = knows.given_is;
          ticket_is = knows.ticket_is;
          holds = knows.holds;
          read_is = knows.read_is;
          ticket_full_is = knows.ticket_full_is;
          serving_full_is = knows.serving_full_is;
        } (set-get_or s.words 0 0),
        (refl, λ k d l. let f = knows.former_are k d l in (f.0, λ i e b. (f.1 i e b).3)),
      )

  -- what a joined view is made of
  pub record IsJoined (v w both : V) : Type 0 where
    pub first : both.first ≡ v.first
    pub numbers : both.numbers ≡ v.numbers ++ w.numbers
    pub given : both.given ≡ v.given
    pub seen : both.seen ≡ longer v.seen w.seen
    pub former : both.former ≡ was v ∷ was w ∷ v.former
    pub idle : both.stage ≡ Idle
    pub read : both.read ≡ v.read
    pub ticket_full : both.ticket_full ≡ true → (v.ticket_full ≡ true) ⊎ (w.ticket_full ≡ true)
    pub serving_full : both.serving_full ≡ true → (v.serving_full ≡ true) ⊎ (w.serving_full ≡ true)

  -- one view takes in another, where neither is in a call
  pub joins : (id other : ℕ) (v w both : V) → v.stage ≡ Idle → w.stage ≡ Idle → IsJoined v w both → table.Joins (Kept step Fits room start) id v other w both spent
  joins id other v w both v_idle w_idle j s kept here apart there =
      let first : State = start.machine.value in
      let h : List (Entry Request Answer) = kept.history in
      let at_other : get_elem? s.views other ≡ some w = sym (set_else s.views id other both apart) ∙ there in
      let one = kept.each_view id v here in
      let two = kept.each_view other w at_other in
      let bearer : ℕ → ℕ = moved kept.bearer other id in
      let ends = longer_is v.seen w.seen h one.seen_is two.seen_is in
      let l : List (Entry Request Answer) = longer v.seen w.seen in
      let stays_with : (n i : ℕ) → kept.bearer n ≡ i → i ≢ other → bearer n ≡ i = λ n i e ne. moved_else kept.bearer other id n (λ same. ne (sym e ∙ same)) ∙ e in
      let v_stays : (n : ℕ) → kept.bearer n ≡ id → bearer n ≡ id = λ n e. stays_with n id e (λ same. apart (sym same)) in
      let w_comes : (n : ℕ) → kept.bearer n ≡ other → bearer n ≡ id = λ n e. moved_here kept.bearer other id n e in
      let between : (n : ℕ) (x : List (Entry Request Answer)) → IsPrefix x l → entries_of n h ≡ entries_of n x → entries_of n h ≡ entries_of n l =
      λ n x p e. found_between (λ (q : Entry Request Answer). q.seat == n) x l h p ends.2 e in
      let was_v : WasSeen step Fits room h kept.given bearer id (record v { seen = l }) (was v) =
      (ends.0, λ i d b. let n = one.number_is i d b in let e = between _ v.seen ends.0 n.2 in (n.0, v_stays _ n.1, n.2, sym e ∙ n.2)) in
      let was_w : WasSeen step Fits room h kept.given bearer id (record v { seen = l }) (was w) =
      (ends.1, λ i d b. let n = two.number_is i d b in let e = between _ w.seen ends.1 n.2 in (n.0, w_comes _ n.1, n.2, sym e ∙ n.2)) in
      let were : All (WasSeen step Fits room h kept.given bearer id (record v { seen = l })) v.former =
      λ i d b. let f = one.former_are i d b in let p = front_trans _ _ _ f.0 ends.0 in (p, λ a c q. let n = f.1 a c q in let e = between _ _ p n.2 in (n.0, v_stays _ n.1, n.2, sym e ∙ n.2)) in
      let bears : ℕ → Type 0 = λ n. (n < kept.given) × (bearer n ≡ id) × (entries_of n h ≡ entries_of n l) in
      let numbers : All bears (v.numbers ++ w.numbers) = All-append bears v.numbers w.numbers
      (λ i d b. let n = one.number_is i d b in (n.0, v_stays _ n.1, between _ v.seen ends.0 n.2)) (λ i d b. let n = two.number_is i d b in (n.0, w_comes _ n.1, between _ w.seen ends.1 n.2)) in
      let both_knows : Knows step Fits room first h kept.ticket kept.given kept.owner bearer id both = record {
        first_is = subst (λ (o : Option State). IfSome o (λ f. f ≡ first)) (sym j.first) one.first_is;
        seen_is = subst (λ (x : List (Entry Request Answer)). IsPrefix x h) (sym j.seen) ends.2;
        former_are = subst (λ (x : List (Entry Request Answer)). All (λ (f : Former Request Answer). IsPrefix f.seen x × All (λ n. (n < kept.given) × (bearer n ≡ id) × (entries_of n h ≡ entries_of n f.seen) × (entries_of n x ≡ entries_of n f.seen)) f.numbers) both.former) (sym j.seen)
            (subst (All (WasSeen step Fits room h kept.given bearer id (record v { seen = l }))) (sym j.former)
            (All-cons (WasSeen step Fits room h kept.given bearer id (record v { seen = l })) (was v) (was w ∷ v.former) was_v (All-cons (WasSeen step Fits room h kept.given bearer id (record v { seen = l })) (was w) v.former was_w were)));
        number_is = subst (λ (x : List (Entry Request Answer)). All (λ n. (n < kept.given) × (bearer n ≡ id) × (entries_of n h ≡ entries_of n x)) both.numbers) (sym j.seen) (subst (All bears) (sym j.numbers) numbers);
        given_is = subst (λ (o : Option ℕ). IfSome o (λ k. (k ≡ kept.given) × (id ≡ 0))) (sym j.given) one.given_is;
        ticket_is = subst (λ (st : Stage). IfSome (ticket_of st) (λ t. (length h ≤ t) × (t < kept.ticket) × (kept.owner t ≡ id) × (0 < length both.numbers))) (sym j.idle) tt;
        holds = λ t e. absurd (cc (j.idle, e));
        read_is = subst (λ (o : Option ℕ). IfSome o (λ n. n ≤ length h)) (sym j.read) one.read_is;
        ticket_full_is = λ full. ⊎_elim one.ticket_full_is two.ticket_full_is (j.ticket_full full);
        serving_full_is = λ full. ⊎_elim one.serving_full_is two.serving_full_is (j.serving_full full);
      } in
      let spent_knows : Knows step Fits room first h kept.ticket kept.given kept.owner bearer other spent = record {
        first_is = tt;
        seen_is = (h, refl);
        former_are = λ i d b. absurd (omega arith);
        number_is = λ i d b. absurd (omega arith);
        given_is = tt;
        ticket_is = tt;
        holds = λ t e. absurd cc;
        read_is = tt;
        ticket_full_is = λ e. absurd cc;
        serving_full_is = λ e. absurd cc;
      } in
      let others : (i : ℕ) (u : V) → i ≢ id → get_elem? s.views i ≡ some u → i ≢ other → Knows step Fits room first h kept.ticket kept.given kept.owner bearer i u = λ i u ne e ne'. let known = kept.each_view i u e in record {
        first_is = known.first_is;
        seen_is = known.seen_is;
        former_are = λ a d b. let f = known.former_are a d b in (f.0, λ c x q. let n = f.1 c x q in (n.0, stays_with _ i n.1 ne', n.2, n.3));
        number_is = λ a d b. let n = known.number_is a d b in (n.0, stays_with _ i n.1 ne', n.2);
        given_is = known.given_is;
        ticket_is = known.ticket_is;
        holds = known.holds;
        read_is = known.read_is;
        ticket_full_is = known.ticket_full_is;
        serving_full_is = known.serving_full_is;
      } in
      let blank : V = spent in
      let keep : (P : V → Type 0) (i : ℕ) (u : V) → get_elem? s.views i ≡ some u → P u → (P v → P both) → (P w → P blank) → (x : V) × (get_elem? (set (set s.views id both) other spent) i ≡ some x) × P x =
      λ P i u e p f g. let x = still P s.views id i v both u here e p f in still P (set s.views id both) other i w spent x.0 there x.1 x.2 g in record {
        history = h;
        ticket = kept.ticket;
        given = kept.given;
        owner = kept.owner;
        bearer = bearer;
        words_are = kept.words_are;
        in_order = kept.in_order;
        limit = kept.limit;
        legal = kept.legal;
        accepts = kept.accepts;
        some_given = kept.some_given;
        by_seats = kept.by_seats;
        each_ticket = λ t low high. let u = kept.each_ticket t low high in keep (λ (x : V). ticket_of x.stage ≡ Some t) (kept.owner t) u.0 u.1 u.2 (λ e. absurd (cc (ap ticket_of v_idle, e))) (λ e. absurd (cc (ap ticket_of w_idle, e)));
        machine_is = ⊎_elim inl (λ out. inr (out.0, (let u = out.1 in let x = keep (λ (y : V). y.stage ≡ Holds u.2) u.0 u.1 u.3 u.4 (λ e. absurd (cc (v_idle, e))) (λ e. absurd (cc (w_idle, e))) in (u.0, x.0, u.2, x.1, x.2)))) kept.machine_is;
        each_view = each_set (Knows step Fits room first h kept.ticket kept.given kept.owner bearer) (set s.views id both) other spent spent_knows
            (λ i u ne e. each_set (λ (a : ℕ) (x : V). a ≢ other → Knows step Fits room first h kept.ticket kept.given kept.owner bearer a x) s.views id both (λ z. both_knows) others i u e ne);
      }

  pub joins_note : (id other : ℕ) (v w : V) → v.stage ≡ Idle → w.stage ≡ Idle → w.numbers ≡ [] → table.Joins (Kept step Fits room start) id v other w (with_note v w) spent
  joins_note id other v w v_idle w_idle none_its = joins id other v w (with_note v w) v_idle w_idle record {
    first = refl;
    numbers = sym (ap (λ x. v.numbers ++ x) none_its ∙ append-nil v.numbers);
    given = refl;
    seen = refl;
    former = refl;
    idle = v_idle;
    read = refl;
    ticket_full = inl;
    serving_full = inl;
  }

  pub joins_seat : (id other : ℕ) (v w : V) → v.stage ≡ Idle → w.stage ≡ Idle → table.Joins (Kept step Fits room start) id v other w (with_seat v w) spent
  joins_seat id other v w v_idle w_idle = joins id other v w (with_seat v w) v_idle w_idle record {
    first = refl;
    numbers = refl;
    given = refl;
    seen = refl;
    former = refl;
    idle = v_idle;
    read = refl;
    ticket_full = either_true v.ticket_full w.ticket_full;
    serving_full = either_true v.serving_full w.serving_full;
  }
