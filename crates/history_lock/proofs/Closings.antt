-- All seats are joined into one, and the lock is closed.
use Rattle.std.proofs.Common.{◌≡◌, ◌≢◌, ℕ, ◌+◌, ◌%◌, ◌<◌, ◌≤◌, ◌^◌, ◌==◌, eqb, eq-eqb, ne_eqb, Bool, true, false, if◌then◌else◌, List, [], ◌∷◌, ◌++◌, length, set, get_or, slice_index, All, MatchBool, refl, ap, sym, ◌∙◌, subst, ⊎_elim, inl, inr, arith, Option, Some, None, IfSome, length-append, filter, Contains, slice_index_or, ◌||◌, ◌⊎◌, map}
use Rattle.std.proofs.lemmas.List.Elements.{filter-append}
use Rattle.std.proofs.lemmas.List.{append-nil}
use mathlib.Core.Option.{none, some}
use mathlib.Core.List.{IsPrefix}
use lib.ListN.{get_elem?}
use Rattle.atomic_table.specs.Table as table
use Rattle.history_lock.specs.declared.entry.Entry.{Entry}
use Rattle.history_lock.specs.declared.view.Start.{Start}
use Rattle.history_lock.specs.declared.view.Desk.{Desk}
use Rattle.history_lock.specs.declared.view.View.{View}
use Rattle.history_lock.specs.declared.view.Stage.TheVariants.{Idle}
use Rattle.history_lock.specs.Step.{Stepped}
use Rattle.history_lock.specs.History.{run, IsLegal, entries_of}
use Rattle.history_lock.specs.Rule.{Kept, LockTable, IsHome, IsOut, ticket_of}
use Rattle.history_lock.specs.Plays.{was, with_seat, Tells}
use Rattle.history_lock.proofs.Fronts.{front_self}
use Rattle.history_lock.proofs.Places.{same_value}
use Rattle.history_lock.specs.declared.view.Former.{Former}
use Rattle.history_lock.specs.Seats.{SeatData}
use Rattle.history_lock.specs.ClosingInside.{IsFormer, IsTaken, Covers, IsEnded}

module _ {A : Type 0} where
  -- what holds of all holds of each
  pub All-at : (P : A → Type 0) (xs : List A) (x : A) → All P xs → Contains xs x → P x
  All-at P xs x all c = subst P c.2 (all c.0 x c.1)

  pub there_too : (xs ys : List A) (x : A) → Contains xs x → Contains (xs ++ ys) x
  there_too [] ys x c = absurd (omega (arith, c.1))
  there_too (y ∷ xs) ys x (Rattle.std.proofs.Common.zero, l, e) = (0, omega arith, e)
  there_too (y ∷ xs) ys x (Rattle.std.proofs.Common.suc k, l, e) = let r = there_too xs ys x (k, omega arith, e) in (Rattle.std.proofs.Common.suc r.0, omega (arith, r.1), r.2)

  pub behind : (xs ys : List A) (x : A) → Contains ys x → Contains (xs ++ ys) x
  behind [] ys x c = c
  behind (y ∷ xs) ys x c = let r = behind xs ys x c in (Rattle.std.proofs.Common.suc r.0, omega (arith, r.1), r.2)

  later_too : (y z : A) (xs : List A) (x : A) → Contains xs x → Contains (y ∷ z ∷ xs) x
  later_too y z xs x c = (Rattle.std.proofs.Common.suc (Rattle.std.proofs.Common.suc c.0), omega (arith, c.1), c.2)

-- what a list has of the images of another is the image of one of its elements
pub image_of : {A B : Type 0} (f : A → B) (xs : List A) (y : B) → Contains (map f xs) y → (x : A) × Contains xs x × (f x ≡ y)
image_of f [] y c = absurd (omega (arith, c.1))
image_of f (x ∷ xs) y (Rattle.std.proofs.Common.zero, l, e) = (x, (0, omega arith, refl), e)
image_of f (x ∷ xs) y (Rattle.std.proofs.Common.suc k, l, e) =
    let r = image_of f xs y (k, omega arith, e) in (r.0, (Rattle.std.proofs.Common.suc r.1.0, omega (arith, r.1.1), r.1.2), r.2)

true_too : (a b : Bool) → a ≡ true → (a || b) ≡ true
true_too true b e = refl
true_too false b e = absurd cc

true_also : (a b : Bool) → b ≡ true → (a || b) ≡ true
true_also true b e = refl
true_also false b e = e

module _ {State Request Answer : Type 0} where
  -- a seat that was taken stays so once another is joined
  pub taken_stays : (v w : View State Request Answer) (seat : SeatData State Request Answer) → IsTaken v seat → IsTaken (with_seat v w) seat
  taken_stays v w seat t = record {
    number = there_too v.numbers w.numbers seat.number t.number;
    seen = inr (⊎_elim (λ (e : v.seen ≡ seat.seen). (was v, (0, omega arith, refl), e, t.number)) (λ (f : IsFormer v seat). (f.0, later_too (was v) (was w) v.former f.0 f.1, f.2, f.3)) t.seen);
    ticket_full = λ h. true_too v.ticket_full w.ticket_full (t.ticket_full h);
    serving_full = λ h. true_too v.serving_full w.serving_full (t.serving_full h);
  }

  -- and the one that is joined is taken
  pub taken_now : (v w : View State Request Answer) (seat : SeatData State Request Answer) → w.numbers ≡ seat.number ∷ [] → w.seen ≡ seat.seen → w.ticket_full ≡ seat.ticket_full → w.serving_full ≡ seat.serving_full
      → IsTaken (with_seat v w) seat
  taken_now v w seat number seen ticket serving =
      let mine : Contains w.numbers seat.number = subst (λ (l : List ℕ). Contains l seat.number) (sym number) (0, omega arith, refl) in record {
        number = behind v.numbers w.numbers seat.number mine;
        seen = inr (was w, (1, omega arith, refl), seen, mine);
        ticket_full = λ h. true_also v.ticket_full w.ticket_full (ticket ∙ h);
        serving_full = λ h. true_also v.serving_full w.serving_full (serving ∙ h);
      }

  -- a look tells that what a taken seat saw is covered
  pub covers : (v u : View State Request Answer) (seat : SeatData State Request Answer) → Tells v → u ≡ record v { former = [] } → IsTaken v seat → Covers u seat
  covers v u seat tells is t =
      let of_former : (f : IsFormer v seat) → IsPrefix seat.seen v.seen × (entries_of seat.number v.seen ≡ entries_of seat.number seat.seen) = λ f.
      let told = All-at (λ (x : Former Request Answer). IsPrefix x.seen v.seen × All (λ n. entries_of n v.seen ≡ entries_of n x.seen) x.numbers) v.former f.0 tells f.1 in
      (subst (λ x. IsPrefix x v.seen) f.2 told.0, All-at (λ n. entries_of n v.seen ≡ entries_of n f.0.seen) f.0.numbers seat.number told.1 f.3 ∙ ap (entries_of seat.number) f.2) in
      let both : IsPrefix seat.seen v.seen × (entries_of seat.number v.seen ≡ entries_of seat.number seat.seen) =
      ⊎_elim (λ (e : v.seen ≡ seat.seen). (subst (λ x. IsPrefix x v.seen) e (front_self v.seen), ap (entries_of seat.number) e)) of_former t.seen in
      subst (λ (x : View State Request Answer). Covers x seat) (sym is) record {
        number = t.number;
        seen = both.0;
        own = both.1;
        ticket_full = t.ticket_full;
        serving_full = t.serving_full;
      }

module _ {State Request Answer : Type 0} (step : State → Request → Stepped State Answer) (Fits : State → Request → Type 0) (room : State → ℕ) (start : Start State) where
  abbrev T : Type 0
  T = LockTable step Fits room

  abbrev V : Type 0
  V = View State Request Answer

  -- What stands at the end, where one idle seat has all numbers.
  pub record IsOver (s : T) (v : V) : Type 0 where
    pub count : s.words ≡ length v.seen ∷ length v.seen ∷ []
    pub desk : Desk State Request
    pub home : s.homes ≡ some desk ∷ []
    pub machine : desk.machine ≡ run step start.machine.value v.seen
    pub legal : IsLegal step Fits start.machine.value v.seen
    pub limit : length v.seen ≤ 2 ^ 62
    pub by_seats : All (λ entry. entry.seat < start.seats) v.seen
    pub ticket_full : v.ticket_full ≡ true → length v.seen ≡ 2 ^ 62
    pub serving_full : v.serving_full ≡ true → length v.seen ≡ 2 ^ 62

  -- it has seen the whole history
  whole : (s : T) (kept : Kept step Fits room start s) (id : ℕ) (v : V) → get_elem? s.views id ≡ some v → ((n : ℕ) → n < start.seats → Contains v.numbers n) → v.seen ≡ kept.history
  whole s kept id v here all = let p = (kept.each_view id v here).seen_is in rest p.0 p.1
    where
      rest : (r : List (Entry Request Answer)) → v.seen ++ r ≡ kept.history → v.seen ≡ kept.history
      rest [] e = sym (append-nil v.seen) ∙ e
      rest (x ∷ r) e =
          let by = All-at (λ (y : Entry Request Answer). y.seat < kept.given) kept.history x kept.by_seats (subst (λ h. Contains h x) e (behind v.seen (x ∷ r) x (0, omega arith, refl))) in
          let bears = All-at (λ n. (n < kept.given) × (kept.bearer n ≡ id) × (entries_of n kept.history ≡ entries_of n v.seen)) v.numbers x.seat (kept.each_view id v here).number_is (all x.seat (omega (arith, by, kept.some_given))) in
          let split : entries_of x.seat kept.history ≡ entries_of x.seat v.seen ++ (x ∷ entries_of x.seat r) =
          ap (entries_of x.seat) (sym e) ∙ (filter-append (λ y. y.seat == x.seat) v.seen (x ∷ r) ∙ ap (λ (b : Bool). entries_of x.seat v.seen ++ (if b then x ∷ entries_of x.seat r else entries_of x.seat r)) (eq-eqb x.seat x.seat refl)) in
          let longer_by : length (entries_of x.seat kept.history) ≡ length (entries_of x.seat v.seen) + length (x ∷ entries_of x.seat r) = ap length split ∙ length-append (entries_of x.seat v.seen) (x ∷ entries_of x.seat r) in
          absurd (omega (arith, longer_by, ap length bears.2))

  -- no other seat has a ticket
  no_ticket : (s : T) (kept : Kept step Fits room start s) (id : ℕ) (v : V) → get_elem? s.views id ≡ some v → v.stage ≡ Idle → ((n : ℕ) → n < start.seats → Contains v.numbers n)
      → (j t : ℕ) (u : V) → get_elem? s.views j ≡ some u → ticket_of u.stage ≡ Some t → ⊥
  no_ticket s kept id v here idle all j t u at is =
      let known = kept.each_view j u at in
      let mine = subst (λ (o : Option ℕ). IfSome o (λ k. (length kept.history ≤ k) × (k < kept.ticket) × (kept.owner k ≡ j) × (0 < length u.numbers))) is known.ticket_is in
      let number = known.number_is 0 0 mine.3 in
      let n : ℕ = slice_index_or u.numbers 0 0 in
      let bears = All-at (λ k. (k < kept.given) × (kept.bearer k ≡ id) × (entries_of k kept.history ≡ entries_of k v.seen)) v.numbers n (kept.each_view id v here).number_is (all n (omega (arith, number.0, kept.some_given))) in
      let one : j ≡ id = sym number.1 ∙ bears.1 in
      let same : v ≡ u = same_value s.views id j v u here at one in
      absurd (cc (ap ticket_of (sym (ap (λ (x : V). x.stage) same) ∙ idle), is))

  pub over : (s : T) (kept : Kept step Fits room start s) (id : ℕ) (v : V) → get_elem? s.views id ≡ some v → v.stage ≡ Idle → ((n : ℕ) → n < start.seats → Contains v.numbers n) → IsOver s v
  over s kept id v here idle all =
      let seen : v.seen ≡ kept.history = whole s kept id v here all in
      let none_waits = no_ticket s kept id v here idle all in
      let none_left : ¬ (length kept.history < kept.ticket) = λ less. let u = kept.each_ticket (length kept.history) (omega arith) less in none_waits (kept.owner (length kept.history)) (length kept.history) u.0 u.1 u.2 in
      let even : kept.ticket ≡ length kept.history = omega (arith, kept.in_order, none_left) in
      let home = ⊎_elim (λ (h : IsHome step Fits room start.machine.value kept.history s). h) (λ (out : IsOut step Fits room s). absurd (let u = out.1 in none_waits u.0 u.2 u.1 u.3 (ap ticket_of u.4))) kept.machine_is in
      let knows = kept.each_view id v here in record {
        count = kept.words_are ∙ (λ i. length (sym seen i) ∷ (even ∙ ap length (sym seen)) i ∷ []);
        desk = home.0;
        home = home.1;
        machine = home.2 ∙ ap (run step start.machine.value) (sym seen);
        legal = subst (λ h. IsLegal step Fits start.machine.value h) (sym seen) kept.legal;
        limit = subst (λ (h : List (Entry Request Answer)). length h ≤ 2 ^ 62) (sym seen) (omega (arith, kept.in_order, kept.limit));
        by_seats = subst (λ h. All (λ (e : Entry Request Answer). e.seat < start.seats) h) (sym seen) (λ k d l. let h = kept.by_seats k d l in omega (arith, h, kept.some_given));
        ticket_full = λ full. ap length seen ∙ (sym even ∙ knows.ticket_full_is full);
        serving_full = λ full. ap length seen ∙ knows.serving_full_is full;
      }

  pub ended : (id : ℕ) (v : V) (ws : List ℕ) (xs : List (Desk State Request)) (n : ℕ) (d : Desk State Request) → v.stage ≡ Idle → ((k : ℕ) → k < start.seats → Contains v.numbers k)
      → table.Final (table.Seen (Kept step Fits room start) id v) ws xs → get_elem? ws 0 ≡ some n → get_elem? xs 0 ≡ some d → IsEnded step Fits start v d.machine n
  ended id v ws xs n d idle all final word slot =
      let o = over final.0 final.1.0 id v final.1.1 idle all in
      let entries : n ≡ length v.seen = mathlib.Core.Option.some-injective n (length v.seen) (sym word ∙ ap (λ l. get_elem? l 0) (sym final.2 ∙ o.count)) in
      let desk : d ≡ o.desk = mathlib.Core.Option.some-injective d o.desk (sym slot ∙ final.4 0 o.desk (ap (λ l. get_elem? l 0) o.home)) in record {
        legal = o.legal;
        machine_is = ap (λ (x : Desk State Request). x.machine) desk ∙ o.machine;
        entries_are = entries;
        limit = omega (arith, entries, o.limit);
        by_seats = o.by_seats;
        ticket_full = λ full. entries ∙ o.ticket_full full;
        serving_full = λ full. entries ∙ o.serving_full full;
      }
