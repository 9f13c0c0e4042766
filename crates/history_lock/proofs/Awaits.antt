-- The loads by which a seat waits for its turn, and the step that ends it.
use Rattle.std.proofs.Common.{◌≡◌, ℕ, ◌<◌, ◌≤◌, ◌==◌, Bool, true, false, List, ◌∷◌, length, set, slice_index, MatchBool, refl, ap, sym, ◌∙◌, subst, ⊎_elim, inr, arith, Option, Some, None, IfSome}
use Rattle.std.proofs.lemmas.Bool.Decides.{Decides-eqb}
use Rattle.std.proofs.lemmas.Option.{IfSome_then}
use mathlib.Core.Option.{none, some}
use lib.ListN.{get_elem?}
use lib.Seq.{set-get_or}
use Rattle.atomic_table.specs.Table as table
use Rattle.atomic_table.proofs.Lists.{set_here}
use Rattle.history_lock.specs.declared.entry.Entry.{Entry}
use Rattle.history_lock.specs.declared.view.Start.{Start}
use Rattle.history_lock.specs.declared.view.Desk.{Desk}
use Rattle.history_lock.specs.declared.view.View.{View}
use Rattle.history_lock.specs.declared.view.Stage.TheVariants.{Waits, Holds}
use Rattle.history_lock.specs.Step.{Stepped}
use Rattle.history_lock.specs.Rule.{Accepts, Knows, Kept, LockTable, IsHome, ticket_of}
use Rattle.history_lock.specs.Plays.{Hand, turn_awaited, Enters}
use Rattle.history_lock.proofs.Fronts.{front_self, front_trans}
use Rattle.history_lock.proofs.Places.{inside, same_value, still, each_set}
use Rattle.history_lock.proofs.Stays.{unmoved}

module _ {State Request Answer : Type 0} (step : State → Request → Stepped State Answer) (Fits : State → Request → Type 0) (room : State → ℕ) (start : Start State) where
  abbrev T : Type 0
  T = LockTable step Fits room

  abbrev V : Type 0
  V = View State Request Answer

  -- what is known of the ticket of a seat that waits
  ticket_at : (s : T) (kept : Kept step Fits room start s) (id t : ℕ) (v : V) → get_elem? s.views id ≡ some v → ticket_of v.stage ≡ Some t
      → (length kept.history ≤ t) × (t < kept.ticket) × (kept.owner t ≡ id) × (0 < length v.numbers)
  ticket_at s kept id t v here is = subst (λ (o : Option ℕ). IfSome o (λ k. (length kept.history ≤ k) × (k < kept.ticket) × (kept.owner k ≡ id) × (0 < length v.numbers))) is (kept.each_view id v here).ticket_is

  -- the machine is home, where the seat whose turn it is waits
  is_home : (s : T) (kept : Kept step Fits room start s) (id t : ℕ) (v : V) → get_elem? s.views id ≡ some v → v.stage ≡ Waits t → t ≡ length kept.history
      → IsHome step Fits room start.machine.value kept.history s
  is_home s kept id t v here waits turn = ⊎_elim (λ home. home) (λ out.
      let u = out.1 in
      let mine = ticket_at s kept id t v here (ap ticket_of waits) in
      let its = ticket_at s kept u.0 u.2 u.1 u.3 (ap ticket_of u.4) in
      let same : u.2 ≡ t = ((kept.each_view u.0 u.1 u.3).holds u.2 u.4).0 ∙ sym turn in
      let one : u.0 ≡ id = sym its.2 ∙ (ap kept.owner same ∙ mine.2) in
      let views : v ≡ u.1 = same_value s.views id u.0 v u.1 here u.3 one in
      absurd (cc (waits, ap (λ (x : V). x.stage) views, u.4))) kept.machine_is

  -- the seat whose turn it is takes the machine, and sees the whole history
  enters : (s : T) (kept : Kept step Fits room start s) (id t : ℕ) (v : V) → get_elem? s.views id ≡ some v → v.stage ≡ Waits t → t ≡ length kept.history
      → Kept step Fits room start record { words = set s.words 0 (slice_index s.words 0); homes = set s.homes 0 none; views = set s.views id (record v { stage = Holds t; seen = kept.history; read = None }) }
  enters s kept id t v here waits turn =
      let first : State = start.machine.value in
      let h : List (Entry Request Answer) = kept.history in
      let w : V = record v { stage = Holds t; seen = h; read = None } in
      let home = is_home s kept id t v here waits turn in
      let knows = kept.each_view id v here in record {
        history = h;
        ticket = kept.ticket;
        given = kept.given;
        owner = kept.owner;
        bearer = kept.bearer;
        words_are = set-get_or s.words 0 0 ∙ kept.words_are;
        in_order = kept.in_order;
        limit = kept.limit;
        legal = kept.legal;
        accepts = kept.accepts;
        some_given = kept.some_given;
        by_seats = kept.by_seats;
        each_ticket = λ k low high. let u = kept.each_ticket k low high in
            still (λ (x : V). ticket_of x.stage ≡ Some k) s.views id (kept.owner k) v w u.0 here u.1 u.2 (λ e. sym (ap ticket_of waits) ∙ e);
        machine_is = inr (ap (λ hs. set hs 0 none) home.1, (id, w, t, set_here s.views id w (inside s.views id v here), refl));
        each_view = each_set (Knows step Fits room first h kept.ticket kept.given kept.owner kept.bearer) s.views id w record {
          first_is = knows.first_is;
          seen_is = front_self h;
          former_are = λ k d l. let f = knows.former_are k d l in (front_trans _ _ _ f.0 knows.seen_is, λ i e b. let n = f.1 i e b in (n.0, n.1, n.2, n.2));
          number_is = λ k d l. let n = knows.number_is k d l in (n.0, n.1, refl);
          given_is = knows.given_is;
          ticket_is = ticket_at s kept id t v here (ap ticket_of waits);
          holds = λ k e. let same : t ≡ k = cc in (sym same ∙ turn, refl);
          read_is = tt;
          ticket_full_is = knows.ticket_full_is;
          serving_full_is = knows.serving_full_is;
        } (λ j u other. kept.each_view j u);
      }

  abbrev Told : Hand State Request Answer → ℕ → Bool → ℕ → State → Hand State Request Answer → Type 0
  Told m n b k f m' = (n ≤ k) × IfSome m.0.read (λ r. r ≤ n) × MatchBool b (Enters step Fits room m f k m') (m' ≡ m)

  tells : (m m' : Hand State Request Answer) (n t : ℕ) (at : table.Step (Desk State Request)) → m.0.stage ≡ Waits t → IfSome m.0.first (λ f. f ≡ start.machine.value)
      → (b : Bool) → (n == t) ≡ b → Told m n b t start.machine.value m' → turn_awaited step Fits room at m n m'
  tells m m' n t at waits first b is told k f stage is_first =
      let same : t ≡ k = cc (waits, stage) in
      let one : f ≡ start.machine.value = subst (λ (o : Option State). IfSome o (λ x. x ≡ start.machine.value)) is_first first in
      subst (λ (x : State). Told m n (n == k) k x m') (sym one) (subst (λ (x : ℕ). Told m n (n == x) x start.machine.value m') same (subst (λ (c : Bool). Told m n c t start.machine.value m') (sym is) told))

  pub awaits : (slots id t : ℕ) (m : Hand State Request Answer) (at : table.Step (Desk State Request)) → m.0.stage ≡ Waits t
      → table.Allows (Kept step Fits room start) slots id m 0 (λ n. n) (turn_awaited step Fits room at m)
  awaits slots id t m at waits s kept size here small =
      let n : ℕ = slice_index s.words 0 in
      let found : slice_index s.words 0 ≡ length kept.history = ap (λ ws. slice_index ws 0) kept.words_are in
      let low : n ≤ t = (let mine = ticket_at s kept id t m.0 here (ap ticket_of waits) in omega (arith, found, mine.0)) in
      let read : IfSome m.0.read (λ r. r ≤ n) = IfSome_then m.0.read (kept.each_view id m.0 here).read_is (λ r le. omega (arith, found, le)) in
      cases found low read (n == t) refl
    where
      cases : slice_index s.words 0 ≡ length kept.history → slice_index s.words 0 ≤ t → IfSome m.0.read (λ r. r ≤ slice_index s.words 0) → (b : Bool) → (slice_index s.words 0 == t) ≡ b
          → (w : V) × (a : table.Act (Desk State Request)) × table.Valid s.homes m.1 a
          × Kept step Fits room start (table.stepped s 0 (slice_index s.words 0) id m.1 w a)
          × turn_awaited step Fits room at m (slice_index s.words 0) (w, table.carried_after m.1 a)
      cases found low read false is =
          (m.0, table.keeps, tt, unmoved step Fits room start s kept id 0 m.0 here, tells m m (slice_index s.words 0) t at waits (kept.each_view id m.0 here).first_is false is (low, read, refl))
      cases found low read true is =
          let turn : t ≡ length kept.history = sym ((Decides-eqb _ t).0 is) ∙ found in
          let home = is_home s kept id t m.0 here waits turn in
          let knows = kept.each_view id m.0 here in
          let w : V = record m.0 { stage = Holds t; seen = kept.history; read = None } in (
            w,
            table.takes 0 home.0,
            ap (λ hs. get_elem? hs 0) home.1,
            enters s kept id t m.0 here waits turn,
            tells m (w, (0, home.0) ∷ m.1) (slice_index s.words 0) t at waits knows.first_is true is (
              low,
              read,
              record {
                history = kept.history;
                desk = home.0;
                view_is = refl;
                slot_is = refl;
                machine_is = home.2;
                accepts = subst (λ x. Accepts step Fits room start.machine.value x) (sym home.2) kept.accepts;
                legal = kept.legal;
                later = knows.seen_is;
                length_is = sym turn;
                own = λ k d l. (knows.number_is k d l).2;
              },
            ),
          )
