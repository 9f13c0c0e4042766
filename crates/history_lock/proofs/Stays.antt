-- Steps that change what one seat knows, and no history, ticket or number.
use Rattle.std.proofs.Common.{◌≡◌, ℕ, ◌≤◌, ◌^◌, ◌==◌, Bool, true, false, if◌then◌else◌, List, length, set, slice_index, refl, ap, sym, ◌∙◌, subst, ⊎_elim, inl, inr, arith, Some, None, IfSome}
use Rattle.std.proofs.lemmas.Bool.Decides.{Decides-eqb}
use mathlib.Core.Option.{some}
use lib.ListN.{get_elem?}
use lib.Seq.{set-get_or}
use Rattle.atomic_table.specs.Table as table
use Rattle.history_lock.specs.declared.view.Start.{Start}
use Rattle.history_lock.specs.declared.view.Desk.{Desk}
use Rattle.history_lock.specs.declared.view.View.{View}
use Rattle.history_lock.specs.declared.view.Stage.TheVariants.{Holds}
use Rattle.history_lock.specs.Step.{Stepped}
use Rattle.history_lock.specs.Rule.{Knows, Kept, LockTable, ticket_of}
use Rattle.history_lock.specs.Plays.{Hand, ticket_read, serving_read}
use Rattle.history_lock.proofs.Places.{still, each_set}

module _ {State Request Answer : Type 0} (step : State → Request → Stepped State Answer) (Fits : State → Request → Type 0) (room : State → ℕ) (start : Start State) where
  abbrev T : Type 0
  T = LockTable step Fits room

  abbrev V : Type 0
  V = View State Request Answer

  -- the rule with another view of one seat, which is as far in its call
  pub stays : (s : T) (kept : Kept step Fits room start s) (id : ℕ) (v w : V) (words : List ℕ) → get_elem? s.views id ≡ some v → w.stage ≡ v.stage
      → Knows step Fits room start.machine.value kept.history kept.ticket kept.given kept.owner kept.bearer id w → words ≡ s.words
      → Kept step Fits room start record { words = words; homes = s.homes; views = set s.views id w }
  stays s kept id v w words at same knows as_before = record {
    history = kept.history;
    ticket = kept.ticket;
    given = kept.given;
    owner = kept.owner;
    bearer = kept.bearer;
    words_are = as_before ∙ kept.words_are;
    in_order = kept.in_order;
    limit = kept.limit;
    legal = kept.legal;
    accepts = kept.accepts;
    some_given = kept.some_given;
    by_seats = kept.by_seats;
    each_ticket = λ t low high. let u = kept.each_ticket t low high in
        still (λ (x : V). ticket_of x.stage ≡ Some t) s.views id (kept.owner t) v w u.0 at u.1 u.2 (λ h. ap ticket_of same ∙ h);
    machine_is = ⊎_elim inl (λ out. inr (out.0, (let u = out.1 in let x = still (λ (x : V). x.stage ≡ Holds u.2) s.views id u.0 v w u.1 at u.3 u.4 (λ h. same ∙ h) in (u.0, x.0, u.2, x.1, x.2)))) kept.machine_is;
    each_view = each_set (Knows step Fits room start.machine.value kept.history kept.ticket kept.given kept.owner kept.bearer) s.views id w knows (λ j u other. kept.each_view j u);
  }

  pub reads_ticket : (slots id : ℕ) (m : Hand State Request Answer) (at : table.Step (Desk State Request))
      → table.Allows (Kept step Fits room start) slots id m 1 (λ n. n) (ticket_read at m)
  reads_ticket slots id m at s kept size here small =
      let found : slice_index s.words 1 ≡ kept.ticket = ap (λ ws. slice_index ws 1) kept.words_are in
      let n : ℕ = slice_index s.words 1 in
      let knows = kept.each_view id m.0 here in
      let w : V = record m.0 { ticket_full = n == 2 ^ 62 } in (
        w,
        table.keeps,
        tt,
        stays s kept id m.0 w (set s.words 1 n) here refl record {
          first_is = knows.first_is;
          seen_is = knows.seen_is;
          former_are = knows.former_are;
          number_is = knows.number_is;
          given_is = knows.given_is;
          ticket_is = knows.ticket_is;
          holds = knows.holds;
          read_is = knows.read_is;
          ticket_full_is = λ full. sym found ∙ (Decides-eqb n (2 ^ 62)).0 full;
          serving_full_is = knows.serving_full_is;
        } (set-get_or s.words 1 0),
        (subst (λ (k : ℕ). k ≤ 2 ^ 62) (sym found) kept.limit, refl),
      )

  -- nothing changes
  pub unmoved : (s : T) (kept : Kept step Fits room start s) (id i : ℕ) (v : V) → get_elem? s.views id ≡ some v
      → Kept step Fits room start record { words = set s.words i (slice_index s.words i); homes = s.homes; views = set s.views id v }
  unmoved s kept id i v here = stays s kept id v v (set s.words i (slice_index s.words i)) here refl (kept.each_view id v here) (set-get_or s.words i 0)

  pub reads_serving : (slots id : ℕ) (m : Hand State Request Answer) (at : table.Step (Desk State Request))
      → table.Allows (Kept step Fits room start) slots id m 0 (λ n. n) (serving_read at m)
  reads_serving slots id m at s kept size here small =
      let found : slice_index s.words 0 ≡ length kept.history = ap (λ ws. slice_index ws 0) kept.words_are in
      let n : ℕ = slice_index s.words 0 in
      let knows = kept.each_view id m.0 here in
      let w : V = record m.0 { read = if n == 2 ^ 62 then None else Some n; serving_full = n == 2 ^ 62 } in (
        w,
        table.keeps,
        tt,
        stays s kept id m.0 w (set s.words 0 n) here refl record {
          first_is = knows.first_is;
          seen_is = knows.seen_is;
          former_are = knows.former_are;
          number_is = knows.number_is;
          given_is = knows.given_is;
          ticket_is = knows.ticket_is;
          holds = knows.holds;
          read_is = read_below (n == 2 ^ 62) n (length kept.history) found;
          ticket_full_is = knows.ticket_full_is;
          serving_full_is = λ full. sym found ∙ (Decides-eqb n (2 ^ 62)).0 full;
        } (set-get_or s.words 0 0),
        (subst (λ (k : ℕ). k ≤ 2 ^ 62) (sym found) (omega (arith, kept.in_order, kept.limit)), refl),
      )
    where
      read_below : (b : Bool) (n k : ℕ) → n ≡ k → IfSome (if b then None else Some n) (λ (x : ℕ). x ≤ k)
      read_below true n k e = tt
      read_below false n k e = omega arith
