-- A seat that has the machine works a request on it.
use Rattle.std.proofs.Common.{◌≡◌, ℕ, ◌∷◌, ap, sym, ◌∙◌, subst}
use Rattle.atomic_table.specs.Table as table
use Rattle.history_lock.specs.declared.view.Desk.{Desk}
use Rattle.history_lock.specs.Step.{Stepped}
use Rattle.history_lock.specs.History.{run}
use Rattle.history_lock.specs.Plays.{Hand, HasMachine, IsWorked, IsAsked}

module _ {State Request Answer : Type 0} (step : State → Request → Stepped State Answer) (Fits : State → Request → Type 0) (room : State → ℕ) where
  module _ (m : Hand State Request Answer) (first : State) (has : HasMachine step Fits room m first) (desk : Desk State Request) (at : m.1 ≡ (0, desk) ∷ table.rest m.1) where
    -- the machine that the seat was lent is the one that it has
    pub lent : desk.machine ≡ run step first m.0.seen
    lent = let slots : (0, desk) ≡ (0, has.desk) = cc (at, has.slot) in ap (λ (x : ℕ × Desk State Request). x.1.machine) slots ∙ has.machine

    pub takes_it : (request : Request) → Fits first request → Fits desk.machine request
    takes_it request fits = let slots : (0, desk) ≡ (0, has.desk) = cc (at, has.slot) in
        subst (λ (x : ℕ × Desk State Request). Fits x.1.machine request) (sym slots) (has.accepts.still_fits request fits)

    pub same_places : room desk.machine ≡ room first
    same_places = let slots : (0, desk) ≡ (0, has.desk) = cc (at, has.slot) in ap (λ (x : ℕ × Desk State Request). room x.1.machine) slots ∙ has.accepts.same_room

    pub worked : (after : Desk State Request) (request : Request) → after.machine ≡ (step desk.machine request).state → IsAsked after request → room after.machine ≡ room desk.machine
        → ((other : Request) → Fits desk.machine other → Fits after.machine other) → Fits first request
        → IsWorked step Fits room (m.0, (0, after) ∷ table.rest m.1) first request
    worked after request stepped asks rooms goes_on fits = record {
      t = has.t;
      n = has.n;
      desk = after;
      holds = has.holds;
      slot = ap (λ l. (0, after) ∷ table.rest l) has.slot;
      asks = asks;
      number = has.number;
      first_is = has.first_is;
      all_seen = has.all_seen;
      machine = stepped ∙ ap (λ x. (step x request).state) lent;
      fits = subst (λ x. Fits x request) lent (takes_it request fits);
      accepts = record { same_room = rooms ∙ same_places; still_fits = λ other h. goes_on other (takes_it other h) };
    }
