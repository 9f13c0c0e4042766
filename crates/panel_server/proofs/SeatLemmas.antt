-- What a seat sees, and the lines of its own entries.
use Rattle.std.proofs.Common.{◌≡◌, ℕ, ◌+◌, ◌==◌, ◌≤◌, false, Bool, if◌then◌else◌, List, [], ◌∷◌, ◌++◌, length, inl, inr, refl, sym, ap, ◌∙◌, arith}
use Rattle.std.proofs.lemmas.Bool.Decides.{eqb_tells}
use Rattle.std.proofs.lemmas.List.{append_assoc, append_cancel_left, length-append, nil_from_length}
use Rattle.std.proofs.lemmas.List.Elements.{filter-append}
use Rattle.std.proofs.lemmas.List.Sums.{length-filter, count_by-le-length}
use Rattle.history_lock.specs.Calls.{asked_by}
use Rattle.history_lock.specs.History.{entries_of}
use Rattle.plant_config.specs.Plant.{PlantData}
use Rattle.plant_core.specs.declared.answer.Answer.{Answer}
use Rattle.plant_core.specs.declared.request.Request.{Request}
use Rattle.panel_session.specs.Entry.{PlantEntry}
use Rattle.panel_session.specs.Served.{PlantSeat, own_lines}
use Rattle.panel_session.specs.ServedInside.{SeesMore}
use Rattle.panel_session.specs.Reply.{trace_line}
use Rattle.panel_session.proofs.GoneOnLemmas.{SeesOwn, line-own, lines-both, lines-none, mark-some}
use Rattle.panel_server.specs.DrivenInside.{IsGiven}

-- the own entries of a seat among entries that it has seen, and others behind them
pub own-behind : (plant : PlantData) (a b : PlantSeat) (one other : List PlantEntry) → SeesMore plant a b one
    → entries_of a.number (one ++ other) ≡ entries_of a.number one ++ entries_of b.number other
own-behind plant a b one other sees =
    let number : b.number ≡ a.number = ap (λ (seat : PlantSeat). seat.number) sees.same in
    filter-append (λ (entry : PlantEntry). entry.seat == a.number) one other
    ∙ ap (λ (n : ℕ). entries_of a.number one ++ entries_of n other) (sym number)

-- its own entries are its former ones and then those
pub own-seen : (plant : PlantData) (a b : PlantSeat) (new : List PlantEntry) → SeesMore plant a b new → entries_of a.number b.seen ≡ entries_of a.number a.seen ++ entries_of a.number new
own-seen plant a b new sees =
    ap (entries_of a.number) sees.seen ∙ filter-append (λ (entry : PlantEntry). entry.seat == a.number) a.seen new

-- there are no more of them than it has seen
pub own-few : (plant : PlantData) (a b : PlantSeat) (new : List PlantEntry) → SeesMore plant a b new → length (entries_of a.number new) ≤ length b.seen
own-few plant a b new sees =
    let own = λ (entry : PlantEntry). entry.seat == a.number in
    omega (arith, length-filter own new, count_by-le-length own new, ap (length {A = PlantEntry}) sees.seen, length-append a.seen new)

-- Where the lock answered, the seat has seen one entry of its own more, the last.
pub sees_own : (plant : PlantData) (request : Request) (answers : List Answer) (number : ℕ) (seat seat_then : PlantSeat)
    → IsGiven plant request answers number seat seat_then → SeesOwn plant (asked_by seat request answers) number seat seat_then
sees_own plant request answers number seat seat_then is =
    let n = seat.number in
    let entry : PlantEntry = asked_by seat request answers in
    let between = is.sees.0 in
    let new = between ++ entry ∷ [] in
    let seen : seat_then.seen ≡ seat.seen ++ new = is.sees.1 ∙ append_assoc seat.seen between (entry ∷ []) in
    let own : entries_of n new ≡ entry ∷ [] =
    append_cancel_left (entries_of n seat.seen) (entries_of n new) (entry ∷ [])
    (sym (filter-append (λ (entry : PlantEntry). entry.seat == n) seat.seen new) ∙ ap (entries_of n) (sym seen) ∙ is.own) in
    let one : entries_of n (entry ∷ []) ≡ entry ∷ [] = elim (eqb_tells n n) [
      | (inl same) ↦ ap (λ (own : Bool). if own then entry ∷ [] else []) same.0
      | (inr apart) ↦ absurd (apart.1 refl)
    ] in
    let split : entries_of n between ++ entries_of n (entry ∷ []) ≡ entry ∷ [] = sym (filter-append (λ (entry : PlantEntry). entry.seat == n) between (entry ∷ [])) ∙ own in
    let none : entries_of n between ≡ [] =
    nil_from_length (entries_of n between) (omega (arith, ap (length {A = PlantEntry}) split, length-append (entries_of n between) (entries_of n (entry ∷ [])), ap (length {A = PlantEntry}) one)) in
    let next = length seat.seen + length between in
    let position : number ≡ next =
    omega (arith, is.numbered.0, ap (length {A = PlantEntry}) seen, length-append seat.seen new, length-append between (entry ∷ [])) in
    let mark : seat_then.ticket_full ≡ false = ap (λ (seat : PlantSeat). seat.ticket_full) is.rest in
    record {
      new = new;
      sees = record {
        seen = seen;
        same = is.rest ∙ ap (λ (full : Bool). record seat { seen = seat_then.seen; ticket_full = full }) (sym mark);
        legal = λ some. is.legal;
      };
      full = mark ∙ sym (mark-some between entry seat.ticket_full);
      own = own;
      lines = lines-both plant n (length seat.seen) next between (entry ∷ []) refl
          ∙ ap (λ (lines : List ℕ). lines ++ own_lines plant n next (entry ∷ [])) (lines-none plant n (length seat.seen) between none)
          ∙ line-own plant next entry
          ∙ ap (λ (position : ℕ). trace_line plant position request answers) (sym position);
    }
