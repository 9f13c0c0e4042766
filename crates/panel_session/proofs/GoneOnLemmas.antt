-- A session that is served, step by step.
use Rattle.std.proofs.Common.{◌≡◌, ℕ, ◌+◌, ◌==◌, false, Bool, if◌then◌else◌, List, [], ◌∷◌, ◌++◌, length, Option, inl, inr, refl, sym, ap, ◌∙◌, arith}
use Rattle.std.proofs.lemmas.Bool.Decides.{eqb_tells}
use Rattle.std.proofs.lemmas.List.{append_assoc, append_cancel_left, length-append, nil_from_length}
use Rattle.std.proofs.lemmas.List.Elements.{filter-append}
use Rattle.ctl_io.specs.Sink.{appended}
use Rattle.history_lock.specs.Calls.{AddsOwn, IsNumbered, OnlyCalled, SeesAnswers, asked_by}
use Rattle.history_lock.specs.History.{entries_of, IsLegal}
use Rattle.plant_config.specs.Plant.{PlantData}
use Rattle.plant_core.specs.State.{start, Fits as Takes}
use Rattle.plant_core.specs.Step.{step}
use Rattle.plant_core.specs.declared.answer.Answer.{Answer}
use Rattle.plant_core.specs.declared.request.Request.{Request}
use Rattle.plant_core.specs.declared.request.Request.TheVariants.{Told, Poll, Leave, DisplayPoll}
use Rattle.panel_session.specs.Acting.{IsInPlace}
pub use Rattle.panel_session.specs.AnsweringLaws.{appended-both, appended-none, line-own, lines-behind, lines-both, lines-none, mark-both, mark-some, sees_both, sees_none}
use Rattle.panel_session.specs.Entry.{PlantEntry}
use Rattle.panel_session.specs.Served.{PlantSeat, mark_after, own_lines}
use Rattle.panel_session.specs.ServedInside.{Outside, HasGoneOn, SeesMore}
use Rattle.panel_session.specs.SoFar.{Progress, entries_so_far, with_entry}
use Rattle.panel_session.specs.Reply.{trace_line}
use Rattle.panel_session.proofs.KeepsLemmas.{entries-polled, entries-told}

-- its entries among them
pub own-behind : (plant : PlantData) (a b : PlantSeat) (one other past now later : List PlantEntry) → SeesMore plant a b one → now ≡ past ++ entries_of a.number one → later ≡ now ++ entries_of b.number other
    → later ≡ past ++ entries_of a.number (one ++ other)
own-behind plant a b one other past now later sees is more =
    let n = a.number in
    let number : b.number ≡ n = ap (λ (seat : PlantSeat). seat.number) sees.same in
    more
    ∙ ap (λ (n : ℕ). now ++ entries_of n other) number
    ∙ ap (λ (entries : List PlantEntry). entries ++ entries_of n other) is
    ∙ append_assoc past (entries_of n one) (entries_of n other)
    ∙ ap (λ (entries : List PlantEntry). past ++ entries) (sym (filter-append (λ (entry : PlantEntry). entry.seat == n) one other))

-- A session goes on, and then on again.
pub gone_both : (plant : PlantData) (a b c : Outside) (p q r : Progress) → HasGoneOn plant a b p q → HasGoneOn plant b c q r → HasGoneOn plant a c p r
gone_both plant a b c p q r one other =
    let lines = own_lines plant a.seat.number (length a.seat.seen) one.new in
    let later = own_lines plant b.seat.number (length b.seat.seen) other.new in
    record {
      new = one.new ++ other.new;
      sees = sees_both plant a.seat b.seat c.seat one.new other.new one.sees other.sees;
      full = other.full ∙ ap (mark_after other.new) one.full ∙ sym (mark-both one.new other.new a.seat.ticket_full);
      entries = own-behind plant a.seat b.seat one.new other.new (entries_so_far p) (entries_so_far q) (entries_so_far r) one.sees one.entries other.entries;
      sent = one.sent ++ other.sent;
      sent_is = other.sent_is ∙ ap (λ (sent : List ℕ). sent ++ other.sent) one.sent_is ∙ append_assoc p.sent one.sent other.sent;
      written = other.written ∙ ap (λ (written : Option (List ℕ)). appended written other.sent) one.written ∙ appended-both a.written one.sent other.sent;
      traced = other.traced
          ∙ ap (λ (traced : Option (List ℕ)). appended traced later) one.traced
          ∙ appended-both a.traced lines later
          ∙ ap (λ (lines : List ℕ). appended a.traced lines) (sym (lines-behind plant a.seat b.seat one.new other.new one.sees));
    }

-- a request's entry is behind all others
pub entries-more : (past : Progress) (request : Request) (rest : List ℕ) (seat : ℕ) (answers : List Answer) → IsInPlace past request rest
    → entries_so_far (with_entry (record { seat = seat; request = request; answers = answers }) past) ≡ entries_so_far past ++ record { seat = seat; request = request; answers = answers } ∷ []
entries-more past (Told panel item message) rest seat answers place = entries-told past.turns past.now.told past.now.polls (record { seat = seat; request = Told panel item message; answers = answers }) place
entries-more past (Poll panel item turn) rest seat answers place = entries-polled past.turns past.now.told past.now.polls (record { seat = seat; request = Poll panel item turn; answers = answers })
entries-more past (Leave panel) rest seat answers place = absurd place
entries-more past (DisplayPoll screen refresh) rest seat answers place = absurd place

-- A seat has seen one entry of its own more, the last, and this is its line.
pub record SeesOwn (plant : PlantData) (entry : PlantEntry) (number : ℕ) (seat seat_then : PlantSeat) : Type 0 where
  pub new : List PlantEntry
  pub sees : SeesMore plant seat seat_then new
  pub full : seat_then.ticket_full ≡ mark_after new seat.ticket_full
  pub own : entries_of seat.number new ≡ entry ∷ []
  pub lines : own_lines plant seat.number (length seat.seen) new ≡ trace_line plant number entry.request entry.answers

-- So it is where the lock answered.
pub sees_own : (plant : PlantData) (request : Request) (answers : List Answer) (number : ℕ) (seat seat_then : PlantSeat)
    → IsNumbered number seat_then.seen → IsLegal step Takes (start plant) seat_then.seen → SeesAnswers seat request answers seat_then → AddsOwn seat request answers seat_then → OnlyCalled seat seat_then
    → SeesOwn plant (asked_by seat request answers) number seat seat_then
sees_own plant request answers number seat seat_then numbered legal answered adds rest =
    let n = seat.number in
    let entry : PlantEntry = asked_by seat request answers in
    let between = answered.0 in
    let new = between ++ entry ∷ [] in
    let seen : seat_then.seen ≡ seat.seen ++ new = answered.1 ∙ append_assoc seat.seen between (entry ∷ []) in
    let own : entries_of n new ≡ entry ∷ [] =
    append_cancel_left (entries_of n seat.seen) (entries_of n new) (entry ∷ [])
    (sym (filter-append (λ (entry : PlantEntry). entry.seat == n) seat.seen new) ∙ ap (entries_of n) (sym seen) ∙ adds) in
    let one : entries_of n (entry ∷ []) ≡ entry ∷ [] = elim (eqb_tells n n) [
      | (inl same) ↦ ap (λ (own : Bool). if own then entry ∷ [] else []) same.0
      | (inr apart) ↦ absurd (apart.1 refl)
    ] in
    let split : entries_of n between ++ entries_of n (entry ∷ []) ≡ entry ∷ [] = sym (filter-append (λ (entry : PlantEntry). entry.seat == n) between (entry ∷ [])) ∙ own in
    let none : entries_of n between ≡ [] =
    nil_from_length (entries_of n between) (omega (arith, ap (length {A = PlantEntry}) split, length-append (entries_of n between) (entries_of n (entry ∷ [])), ap (length {A = PlantEntry}) one)) in
    let next = length seat.seen + length between in
    let position : number ≡ next =
    omega (arith, numbered.0, ap (length {A = PlantEntry}) seen, length-append seat.seen new, length-append between (entry ∷ [])) in
    let mark : seat_then.ticket_full ≡ false = ap (λ (seat : PlantSeat). seat.ticket_full) rest in
    record {
      new = new;
      sees = record {
        seen = seen;
        same = rest ∙ ap (λ (full : Bool). record seat { seen = seat_then.seen; ticket_full = full }) (sym mark);
        legal = λ some. legal;
      };
      full = mark ∙ sym (mark-some between entry seat.ticket_full);
      own = own;
      lines = lines-both plant n (length seat.seen) next between (entry ∷ []) refl
          ∙ ap (λ (lines : List ℕ). lines ++ own_lines plant n next (entry ∷ [])) (lines-none plant n (length seat.seen) between none)
          ∙ line-own plant next entry
          ∙ ap (λ (position : ℕ). trace_line plant position request answers) (sym position);
    }
