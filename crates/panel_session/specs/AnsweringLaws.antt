-- The laws of what answers, and of links: what is done in two parts is done as a whole.
use Rattle.std.specs.Prelude.{◌≡◌, ◌≢◌, ℕ, ◌+◌, ◌==◌, true, false, Bool, if◌then◌else◌, List, [], ◌∷◌, ◌++◌, length, Option, None, Some, refl}
use Rattle.std.proofs.Common.{inl, inr, sym, ◌∙◌, ap, subst, arith}
use Rattle.std.proofs.lemmas.Bool.Decides.{eqb_tells}
use Rattle.std.proofs.lemmas.List.{append_assoc, append-nil, length-append}
use Rattle.std.proofs.lemmas.List.Elements.{filter-append}
use Rattle.ctl_io.specs.ReadHalf.{ReadHalf}
use Rattle.ctl_io.specs.Sink.{appended}
use Rattle.history_lock.specs.History.{entries_of, run, IsLegal}
use Rattle.history_lock.specs.Locks.{LockData}
use Rattle.history_lock.proofs.HistoryLemmas.{legal-append, run-append}
use Rattle.plant_config.specs.IsPlant.{IsPlant}
use Rattle.plant_config.specs.Plant.{PlantData}
use Rattle.plant_core.specs.State.{State, IsValid, start, Fits as Takes}
use Rattle.plant_core.specs.Short.{StaysShort}
use Rattle.plant_core.proofs.HistoryLemmas.{run-plant, run-valid, run-short}
use Rattle.plant_core.specs.Step.{step}
use Rattle.panel_session.specs.declared.engine.at_lock.AtLock.{AtLock}
use Rattle.panel_session.specs.declared.engine.outlet.WriteHalf.{WriteHalf}
use Rattle.panel_session.specs.Answering.{AnswersAt, AnswersOf, GivenOver, HasAnswered, ServesAt, ServesOf}
use Rattle.panel_session.specs.Entry.{PlantEntry}
use Rattle.panel_session.specs.Served.{PlantSeat, mark_after, own_lines}
use Rattle.panel_session.specs.ServedInside.{SeesMore}
use Rattle.panel_session.specs.Reply.{trace_line}

pub serves_of_plant : (plant : PlantData) (state : State) → ServesOf plant state → IsPlant plant
serves_of_plant plant state serves = subst IsPlant serves.plant_is serves.valid.is_plant

pub answers_of_none : (state : State) → AnswersOf state [] state
answers_of_none state = (tt, refl)

pub answers_of_more : (first next last : State) (entries more : List PlantEntry)
    → AnswersOf first entries next → AnswersOf next more last
    → AnswersOf first (entries ++ more) last
answers_of_more first next last entries more one other =
    let LegalFrom : State → Type 0 = λ state. IsLegal step Takes state more in (
      legal-append step Takes first entries more one.0 (subst LegalFrom one.1 other.0),
      other.1 ∙ ap (λ (state : State). run step state more) one.1
          ∙ sym (run-append step first entries more),
    )

pub serves_of_more : (plant : PlantData) (first last : State) (entries : List PlantEntry)
    → AnswersOf first entries last → ServesOf plant first → ServesOf plant last
serves_of_more plant first last entries answers serves = record {
  plant_is = ap (λ (state : State). state.plant) answers.1 ∙ run-plant first entries
      ∙ serves.plant_is;
  valid = subst IsValid (sym answers.1) (run-valid first entries serves.valid);
  short = subst StaysShort (sym answers.1)
      (run-short first entries serves.valid serves.short answers.0);
}

-- what is appended in two parts is appended as a whole, and no bytes change nothing
pub appended-both : (shown : Option (List ℕ)) (one other : List ℕ)
    → appended (appended shown one) other ≡ appended shown (one ++ other)
appended-both None one other = refl
appended-both (Some before) one other =
    ap (λ (all : List ℕ). Some all) (append_assoc before one other)

pub appended-none : (shown : Option (List ℕ)) → appended shown [] ≡ shown
appended-none None = refl
appended-none (Some before) = ap (λ (all : List ℕ). Some all) (append-nil before)

-- the lines of entries and of others behind them
pub lines-both : (plant : PlantData) (seat position next : ℕ) (one other : List PlantEntry)
    → next ≡ position + length one
    → own_lines plant seat position (one ++ other)
    ≡ own_lines plant seat position one ++ own_lines plant seat next other
lines-both plant seat position next [] other is =
    ap (λ (position : ℕ). own_lines plant seat position other)
    (let same : position ≡ next = omega arith in same)
lines-both plant seat position next (entry ∷ one) other is =
    let line : List ℕ =
    if entry.seat == seat then trace_line plant position entry.request entry.answers else [] in
    ap (λ (rest : List ℕ). line ++ rest)
    (lines-both plant seat (position + 1) next one other (omega arith))
    ∙ sym (append_assoc line (own_lines plant seat (position + 1) one)
    (own_lines plant seat next other))

-- entries of others have no lines
pub lines-none : (plant : PlantData) (seat position : ℕ) (entries : List PlantEntry)
    → entries_of seat entries ≡ [] → own_lines plant seat position entries ≡ []
lines-none plant seat position [] none = refl
lines-none plant seat position (entry ∷ entries) none =
    (elim (entry.seat == seat) as (λ own.
    (if own then entry ∷ entries_of seat entries else entries_of seat entries) ≡ []
    → (if own then trace_line plant position entry.request entry.answers else [])
    ++ own_lines plant seat (position + 1) entries ≡ []) [
      | true ↦ λ none. absurd cc
      | false ↦ λ none. lines-none plant seat (position + 1) entries none
    ]) none

-- an entry of the seat has its line
pub line-own : (plant : PlantData) (position : ℕ) (entry : PlantEntry)
    → own_lines plant entry.seat position (entry ∷ [])
    ≡ trace_line plant position entry.request entry.answers
line-own plant position entry = elim (eqb_tells entry.seat entry.seat) [
  | (inl same) ↦ ap (λ (own : Bool).
      (if own then trace_line plant position entry.request entry.answers else []) ++ []) same.0
      ∙ append-nil (trace_line plant position entry.request entry.answers)
  | (inr apart) ↦ absurd (apart.1 refl)
]

-- The mark of a seat that has seen entries, and then others.
pub mark-both : (one other : List PlantEntry) (before : Bool)
    → mark_after (one ++ other) before ≡ mark_after other (mark_after one before)
mark-both [] other before = refl
mark-both (entry ∷ one) [] before = refl
mark-both (entry ∷ one) (next ∷ other) before = refl

pub mark-some : (between : List PlantEntry) (entry : PlantEntry) (before : Bool)
    → mark_after (between ++ entry ∷ []) before ≡ false
mark-some [] entry before = refl
mark-some (first ∷ between) entry before = refl

-- A seat has seen nothing more,
pub sees_none : (plant : PlantData) (seat : PlantSeat) → SeesMore plant seat seat []
sees_none plant seat =
    record { seen = sym (append-nil seat.seen); same = refl; legal = λ some. absurd (some refl) }

-- or entries and then others.
pub sees_both : (plant : PlantData) (a b c : PlantSeat) (one other : List PlantEntry)
    → SeesMore plant a b one → SeesMore plant b c other → SeesMore plant a c (one ++ other)
sees_both plant a b c one other sees more = record {
  seen = more.seen ∙ ap (λ (seen : List PlantEntry). seen ++ other) sees.seen
      ∙ append_assoc a.seen one other;
  same = more.same
      ∙ ap (λ (seat : PlantSeat). record seat { seen = c.seen; ticket_full = c.ticket_full })
      sees.same;
  legal = legal other more.legal more.seen;
} where
  legal : (other : List PlantEntry) → (other ≢ [] → IsLegal step Takes (start plant) c.seen)
      → c.seen ≡ b.seen ++ other → one ++ other ≢ [] → IsLegal step Takes (start plant) c.seen
  legal [] later seen some =
      let At : List PlantEntry → Type 0 = λ seen. IsLegal step Takes (start plant) seen in
      subst At (sym (seen ∙ append-nil b.seen)) (sees.legal (λ none. some (append-nil one ∙ none)))
  legal (entry ∷ other) later seen some = later (λ none. absurd cc)

-- the lines of entries that a seat has seen, and of others behind them, under its number
pub lines-behind : (plant : PlantData) (a b : PlantSeat) (one other : List PlantEntry)
    → SeesMore plant a b one
    → own_lines plant a.number (length a.seen) (one ++ other)
    ≡ own_lines plant a.number (length a.seen) one ++ own_lines plant b.number (length b.seen) other
lines-behind plant a b one other sees =
    let number : b.number ≡ a.number = ap (λ (seat : PlantSeat). seat.number) sees.same in
    let longer : length b.seen ≡ length a.seen + length one = ap (length {A = PlantEntry}) sees.seen
    ∙ length-append a.seen one in
    lines-both plant a.number (length a.seen) (length b.seen) one other longer
    ∙ ap (λ (n : ℕ). own_lines plant a.number (length a.seen) one
    ++ own_lines plant n (length b.seen) other) (sym number)

-- A seat is answered nothing,
answered_none : (plant : PlantData) (seat : PlantSeat) (traced : Option (List ℕ))
    → HasAnswered plant [] seat seat traced traced
answered_none plant seat traced = record {
  new = [];
  sees = sees_none plant seat;
  full = refl;
  own = refl;
  traces = sym (appended-none traced);
}

-- or entries and then others.
answered_both : (plant : PlantData) (a b c : PlantSeat) (p q r : Option (List ℕ))
    (entries more : List PlantEntry) → HasAnswered plant entries a b p q
    → HasAnswered plant more b c q r → HasAnswered plant (entries ++ more) a c p r
answered_both plant a b c p q r entries more one other =
    let lines = own_lines plant a.number (length a.seen) one.new in
    let later = own_lines plant b.number (length b.seen) other.new in
    let number : b.number ≡ a.number = ap (λ (seat : PlantSeat). seat.number) one.sees.same in
    record {
      new = one.new ++ other.new;
      sees = sees_both plant a b c one.new other.new one.sees other.sees;
      full = other.full ∙ ap (mark_after other.new) one.full
          ∙ sym (mark-both one.new other.new a.ticket_full);
      own = filter-append (λ (entry : PlantEntry). entry.seat == a.number) one.new other.new
          ∙ ap (λ (own : List PlantEntry). own ++ entries_of a.number other.new) one.own
          ∙ ap (λ (own : List PlantEntry). entries ++ own)
          (ap (λ (n : ℕ). entries_of n other.new) (sym number) ∙ other.own);
      traces = other.traces
          ∙ ap (λ (traced : Option (List ℕ)). appended traced later) one.traces
          ∙ appended-both p lines later
          ∙ ap (appended p) (sym (lines-behind plant a b one.new other.new one.sees));
    }

pub answers_at_none : {W K : Type 0} (written : K → Option (List ℕ)) (faults : K → ℕ)
    (name : K → Option (List ℕ)) (at : AtLock W K) → AnswersAt written faults name at [] at
answers_at_none written faults name at = record {
  same = record {
    seat_lent = refl;
    trace_lent = refl;
    lock_is = refl;
    number = refl;
    seat_of = refl;
    first_is = refl;
    trace_name = refl;
    count = refl;
  };
  has = λ plant first. answered_none plant at.seat.now (written at.trace.now);
}

pub answers_at_more : {W K : Type 0} (written : K → Option (List ℕ)) (faults : K → ℕ)
    (name : K → Option (List ℕ)) (first next last : AtLock W K) (entries more : List PlantEntry)
    → AnswersAt written faults name first entries next
    → AnswersAt written faults name next more last
    → AnswersAt written faults name first (entries ++ more) last
answers_at_more written faults name first next last entries more one other = record {
  same = record {
    seat_lent = other.same.seat_lent ∙ one.same.seat_lent;
    trace_lent = other.same.trace_lent ∙ one.same.trace_lent;
    lock_is = other.same.lock_is ∙ one.same.lock_is;
    number = other.same.number ∙ one.same.number;
    seat_of = other.same.seat_of ∙ one.same.seat_of;
    first_is = other.same.first_is ∙ one.same.first_is;
    trace_name = other.same.trace_name ∙ one.same.trace_name;
    count = other.same.count ∙ one.same.count;
  };
  has = λ plant begins.
      let here = one.has plant begins in
      let begins_then = ap (λ (seat : PlantSeat). seat.first) here.sees.same ∙ begins in
      answered_both plant first.seat.now next.seat.now last.seat.now (written first.trace.now)
      (written next.trace.now) (written last.trace.now) entries more here
      (other.has plant begins_then);
}

pub seated_at : {W K : Type 0} (written : K → Option (List ℕ)) (faults : K → ℕ)
    (name : K → Option (List ℕ)) (first last : AtLock W K) (entries : List PlantEntry) (seat : ℕ)
    → AnswersAt written faults name first entries last → first.seat.now.number ≡ seat
    → last.seat.now.number ≡ seat
seated_at written faults name first last entries seat answers is = answers.same.number ∙ is

pub serves_at : {W K : Type 0} (written : K → Option (List ℕ)) (faults : K → ℕ)
    (name : K → Option (List ℕ)) (plant : PlantData) (first last : AtLock W K)
    (entries : List PlantEntry)
    → AnswersAt written faults name first entries last
    → ServesAt plant first.lock.now first.seat.now → ServesAt plant last.lock.now last.seat.now
serves_at written faults name plant first last entries answers serves = record {
  is_plant = serves.is_plant;
  seat_of = answers.same.seat_of ∙ serves.seat_of
      ∙ ap (λ (lock : LockData State). lock.id) (sym answers.same.lock_is);
  first_is = answers.same.first_is ∙ serves.first_is;
}

pub given_over_none : {L : Type 0} (written : L → Option (List ℕ)) (faults : L → ℕ)
    (name : L → Option (List ℕ)) (half : L → ReadHalf) (link : WriteHalf L)
    → GivenOver written faults name half link [] link
given_over_none written faults name half link = record {
  lent = refl;
  writes = sym (appended-none (written link.link.now));
  count = refl;
  name_is = refl;
  half_is = refl;
}

pub given_over_more : {L : Type 0} (written : L → Option (List ℕ)) (faults : L → ℕ)
    (name : L → Option (List ℕ)) (half : L → ReadHalf) (first next last : WriteHalf L)
    (bytes more : List ℕ)
    → GivenOver written faults name half first bytes next
    → GivenOver written faults name half next more last
    → GivenOver written faults name half first (bytes ++ more) last
given_over_more written faults name half first next last bytes more one other = record {
  lent = other.lent ∙ one.lent;
  writes = other.writes ∙ ap (λ (written : Option (List ℕ)). appended written more) one.writes
      ∙ appended-both (written first.link.now) bytes more;
  count = other.count ∙ one.count;
  name_is = other.name_is ∙ one.name_is;
  half_is = other.half_is ∙ one.half_is;
}
