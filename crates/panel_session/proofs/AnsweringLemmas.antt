-- What a seat of the lock answers and traces.
use Rattle.std.proofs.Common.{◌≡◌, ℕ, List, [], ◌∷◌, length, Option, refl, sym, ap, ◌∙◌, subst}
use Rattle.ctl_io.specs.Faults.{one_more}
use Rattle.ctl_io.specs.Sink.{appended, AppendsPart}
use Rattle.history_lock.specs.History.{IsLegal}
use Rattle.plant_config.specs.Plant.{PlantData}
use Rattle.plant_core.specs.State.{State, start, Fits as Takes}
use Rattle.plant_core.specs.Step.{step}
use Rattle.plant_core.specs.declared.answer.Answer.{Answer}
use Rattle.plant_core.specs.declared.request.Request.{Request}
use Rattle.plant_core.specs.declared.request.Request.TheVariants.{Told, Poll, Leave, DisplayPoll}
use Rattle.panel_session.specs.declared.engine.at_lock.AtLock.{AtLock}
use Rattle.panel_session.specs.Answering.{AnswersAt, EntersAt, HasAnswered, IsOfSession, IsSpelledFor, TracesPartAt}
use Rattle.panel_session.specs.Entry.{PlantEntry}
use Rattle.panel_session.specs.Served.{PlantSeat, own_lines}
use Rattle.panel_session.specs.Text.{frames_of, bytes_in}
use Rattle.trace_lines.specs.TraceLine.{told_line}
use Rattle.panel_session.specs.Reply.{trace_line}
use Rattle.panel_session.proofs.GoneOnLemmas.{SeesOwn, sees_own}

-- The line of what a session asks is made of the frames of its answers.
pub line_of : (plant : PlantData) (position : ℕ) (request : Request) (answers : List Answer) → IsOfSession request → trace_line plant position request answers ≡ told_line position request (bytes_in (frames_of answers))
line_of plant position (Told panel item message) answers of = refl
line_of plant position (Poll panel item turn) answers of = refl
line_of plant position (Leave panel) answers of = absurd of
line_of plant position (DisplayPoll screen refresh) answers of = absurd of

-- So it is by the bytes that were spelled for an entry.
line_spelled : (plant : PlantData) (position : ℕ) (entry : PlantEntry) (request : Request) (sent : List ℕ) → entry.request ≡ request → IsOfSession request → IsSpelledFor entry sent
    → told_line position request sent ≡ trace_line plant position entry.request entry.answers
line_spelled plant position entry request sent is of spelled =
    ap (told_line position request) spelled
    ∙ sym (line_of plant position request entry.answers of)
    ∙ ap (λ (request : Request). trace_line plant position request entry.answers) (sym is)

-- A seat that was answered has seen one entry of its own more.
pub entered : {W K : Type 0} {faults : K → ℕ} {name : K → Option (List ℕ)} (plant : PlantData) {before after : AtLock W K} {position : ℕ} {entry : PlantEntry} → EntersAt faults name before position entry after → before.seat.now.first ≡ start plant
    → SeesOwn plant entry position before.seat.now after.seat.now
entered plant {before = before} {after = after} {position = position} {entry = entry} enters first =
    let Legal : State → Type 0 = λ first. IsLegal step Takes first after.seat.now.seen in
    let Own : ℕ → Type 0 = λ seat. SeesOwn plant (record entry { seat = seat }) position before.seat.now after.seat.now in
    subst Own (sym enters.seat_is)
    (sees_own plant entry.request entry.answers position before.seat.now after.seat.now enters.numbered (subst Legal first enters.legal) enters.sees enters.own enters.rest)

module _ {W K : Type 0} {written : K → Option (List ℕ)} {faults : K → ℕ} {name : K → Option (List ℕ)} where
  -- Its line was traced,
  pub traced_at : {before now after : AtLock W K} {position : ℕ} {entry : PlantEntry} {request : Request} {sent : List ℕ} → EntersAt faults name before position entry now → entry.request ≡ request → IsOfSession request → IsSpelledFor entry sent
      → after.seat ≡ now.seat → after.lock.now ≡ now.lock.now → after.trace.ghost_name ≡ now.trace.ghost_name → name after.trace.now ≡ name now.trace.now → faults after.trace.now ≡ faults now.trace.now
      → written after.trace.now ≡ appended (written now.trace.now) (told_line position request sent) → AnswersAt written faults name before (entry ∷ []) after
  traced_at {before = before} {now = now} {after = after} {position = position} {entry = entry} {request = request} {sent = sent} enters is of spelled seat lock lent names count line = record {
    same = record {
      seat_lent = ap (λ seat. seat.ghost_name) seat ∙ enters.same.seat_lent;
      trace_lent = lent ∙ enters.same.trace_lent;
      lock_is = lock ∙ enters.same.lock_is;
      number = ap (λ seat. seat.now.number) seat ∙ enters.same.number;
      seat_of = ap (λ seat. seat.now.lock) seat ∙ enters.same.seat_of;
      first_is = ap (λ seat. seat.now.first) seat ∙ enters.same.first_is;
      trace_name = names ∙ enters.same.trace_name;
      count = count ∙ enters.same.count;
    };
    has = λ plant first.
        let one = entered plant enters first in
        let Now : PlantSeat → Type 0 = λ seat. HasAnswered plant (entry ∷ []) before.seat.now seat (written before.trace.now) (written after.trace.now) in
        let has : Now now.seat.now = record {
          new = one.new;
          sees = one.sees;
          full = one.full;
          own = one.own;
          traces = line
              ∙ ap (appended (written now.trace.now)) (line_spelled plant position entry request sent is of spelled ∙ sym one.lines)
              ∙ ap (λ (trace : K). appended (written trace) (own_lines plant before.seat.now.number (length before.seat.now.seen) one.new)) enters.trace_is;
        } in
        subst Now (sym (ap (λ seat. seat.now) seat)) has;
  }

  -- or a front of it.
  pub part_at : {before now after : AtLock W K} {position : ℕ} {entry : PlantEntry} {request : Request} {sent : List ℕ} → EntersAt faults name before position entry now → entry.request ≡ request → IsOfSession request → IsSpelledFor entry sent
      → after.seat ≡ now.seat → after.trace.ghost_name ≡ now.trace.ghost_name → name after.trace.now ≡ name now.trace.now → faults after.trace.now ≡ one_more (faults now.trace.now)
      → AppendsPart (told_line position request sent) (written now.trace.now) (written after.trace.now) → TracesPartAt written faults name before entry after
  part_at {before = before} {now = now} {after = after} {position = position} {entry = entry} {request = request} {sent = sent} enters is of spelled seat lent names count part = record {
    between = now;
    position = position;
    enters = enters;
    seat_lent = ap (λ seat. seat.ghost_name) seat ∙ enters.same.seat_lent;
    trace_lent = lent ∙ enters.same.trace_lent;
    seat_is = ap (λ seat. seat.now) seat;
    part = λ plant.
        let Behind : Option (List ℕ) → Type 0 = λ traced. AppendsPart (trace_line plant position entry.request entry.answers) traced (written after.trace.now) in
        let Line : List ℕ → Type 0 = λ line. AppendsPart line (written now.trace.now) (written after.trace.now) in
        subst Behind (ap written enters.trace_is) (subst Line (line_spelled plant position entry request sent is of spelled) part);
    trace_name = names ∙ enters.same.trace_name;
    count = count ∙ ap one_more enters.same.count;
  }
