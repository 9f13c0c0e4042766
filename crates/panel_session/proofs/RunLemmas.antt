-- A turn that is on its way, whatever answers and wherever its bytes go.
use Rattle.std.proofs.Common.{◌≡◌, ◌≢◌, ℕ, ◌^◌, ◌<◌, Bool, List, [], ◌∷◌, ◌++◌, length, take, drop, All, refl, sym, ap, ◌∙◌, subst, arith}
use Rattle.std.proofs.lemmas.List.{append_assoc, append-nil, take-append-drop, length-drop, nil_from_length}
use Rattle.std.proofs.lemmas.List.Elements.{All-nil, All-push}
use Rattle.dle_framing.specs.Items.{items}
use Rattle.plant_config.specs.Plant.{PlantData}
use Rattle.panel_session.specs.declared.session.Session.{Session}
use Rattle.panel_session.specs.Acting.{MayGoOn}
use Rattle.panel_session.specs.Engine.{HasCome, HasRun, HoldsAnswered, MayTurn}
use Rattle.panel_session.specs.EngineInside.{HasAsked, HasSent, IsUnderWay}
use Rattle.panel_session.specs.Entry.{PlantEntry}
use Rattle.panel_session.specs.Run.{turned}
use Rattle.panel_session.specs.Served.{AnsweredButLast}
use Rattle.panel_session.specs.Session.{StandsFor}
use Rattle.panel_session.specs.SoFar.{Progress, IsOver, entries_so_far, unstarted, read_so_far, with_bytes, with_sent, with_turn}
use Rattle.panel_session.specs.Turns.{Turn, bytes_read, entries_in, entries_of_turns, IsTurn}
use Rattle.panel_session.specs.Text.{IsText}
use Rattle.panel_session.proofs.AnsweredLemmas.{answered_front, answered_more}
use Rattle.panel_session.proofs.KeptItemLemmas.{read-more}
use Rattle.panel_session.proofs.KeptTurnLemmas.{bytes_of-append, entries_of-append}

-- nothing is left of nothing
pub drop-none : (used : ℕ) (rest : List ℕ) → rest ≡ [] → drop used rest ≡ []
drop-none used rest none = nil_from_length (drop used rest) (omega (arith, length-drop used rest, ap (length {A = ℕ}) none))

pub drop_all : (used : ℕ) (rest : List ℕ) → used ≡ length rest → drop used rest ≡ []
drop_all used rest all = nil_from_length (drop used rest) (omega (arith, length-drop used rest))

-- a request's entry, behind those of the turn
pub told_behind : (told polls : List PlantEntry) (entry : PlantEntry) → polls ≡ [] → (told ++ entry ∷ []) ++ polls ≡ (told ++ polls) ++ entry ∷ []
told_behind told polls entry none =
    let P : List PlantEntry → Type 0 = λ polls. (told ++ entry ∷ []) ++ polls ≡ (told ++ polls) ++ entry ∷ [] in
    subst P (sym none) (append-nil (told ++ entry ∷ []) ∙ ap (λ (told : List PlantEntry). told ++ entry ∷ []) (sym (append-nil told)))

-- What was said before a request is held by more bytes too,
pub holds_more : (sf : Bool) (plant : PlantData) (past now : Progress) (bytes more : List ℕ) → HoldsAnswered sf plant past now bytes → HoldsAnswered sf plant past now (bytes ++ more)
holds_more sf plant past now bytes more holds = λ yes keeps.
    answered_front plant (read_so_far now) (entries_so_far now) (past.sent ++ bytes) (past.sent ++ (bytes ++ more)) (more, append_assoc past.sent bytes more) (holds yes keeps)

-- and once more is read.
pub holds_read : (sf : Bool) (plant : PlantData) (past now : Progress) (bytes used : List ℕ) → HoldsAnswered sf plant past now bytes → HoldsAnswered sf plant past (with_bytes used now) bytes
holds_read sf plant past now bytes used holds = λ yes keeps.
    let Read : List ℕ → Type 0 = λ read. AnsweredButLast plant read (entries_so_far now) (past.sent ++ bytes) in
    subst Read (read-more now used) (answered_more plant (read_so_far now) used (entries_so_far now) (past.sent ++ bytes) (holds yes keeps))

module _ {seat : ℕ} {past : Progress} {piece : List ℕ} where
  -- more of the piece was used
  pub used_more : {now : Progress} {rest : List ℕ} (used : ℕ) → HasCome seat past piece now rest → (now.now.piece ++ take used rest) ++ drop used rest ≡ piece
  used_more {now = now} {rest = rest} used come =
      append_assoc now.now.piece (take used rest) (drop used rest)
      ∙ ap (λ (bytes : List ℕ). now.now.piece ++ bytes) (take-append-drop used rest) ∙ come.piece_is

  pub come_used : {now : Progress} {rest left : List ℕ} (used : ℕ) → HasCome seat past piece now rest → left ≡ drop used rest → HasCome seat past piece (with_bytes (take used rest) now) left
  come_used {now = now} {rest = rest} used come is = record {
    turns = come.turns;
    piece_is = ap (λ (left : List ℕ). (now.now.piece ++ take used rest) ++ left) is ∙ used_more used come;
    idle = λ some. is ∙ drop-none used rest (come.idle some);
    seats = come.seats;
  }

  -- bytes were sent
  pub come_sent : {now : Progress} {rest : List ℕ} (bytes : List ℕ) → HasCome seat past piece now rest → HasCome seat past piece (with_sent bytes now) rest
  come_sent bytes come = record { turns = come.turns; piece_is = come.piece_is; idle = come.idle; seats = come.seats }

  -- a request was answered, with its entry behind the others
  pub come_asked : {now later : Progress} {rest : List ℕ} (entry : PlantEntry) → HasCome seat past piece now rest → entry.seat ≡ seat
      → later.turns ≡ now.turns → later.now.piece ≡ now.now.piece → entries_in later.now ≡ entries_in now.now ++ entry ∷ [] → (later.now.polls ≢ [] → rest ≡ [])
      → HasCome seat past piece later rest
  come_asked {now = now} {rest = rest} entry come own turns pieces entries idle =
      let Seat : PlantEntry → Type 0 = λ entry. entry.seat ≡ seat in
      record {
        turns = turns ∙ come.turns;
        piece_is = ap (λ (front : List ℕ). front ++ rest) pieces ∙ come.piece_is;
        idle = idle;
        seats = subst (All Seat) (sym entries) (All-push Seat (entries_in now.now) entry come.seats own);
      }

  -- what is left of the piece may go on the turn so far
  pub may_go_on : {Answerer : Type 0} {IsSeat : Answerer → ℕ → Type 0} {Serves : PlantData → Answerer → Type 0} {plant : PlantData} {panel : ℕ} {begun : Session} {first : Answerer} {now : Progress} {rest : List ℕ}
      → MayTurn IsSeat Serves plant panel seat begun past first piece → HasCome seat past piece now rest → MayGoOn now rest
  may_go_on {now = now} {rest = rest} may come =
      let read : read_so_far now ++ rest ≡ read_so_far past ++ piece =
      append_assoc (bytes_read now.turns) now.now.piece rest
      ∙ ap (λ (bytes : List ℕ). bytes_read now.turns ++ bytes) come.piece_is
      ∙ ap (λ (turns : List Turn). bytes_read turns ++ piece) come.turns
      ∙ ap (λ (bytes : List ℕ). bytes ++ piece)
      (sym (append-nil (bytes_read past.turns)) ∙ ap (λ (turn : Turn). bytes_read past.turns ++ turn.piece) (sym may.begins)) in
      let Few : List ℕ → Type 0 = λ text. length (items text) < 2 ^ 62 in
      let FewTurns : ℕ → Type 0 = λ n. n < 2 ^ 62 in
      record {
        items = subst Few (sym read) may.may.items;
        turns = subst FewTurns (sym (ap length come.turns)) may.may.turns;
        rest = come.idle;
      }

module _ {Answerer : Type 0} {Answers : Answerer → List PlantEntry → Answerer → Type 0} {sf : Bool}
    {plant : PlantData} {panel seat : ℕ} {past : Progress} {piece : List ℕ} {first : Answerer} where
  -- a turn begins
  pub way_begins : {IsSeat : Answerer → ℕ → Type 0} {Serves : PlantData → Answerer → Type 0} {session : Session} → ((answerer : Answerer) → Answers answerer [] answerer)
      → MayTurn IsSeat Serves plant panel seat session past first piece → IsUnderWay Answers sf plant panel seat past piece first first session piece past []
  way_begins none may =
      let Seat : PlantEntry → Type 0 = λ entry. entry.seat ≡ seat in
      let SeatsIn : Turn → Type 0 = λ now. All Seat (entries_in now) in
      let AnswersIn : Turn → Type 0 = λ now. Answers first (entries_in now) first in
      record {
        come = record {
          turns = refl;
          piece_is = ap (λ (now : Turn). now.piece ++ piece) may.begins;
          idle = λ some. absurd (some (ap (λ (now : Turn). now.polls) may.begins));
          seats = subst SeatsIn (sym may.begins) (All-nil Seat);
        };
        sent = sym (append-nil past.sent);
        answers = subst AnswersIn (sym may.begins) (none first);
        stands = may.stands;
        answered = λ yes keeps.
            let Sent : List ℕ → Type 0 = λ sent. AnsweredButLast plant (read_so_far past) (entries_so_far past) sent in
            subst Sent (sym (append-nil past.sent)) keeps;
      }

  -- bytes were sent
  pub way_sent : {answerer : Answerer} {session after : Session} {now : Progress} {rest left more : List ℕ} (used : ℕ) (bytes : List ℕ)
      → IsUnderWay Answers sf plant panel seat past piece first answerer session rest now more → left ≡ drop used rest
      → StandsFor plant panel after (with_sent bytes (with_bytes (take used rest) now))
      → HasSent Answers sf plant panel seat past piece first answerer after left more bytes
  way_sent {now = now} {rest = rest} {more = more} used bytes way is stands =
      let holds = holds_read sf plant past now more (take used rest) way.answered in
      record {
        now = with_sent bytes (with_bytes (take used rest) now);
        way = record {
          come = come_sent bytes (come_used used way.come is);
          sent = ap (λ (sent : List ℕ). sent ++ bytes) way.sent ∙ append_assoc past.sent more bytes;
          answers = way.answers;
          stands = stands;
          answered = holds_more sf plant past (with_bytes (take used rest) now) more bytes holds;
        };
        earlier = holds;
      }

  -- a session stands for the same past
  pub way_for : {answerer : Answerer} {session : Session} {now : Progress} {rest more : List ℕ} (after : Session) → IsUnderWay Answers sf plant panel seat past piece first answerer session rest now more
      → StandsFor plant panel after now → IsUnderWay Answers sf plant panel seat past piece first answerer after rest now more
  way_for after way stands = record { come = way.come; sent = way.sent; answers = way.answers; stands = stands; answered = way.answered }

  -- a request was answered, and bytes were sent
  pub way_asked : {answerer answerer_then : Answerer} {session after : Session} {now : Progress} {rest more : List ℕ} {entry : PlantEntry} {added : List ℕ}
      → ((one next last : Answerer) (entries others : List PlantEntry) → Answers one entries next → Answers next others last → Answers one (entries ++ others) last)
      → IsUnderWay Answers sf plant panel seat past piece first answerer session rest now more
      → (asked : HasAsked plant panel seat past piece now rest entry added after) → Answers answerer (entry ∷ []) answerer_then
      → IsUnderWay Answers sf plant panel seat past piece first answerer_then after rest asked.later (more ++ added)
  way_asked {answerer = answerer} {answerer_then = answerer_then} {now = now} {more = more} {entry = entry} {added = added} both way asked one =
      let AnswersAll : List PlantEntry → Type 0 = λ entries. Answers first entries answerer_then in
      let sent : asked.later.sent ≡ past.sent ++ (more ++ added) = asked.sent ∙ ap (λ (bytes : List ℕ). bytes ++ added) way.sent ∙ append_assoc past.sent more added in
      record {
        come = asked.come;
        sent = sent;
        answers = subst AnswersAll (sym asked.entries) (both first answerer answerer_then (entries_in now.now) (entry ∷ []) way.answers one);
        stands = asked.stands;
        answered = λ yes keeps.
            answered_front plant (read_so_far asked.later) (entries_so_far asked.later) now.sent (past.sent ++ (more ++ added)) (added, sym asked.sent ∙ sent) asked.answered;
      }

  -- the turn is over
  pub way_over : {answerer : Answerer} {session after : Session} {now : Progress} {more : List ℕ}
      → IsUnderWay Answers sf plant panel seat past piece first answerer session [] now more
      → IsOver plant panel now → StandsFor plant panel after (with_turn now)
      → HasRun Answers sf plant panel seat past piece first answerer after more
  way_over {after = after} {now = now} {more = more} way over stands =
      let turn : Turn = now.now in
      let later : Progress = turned turn more past in
      let turns : now.turns ≡ past.turns = way.come.turns in
      let read : read_so_far later ≡ read_so_far now =
      append-nil (bytes_read (past.turns ++ turn ∷ [])) ∙ bytes_of-append past.turns turn ∙ ap (λ (turns : List Turn). bytes_read turns ++ turn.piece) (sym turns) in
      let entries : entries_so_far later ≡ entries_so_far now =
      append-nil (entries_of_turns (past.turns ++ turn ∷ [])) ∙ entries_of-append past.turns turn
      ∙ ap (λ (turns : List Turn). entries_of_turns turns ++ entries_in now.now) (sym turns) in
      let TurnBehind : List Turn → Type 0 = λ turns. IsTurn panel turns turn in
      let TextBehind : List Turn → Type 0 = λ turns. IsText plant (items (bytes_read turns ++ turn.piece)) (entries_of_turns turns ++ entries_in turn) now.sent in
      let TextOf : List ℕ → Type 0 = λ sent. IsText plant (items (bytes_read past.turns ++ turn.piece)) (entries_of_turns past.turns ++ entries_in turn) sent in
      let At : Progress → Type 0 = λ past. StandsFor plant panel after past in
      let Read : List ℕ → Type 0 = λ read. AnsweredButLast plant read (entries_so_far now) later.sent in
      let Of : List PlantEntry → Type 0 = λ entries. AnsweredButLast plant (read_so_far later) entries later.sent in
      record {
        turn = turn;
        piece_is = sym (append-nil turn.piece) ∙ way.come.piece_is;
        is_turn = subst TurnBehind turns over.turn;
        seats = way.come.seats;
        answers = way.answers;
        text = subst TextOf way.sent (subst TextBehind turns over.text);
        stands = subst At
            (ap (λ (turns : List Turn). record { turns = turns ++ turn ∷ []; now = unstarted; sent = now.sent }) turns
            ∙ ap (λ (sent : List ℕ). record { turns = past.turns ++ turn ∷ []; now = unstarted; sent = sent }) way.sent) stands;
        answered = λ yes keeps. subst Of (sym entries) (subst Read (sym read) (way.answered yes keeps));
      }
