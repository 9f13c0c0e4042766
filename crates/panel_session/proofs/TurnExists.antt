-- Each piece is worked as a turn, whatever machine takes what fits the plant.
use Rattle.std.proofs.Common.{◌≡◌, ◌≢◌, ℕ, ◌+◌, ◌-◌, ◌<◌, ◌≤◌, ◌⊎◌, inl, inr, zero, suc, List, [], ◌∷◌, ◌++◌, length, Option, Some, None, refl, sym, ap, ◌∙◌, subst, arith}
use Rattle.std.specs.Prelude.{All}
use Rattle.std.specs.Option.{option_to_list}
use Rattle.std.proofs.lemmas.Bool.Decides.{eqb_tells}
use Rattle.std.proofs.lemmas.List.{append-nil, append_assoc, length-append}
use Rattle.std.proofs.lemmas.List.Elements.{All-nil, All-push}
use Rattle.dle_framing.specs.declared.item.Item.{Item}
use Rattle.dle_framing.specs.Items.{items}
use Rattle.history_lock.specs.History.{run, IsLegal, entry_at}
use Rattle.history_lock.specs.Step.{Stepped}
use Rattle.history_lock.proofs.HistoryLemmas.{legal_snoc}
use Rattle.swp08_messages.specs.declared.message.Message.{Message}
use Rattle.plant_config.specs.Plant.{PlantData}
use Rattle.plant_core.specs.State.{FitsPlant}
use Rattle.plant_core.specs.declared.answer.Answer.{Answer}
use Rattle.plant_core.specs.declared.request.Request.{Request}
use Rattle.plant_core.specs.declared.request.Request.TheVariants.{Told, Poll}
use Rattle.panel_session.specs.declared.session.asked.Asked.{Asked}
use Rattle.panel_session.specs.declared.session.asked.Asked.TheVariants.{Nothing, Repeat, Refused, Noted, Named, Sent}
use Rattle.panel_session.specs.declared.session.phase.Phase.{Phase}
use Rattle.panel_session.specs.declared.session.phase.Phase.TheVariants.{Read, Tell, Poll as PollStage, End}
use Rattle.panel_session.specs.Entry.{PlantEntry}
use Rattle.panel_session.specs.OutgoingInside.{emptied}
use Rattle.panel_session.specs.Run.{IsWorked, turned}
use Rattle.panel_session.specs.SettledInside.{Settled}
use Rattle.panel_session.specs.SoFar.{Progress, nothing_yet, unstarted, read_so_far, with_sent}
use Rattle.panel_session.specs.StandsInside.{Kept, Keeps}
use Rattle.panel_session.specs.TakenInside.{taken_output, taken_phase, sent_by}
use Rattle.panel_session.specs.Text.{Output, nothing_sent, with_frames, frames_of}
use Rattle.panel_session.specs.Turns.{Turn, entries_in}
use Rattle.panel_session.proofs.AsksExist.{item_asks}
use Rattle.panel_session.proofs.ByteEnds.{byte_ends}
use Rattle.panel_session.proofs.KeepsLemmas.{keeps_told, keeps_polled_last}
use Rattle.panel_session.proofs.KeptItemLemmas.{taken, keeps_item, keeps_none, keeps_to_poll}
use Rattle.panel_session.proofs.KeptTurnLemmas.{keeps_nothing, keeps_polled_more, keeps_text, keeps_turn, turn_over}

-- Where nothing was done, all turns are over.
pub settled_nothing : (plant : PlantData) (panel : ℕ) → Settled plant panel nothing_yet
settled_nothing plant panel = record { count = 0; turns = 0; output = nothing_sent; begins = refl; keeps = keeps_nothing plant panel }

-- a request's entry, behind those of the turn, which hasn't polled
told_behind : (told polls : List PlantEntry) (entry : PlantEntry) → polls ≡ [] → (told ++ entry ∷ []) ++ polls ≡ (told ++ polls) ++ entry ∷ []
told_behind told polls entry none =
    let P : List PlantEntry → Type 0 = λ polls. (told ++ entry ∷ []) ++ polls ≡ (told ++ polls) ++ entry ∷ [] in
    subst P (sym none) (append-nil (told ++ entry ∷ []) ∙ ap (λ (told : List PlantEntry). told ++ entry ∷ []) (sym (append-nil told)))

-- Polls are over where one has no answer or was the 32nd, and else go on.
over : (answers : List Answer) (polls : ℕ) → ((answers ≡ []) ⊎ (polls ≡ 32)) ⊎ ((answers ≢ []) × (polls ≢ 32))
over [] polls = inl (inl refl)
over (answer ∷ answers) polls = elim (eqb_tells polls 32) [
  | (inl full) ↦ inl (inr full.1)
  | (inr more) ↦ inr (λ is. cc, more.1)
]

module _ {State : Type 0} (step : State → Request → Stepped State Answer) (Fits : State → Request → Type 0) (plant : PlantData) (panel : ℕ) (past : Progress) (machine : State) where
  -- the past with a turn that is on its way, in which these bytes were sent
  abbrev at : Turn → List ℕ → Progress
  at turn more = record { turns = past.turns; now = turn; sent = past.sent ++ more }

  -- A turn is on its way, with nothing to be sent: what is kept at this phase, what was sent in the turn, and that its entries
  -- so far are the panel's and are answered as the machine answers them.
  record Goes (phase : Phase) (turn : Turn) : Type 0 where
    count : ℕ
    turns : ℕ
    polls : ℕ
    output : Output
    more : List ℕ
    keeps : Keeps plant (record { panel = panel; phase = phase; items = count; turns = turns; polls = polls; output = output }) (at turn more)
    seats : All (λ entry. entry.seat ≡ panel) (entries_in turn)
    legal : IsLegal step Fits machine (entries_in turn)

  -- The turn begins.
  goes_begin : Settled plant panel past → Goes Read unstarted
  goes_begin settled =
      let kept : Kept = record { panel = panel; phase = Read; items = settled.count; turns = settled.turns; polls = 0; output = settled.output } in
      let begun : past ≡ at unstarted [] = λ i. record { turns = past.turns; now = settled.begins i; sent = (sym (append-nil past.sent)) i } in
      record {
        count = settled.count;
        turns = settled.turns;
        polls = 0;
        output = settled.output;
        more = [];
        keeps = subst (Keeps plant kept) begun settled.keeps;
        seats = All-nil _;
        legal = tt;
      }

  -- what was sent, with more behind it
  sent_at : (kept : Kept) (turn : Turn) (more bytes : List ℕ) → Keeps plant kept (with_sent bytes (at turn more)) → Keeps plant kept (at turn (more ++ bytes))
  sent_at kept turn more bytes k =
      let KeepsSent : List ℕ → Type 0 = λ sent. Keeps plant kept (record { turns = past.turns; now = turn; sent = sent }) in
      subst KeepsSent (append_assoc past.sent more bytes) k

  -- The frames of answers were sent.
  goes_sent : (phase : Phase) (turn : Turn) (more : List ℕ) (count turns polls : ℕ) (output : Output)
      → Keeps plant (record { panel = panel; phase = phase; items = count; turns = turns; polls = polls; output = output }) (with_sent output.bytes (at turn more))
      → All (λ entry. entry.seat ≡ panel) (entries_in turn) → IsLegal step Fits machine (entries_in turn) → Goes phase turn
  goes_sent phase turn more count turns polls output k seats legal = record {
    count = count;
    turns = turns;
    polls = polls;
    output = output;
    more = more ++ output.bytes;
    keeps = sent_at (record { panel = panel; phase = phase; items = count; turns = turns; polls = polls; output = output }) turn more output.bytes k;
    seats = seats;
    legal = legal;
  }

  -- The piece is used up.
  goes_on : (turn : Turn) → Goes Read turn → Goes PollStage turn
  goes_on turn goes = record {
    count = goes.count;
    turns = goes.turns;
    polls = goes.polls;
    output = goes.output;
    more = goes.more;
    keeps = keeps_to_poll plant panel goes.count goes.turns goes.polls goes.output (at turn goes.more) goes.keeps;
    seats = goes.seats;
    legal = goes.legal;
  }

  -- The machine takes what fits the plant.
  module _ (has_panel : panel < length plant.panels)
      (fits : (history : List PlantEntry) (request : Request) → IsLegal step Fits machine history → FitsPlant plant request → Fits (run step machine history) request) where
    -- A request is answered behind these entries: there is one entry more.
    answered : (entries now : List PlantEntry) (request : Request) → now ≡ entries ++ entry_at step (run step machine entries) panel request ∷ [] → FitsPlant plant request
        → All (λ entry. entry.seat ≡ panel) entries → IsLegal step Fits machine entries → All (λ entry. entry.seat ≡ panel) now × IsLegal step Fits machine now
    answered entries now request is fit seats legal =
        let Seated : PlantEntry → Type 0 = λ entry. entry.seat ≡ panel in
        let P : List PlantEntry → Type 0 = λ now. All Seated now × IsLegal step Fits machine now in
        let entry : PlantEntry = entry_at step (run step machine entries) panel request in
        subst P (sym is) (All-push Seated entries entry seats refl, legal_snoc step Fits machine entries panel request legal (fits entries request legal fit))

    -- The machine answers what an item sent to the plant.
    goes_told : (message : Message) (turn : Turn) → Goes (Tell message) turn → (now : Turn) × (now.piece ≡ turn.piece) × Goes Read now
    goes_told message turn goes =
        let request = Told panel (goes.count - 1) message in
        let entry : PlantEntry = entry_at step (run step machine (entries_in turn)) panel request in
        let now : Turn = record turn { told = turn.told ++ entry ∷ [] } in
        let output = with_frames (frames_of entry.answers) (emptied goes.output) in
        let so = answered (entries_in turn) (entries_in now) request (told_behind turn.told turn.polls entry goes.keeps.phase.3) (has_panel, goes.keeps.phase.6) goes.seats goes.legal in
        let told = keeps_told plant panel goes.count goes.turns goes.polls panel message goes.output (at turn goes.more) entry.answers goes.keeps in
        (now, refl, goes_sent Read now goes.more goes.count goes.turns goes.polls output told so.0 so.1)

    -- An item is taken: of what it asks only a message to the plant is yet to be told.
    goes_taken : (asked : Asked) (turn : Turn) → Goes (taken_phase asked) turn → (now : Turn) × (now.piece ≡ turn.piece) × Goes Read now
    goes_taken Nothing turn goes = (turn, refl, goes)
    goes_taken Repeat turn goes = (turn, refl, goes)
    goes_taken Refused turn goes = (turn, refl, goes)
    goes_taken Noted turn goes = (turn, refl, goes)
    goes_taken (Named message) turn goes = (turn, refl, goes)
    goes_taken (Sent message) turn goes = goes_told message turn goes

    -- A byte more of the piece is read, in which an item ends or none.
    goes_item : (byte : ℕ) (turn : Turn) (goes : Goes Read turn) (ended : Option (Item (List ℕ)))
        → items (read_so_far (at turn goes.more) ++ byte ∷ []) ≡ items (read_so_far (at turn goes.more)) ++ option_to_list ended
        → (now : Turn) × (now.piece ≡ turn.piece ++ byte ∷ []) × Goes Read now
    goes_item byte turn goes None adds = (
      record turn { piece = turn.piece ++ byte ∷ [] },
      refl,
      record {
        count = goes.count;
        turns = goes.turns;
        polls = goes.polls;
        output = goes.output;
        more = goes.more;
        keeps = keeps_none plant panel goes.count goes.turns goes.polls goes.output (at turn goes.more) (byte ∷ []) goes.keeps (adds ∙ append-nil (items (read_so_far (at turn goes.more))));
        seats = goes.seats;
        legal = goes.legal;
      },
    )
    goes_item byte turn goes (Some item) adds =
        let (asked, asks) = item_asks item in
        let now : Turn = record turn { piece = turn.piece ++ byte ∷ [] } in
        let sent = sent_by plant asked goes.output in
        goes_taken asked now (record {
          count = goes.count + 1;
          turns = goes.turns;
          polls = goes.polls;
          output = taken_output plant asked goes.output;
          more = goes.more ++ sent;
          keeps = sent_at (taken plant asked panel goes.count goes.turns goes.polls goes.output) now goes.more sent
              (keeps_item plant asked item panel goes.count goes.turns goes.polls goes.output (at turn goes.more) (byte ∷ []) goes.keeps adds asks);
          seats = goes.seats;
          legal = goes.legal;
        })

    -- All bytes of the piece are read.
    goes_bytes : (bytes : List ℕ) (turn : Turn) → Goes Read turn → (now : Turn) × (now.piece ≡ turn.piece ++ bytes) × Goes Read now
    goes_bytes [] turn goes = (turn, sym (append-nil turn.piece), goes)
    goes_bytes (byte ∷ bytes) turn goes =
        let ended = byte_ends (read_so_far (at turn goes.more)) byte in
        let first = goes_item byte turn goes ended.0 ended.1 in
        let later = goes_bytes bytes first.0 first.2 in
        (later.0, later.1 ∙ ap (λ (piece : List ℕ). piece ++ bytes) first.1 ∙ append_assoc turn.piece (byte ∷ []) bytes, later.2)

    -- The machine answers polls, until one has no answer or is the 32nd.
    goes_polls : (left : ℕ) (turn : Turn) → Goes PollStage turn → 32 ≤ left + length turn.polls → (now : Turn) × (now.piece ≡ turn.piece) × Goes End now
    goes_polls zero turn goes within = absurd (omega (arith, within, goes.keeps.phase.1.more))
    goes_polls (suc left) turn goes within =
        let request = Poll panel goes.count goes.turns in
        let entry : PlantEntry = entry_at step (run step machine (entries_in turn)) panel request in
        let now : Turn = record turn { polls = turn.polls ++ entry ∷ [] } in
        let output = with_frames (frames_of entry.answers) (emptied goes.output) in
        let so = answered (entries_in turn) (entries_in now) request (sym (append_assoc turn.told turn.polls (entry ∷ []))) has_panel goes.seats goes.legal in
        let kept : Phase → Kept = λ phase. record { panel = panel; phase = phase; items = goes.count; turns = goes.turns; polls = goes.polls + 1; output = output } in
        let sent : (phase : Phase) → Keeps plant (kept phase) (with_sent output.bytes (at now goes.more)) → Goes phase now =
        λ phase k. goes_sent phase now goes.more goes.count goes.turns (goes.polls + 1) output k so.0 so.1 in
        elim (over entry.answers (goes.polls + 1)) [
          | (inl last) ↦ (
            now,
            refl,
            sent End
                (keeps_polled_last plant panel goes.count goes.turns goes.polls panel goes.output (at turn goes.more) entry.answers goes.keeps last),
          )
          | (inr on) ↦ goes_polls left now
              (sent PollStage
              (keeps_polled_more plant panel goes.count goes.turns goes.polls panel goes.output (at turn goes.more) entry.answers goes.keeps on.0 on.1))
              (omega (arith, within, length-append turn.polls (entry ∷ [])))
        ]

  -- Each piece is worked as a turn behind a past whose turns are over, and then the turns of the past with it are over.
  pub turn_exists : (piece : List ℕ) → panel < length plant.panels → Settled plant panel past
      → ((history : List PlantEntry) (request : Request) → IsLegal step Fits machine history → FitsPlant plant request → Fits (run step machine history) request)
      → (turn : Turn) × (more : List ℕ) × (turn.piece ≡ piece) × IsWorked step Fits plant panel past machine turn more × Settled plant panel (turned turn more past)
  turn_exists piece has_panel settled fits =
      let read = goes_bytes has_panel fits piece unstarted (goes_begin settled) in
      let done = goes_polls has_panel fits 32 read.0 (goes_on read.0 read.2) (omega arith) in
      let goes = done.2 in
      let kept : Kept = record { panel = panel; phase = End; items = goes.count; turns = goes.turns; polls = goes.polls; output = goes.output } in (
        done.0,
        goes.more,
        done.1 ∙ read.1,
        record {
          is_turn = turn_over plant panel goes.count goes.turns goes.polls goes.output (at done.0 goes.more) goes.keeps;
          seats = goes.seats;
          legal = goes.legal;
          text = keeps_text plant kept (at done.0 goes.more) goes.keeps;
        },
        record {
          count = goes.count;
          turns = goes.turns + 1;
          output = goes.output;
          begins = refl;
          keeps = keeps_turn plant panel goes.count goes.turns goes.polls goes.output (at done.0 goes.more) goes.keeps;
        },
      )
