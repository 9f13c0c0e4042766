-- The text of a front of what was read.
use Rattle.std.proofs.Common.{◌≡◌, ℕ, ◌+◌, true, false, nat_lt, Bool, if◌then◌else◌, List, [], ◌∷◌, ◌++◌, Option, None, Some, refl, sym, ap, ◌∙◌, subst}
use mathlib.Core.List.{IsPrefix}
use Rattle.dle_framing.specs.Numbers.{ack, nak}
use Rattle.dle_framing.specs.declared.item.Item.{Item}
use Rattle.dle_framing.specs.Items.{items}
use Rattle.dle_framing.proofs.LawLemmas.{items_front}
use Rattle.history_lock.proofs.Fronts.{front_append, front_self, front_trans}
use Rattle.plant_config.specs.Plant.{PlantData}
use Rattle.plant_core.specs.declared.answer.Answer.{Answer}
use Rattle.panel_session.specs.declared.session.asked.Asked.{Asked}
use Rattle.panel_session.specs.declared.session.asked.Asked.TheVariants.{Nothing, Repeat, Refused, Noted, Named, Sent}
use Rattle.panel_session.specs.Asked.{AllAsk}
use Rattle.panel_session.specs.Entry.{PlantEntry}
use Rattle.panel_session.specs.NamePages.{name_frames}
use Rattle.panel_session.specs.Text.{Output, IsText, frames_of, nothing_sent, output_from, polled_at, repeated, told_at, with_control, with_frames, with_polls}
use Rattle.panel_session.proofs.AsksExist.{item_asks}
use Rattle.panel_session.proofs.EntryLemmas.{all_ask-append}
use Rattle.panel_session.proofs.TraceLemmas.{frames-bytes}
use Rattle.panel_session.proofs.TurnOnce.{all_ask-one}

-- Items ask something, each in its place.
pub all_ask : (its : List (Item (List ℕ))) → (asked : List Asked) × AllAsk its asked
all_ask [] = ([], tt)
all_ask (item ∷ its) =
    let one = item_asks item in
    let others = all_ask its in
    (one.0 ∷ others.0, (one.1, others.1))

-- What was sent stays in front: of an ACK or a NAK, of frames, and of a frame that is sent again.
control_behind : (control : List ℕ) (output : Output) → IsPrefix output.bytes (with_control control output).bytes
control_behind control output = front_append output.bytes control

frames_behind : (frames : List (List ℕ)) (output : Output) → IsPrefix output.bytes (with_frames frames output).bytes
frames_behind frames output = (_, sym (frames-bytes frames output))

-- a frame once more, or not
abbrev again : List ℕ → List ℕ → ℕ → Bool → Output
again bytes sent repeats test =
    if test then record { bytes = bytes ++ sent; last = Some sent; repeats = repeats + 1 } else record { bytes = bytes; last = Some sent; repeats = repeats }

again_behind : (output : Output) → IsPrefix output.bytes (repeated output).bytes
again_behind output = at output.bytes output.last output.repeats where
  at : (bytes : List ℕ) (last : Option (List ℕ)) (repeats : ℕ) → IsPrefix bytes (repeated (record { bytes = bytes; last = last; repeats = repeats })).bytes
  at bytes None repeats = front_self bytes
  at bytes (Some sent) repeats = elim (nat_lt repeats 5) as (λ test. IsPrefix bytes (again bytes sent repeats test).bytes) [ true ↦ front_append bytes sent | false ↦ front_self bytes ]

two : (one other last : Output) → IsPrefix one.bytes other.bytes → IsPrefix other.bytes last.bytes → IsPrefix one.bytes last.bytes
two one other last first second = front_trans one.bytes other.bytes last.bytes first second

-- What was sent stays in front of what is sent for items, where the polls before them do.
grow : (plant : PlantData) (asked : List Asked) (item : ℕ) (entries : List PlantEntry) (one output : Output) → IsPrefix one.bytes output.bytes
    → IsPrefix (with_polls item entries output).bytes (output_from plant item asked entries output).bytes
    → IsPrefix one.bytes (output_from plant item asked entries output).bytes
grow plant asked item entries one output first rest =
    let all = output_from plant item asked entries output in
    two one output all first (two output (with_polls item entries output) all (frames_behind (polled_at item entries) output) rest)

-- the output from an ACK on, by what the plant answered to the message
abbrev told_then : PlantData → Option (List Answer) → List Asked → ℕ → List PlantEntry → Output → Output
told_then plant told asked item entries now = elim told [
  | None ↦ with_control ack now
  | (Some answers) ↦ output_from plant (item + 1) asked entries (with_frames (frames_of answers) (with_control ack now))
]

-- The same of a message that was sent to the plant, answered or not.
sent_first : (plant : PlantData) (told : Option (List Answer)) (asked : List Asked) (item : ℕ) (entries : List PlantEntry) (now : Output)
    → ((output : Output) → IsPrefix (with_polls (item + 1) entries output).bytes (output_from plant (item + 1) asked entries output).bytes)
    → IsPrefix now.bytes (told_then plant told asked item entries now).bytes
sent_first plant None asked item entries now rest = control_behind ack now
sent_first plant (Some answers) asked item entries now rest =
    let sent = with_frames (frames_of answers) (with_control ack now) in
    grow plant asked (item + 1) entries now sent (two now (with_control ack now) sent (control_behind ack now) (frames_behind (frames_of answers) (with_control ack now))) (rest sent)

-- The polls before the first item stay in front of all that is sent for items.
polls_first : (plant : PlantData) (asked : List Asked) (item : ℕ) (entries : List PlantEntry) (output : Output) → IsPrefix (with_polls item entries output).bytes (output_from plant item asked entries output).bytes
polls_first plant [] item entries output = front_self (with_polls item entries output).bytes
polls_first plant (Nothing ∷ asked) item entries output =
    let now = with_polls item entries output in
    grow plant asked (item + 1) entries now now (front_self now.bytes) (polls_first plant asked (item + 1) entries now)
polls_first plant (Repeat ∷ asked) item entries output =
    let now = with_polls item entries output in
    grow plant asked (item + 1) entries now (repeated now) (again_behind now) (polls_first plant asked (item + 1) entries (repeated now))
polls_first plant (Refused ∷ asked) item entries output =
    let now = with_polls item entries output in
    grow plant asked (item + 1) entries now (with_control nak now) (control_behind nak now) (polls_first plant asked (item + 1) entries (with_control nak now))
polls_first plant (Noted ∷ asked) item entries output =
    let now = with_polls item entries output in
    grow plant asked (item + 1) entries now (with_control ack now) (control_behind ack now) (polls_first plant asked (item + 1) entries (with_control ack now))
polls_first plant (Named message ∷ asked) item entries output =
    let now = with_polls item entries output in
    let sent = with_frames (name_frames plant message) (with_control ack now) in
    grow plant asked (item + 1) entries now sent (two now (with_control ack now) sent (control_behind ack now) (frames_behind (name_frames plant message) (with_control ack now)))
    (polls_first plant asked (item + 1) entries sent)
polls_first plant (Sent message ∷ asked) item entries output =
    sent_first plant (told_at item entries) asked item entries (with_polls item entries output) (λ output. polls_first plant asked (item + 1) entries output)

-- What is sent for items, a message to the plant first among them, stays in front of what is sent for them and others.
sent_front : (plant : PlantData) (told : Option (List Answer)) (asked others : List Asked) (item : ℕ) (entries : List PlantEntry) (now : Output)
    → ((output : Output) → IsPrefix (output_from plant (item + 1) asked entries output).bytes (output_from plant (item + 1) (asked ++ others) entries output).bytes)
    → IsPrefix (told_then plant told asked item entries now).bytes (told_then plant told (asked ++ others) item entries now).bytes
sent_front plant None asked others item entries now rest = front_self (with_control ack now).bytes
sent_front plant (Some answers) asked others item entries now rest = rest (with_frames (frames_of answers) (with_control ack now))

-- What is sent for items stays in front of what is sent for them and others behind them.
output_front : (plant : PlantData) (asked others : List Asked) (item : ℕ) (entries : List PlantEntry) (output : Output)
    → IsPrefix (output_from plant item asked entries output).bytes (output_from plant item (asked ++ others) entries output).bytes
output_front plant [] others item entries output = polls_first plant others item entries output
output_front plant (Nothing ∷ asked) others item entries output = output_front plant asked others (item + 1) entries (with_polls item entries output)
output_front plant (Repeat ∷ asked) others item entries output = output_front plant asked others (item + 1) entries (repeated (with_polls item entries output))
output_front plant (Refused ∷ asked) others item entries output = output_front plant asked others (item + 1) entries (with_control nak (with_polls item entries output))
output_front plant (Noted ∷ asked) others item entries output = output_front plant asked others (item + 1) entries (with_control ack (with_polls item entries output))
output_front plant (Named message ∷ asked) others item entries output =
    output_front plant asked others (item + 1) entries (with_frames (name_frames plant message) (with_control ack (with_polls item entries output)))
output_front plant (Sent message ∷ asked) others item entries output =
    sent_front plant (told_at item entries) asked others item entries (with_polls item entries output) (λ output. output_front plant asked others (item + 1) entries output)

-- The text of a front of what was read is a front of the text of all.
pub text_front : (plant : PlantData) (read more : List ℕ) (entries : List PlantEntry) (text : List ℕ) → IsText plant (items read) entries text
    → (whole : List ℕ) × IsText plant (items (read ++ more)) entries whole × IsPrefix text whole
text_front plant read more entries text is =
    let front = items_front read (read ++ more) (more, refl) in
    let others = all_ask front.0 in
    let asked = is.asked ++ others.0 in
    let AskOf : List (Item (List ℕ)) → Type 0 = λ its. AllAsk its asked in
    let FrontOf : List ℕ → Type 0 = λ text. IsPrefix text (output_from plant 0 asked entries nothing_sent).bytes in (
      (output_from plant 0 asked entries nothing_sent).bytes,
      record { asked = asked; items_ask = subst AskOf front.1 (all_ask-append (items read) front.0 is.asked others.0 is.items_ask others.1); bytes = refl },
      subst FrontOf (sym is.bytes) (output_front plant is.asked others.0 0 entries nothing_sent),
    )

-- There is one text.
pub text_once : (plant : PlantData) (its : List (Item (List ℕ))) (entries : List PlantEntry) (text other : List ℕ) → IsText plant its entries text → IsText plant its entries other → text ≡ other
text_once plant its entries text other is is' =
    is.bytes
    ∙ ap (λ (asked : List Asked). (output_from plant 0 asked entries nothing_sent).bytes) (all_ask-one its is.asked is'.asked is.items_ask is'.items_ask)
    ∙ sym is'.bytes
