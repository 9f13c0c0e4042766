-- What a session sends.
use Rattle.std.specs.Prelude.{◌≡◌, ℕ, ◌+◌, ◌==◌, nat_lt, Bool, ◌&&◌, false, if◌then◌else◌, List, [], ◌∷◌, ◌++◌, length, find, Option, None, Some}
use Rattle.std.specs.Option.{option_map}
use Rattle.std.specs.List.{flat_map}
use Rattle.dle_framing.specs.Numbers.{ack, nak}
use Rattle.dle_framing.specs.declared.item.Item.{Item}
use Rattle.dle_framing.specs.Frame.{frame}
use Rattle.swp08_messages.specs.Text.{text}
use Rattle.swp08_messages.specs.Dump.{Page, page_text, page_dests}
use Rattle.plant_config.specs.Plant.{PlantData}
use Rattle.plant_core.specs.declared.request.Request.{Request}
use Rattle.plant_core.specs.declared.request.Request.TheVariants.{Told, Poll, Leave, DisplayPoll}
use Rattle.plant_core.specs.declared.answer.Answer.{Answer}
use Rattle.plant_core.specs.declared.answer.Answer.TheVariants.{Say, Dumped, Lamp, Finished}
use Rattle.panel_session.specs.Entry.{PlantEntry}
use Rattle.panel_session.specs.declared.session.asked.Asked.{Asked}
use Rattle.panel_session.specs.declared.session.asked.Asked.TheVariants.{Nothing, Repeat, Refused, Noted, Named, Sent}
use Rattle.panel_session.specs.Asked.{AllAsk}
use Rattle.panel_session.specs.NamePages.{name_frames}

-- a page that is to begin with this destination, and has none yet [profile]
abbrev pub page_at : ℕ → ℕ → ℕ → Page
page_at matrix level dest = record { matrix = matrix; level = level; first = dest; sources = [] }

-- a page of nothing [profile]
abbrev pub no_page : Page
no_page = page_at 0 0 0

-- A page goes on with a destination: it is the next one of the page's level, and the page has fewer than 64. [profile]
abbrev pub goes_on : Page → ℕ → ℕ → ℕ → Bool
goes_on page matrix level dest =
    page.matrix == matrix && page.level == level && page.first + length page.sources == dest
    && nat_lt (length page.sources) page_dests

-- the page with the source of one destination more [profile]
abbrev pub with_source : Option ℕ → Page → Page
with_source source page = record page { sources = page.sources ++ source ∷ [] }

-- the frame of a page, none where it has no destination [profile]
abbrev pub page_frames : Page → List (List ℕ)
page_frames page = if length page.sources == 0 then [] else frame (page_text page) ∷ []

-- The message frames of answers that come behind what this page already has. What is said has a frame of its own. What a
-- dump tells is gathered in pages: a page is sent once it doesn't go on with what comes next, or nothing does. What displays
-- are told isn't sent to panels. [profile]
abbrev pub frames_behind : Page → List Answer → List (List ℕ)
frames_behind page [] = page_frames page
frames_behind page (Say message ∷ others) =
    page_frames page ++ frame (text message) ∷ frames_behind no_page others
frames_behind page (Dumped matrix level dest source ∷ others) =
    if goes_on page matrix level dest then frames_behind (with_source source page) others
    else page_frames page ++ frames_behind (with_source source (page_at matrix level dest)) others
frames_behind page (Lamp display value ∷ others) = frames_behind page others
frames_behind page (Finished ∷ others) = frames_behind page others

-- the message frames of the answers to one request, in order [profile]
abbrev pub frames_of : List Answer → List (List ℕ)
frames_of answers = frames_behind no_page answers

-- the bytes of frames, one behind the other
abbrev pub bytes_in : List (List ℕ) → List ℕ
bytes_in frames = flat_map (λ sent. sent) frames

-- What was sent so far: the bytes, the last message frame that was newly sent, and how often it was sent again. [profile]
pub record Output : Type 0 where
  pub bytes : List ℕ
  pub last : Option (List ℕ)
  pub repeats : ℕ

abbrev pub nothing_sent : Output
nothing_sent = record { bytes = []; last = None; repeats = 0 }

-- an ACK or a NAK more [profile]
abbrev pub with_control : List ℕ → Output → Output
with_control control output = record output { bytes = output.bytes ++ control }

-- one message frame more, newly sent [profile]
abbrev pub with_frame : List ℕ → Output → Output
with_frame sent output = record { bytes = output.bytes ++ sent; last = Some sent; repeats = 0 }

abbrev pub with_frames : List (List ℕ) → Output → Output
with_frames [] output = output
with_frames (sent ∷ others) output = with_frames others (with_frame sent output)

-- the last message frame once more, where there is one that was sent again fewer than 5 times [profile]
abbrev pub repeated : Output → Output
repeated output = elim output.last [
  | None ↦ output
  | (Some sent) ↦ if nat_lt output.repeats 5
      then record output { bytes = output.bytes ++ sent; repeats = output.repeats + 1 } else output
]

-- the answers of a request, where it is a poll that was made behind so many items [profile]
abbrev pub polled_by : ℕ → Request → List Answer → List Answer
polled_by item (Poll panel at turn) answers = if at == item then answers else []
polled_by item (Told panel at message) answers = []
polled_by item (Leave panel) answers = []
polled_by item (DisplayPoll screen refresh) answers = []

-- the message frames of the polls that were made behind so many items, in order: those of each poll by themselves [profile]
abbrev pub polled_at : ℕ → List PlantEntry → List (List ℕ)
polled_at item entries =
    flat_map (λ entry. frames_of (polled_by item entry.request entry.answers)) entries

-- a request is what the item of this number sent to the plant [profile]
abbrev pub is_told_at : ℕ → Request → Bool
is_told_at item (Told panel at message) = at == item
is_told_at item (Poll panel at turn) = false
is_told_at item (Leave panel) = false
is_told_at item (DisplayPoll screen refresh) = false

-- the answers to what the item of this number sent to the plant, where it has an entry [profile]
abbrev pub told_at : ℕ → List PlantEntry → Option (List Answer)
told_at item entries =
    option_map (λ entry. entry.answers) (find (λ entry. is_told_at item entry.request) entries)

-- the output once the polls that were made behind so many items were answered [profile]
abbrev pub with_polls : ℕ → List PlantEntry → Output → Output
with_polls item entries output = with_frames (polled_at item entries) output

-- The output of a session of a plant on items that ask so, the first of this number: before each item stand the notices that
-- were polled there. A bad frame is answered by NAK, an ACK by nothing, a NAK by the last message frame, and a good frame by
-- ACK and then the frames of its answers, or of the pages of names that it asks for. Where the plant wasn't asked yet, the
-- output ends behind that ACK. [profile]
abbrev pub output_from : PlantData → ℕ → List Asked → List PlantEntry → Output → Output
output_from plant item [] entries output = with_polls item entries output
output_from plant item (Nothing ∷ others) entries output =
    output_from plant (item + 1) others entries (with_polls item entries output)
output_from plant item (Repeat ∷ others) entries output =
    output_from plant (item + 1) others entries (repeated (with_polls item entries output))
output_from plant item (Refused ∷ others) entries output =
    output_from plant (item + 1) others entries (with_control nak (with_polls item entries output))
output_from plant item (Noted ∷ others) entries output =
    output_from plant (item + 1) others entries (with_control ack (with_polls item entries output))
output_from plant item (Named message ∷ others) entries output =
    output_from plant (item + 1) others entries
    (with_frames (name_frames plant message)
    (with_control ack (with_polls item entries output)))
output_from plant item (Sent message ∷ others) entries output = elim (told_at item entries) [
  | None ↦ with_control ack (with_polls item entries output)
  | (Some answers) ↦ output_from plant (item + 1) others entries
      (with_frames (frames_of answers) (with_control ack (with_polls item entries output)))
]

-- The text of a session: what it sends on these items, given its entries. [profile]
pub record IsText (plant : PlantData) (items : List (Item (List ℕ))) (entries : List PlantEntry)
    (text : List ℕ) : Type 0 where
  pub asked : List Asked
  pub items_ask : AllAsk items asked
  pub bytes : text ≡ (output_from plant 0 asked entries nothing_sent).bytes
