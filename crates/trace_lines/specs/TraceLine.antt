-- The line of a trace: one for each entry of the history, so that it can be told after a fault who did what in which order.
use Rattle.std.specs.Prelude.{ℕ, ◌≤◌, if◌then◌else◌, List, [], ◌∷◌, ◌++◌, codes}
use Rattle.std.specs.Fmt.{decimal}
use Rattle.hex.specs.Hex.{encode_upper}
use Rattle.swp08_messages.specs.Text.{text, InRange}
use Rattle.plant_core.specs.declared.request.Request.{Request}
use Rattle.plant_core.specs.declared.request.Request.TheVariants.{Told, Poll, Leave, DisplayPoll}

-- the greatest number in a trace: of a position, of an item and of a turn (2^62)
abbrev pub trace_limit : ℕ
trace_limit = 4611686018427387904

-- the most bytes of a line, with the one that ends it
abbrev pub longest_trace_line : ℕ
longest_trace_line = 65537

-- the most bytes of a reply: the frames of 1,024 answers in hexadecimal
abbrev pub most_reply : ℕ
most_reply = 49152

-- the most bytes in front of a reply
abbrev pub most_head : ℕ
most_head = 91

-- the byte that ends a line
abbrev pub line_end : ℕ
line_end = 10

-- The request of an entry, as a trace tells it: who asked, by the number of the panel or the screen, and what. A message is
-- told by its canonical DATA in hexadecimal, and a display poll by 1 with a refresh and by 0 without.
abbrev pub request_text : Request → List ℕ
request_text (Told panel item message) =
    codes "told " ++ decimal panel ++ codes " " ++ decimal item ++ codes " "
    ++ encode_upper (text message)
request_text (Poll panel item turn) =
    codes "poll " ++ decimal panel ++ codes " " ++ decimal item ++ codes " " ++ decimal turn
request_text (Leave panel) = codes "leave " ++ decimal panel
request_text (DisplayPoll screen refresh) =
    codes "show " ++ decimal screen ++ (if refresh then codes " 1" else codes " 0")

-- bytes in hexadecimal, and a dash for none
abbrev pub told_bytes : List ℕ → List ℕ
told_bytes [] = codes "-"
told_bytes (byte ∷ bytes) = encode_upper (byte ∷ bytes)

-- what stands in front of the reply: the position and the request
abbrev pub line_head : ℕ → Request → List ℕ
line_head position request = decimal position ++ codes " " ++ request_text request ++ codes " = "

-- a line by its parts, without the byte that ends it
abbrev pub entry_text : ℕ → Request → List ℕ → List ℕ
entry_text position request reply = line_head position request ++ reply

-- The line of an entry of a panel, by the bytes that its answers send.
abbrev pub told_line : ℕ → Request → List ℕ → List ℕ
told_line position request sent =
    entry_text position request (told_bytes sent) ++ line_end ∷ []

-- A request can be spelled: its message is in its ranges.
abbrev pub MaySpell : Request → Type 0
MaySpell (Told panel item message) = InRange message
MaySpell (Poll panel item turn) = Unit {0}
MaySpell (Leave panel) = Unit {0}
MaySpell (DisplayPoll screen refresh) = Unit {0}

-- A request may be traced: its numbers are at most 2^62, and its message is in its ranges.
abbrev pub MayTrace : Request → Type 0
MayTrace (Told panel item message) =
    (panel ≤ trace_limit) × (item ≤ trace_limit) × InRange message
MayTrace (Poll panel item turn) =
    (panel ≤ trace_limit) × (item ≤ trace_limit) × (turn ≤ trace_limit)
MayTrace (Leave panel) = panel ≤ trace_limit
MayTrace (DisplayPoll screen refresh) = screen ≤ trace_limit
