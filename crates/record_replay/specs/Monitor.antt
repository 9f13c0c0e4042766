-- What a recorded stream of display packets tells, in lines for a person.
use Rattle.std.specs.Prelude.{ℕ, Bool, true, false, List, ◌∷◌, ◌++◌, [], length, codes, Result, Ok, Err}
use Rattle.std.specs.List.{flat_map}
use Rattle.std.specs.Fmt.{decimal}
use Rattle.tsl_umd5.specs.declared.fault.TslFault.{TslFault}
use Rattle.tsl_umd5.specs.Kind.{kind_name}
use Rattle.tsl_umd5.specs.Lamp.{lamp_code}
use Rattle.tsl_umd5.specs.Packet.{Display, Contents}
use Rattle.tsl_umd5.specs.Reading.{packet_reading}
use Rattle.tsl_stream.specs.Items.{PacketItem, Packet, Bad, stream_items}
use Rattle.line_text.specs.Lines.{line_feed}
use Rattle.record_replay.specs.declared.monitor.MonitorFault.{MonitorFault}
use Rattle.record_replay.specs.declared.monitor.MonitorFault.TheVariants.{NoMemory, OutputFault}
use Rattle.record_replay.specs.Replay.{hex_or_dash}

-- how the line of a display begins
abbrev pub index_text : ℕ → List ℕ
index_text index = codes "index " ++ decimal index

-- its lamps in numbers from 0 to 3: the right one, that of the text, the left one
abbrev pub lamps_text : Display → List ℕ
lamps_text display =
    codes " lamps " ++ decimal (lamp_code display.right) ++ codes " "
    ++ decimal (lamp_code display.middle) ++ codes " " ++ decimal (lamp_code display.left)

-- how it ends: its brightness, and its text in hexadecimal, or `-` where that is empty
abbrev pub shown_text : Display → List ℕ
shown_text display =
    codes " brightness " ++ decimal display.brightness ++ codes " text "
    ++ hex_or_dash display.text ++ line_feed ∷ []

-- the line of a display
abbrev pub display_line : Display → List ℕ
display_line display = index_text display.index ++ lamps_text display ++ shown_text display

-- the lines of displays, one after the other
abbrev pub displays_lines : List Display → List ℕ
displays_lines displays = flat_map display_line displays

-- the line of a screen that so many displays are told of
abbrev pub screen_told : ℕ → ℕ → List ℕ
screen_told screen count =
    codes "screen " ++ decimal screen ++ codes " displays " ++ decimal count ++ line_feed ∷ []

-- the line of bytes that are no packet, by why they are none
abbrev pub bad_line : TslFault → List ℕ
bad_line fault = codes "bad " ++ kind_name fault ++ line_feed ∷ []

-- the lines of bytes that are read so: those of a packet are its screen's and its displays'
abbrev pub read_lines : Result Contents TslFault → List ℕ
read_lines (Ok packet) =
    screen_told packet.screen (length packet.displays) ++ displays_lines packet.displays
read_lines (Err fault) = bad_line fault

-- the lines of an item of a stream
abbrev pub item_lines : PacketItem → List ℕ
item_lines (Packet bytes) = read_lines (packet_reading bytes)
item_lines (Bad fault) = bad_line fault

-- the lines of a stream: those of its items, one after the other. What is no item, a rest at the end or noise, has none.
abbrev pub monitor_text : List ℕ → List ℕ
monitor_text stream = flat_map item_lines (stream_items stream)

-- whether a stream wasn't told for a fault of the output
abbrev pub monitor_failed : {T : Type 0} → Result T MonitorFault → Bool
monitor_failed (Ok done) = false
monitor_failed (Err NoMemory) = false
monitor_failed (Err OutputFault) = true
