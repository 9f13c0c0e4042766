-- The definitions, computed on known packets.
use Rattle.std.proofs.Common.{◌≡◌, [], ◌∷◌, refl}
use Rattle.tsl_umd5.specs.declared.lamp.Lamp.TheVariants.{Off, Red, Green, Amber}
use Rattle.tsl_umd5.specs.Packet.{Display, message_text, messages_text, packet_text}

-- screen 0 with the display of index 1: CAM3 with the right lamp and the text's red, as bright as can be
abbrev camera : Display
camera = record { index = 1; right = Red; middle = Red; left = Off; brightness = 3; text = 67 ∷ 65 ∷ 77 ∷ 51 ∷ [] }

first_packet : packet_text 0 (camera ∷ []) ≡ 14 ∷ 0 ∷ 0 ∷ 0 ∷ 0 ∷ 0 ∷ 1 ∷ 0 ∷ 197 ∷ 0 ∷ 4 ∷ 0 ∷ 67 ∷ 65 ∷ 77 ∷ 51 ∷ []
unfolding packet_text messages_text message_text
first_packet = refl

-- two displays, S20 and S21
two_displays : packet_text 0 (record camera { text = 83 ∷ 50 ∷ 48 ∷ [] } ∷ record camera { index = 2; text = 83 ∷ 50 ∷ 49 ∷ [] } ∷ [])
    ≡ 22 ∷ 0 ∷ 0 ∷ 0 ∷ 0 ∷ 0 ∷ 1 ∷ 0 ∷ 197 ∷ 0 ∷ 3 ∷ 0 ∷ 83 ∷ 50 ∷ 48 ∷ 2 ∷ 0 ∷ 197 ∷ 0 ∷ 3 ∷ 0 ∷ 83 ∷ 50 ∷ 49 ∷ []
unfolding packet_text messages_text message_text
two_displays = refl

-- a screen without a display
empty_packet : packet_text 513 [] ≡ 4 ∷ 0 ∷ 0 ∷ 0 ∷ 1 ∷ 2 ∷ []
unfolding packet_text messages_text
empty_packet = refl

-- an amber lamp of the text and a green left one
more_lamps : packet_text 0 (record camera { middle = Amber; left = Green } ∷ []) ≡ 14 ∷ 0 ∷ 0 ∷ 0 ∷ 0 ∷ 0 ∷ 1 ∷ 0 ∷ 0xED ∷ 0 ∷ 4 ∷ 0 ∷ 67 ∷ 65 ∷ 77 ∷ 51 ∷ []
unfolding packet_text messages_text message_text
more_lamps = refl

-- a screen and an index of two bytes, less bright, and the first and the last byte of a text
high_numbers : packet_text 0x0201 (record camera { index = 0x0304; brightness = 1; text = 0x20 ∷ 0x7E ∷ [] } ∷ []) ≡ 12 ∷ 0 ∷ 0 ∷ 0 ∷ 1 ∷ 2 ∷ 4 ∷ 3 ∷ 0x45 ∷ 0 ∷ 2 ∷ 0 ∷ 0x20 ∷ 0x7E ∷ []
unfolding packet_text messages_text message_text
high_numbers = refl
