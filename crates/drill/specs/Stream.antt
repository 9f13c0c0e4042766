-- The bytes that a panel of a drill sends, and what they say.
use Rattle.std.specs.Prelude.{ℕ, ◌+◌, ◌%◌, ◌==◌, Bool, if◌then◌else◌, List, [], ◌∷◌, ◌++◌, map, not}
use Rattle.std.specs.List.{count_by, flat_map, range_with_len}
use Rattle.dle_framing.specs.Frame.{check_byte, counted, enclosed, frame}
use Rattle.dle_framing.specs.declared.item.Item.{Item}
use Rattle.dle_framing.specs.declared.item.Item.TheVariants.{Good, Bad}
use Rattle.swp08_messages.specs.Text.{text}
use Rattle.drill.specs.Messages.{message_at}

-- whether the message of this number is sent as a bad frame: the last of each hundred is
abbrev pub is_bad : ℕ → Bool
is_bad at = at % 100 == 99

-- a frame whose check byte is one more than the right one, modulo 256
abbrev pub bad_frame : List ℕ → List ℕ
bad_frame bytes = enclosed (counted bytes ++ (check_byte (counted bytes) + 1) % 256 ∷ [])

-- the frame of DATA that are sent as the message of this number
abbrev pub framed_as : ℕ → List ℕ → List ℕ
framed_as at bytes = if is_bad at then bad_frame bytes else frame bytes

-- the frame of a panel's message of this number
abbrev pub sent_at : ℕ → ℕ → ℕ → List ℕ
sent_at number panel at = framed_as at (text (message_at number panel at))

-- the bytes of a panel that sends so many messages
abbrev pub stream : ℕ → ℕ → ℕ → List ℕ
stream number panel count = flat_map (sent_at number panel) (range_with_len 0 count)

-- the item that the frame of a panel's message of this number is read as
abbrev pub item_at : ℕ → ℕ → ℕ → Item (List ℕ)
item_at number panel at = if is_bad at then Bad else Good (text (message_at number panel at))

-- the items of a panel that sends so many messages
abbrev pub items_of : ℕ → ℕ → ℕ → List (Item (List ℕ))
items_of number panel count = map (item_at number panel) (range_with_len 0 count)

-- how many of so many messages are sent as bad frames, and how many as good ones
abbrev pub bad_among : ℕ → ℕ
bad_among count = count_by is_bad (range_with_len 0 count)

abbrev pub good_among : ℕ → ℕ
good_among count = count_by (λ at. not (is_bad at)) (range_with_len 0 count)
