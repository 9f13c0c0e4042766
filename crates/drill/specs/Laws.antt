-- What the bytes of a drill say. The functions of `laws` promise it.
use Rattle.std.specs.Prelude.{◌≡◌, ℕ, ◌-◌, ◌/◌, ◌<◌}
use Rattle.dle_framing.specs.Laws.{IsReadAs}
use Rattle.swp08_messages.specs.declared.message.MessageKind.TheVariants.{Plant}
use Rattle.swp08_messages.specs.Text.{InRange, kind_of}
use Rattle.drill.specs.Messages.{message_at}
use Rattle.drill.specs.Stream.{bad_among, good_among, items_of, stream}

-- The bytes of a panel are read as the items of its messages, one each, and no rest.
abbrev pub StreamsAreRead : Type 0
StreamsAreRead =
    (number panel count : ℕ) → IsReadAs (stream number panel count) (items_of number panel count)

-- Of so many messages each hundredth is sent as a bad frame, and the others as good ones.
abbrev pub FramesAreCounted : Type 0
FramesAreCounted =
    (count : ℕ) → (bad_among count ≡ count / 100) × (good_among count ≡ count - count / 100)

-- Each message asks something of the plant, and its numbers are in their ranges.
abbrev pub MessagesAskThePlant : Type 0
MessagesAskThePlant =
    (number panel at : ℕ) → panel < 16
    → InRange (message_at number panel at) × (kind_of (message_at number panel at) ≡ Plant)
