-- The messages that the panels of a drill send.
use Rattle.std.specs.Prelude.{ℕ, ◌+◌, ◌*◌, ◌/◌, ◌%◌, ◌==◌, nat_le, if◌then◌else◌, Some}
use Rattle.swp08_messages.specs.declared.point.Point.{Point}
use Rattle.swp08_messages.specs.declared.message.Message.{Message}
use Rattle.swp08_messages.specs.declared.message.Message.TheVariants.{Interrogate, Connect}
use Rattle.swp08_messages.specs.declared.message.Message.TheVariants.{ProtectConnect, ProtectDisconnect, Store, Go}
use Rattle.drill.specs.Draws.{drawn, next_seed, seed_after}

-- how many draws a message takes
abbrev pub draws_each : ℕ
draws_each = 3

-- the message of a kind from 0 to 15: ten of them are connects
abbrev pub of_kind : ℕ → Point → ℕ → ℕ → ℕ → Message
of_kind kind at source salvo device =
    if nat_le kind 9 then Connect at (Some source)
    else if kind == 10 then Interrogate at
    else if kind == 11 then ProtectConnect at device
    else if kind == 12 then ProtectDisconnect at device
    else if kind == 13 then Store at (Some source) salvo
    else Go (kind == 15) salvo

-- the destination that a draw says
abbrev pub dest_drawn : ℕ → Point
dest_drawn drawn = record { matrix = drawn / 256 % 2; level = 0; dest = drawn % 256 }

-- The message of three draws in their order: its kind; its destination; its source with its salvo. A panel's device is one
-- more than its number.
abbrev pub message_drawn : ℕ → ℕ → ℕ → ℕ → Message
message_drawn panel a b c = of_kind (a % 16) (dest_drawn b) (c % 256) (c / 256 % 8) (panel + 1)

-- the message of a panel whose draws begin at this seed
abbrev pub message_from : ℕ → ℕ → Message
message_from panel seed =
    let second = next_seed (next_seed seed) in
    message_drawn panel (drawn (next_seed seed)) (drawn second) (drawn (next_seed second))

-- the message of this number, from 0 on, of a panel in the drill of a number
abbrev pub message_at : ℕ → ℕ → ℕ → Message
message_at number panel at = message_from panel (seed_after number panel (draws_each * at))
