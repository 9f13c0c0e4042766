-- Packets that are sent to a display port.
use Rattle.std.specs.Prelude.{ℕ, ◌<◌, Bool, true, false, List, [], ◌∷◌, ◌++◌, length}
use Rattle.ctl_net.specs.declared.port.Sent.{Sent}
use Rattle.ctl_net.specs.declared.port.Sent.TheVariants.{Done, Failed}

-- whether a send failed
abbrev pub send_failed : Sent → Bool
send_failed Done = false
send_failed Failed = true

-- the packets that a port was sent, after a send that answered so: one more where it was done
abbrev pub sent_after : Sent → List ℕ → List (List ℕ) → List (List ℕ)
sent_after Done packet packets = packets ++ packet ∷ []
sent_after Failed packet packets = packets

-- Whatever packets a port was sent before, it was then sent those and these behind them.
abbrev pub SendsOn : {P : Type 0} → (P → List (List ℕ) → Type 0) → P → P → List (List ℕ)
    → Type 0
SendsOn WasSent port port_then packets = (former : List (List ℕ))
    → WasSent port former → WasSent port_then (former ++ packets)

-- A packet isn't empty.
abbrev pub IsSomePacket : List ℕ → Type 0
IsSomePacket packet = 0 < length packet
