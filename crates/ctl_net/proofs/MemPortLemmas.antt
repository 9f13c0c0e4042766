-- Sends to a display port in memory.
use Rattle.std.proofs.Common.{◌≡◌, ℕ, false, List, [], ◌∷◌, ◌++◌, Option, rules}
use Rattle.ctl_io.specs.Calls.{Calls, called}
use Rattle.ctl_net.specs.MemPort.{PortState, send_fails, after_send}
use Rattle.ctl_net.specs.declared.opening.Opening.{Opening}

-- the port after a send that was done
pub after_done : (port : PortState) (packet : List ℕ) (opening : Option Opening) (packets : List (List ℕ)) (room : ℕ) (calls : Calls) → send_fails port packet ≡ false → opening ≡ port.opening → packets ≡ port.packets ++ packet ∷ [] → room ≡ port.room → calls ≡ called false port.calls → record { opening = opening; packets = packets; room = room; calls = calls } ≡ after_send port packet
after_done port packet opening packets room calls done whose more same counted = search rules
