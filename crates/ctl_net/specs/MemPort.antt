-- What a display port in memory holds, and what it answers.
use Rattle.std.specs.Prelude.{◌≡◌, ℕ, ◌+◌, nat_lt, Bool, ◌||◌, List, [], ◌∷◌, ◌++◌, length, Option, Some, if◌then◌else◌}
use Rattle.std.specs.List.{concat}
use Rattle.ctl_io.specs.Calls.{Calls, next_fails, called}
use Rattle.ctl_net.specs.declared.opening.Opening.{Opening}
use Rattle.ctl_net.specs.declared.port.Sent.{Sent}
use Rattle.ctl_net.specs.declared.port.Sent.TheVariants as sent

-- A port in memory: the opening that made it, the packets that were sent, for how many bytes in all it has taken the memory,
-- and the sends.
pub record PortState : Type 0 where
  pub opening : Option Opening
  pub packets : List (List ℕ)
  pub room : ℕ
  pub calls : Calls

-- A send of this packet fails: its number is listed, or there is no room for all of its bytes.
abbrev pub send_fails : PortState → List ℕ → Bool
send_fails port packet =
    next_fails port.calls || nat_lt port.room (length (concat port.packets) + length packet)

-- what a send answers
abbrev pub send_answer : PortState → List ℕ → Sent
send_answer port packet = if send_fails port packet then sent.Failed else sent.Done

-- the port after such a send
abbrev pub after_send : PortState → List ℕ → PortState
after_send port packet = record port {
  packets = if send_fails port packet then port.packets else port.packets ++ packet ∷ [];
  calls = called (send_fails port packet) port.calls;
}

-- the port as this opening makes it
abbrev pub opened_to : Opening → PortState → PortState
opened_to opening port = record port { opening = Some opening }

-- No call was made of the port.
pub record IsNewPort (port : PortState) : Type 0 where
  pub none : port.packets ≡ []
  pub uncalled : port.calls.made ≡ 0
  pub no_faults : port.calls.faults ≡ 0
