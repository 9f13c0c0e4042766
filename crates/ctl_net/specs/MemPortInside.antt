-- The fields of a display port in memory.
use Rattle.std.specs.Prelude.{◌≡◌, ◌≤◌, length, map, vec_capacity}
use Rattle.std.specs.List.{concat}
use Rattle.ctl_net.specs.Cut.{cut}
use Rattle.ctl_net.specs.MemPort.{PortState}
use Rattle.ctl_net.specs.declared.memory.mem_port.MemPort.TheInside.{Inside}

-- the port, without where it lies in memory
abbrev pub port_state : Inside → PortState
port_state port = record {
  opening = port.opening;
  packets = cut port.lengths.items port.bytes.items;
  room = vec_capacity port.bytes;
  calls = port.calls;
}

-- The bytes are cut into pieces of these lengths, which are no more than the bytes, and there is room for as many lengths
-- as for bytes.
pub record IsCut (port : Inside) : Type 0 where
  pub whole : concat (cut port.lengths.items port.bytes.items) ≡ port.bytes.items
  pub sized : map length (cut port.lengths.items port.bytes.items) ≡ port.lengths.items
  pub few : length port.lengths.items ≤ length port.bytes.items
  pub room : vec_capacity port.bytes ≤ vec_capacity port.lengths
