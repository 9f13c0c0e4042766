-- The tapes that the sessions of a drill write to.
use Rattle.std.specs.Prelude.{◌≡◌, ℕ, ◌<◌, ◌≤◌, List, [], length}
use Rattle.ctl_io.specs.Calls.{uncalled}
use Rattle.ctl_io.specs.Memory.{SinkState}

-- a tape with so much room, on which nothing was written
abbrev pub new_tape : ℕ → SinkState
new_tape room = record { written = []; room = room; calls = uncalled [] }

-- a tape on which are these bytes, with room for so many, and of which so many writes failed
abbrev pub tape_of : List ℕ → ℕ → ℕ → SinkState
tape_of bytes room faults = record {
  written = bytes;
  room = room;
  calls = record { failing = []; made = 0; faults = faults };
}

-- On a tape is no more than it has room for, and a write failed only where it was full.
pub record IsTape (tape : SinkState) : Type 0 where
  pub none_listed : tape.calls.failing ≡ []
  pub within : length tape.written ≤ tape.room
  pub full : 0 < tape.calls.faults → length tape.written ≡ tape.room
