-- What the room of a line has room for, and what it is once the line was lent.
use Rattle.std.specs.Prelude.{◌≡◌, ⊤, ℕ}
use Rattle.std.specs.Borrow.{follows_so, MutBor, Fml}
use mathlib.Core.Option.{none}
use Rattle.trace_lines.specs.declared.writing.line_room.LineRoom.{LineRoom}
use Rattle.trace_lines.specs.contracts.writing.line_room.LineRoom.{the_row}

-- the most bytes of a request: a word, three numbers and the spaces between them
abbrev pub most_request : ℕ
most_request = 67

-- It ends as it was, so that another line can be written.
abbrev pub LineStays : MutBor LineRoom → Fml
LineStays line =
    follows_so the_row the_row line.ghost_name none (λ _ _. ⊤) (λ last. last ≡ line.now)
