use Rattle.std.proofs.Common.{ℕ, ◌≤◌, List, length, refl, sym, ◌∙◌, subst}
use Rattle.trace_lines.specs.TraceLine.{most_head}
use Rattle.trace_lines.proofs.writing.line_room.LineRoom.head.Goals as goal

pub returns : goal.returns
returns c =
    let Few : List ℕ → Type 0 = λ bytes. length bytes ≤ most_head in (
      (refl, λ _. tt, c.self.view_is),
      record { stays = tt; head = c.bytes.ensures.value ∙ c.put_head.ensures.head; most = subst Few (sym c.bytes.ensures.value) c.put_head.ensures.most },
    )
