use Rattle.std.proofs.Common.{refl, ◌∙◌, arith}
use Rattle.trace_lines.proofs.writing.line_room.LineRoom.write.Goals as goal

pub returns : goal.returns
returns c = (
  (refl, λ _. tt, c.self.view_is),
  record { stays = tt; line = c.bytes.ensures.value ∙ c.put_line.ensures.line; most = omega (arith, c.bytes.ensures.most) },
)
