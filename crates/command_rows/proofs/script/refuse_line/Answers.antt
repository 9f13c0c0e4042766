use Rattle.std.specs.Prelude.{codes, true}
use Rattle.std.proofs.Common.{refl, inl, inr}
use Rattle.command_rows.proofs.WrittenLemmas.{number-all, number-front}
use Rattle.command_rows.proofs.script.refuse_line.Goals as goal

pub returns-then-write_number : goal.returns-then-write_number
returns-then-write_number g c =
    inl (record {
      status_is = refl;
      appends = number-all true (codes "script line ") (codes " refused") _ _ _ c.if-write_number.ensures.all;
      faults = c.if-write_number.ensures.count;
    })

pub returns-else-write_number : goal.returns-else-write_number
returns-else-write_number g c =
    inr (record {
      status_is = refl;
      appends = number-front (codes "script line ") (codes " refused") _ _ _ c.if-write_number.ensures.front;
      faults = c.if-write_number.ensures.count;
    })
