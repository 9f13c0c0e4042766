use Rattle.std.specs.Prelude.{codes, true}
use Rattle.std.proofs.Common.{refl, inl}
use Rattle.command_rows.proofs.WrittenLemmas.{number-all}
use Rattle.command_standby.proofs.row.refuse_line.Goals as goal

pub returns-then-write_number : goal.returns-then-write_number
returns-then-write_number g c =
    inl (record {
      status_is = refl;
      appends = number-all true (codes "trace line ") (codes " refused") _ _ _ c.if-write_number.ensures.all;
      faults = c.if-write_number.ensures.count;
    })
