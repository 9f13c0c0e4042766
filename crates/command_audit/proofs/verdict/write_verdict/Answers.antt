use Rattle.std.specs.Prelude.{codes}
use Rattle.command_rows.proofs.WrittenLemmas.{number-all}
use Rattle.command_audit.proofs.VerdictLemmas.{same-difference}
use Rattle.command_audit.proofs.verdict.write_verdict.Goals as goal

pub returns-in-BadLine-clause-all : goal.returns-in-BadLine-clause-all
returns-in-BadLine-clause-all g c =
    rw c.in-BadLine.is (number-all c.write_number-in-BadLine.result (codes "trace line ") (codes " refused") _ _ _ c.write_number-in-BadLine.ensures.all)

pub returns-in-Differs-clause-all : goal.returns-in-Differs-clause-all
returns-in-Differs-clause-all g c =
    rw c.in-Differs.is
    (same-difference c.write_difference.result c.in-Differs.position c.in-Differs.kept c.in-Differs.wanted c.as_slice.result.now c.as_slice-in-Differs.result.now _ _ c.as_slice.ensures
    c.as_slice-in-Differs.ensures c.write_difference.ensures.all)
