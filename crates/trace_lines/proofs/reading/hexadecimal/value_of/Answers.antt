use Rattle.std.proofs.Common.{refl, arith}
use Rattle.trace_lines.specs.LineInside.{hex_value}
use Rattle.trace_lines.specs.declared.reading.hexadecimal.TheConstants.{VALUES}
use Rattle.trace_lines.proofs.HexValues.{values_are}
use Rattle.trace_lines.proofs.reading.hexadecimal.value_of.Goals as goal

pub returns : goal.returns
unfolding hex_value
returns c = values_are VALUES c.args.byte (omega arith) refl
