use Rattle.std.proofs.Common.{◌≡◌, ◌++◌, string_bytes}
use Rattle.std.specs.List.{flat_map, range_with_len}
use Rattle.command_standby.specs.Standing.{dest_text}
use Rattle.command_standby.proofs.text.push_crosspoints.Given as goal

abbrev pub invariant-loop-dest : goal.invariant-loop-dest
invariant-loop-dest l = string_bytes l.text ≡ string_bytes l.initial.text ++ flat_map (dest_text l.state) (range_with_len 0 l.dest)
