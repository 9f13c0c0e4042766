use Rattle.std.proofs.Common.{◌≡◌, ◌+◌, ◌*◌, ◌++◌, take, vec_len, vec_capacity}
use Rattle.std.specs.List.{flat_map}
use Rattle.swp08_messages.specs.Field.{number_of}
use Rattle.swp08_messages.specs.Dump.{wide_bytes}
use Rattle.swp08_messages.proofs.dump.write_dump.Given as goal

-- The numbers of the sources so far were appended.
abbrev pub invariant-loop-source : goal.invariant-loop-source
invariant-loop-source l = record {
  text : l.out.items ≡ l.initial.out.items ++ flat_map (λ source. wide_bytes (number_of source)) (take l.source-index l.sources);
  len : vec_len l.out ≡ vec_len l.initial.out + 2 * l.source-index;
  capacity : vec_capacity l.out ≡ vec_capacity l.initial.out;
}
