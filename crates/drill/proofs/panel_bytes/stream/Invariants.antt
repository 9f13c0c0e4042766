use Rattle.std.proofs.Common.{◌≡◌, ◌≤◌, ◌*◌, vec_capacity, vec_len}
use Rattle.drill.specs.Draws.{seed_after}
use Rattle.drill.specs.Messages.{draws_each}
use Rattle.drill.specs.Stream.{stream}
use Rattle.drill.proofs.panel_bytes.stream.Given as goal

-- What was made so far is the bytes of so many messages, in room for all.
abbrev pub invariant-loop-at : goal.invariant-loop-at
invariant-loop-at l = record {
  made : l.bytes.items ≡ stream l.fn.number l.fn.panel l.at;
  seed : l.seed ≡ seed_after l.fn.number l.fn.panel (draws_each * l.at);
  most : vec_len l.bytes ≤ 24 * l.at;
  room : 24 * l.fn.count ≤ vec_capacity l.bytes;
  kept : 8 ≤ vec_capacity l.data;
}
