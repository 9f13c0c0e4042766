use Rattle.std.proofs.Common.{ap, ◌∙◌, arith}
use Rattle.hex.specs.Hex.{upper_digits}
use Rattle.line_text.proofs.HexLemmas.{hex-step, hex-done}
use Rattle.line_text.proofs.hexadecimal.append_hex.Goals as goal

pub loop-byte-preserved : goal.loop-byte-preserved
loop-byte-preserved c = record {
  bytes = rw (c.push_reserved-in-loop-byte.ensures.items, c.push_reserved.ensures.items)
      (hex-step upper_digits c.args.bytes.now c.loop-byte.whole.items _ c.loop-byte.byte-index _ _ c.loop-byte-test.true c.digits_of-high.ensures.high c.digits_of-high.ensures.low c.loop-byte.invariant.bytes);
  len = omega (arith, c.push_reserved-in-loop-byte.ensures.len, c.push_reserved.ensures.len, c.loop-byte.invariant.len);
  room = c.push_reserved-in-loop-byte.ensures.capacity ∙ c.push_reserved.ensures.capacity ∙ c.loop-byte.invariant.room;
}

pub returns-clause-bytes : goal.returns-clause-bytes
returns-clause-bytes c =
    ap (λ out. out.items) c.replace.ensures.after
    ∙ hex-done upper_digits c.args.bytes.now c.loop-byte.whole.items _ c.loop-byte.byte-index c.loop-byte-test.false c.loop-byte.invariant.bytes
