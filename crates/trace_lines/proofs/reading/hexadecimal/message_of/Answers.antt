use Rattle.std.proofs.Common.{arith}
use Rattle.std.proofs.lemmas.List.{length-take}
use Rattle.trace_lines.proofs.UpperHex.{hex_of, no_odd_hex}
use Rattle.trace_lines.proofs.MessageHex.{few_digits, text_hex}
use Rattle.trace_lines.proofs.reading.hexadecimal.message_of.Goals as goal

pub returns-then-digits-gt-MAX_DIGITS-clause-only : goal.returns-then-digits-gt-MAX_DIGITS-clause-only
returns-then-digits-gt-MAX_DIGITS-clause-only c = λ message is.
    let few = few_digits c.args.digits.now message is in
    absurd (omega (arith, few, c.if-digits-gt-MAX_DIGITS.true))

pub returns-then-digits-eq1-clause-only : goal.returns-then-digits-eq1-clause-only
returns-then-digits-eq1-clause-only c = λ message is. absurd (no_odd_hex c.args.digits.now c.if-digits-eq1.true (text_hex c.args.digits.now message is))

pub message_within-requires-clause-hex : goal.message_within-requires-clause-hex
message_within-requires-clause-hex c = hex_of c.args.digits.now (omega (arith, c.if-digits-eq1.false)) c.requires

pub message_within-requires-clause-room : goal.message_within-requires-clause-room
message_within-requires-clause-room c = simp length-take (omega (arith, c.if-digits-eq1.false, c.if-digits-gt-MAX_DIGITS.false))
