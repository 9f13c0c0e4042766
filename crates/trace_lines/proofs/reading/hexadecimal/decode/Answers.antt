use Rattle.std.proofs.Common.{◌≡◌, List, ℕ, ◌*◌, ◌+◌, get_or, sym, ◌∙◌, ap, arith}
use Rattle.hex.specs.Hex.{encode_upper}
use Rattle.trace_lines.proofs.UpperHex.{hex_digits, hex_length}
use Rattle.trace_lines.proofs.HexValues.{value_small, pairs_are}
use Rattle.trace_lines.proofs.reading.hexadecimal.decode.Goals as goal

pub overflow_mul-room : goal.overflow_mul-room
overflow_mul-room c =
    let digit = hex_digits c.args.digits.now c.requires.hex (2 * c.loop-i.i) 0 (omega (arith, c.requires.room, c.loop-i-test.true)) in
    let small = value_small (get_or c.args.digits.now (2 * c.loop-i.i) 0) digit in
    omega (arith, small, c.value_of-high.ensures)

pub overflow_add-room : goal.overflow_add-room
overflow_add-room c =
    let high = hex_digits c.args.digits.now c.requires.hex (2 * c.loop-i.i) 0 (omega (arith, c.requires.room, c.loop-i-test.true)) in
    let low = hex_digits c.args.digits.now c.requires.hex (2 * c.loop-i.i + 1) 0 (omega (arith, c.requires.room, c.loop-i-test.true)) in
    let first = value_small (get_or c.args.digits.now (2 * c.loop-i.i) 0) high in
    let second = value_small (get_or c.args.digits.now (2 * c.loop-i.i + 1) 0) low in
    omega (arith, first, second, c.value_of-high.ensures, c.value_of-low.ensures)

pub returns-clause-bytes : goal.returns-clause-bytes
returns-clause-bytes c =
    let hex = c.requires.hex in
    let len = hex_length c.args.digits.now hex in
    let room : c.loop-i.room ≡ hex.bytes =
    pairs_are hex.bytes c.loop-i.room c.args.digits.now hex.each hex.text_is (omega (arith, len, c.requires.room, c.loop-i.auto.room))
    (λ place below. c.loop-i.invariant place (omega (arith, below, c.loop-i.auto.room, c.loop-i-test.false))) in
    hex.text_is ∙ ap (λ (bytes : List ℕ). encode_upper bytes) (sym room)

pub returns-clause-only : goal.returns-clause-only
returns-clause-only c = λ bytes each is.
    let len = hex_length c.args.digits.now (record { bytes = bytes; each = each; text_is = is }) in
    pairs_are bytes c.loop-i.room c.args.digits.now each is (omega (arith, len, c.requires.room, c.loop-i.auto.room))
    (λ place below. c.loop-i.invariant place (omega (arith, below, c.loop-i.auto.room, c.loop-i-test.false)))
