use Rattle.std.proofs.Common.{ℕ, All, get_or, subst, arith}
use Rattle.std.proofs.lemmas.Bool.{OnTrue_from, OnFalse_from, ltb-true, ltb-false}
use Rattle.std.proofs.lemmas.List.{take_all}
use Rattle.std.proofs.lemmas.List.Elements.{All-more}
use Rattle.std.proofs.lemmas.Nat.{le_or_l, le_or_r, or_lt}
use Rattle.trace_lines.specs.LineInside.{IsHex, IsUpperDigit}
use Rattle.trace_lines.proofs.HexValues.{value_small, small_value}
use Rattle.trace_lines.proofs.UpperHex.{no_odd_hex, hex_digits, hex_of}
use Rattle.trace_lines.proofs.reading.hexadecimal.is_hex.Goals as goal

pub returns-then-text-eq1-clause-no : goal.returns-then-text-eq1-clause-no
returns-then-text-eq1-clause-no c = no_odd_hex c.args.text.now c.if-text-eq1.true

pub loop-byte-preserved : goal.loop-byte-preserved
loop-byte-preserved c =
    let byte : ℕ = get_or c.args.text.now c.loop-byte.byte-index 0 in
    record {
      read = λ fits.
          let so_far = c.loop-byte.invariant.read (omega (arith, fits, le_or_l c.loop-byte.all c.value_of-all.result)) in
          let digit : IsUpperDigit byte = small_value byte (omega (arith, fits, le_or_r c.loop-byte.all c.value_of-all.result, c.value_of-all.ensures)) in
          All-more IsUpperDigit c.args.text.now c.loop-byte.byte-index 0 c.loop-byte-test.true so_far digit;
      small = λ hex.
          let value = value_small byte (hex_digits c.args.text.now hex c.loop-byte.byte-index 0 c.loop-byte-test.true) in
          or_lt 4 c.loop-byte.all c.value_of-all.result (c.loop-byte.invariant.small hex) (omega (arith, value, c.value_of-all.ensures));
    }

pub returns-clause-yes : goal.returns-clause-yes
returns-clause-yes c =
    let all = take_all c.loop-byte.byte-index c.args.text.now (omega (arith, c.loop-byte-test.false)) in
    OnTrue_from _ (IsHex c.args.text.now) (λ is.
    hex_of c.args.text.now (omega (arith, c.if-text-eq1.false)) (subst (All IsUpperDigit) all (c.loop-byte.invariant.read (ltb-true c.loop-byte.all 16 is))))

pub returns-clause-no : goal.returns-clause-no
returns-clause-no c = OnFalse_from _ (IsHex c.args.text.now → ⊥) (λ isnt hex. let past = ltb-false c.loop-byte.all 16 isnt in let small = c.loop-byte.invariant.small hex in absurd (omega (arith, past, small)))
