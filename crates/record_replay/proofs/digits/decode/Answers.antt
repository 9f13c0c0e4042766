use Rattle.std.proofs.Common.{◌≡◌, ℕ, ◌*◌, ◌%◌, ◌^◌, inl, inr, arith}
use Rattle.std.proofs.lemmas.Bool.{cases_lt}
use Rattle.std.proofs.lemmas.Nat.{le_or_l, le_or_r, or_lt}
use Rattle.hex.proofs.Pairs.{decode_step}
use Rattle.record_replay.proofs.PairsLemmas.{pair_at, pair_fits}
use Rattle.record_replay.proofs.DigitsLemmas.{decode_of-refused, decode_of-all}
use Rattle.record_replay.proofs.digits.decode.Goals as goal

pub loop-i-preserved : goal.loop-i-preserved
loop-i-preserved c =
    let word : ℕ = c.byte_of-byte.result in
    let l = le_or_l c.loop-i.all word in
    let r = le_or_r c.loop-i.all word in
    record {
      read = λ small.
          let digits = c.byte_of-byte.ensures.digits (omega (arith, r, small)) in
          let same : word % 256 ≡ word = omega (arith, pair_fits _ _ _ digits) in
          rw same (decode_step c.args.digits.now c.loop-i.room c.loop-i.i word (omega arith) (omega arith)
          (pair_at _ _ _ digits (2 * c.loop-i.i)) (c.loop-i.invariant.read (omega (arith, l, small))));
      refused = λ large. elim (cases_lt c.loop-i.all (2 ^ 31)) [
        | inr before ↦ c.loop-i.invariant.refused before
        | inl so_far ↦ elim (cases_lt word (2 ^ 31)) [
          | inr here ↦ decode_of-refused _ c.loop-i.room c.loop-i.i c.if-digits-eq1.false (omega arith) (c.byte_of-byte.ensures.other here) (c.loop-i.invariant.read so_far)
          | inl fits ↦ absurd (omega (arith, large, or_lt 31 c.loop-i.all word so_far fits))
        ]
      ];
    }

pub returns-clause-decoded : goal.returns-clause-decoded
returns-clause-decoded c = decode_of-all _ _ c.loop-i.i c.if-digits-eq1.false (omega arith) (c.loop-i.invariant.read (omega arith))
