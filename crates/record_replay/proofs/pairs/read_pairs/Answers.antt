use Rattle.std.proofs.Common.{◌≡◌, ℕ, ◌*◌, refl, subst, arith}
use Rattle.hex.specs.Hex.{decode_pairs}
use Rattle.record_replay.specs.PairsInside.{AreRead}
use Rattle.record_replay.proofs.pairs.read_pairs.Goals as goal

pub loop-i-init : goal.loop-i-init
unfolding decode_pairs
loop-i-init c = refl

pub returns-clause-read : goal.returns-clause-read
returns-clause-read c =
    let all : 4 * c.loop-i.i ≡ 256 = omega arith in
    subst (λ (count : ℕ). AreRead count c.args.text.now c.loop-i.room) all c.loop-i.invariant
