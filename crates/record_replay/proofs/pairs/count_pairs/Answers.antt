use Rattle.std.proofs.Common.{◌≡◌, ℕ, ◌*◌, [], refl, subst, arith}
use Rattle.hex.specs.Hex.{decode_pairs}
use Rattle.record_replay.specs.PairsInside.{ArePairs}
use Rattle.record_replay.proofs.pairs.count_pairs.Goals as goal

pub loop-i-init : goal.loop-i-init
unfolding decode_pairs
loop-i-init c = ([], refl)

pub returns-clause-digits : goal.returns-clause-digits
returns-clause-digits c =
    let all : 4 * c.loop-i.i ≡ 256 = omega arith in
    subst (λ (count : ℕ). ArePairs count c.args.text.now) all c.loop-i.invariant
