use Rattle.std.proofs.Common.{ℕ, ◌+◌, ◌≤◌, inl, inr, ap, arith}
use Rattle.std.proofs.lemmas.Bool.{cases_eq}
use Rattle.plant_core.specs.StateFields.{byte_at}
use Rattle.plant_core.proofs.notices_fault.greatest.Goals as goal
use Rattle.plant_core.proofs.notices_fault.greatest.Goals.{then-most-byte, else-most-byte}

pub loop-at-preserved : goal.loop-at-preserved
loop-at-preserved c =
    let before : c.loop-at.most ≤ c.if-most-byte.most = elim c.if-most-byte.branch [ then-most-byte w ↦ omega (arith, w.if-most-byte.true, w.most-is) | else-most-byte w ↦ omega (arith, w.most-is) ] in
    let here : c.byte_at-byte.result ≤ c.if-most-byte.most = elim c.if-most-byte.branch [ then-most-byte w ↦ omega (arith, w.most-is) | else-most-byte w ↦ omega (arith, w.if-most-byte.false, w.most-is) ] in
    λ at below. elim (cases_eq at c.loop-at.at) [
      | inl same ↦ omega (arith, here, c.byte_at-byte.ensures, ap (λ (more : ℕ). byte_at c.args.bytes.now (c.args.place + more)) same)
      | inr other ↦ omega (arith, before, c.loop-at.invariant at (omega (arith, below, other)))
    ]
