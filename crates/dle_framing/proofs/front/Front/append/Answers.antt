use Rattle.std.proofs.Common.{◌≡◌, ℕ, ◌+◌, ◌-◌, ◌≤◌, ◌++◌, length, take, sym, ap, ◌∙◌, arith}
use Rattle.std.proofs.lemmas.List.{length-take-le}
use Rattle.std.proofs.lemmas.Slice.{take-put_mid}
use Rattle.dle_framing.proofs.FrontLemmas.{total-part}
use Rattle.dle_framing.proofs.front.Front.append.Goals as goal

pub invariant_of-self : goal.invariant_of-self
invariant_of-self c =
    let front = c.self.inside in
    let bytes = c.args.bytes.now in
    let count : length c.args.self.now ≡ front.len = ap (length {A = ℕ}) (sym c.self.view_is) ∙ length-take-le front.len front.bytes (omega arith) in
    let full : front.len ≤ length front.bytes = omega arith in
    let mid = take-put_mid front.len (front.len + length bytes - front.len) front.bytes c.copy_from_slice.new.self (front.len + length bytes) (omega (arith, ap (length {A = ℕ}) c.copy_from_slice.ensures.after)) full in
    (omega arith, total-part front.total c.byte_sum.result _ bytes _ (mid ∙ ap (λ back. take front.len front.bytes ++ back) c.copy_from_slice.ensures.after) c.self.invariant.1 c.byte_sum.ensures)
