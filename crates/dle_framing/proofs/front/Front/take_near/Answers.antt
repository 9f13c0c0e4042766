use Rattle.std.proofs.Common.{◌≡◌, ℕ, length, take, refl, sym, ap, ◌∙◌, arith}
use Rattle.std.proofs.lemmas.List.{length-take-le}
use Rattle.dle_framing.proofs.FrontLemmas.{front-grown, total-more}
use Rattle.dle_framing.proofs.front.Front.take_near.Goals as goal

pub returns-clause-front : goal.returns-clause-front
returns-clause-front c =
    let count : length c.args.self.now ≡ c.self.inside.len = ap (length {A = ℕ}) (sym c.self.view_is) ∙ length-take-le c.self.inside.len c.self.inside.bytes (omega arith) in
    front-grown c.args.self.now c.self.inside.bytes c.copy_run-count.new.into c.args.text.now c.self.inside.len c.copy_run-count.result.0 c.self.view_is c.self.told (omega arith) c.copy_run-count.auto.into
    (omega (arith, c.copy_run-count.ensures.within)) c.copy_run-count.ensures.copied

pub invariant_of-self : goal.invariant_of-self
invariant_of-self c =
    let count : length c.args.self.now ≡ c.self.inside.len = ap (length {A = ℕ}) (sym c.self.view_is) ∙ length-take-le c.self.inside.len c.self.inside.bytes (omega arith) in
    let grown = front-grown (take c.self.inside.len c.self.inside.bytes) c.self.inside.bytes c.copy_run-count.new.into c.args.text.now c.self.inside.len c.copy_run-count.result.0 refl c.self.told (omega arith) c.copy_run-count.auto.into
    (omega (arith, c.copy_run-count.ensures.within, length-take-le c.self.inside.len c.self.inside.bytes (omega arith))) c.copy_run-count.ensures.copied in (
      omega arith,
      total-more c.self.inside.total c.copy_run-count.result.1 (take c.self.inside.len c.self.inside.bytes) (take c.copy_run-count.result.0 c.args.text.now) _ grown c.self.invariant.1 c.copy_run-count.ensures.total,
    )
