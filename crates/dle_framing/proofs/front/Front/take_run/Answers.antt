use Rattle.std.proofs.Common.{◌≡◌, ℕ, ◌-◌, length, take, drop, refl, sym, ap, ◌∙◌, arith}
use Rattle.std.proofs.lemmas.List.{length-take, length-take-le, take_rest}
use Rattle.dle_framing.proofs.FrontLemmas.{Parts, run-single, run-front, run-near}
use Rattle.dle_framing.proofs.front.Front.take_run.Goals as goal
use Rattle.dle_framing.proofs.front.Front.take_run.Goals.{After-take_far}

pub returns-then-count-near-clause-front : goal.returns-then-count-near-clause-front
returns-then-count-near-clause-front c =
    let text = c.args.text.now in
    let near = c.min-near.result in
    let count : length c.args.self.now ≡ c.self.inside.len = ap (length {A = ℕ}) (sym c.self.view_is) ∙ length-take-le c.self.inside.len c.self.inside.bytes (omega arith) in
    run-near c.args.self.now c.take_near-count.new.self text (take near text) near c.take_near-count.result refl
    (omega (arith, c.take_near-count.ensures.within, length-take near text)) c.take_near-count.ensures.front (omega arith)

-- what was taken one by one, and what was left
parts : (c : After-take_far) → Parts c.args.text.now (take c.min-near.result c.args.text.now) (take (length c.args.text.now - c.take_near-count.result) (drop c.take_near-count.result c.args.text.now)) c.min-near.result c.take_near-count.result
parts c = record {
  part_is = refl;
  left_is = take_rest c.args.text.now c.take_near-count.result;
  all_near = omega (arith, c.take_near-count.ensures.within, length-take c.min-near.result c.args.text.now);
}

pub returns-clause-single : goal.returns-clause-single
returns-clause-single c =
    run-single c.args.text.now _ _ _ c.take_near-count.result c.take_far.result (parts c) c.take_near-count.ensures.single c.take_far.ensures.single

pub returns-clause-front : goal.returns-clause-front
returns-clause-front c =
    run-front c.args.self.now c.take_near-count.new.self c.take_far.new.self c.args.text.now _ _ _ c.take_near-count.result c.take_far.result (parts c) c.take_near-count.ensures.front c.take_far.ensures.front
