use Rattle.std.proofs.Common.{◌+◌, List, ◌∷◌, drop, sym, ap, ◌∙◌, arith}
use Rattle.std.proofs.lemmas.List.{at_drop_more}
use Rattle.plant_core.specs.declared.answer.Answer.{Answer}
use Rattle.panel_session.specs.Text.{Output, frames_of, with_frames}
use Rattle.panel_session.proofs.sending.outgoing.Outgoing.say_first.Goals as goal

pub loop-said-preserved : goal.loop-said-preserved
loop-said-preserved c =
    let Left : List Answer → Output = λ left. with_frames (frames_of left) c.loop-said.self.output in
    let later = drop (c.loop-said.said + 1) c.args.answers.now in
    record {
      within = omega arith;
      output = ap (with_frames (frames_of later)) c.say.ensures.output
          ∙ ap (λ (answer : Answer). Left (answer ∷ later)) (sym c.in-Say.is)
          ∙ sym (at_drop_more Left c.args.answers.now c.loop-said.said _ c.loop-said-test.true)
          ∙ c.loop-said.invariant.output;
      most = omega (arith, c.say.ensures.most, c.loop-said.invariant.most);
      same = c.say.ensures.room ∙ c.loop-said.invariant.same;
    }
