use Rattle.std.proofs.Common.{◌+◌, List, ◌∷◌, drop, sym, ap, ◌∙◌, arith}
use Rattle.std.proofs.lemmas.List.{at_drop_more}
use Rattle.plant_core.specs.declared.answer.Answer.{Answer}
use Rattle.panel_session.specs.Text.{Output, frames_behind, with_frames}
use Rattle.panel_session.proofs.sending.outgoing.Outgoing.add_pages.Goals as goal

pub loop-answer-preserved : goal.loop-answer-preserved
loop-answer-preserved c =
    let Left : List Answer → Output = λ left. with_frames (frames_behind c.loop-answer.page left) c.loop-answer.self.output in
    let later = drop (c.loop-answer.answer-index + 1) c.args.answers.now in
    record {
      output = c.add.ensures.output later
          ∙ ap (λ (answer : Answer). Left (answer ∷ later)) c.answer-item.is
          ∙ sym (at_drop_more Left c.args.answers.now c.loop-answer.answer-index c.answer-item.result c.loop-answer-test.true)
          ∙ c.loop-answer.invariant.output;
      most = omega (arith, c.add.ensures.most, c.loop-answer.invariant.most);
      same = c.add.ensures.room ∙ c.loop-answer.invariant.same;
    }
