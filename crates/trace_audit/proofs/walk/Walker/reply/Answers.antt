-- What a step answers may be told as its reply.
use Rattle.std.proofs.Common.{◌≤◌, List, length, sym, ◌∙◌, subst, arith}
use Rattle.plant_core.specs.declared.answer.Answer.{Answer}
use Rattle.plant_core.specs.State.{IsValid}
use Rattle.plant_core.proofs.StepValidity.{IsValid-step}
use Rattle.panel_session.specs.Reply.{MayReply}
use Rattle.trace_audit.proofs.WalkLemmas.{few_answers, may_reply}
use Rattle.trace_audit.proofs.walk.Walker.reply.Goals as goal

pub append_reply-requires-clause-few : goal.append_reply-requires-clause-few
append_reply-requires-clause-few c =
    let Of : List Answer → Type 0 = λ answers. length answers ≤ 1024 in
    subst Of (sym c.items.ensures)
    (few_answers c.args.self.now.state c.args.request.now c.step.new.out.items c.requires.ready.valid c.step.ensures.count)

pub append_reply-requires-clause-reply : goal.append_reply-requires-clause-reply
append_reply-requires-clause-reply c =
    subst (MayReply c.args.plant.now c.args.request.now) (sym c.items.ensures)
    (may_reply c.args.plant.now c.args.self.now.state c.args.request.now c.step.new.out.items c.requires.ready.plant_is c.requires.ready.valid c.step.ensures.count c.step.ensures.answers)

pub returns-clause-ready : goal.returns-clause-ready
returns-clause-ready c = record {
  plant_is = c.step.ensures.plant ∙ c.requires.ready.plant_is;
  valid = subst IsValid (sym c.step.ensures.state) (IsValid-step c.args.self.now.state c.args.request.now c.requires.ready.valid);
  places = omega (arith, c.requires.ready.places, c.step.ensures.places, c.clear.ensures.places);
  room = omega (arith, c.requires.ready.room, c.clear-2.ensures.capacity, c.append_reply.ensures.room);
}
