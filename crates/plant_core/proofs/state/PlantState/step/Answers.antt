use Rattle.std.proofs.Common.{◌≡◌, [], ◌∷◌, ◌++◌, List, All, ap, length, sym, subst, ◌∙◌}
use Rattle.plant_core.specs.declared.answer.Answer.{Answer}
use Rattle.plant_core.specs.declared.request.Request.{Request}
use Rattle.plant_core.specs.declared.request.Request.TheVariants.{Told, Poll, DisplayPoll}
use Rattle.plant_core.specs.State.{State, Fits, IsValid}
use Rattle.plant_core.specs.Short.{StaysShort}
use Rattle.plant_core.specs.Step.{step}
use Rattle.plant_core.specs.Answer.{IsSayable, IsAnswerCount}
use Rattle.plant_core.proofs.AnswerLemmas.{All-sayable}
use Rattle.plant_core.proofs.CountLemmas.{answer_count}
use Rattle.plant_core.proofs.state.PlantState.step.Goals as goal

-- what the definition answers can be spelled
sayable_items : (state : State) (request : Request) (items : List Answer) → IsValid state → StaysShort state → Fits state request → items ≡ (step state request).answers → All IsSayable items
sayable_items state request items valid short fits are = subst (All IsSayable) (sym are) (All-sayable state request valid short fits)

pub returns-in-Told-clause-count : goal.returns-in-Told-clause-count
returns-in-Told-clause-count c =
    let told : Request = Told c.in-Told.panel c.in-Told.item c.in-Told.message in
    let fits = subst (Fits c.args.self.now) c.in-Told.is c.requires.fits in
    subst (λ (request : Request). IsAnswerCount c.args.self.now.plant request (length c.answer.new.out.items)) (sym c.in-Told.is)
    (subst (λ (items : List Answer). IsAnswerCount c.args.self.now.plant told (length items)) (sym c.answer.ensures.answers) (answer_count c.args.self.now told fits))

pub returns-in-Told-clause-sayable : goal.returns-in-Told-clause-sayable
returns-in-Told-clause-sayable c =
    let fits = subst (Fits c.args.self.now) c.in-Told.is c.requires.fits in
    sayable_items c.args.self.now (Told c.in-Told.panel c.in-Told.item c.in-Told.message) _ c.answer.ensures.valid c.is_kept.ensures.short fits c.answer.ensures.answers

pub returns-in-Some-clause-sayable : goal.returns-in-Some-clause-sayable
returns-in-Some-clause-sayable c =
    let fits = subst (Fits c.args.self.now) c.in-Poll.is c.requires.fits in
    sayable_items c.args.self.now (Poll c.in-Poll.panel c.in-Poll.at c.in-Poll.turn) _ c.poll.ensures.valid c.is_kept.ensures.short fits
    (c.put.ensures.items ∙ ap (λ items. items ++ c.in-Some.answer ∷ []) c.requires.empty ∙ c.in-Some.ensures.answer)

pub returns-in-DisplayPoll-clause-count : goal.returns-in-DisplayPoll-clause-count
returns-in-DisplayPoll-clause-count c =
    let poll : Request = DisplayPoll c.in-DisplayPoll.screen c.in-DisplayPoll.refresh in
    let fits = subst (Fits c.args.self.now) c.in-DisplayPoll.is c.requires.fits in
    subst (λ (request : Request). IsAnswerCount c.args.self.now.plant request (length c.poll_display.new.out.items)) (sym c.in-DisplayPoll.is)
    (subst (λ (items : List Answer). IsAnswerCount c.args.self.now.plant poll (length items)) (sym c.poll_display.ensures.answers) (answer_count c.args.self.now poll fits))

pub returns-in-DisplayPoll-clause-sayable : goal.returns-in-DisplayPoll-clause-sayable
returns-in-DisplayPoll-clause-sayable c =
    let fits = subst (Fits c.args.self.now) c.in-DisplayPoll.is c.requires.fits in
    sayable_items c.args.self.now (DisplayPoll c.in-DisplayPoll.screen c.in-DisplayPoll.refresh) _ c.poll_display.ensures.valid c.is_kept.ensures.short fits c.poll_display.ensures.answers
