use Rattle.std.proofs.Common.{◌≡◌, List, ℕ, refl, ap, ◌∙◌, subst}
use Rattle.plant_core.specs.declared.answer.Answer.{Answer}
use Rattle.panel_session.specs.MovesInside.{answered_too}
use Rattle.panel_session.specs.RoomsInside.{fitting}
use Rattle.panel_session.specs.SenderKept.{SenderData}
use Rattle.panel_session.specs.Session.{made_by}
use Rattle.panel_session.specs.Text.{frames_of, with_frames}
use Rattle.panel_session.proofs.AheadLemmas.{spelled_alone}
use Rattle.panel_session.proofs.session.Session.send_answers.Goals as goal

pub returns-then-not-trace-clause-cut : goal.returns-then-not-trace-clause-cut
returns-then-not-trace-clause-cut g c =
    let self = c.args.self.now in
    let bytes : c.as_slice-bytes.result.now ≡ made_by (answered_too self.outbox.items self) =
    c.as_slice-bytes.ensures ∙ ap (λ (sends : SenderData). sends.output.bytes) c.answer_too.ensures.output
    ∙ ap (λ (answers : List Answer). (with_frames (frames_of (fitting self.sender.names answers)) self.sender.output).bytes) c.items.ensures in
    λ first entry enters is answers. (
      c.if-not-trace.ensures.part first entry enters is (λ yes. bytes ∙ spelled_alone self self.outbox.items entry (c.requires.alone yes) answers),
      refl,
    )

pub returns-then-is_empty-clause-traced : goal.returns-then-is_empty-clause-traced
returns-then-is_empty-clause-traced g c =
    let self = c.args.self.now in
    let bytes : c.as_slice-bytes.result.now ≡ made_by (answered_too self.outbox.items self) =
    c.as_slice-bytes.ensures ∙ ap (λ (sends : SenderData). sends.output.bytes) c.answer_too.ensures.output
    ∙ ap (λ (answers : List Answer). (with_frames (frames_of (fitting self.sender.names answers)) self.sender.output).bytes) c.items.ensures in
    λ first entry enters is answers. c.if-not-trace.ensures.traced first entry enters is (λ yes. bytes ∙ spelled_alone self self.outbox.items entry (c.requires.alone yes) answers)

pub returns-then-give-clause-traced : goal.returns-then-give-clause-traced
returns-then-give-clause-traced g c =
    let self = c.args.self.now in
    let bytes : c.as_slice-bytes.result.now ≡ made_by (answered_too self.outbox.items self) =
    c.as_slice-bytes.ensures ∙ ap (λ (sends : SenderData). sends.output.bytes) c.answer_too.ensures.output
    ∙ ap (λ (answers : List Answer). (with_frames (frames_of (fitting self.sender.names answers)) self.sender.output).bytes) c.items.ensures in
    λ first entry enters is answers. c.if-not-trace.ensures.traced first entry enters is (λ yes. bytes ∙ spelled_alone self self.outbox.items entry (c.requires.alone yes) answers)

pub returns-else-give-clause-cut : goal.returns-else-give-clause-cut
returns-else-give-clause-cut g c =
    let self = c.args.self.now in
    let bytes : c.as_slice-bytes.result.now ≡ made_by (answered_too self.outbox.items self) =
    c.as_slice-bytes.ensures ∙ ap (λ (sends : SenderData). sends.output.bytes) c.answer_too.ensures.output
    ∙ ap (λ (answers : List Answer). (with_frames (frames_of (fitting self.sender.names answers)) self.sender.output).bytes) c.items.ensures in
    let Failed : List ℕ → Type 0 = λ bytes. g.O.Outlet.Failed c.args.out.now bytes c.give.new.self in
    λ first entry enters is answers. (
      c.if-not-trace.ensures.traced first entry enters is (λ yes. bytes ∙ spelled_alone self self.outbox.items entry (c.requires.alone yes) answers),
      subst Failed c.as_slice-bytes.ensures c.if-give.ensures.failed,
    )
