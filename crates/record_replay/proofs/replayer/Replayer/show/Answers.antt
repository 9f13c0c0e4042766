use Rattle.std.proofs.Common.{rules, ◌≢◌, List, [], length, refl, sym, ap, ◌∙◌, subst, arith}
use Rattle.std.proofs.lemmas.Bool.{OnTrue_at, OnTrue_from, OnFalse_at, OnFalse_from}
use Rattle.plant_core.specs.declared.answer.Answer.{Answer}
use Rattle.plant_core.specs.declared.request.Request.TheVariants as requests
use Rattle.plant_core.specs.State.{State}
use Rattle.plant_core.specs.Step.{step}
use Rattle.display_packets.specs.DisplayPacket.{AreLamps}
use Rattle.record_replay.specs.OutputInside.{Puts}
use Rattle.record_replay.specs.Script.{Show}
use Rattle.record_replay.specs.Replay.{show_line}
use Rattle.record_replay.specs.Streamed.{packets_told}
use Rattle.record_replay.specs.PortInside.{SendsAll}
use Rattle.record_replay.proofs.ReplayerLemmas.{step_done, poll_lamps}
use Rattle.record_replay.proofs.replayer.Replayer.show.Goals as goal

pub tell_show-told-requires-clause-lamps : goal.tell_show-told-requires-clause-lamps
tell_show-told-requires-clause-lamps g c =
    let may = c.requires.may in
    let lamps = subst (AreLamps c.args.self.now.plant.now) (sym (c.items.ensures ∙ c.step.ensures.answers))
    (poll_lamps c.args.self.now.plant.now c.args.screen c.args.refresh c.args.self.now may.stand may.used may.stands) in search rules

pub tell_show-told-requires-clause-few : goal.tell_show-told-requires-clause-few
tell_show-told-requires-clause-few g c = omega (arith, c.step.ensures.count, ap (length {A = Answer}) c.items.ensures)

pub returns-clause-does : goal.returns-clause-does
returns-clause-does g c = OnTrue_from c.tell_show-told.result _ (λ yes stand used stands within.
    let plant = c.args.self.now.plant.now in
    let poll = requests.DisplayPoll c.args.screen c.args.refresh in
    let told = c.items.ensures ∙ c.step.ensures.answers ∙ ap (λ (state : State). (step state poll).answers) stands.state_is in
    let Put : List Answer → Type 0 = λ answers. Puts g.K.Drain.written g.K.Drain.faults (show_line plant c.args.screen answers) c.args.out.now c.tell_show-told.new.out
    × SendsAll g.P.DisplayPort.was_sent g.P.DisplayPort.faults (packets_told plant c.args.screen answers) c.args.port.now c.tell_show-told.new.port in (
      show_line plant c.args.screen (step stand.state poll).answers,
      subst Put told (OnTrue_at yes c.tell_show-told.ensures.told),
      step_done plant (Show c.args.screen c.args.refresh) poll c.args.self.now _ stand used (show_line plant c.args.screen (step stand.state poll).answers) stands c.requires.screen (refl, refl)
          c.step.ensures.state refl refl c.clear.ensures.items (c.clear.ensures.places ∙ c.step.ensures.places),
    ))

pub returns-clause-stops : goal.returns-clause-stops
returns-clause-stops g c = OnFalse_from c.tell_show-told.result _ (λ no.
    let plant = c.args.self.now.plant.now in
    let poll = requests.DisplayPoll c.args.screen c.args.refresh in
    let failed = OnFalse_at no c.tell_show-told.ensures.failed in
    let Some : List Answer → Type 0 = λ answers. packets_told plant c.args.screen answers ≢ [] in (
      (λ stand used stands. subst Some (c.items.ensures ∙ c.step.ensures.answers ∙ ap (λ (state : State). (step state poll).answers) stands.state_is) failed.2),
      failed.0,
      failed.1,
    ))
