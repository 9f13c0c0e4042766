use Rattle.std.proofs.Common.{◌≡◌, ℕ, ◌+◌, ◌<◌, ◌≤◌, List, length, take, refl, sym, ap, ◌∙◌, subst, arith}
use Rattle.std.proofs.lemmas.List.{length-take}
use Rattle.plant_config.specs.Plant.{PlantData}
use Rattle.panel_session.specs.Served.{PlantSeat}
use Rattle.panel_session.specs.SoFar.{nothing_yet}
use Rattle.panel_session.proofs.IdleLemmas.{CountsIdle}
use Rattle.panel_session.proofs.EndedLemmas.{served_cut, stands_plant}
use Rattle.panel_session.proofs.ServedLemmas.{served_begins, served_idle, served_more, served_reading, served_spent}
use Rattle.panel_session.proofs.TurnedLemmas.{turned_may}
use Rattle.panel_session.proofs.serve.serve_session.Goals as goal

-- what is counted of a read that gave so many bytes
counted : (count used later : ℕ) (into : List ℕ) → used ≤ length into → (used ≡ 0 → later ≡ count + 1) → (0 < used → later ≡ 0) → CountsIdle count (length (take used into)) later
counted count used later into within idle other =
    let long : length (take used into) ≡ used = omega (arith, within, length-take used into) in
    record { idle = λ none. idle (sym long ∙ none); other = λ some. other (omega (arith, some, long)) }

pub loop-worked-init : goal.loop-worked-init
loop-worked-init g c =
    let m = c.requires.may in
    record {
      served = λ plant panel stands.
          let same : m.plant ≡ plant = sym (stands_plant m.plant m.panel c.args.session.now nothing_yet m.stands) ∙ stands_plant plant panel c.args.session.now nothing_yet stands in
          let Some : PlantData → Type 0 = λ plant. 1 ≤ plant.server.idle_limit in
          served_begins c.args.session.now c.args.seat.now _ _ stands (subst Some same m.is_plant.server.idle_limit.0);
      within = omega arith;
      seat_of = refl;
      first = refl;
      link_name = refl;
      trace_name = refl;
    }

pub returns-in-Err-clause-served : goal.returns-in-Err-clause-served
returns-in-Err-clause-served g c = λ plant panel stands.
    served_reading c.args.turns c.in-Err.end (c.loop-worked.invariant.served plant panel stands) c.loop-worked-test.true c.in-Err.ensures.ends

pub serve_turn-requires-clause-may : goal.serve_turn-requires-clause-may
serve_turn-requires-clause-may g c κs within =
    let m = c.requires.may in
    let i = c.loop-worked.invariant.served m.plant m.panel m.stands in
    let t = i.turned in
    record {
      plant = m.plant;
      panel = m.panel;
      past = t.past;
      stands = t.stands;
      begins = t.begins;
      may = turned_may t (take c.in-Ok.used c.read_piece.new.into) (omega (arith, i.counted, c.loop-worked-test.true, c.requires.turns)) c.in-Ok.ensures.reads.short;
      answered = t.answered;
      is_plant = m.is_plant;
      seat_of = c.loop-worked.invariant.seat_of ∙ m.seat_of;
      first = c.loop-worked.invariant.first ∙ m.first;
    }

pub returns-in-Err-serve_turn-clause-served : goal.returns-in-Err-serve_turn-clause-served
returns-in-Err-serve_turn-clause-served g c = λ plant panel stands.
    let i = c.loop-worked.invariant.served plant panel stands in
    let t = i.turned in
    let r = c.in-Ok.ensures.reads in
    let may = turned_may t (take c.in-Ok.used c.read_piece.new.into) (omega (arith, i.counted, c.loop-worked-test.true, c.requires.turns)) r.short in
    let e = c.in-Err-serve_turn.ensures in
    served_cut c.args.turns c.in-Err-serve_turn.end t e.cut r (e.stops plant panel t.past t.stands t.begins may t.answered) c.serve_turn.ensures.read_half e.link_cause e.trace_cause
    (omega (arith, i.counted, c.loop-worked-test.true)) i.below

pub idle_reads-idles-requires : goal.idle_reads-idles-requires
idle_reads-idles-requires g c =
    let m = c.requires.may in
    let i = c.loop-worked.invariant.served m.plant m.panel m.stands in
    omega (arith, i.below.below, m.is_plant.server.idle_limit.1)

pub returns-then-idles-limit-clause-served : goal.returns-then-idles-limit-clause-served
returns-then-idles-limit-clause-served g c = λ plant panel stands.
    let i = c.loop-worked.invariant.served plant panel stands in
    let t = i.turned in
    let r = c.in-Ok.ensures.reads in
    let may = turned_may t (take c.in-Ok.used c.read_piece.new.into) (omega (arith, i.counted, c.loop-worked-test.true, c.requires.turns)) r.short in
    let same : c.idle_limit-limit.result ≡ plant.server.idle_limit = c.idle_limit-limit.ensures ∙ ap (λ (plant : PlantData). plant.server.idle_limit) (stands_plant plant panel c.args.session.now nothing_yet stands) in
    let counts = counted c.loop-worked.idles c.in-Ok.used c.idle_reads-idles.result c.read_piece.new.into c.in-Ok.ensures.within c.idle_reads-idles.ensures.idle c.idle_reads-idles.ensures.other in
    let e = c.in_default.ensures in
    served_idle c.args.turns c.idle_reads-idles.result i r (e.served plant panel t.past t.stands t.begins may t.answered) c.serve_turn.ensures.read_half e.link_count e.trace_count
    c.loop-worked-test.true counts (c.if-idles-limit.true ∙ same)

pub loop-worked-preserved : goal.loop-worked-preserved
loop-worked-preserved g c =
    let m = c.requires.may in
    let e = c.in_default.ensures in
    let gone = (let plant = m.plant in let panel = m.panel in let stands = m.stands in
    let i = c.loop-worked.invariant.served plant panel stands in
    let t = i.turned in
    let r = c.in-Ok.ensures.reads in
    let may = turned_may t (take c.in-Ok.used c.read_piece.new.into) (omega (arith, i.counted, c.loop-worked-test.true, c.requires.turns)) r.short in
    (e.served plant panel t.past t.stands t.begins may t.answered).gone.sees.same) in
    record {
      served = λ plant panel stands.
          let i = c.loop-worked.invariant.served plant panel stands in
          let t = i.turned in
          let r = c.in-Ok.ensures.reads in
          let may = turned_may t (take c.in-Ok.used c.read_piece.new.into) (omega (arith, i.counted, c.loop-worked-test.true, c.requires.turns)) r.short in
          let same : c.idle_limit-limit.result ≡ plant.server.idle_limit = c.idle_limit-limit.ensures ∙ ap (λ (plant : PlantData). plant.server.idle_limit) (stands_plant plant panel c.args.session.now nothing_yet stands) in
          let counts = counted c.loop-worked.idles c.in-Ok.used c.idle_reads-idles.result c.read_piece.new.into c.in-Ok.ensures.within c.idle_reads-idles.ensures.idle c.idle_reads-idles.ensures.other in
          served_more c.idle_reads-idles.result i r (e.served plant panel t.past t.stands t.begins may t.answered) c.serve_turn.ensures.read_half e.link_count e.trace_count
          counts (λ is. c.if-idles-limit.false (is ∙ sym same));
      within = omega (arith, c.loop-worked-test.true);
      seat_of = ap (λ (seat : PlantSeat). seat.lock) gone ∙ c.loop-worked.invariant.seat_of;
      first = ap (λ (seat : PlantSeat). seat.first) gone ∙ c.loop-worked.invariant.first;
      link_name = c.serve_turn.ensures.link_name ∙ c.read_piece.ensures.name ∙ c.loop-worked.invariant.link_name;
      trace_name = c.serve_turn.ensures.trace_name ∙ c.loop-worked.invariant.trace_name;
    }

pub returns-clause-served : goal.returns-clause-served
returns-clause-served g c = λ plant panel stands.
    served_spent c.args.turns (c.loop-worked.invariant.served plant panel stands) (omega (arith, c.loop-worked.invariant.within, c.loop-worked-test.false))
