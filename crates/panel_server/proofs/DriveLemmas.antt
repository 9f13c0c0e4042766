-- The displays are driven, poll by poll.
use Rattle.std.proofs.Common.{◌≡◌, ◌≢◌, ℕ, ◌+◌, ◌^◌, ◌≤◌, Bool, true, false, List, [], ◌∷◌, ◌++◌, length, map, filter, take, drop, Option, refl, sym, ap, ◌∙◌, subst, arith}
use Rattle.std.proofs.lemmas.Bool.{false≢true}
use Rattle.std.proofs.lemmas.List.{append_assoc, append-nil, length-append, length-map, map-append, take-append-drop}
use Rattle.std.proofs.lemmas.List.Elements.{All-push, filter-append}
use Rattle.std.proofs.lemmas.List.Sums.{length-filter, count_by-le-length}
use Rattle.ctl_io.specs.Faults.{count_after}
use Rattle.ctl_io.specs.Sink.{appended}
use Rattle.history_lock.specs.Calls.{FoundFull, IsNumbered, asked_by}
use Rattle.history_lock.specs.History.{entries_of, IsLegal}
use Rattle.plant_config.specs.Plant.{PlantData}
use Rattle.plant_config.specs.Screens.{screens_of}
use Rattle.plant_core.specs.State.{start, Fits as Takes}
use Rattle.plant_core.specs.Step.{step}
use Rattle.plant_core.specs.declared.answer.Answer.{Answer}
use Rattle.plant_core.specs.declared.request.Request.{Request}
use Rattle.plant_core.specs.declared.request.Request.TheVariants.{DisplayPoll}
use Rattle.panel_session.specs.Entry.{PlantEntry}
use Rattle.panel_session.specs.Served.{PlantSeat, mark_after, own_lines}
use Rattle.panel_session.specs.Reply.{trace_line}
use Rattle.panel_session.proofs.GoneOnLemmas.{SeesOwn, appended-both, lines-behind, mark-both, sees_both}
use Rattle.panel_server.specs.declared.displays.DriverEnd.{DriverEnd}
use Rattle.panel_server.specs.declared.displays.DriverEnd.TheVariants.{Finished, TraceFault, Full, NoMemory}
use Rattle.panel_server.specs.declared.poll.Polled.{Polled}
use Rattle.panel_server.specs.declared.poll.Polled.TheVariants.{Quiet, Lit, Last}
use Rattle.ctl_net.specs.Port.{SendsOn}
use Rattle.panel_server.specs.Driven.{AreInRounds, Driven, LampSend, NoneIsLast, ends_by_trace, faults_after, is_last, shows_lamps, packets_given, poll_at, was_lost, was_done, whole_traced}
use Rattle.panel_server.specs.DrivenInside.{EndsPolling, HasPolled, IsDriving, IsUntraced, Outside, lost_by, outside, send_of, sent_by, was_last}
use Rattle.panel_server.proofs.BeginLemmas.{traced_of}
use Rattle.panel_server.proofs.SeatLemmas.{own-behind, own-few, own-seen, sees_own}
use Rattle.panel_server.proofs.SendLemmas.{all_but_last, faults_both, given_both, one_lost, one_sent, polls_more, sends_both}

module _ {P : Type 0} {WasSent : P → List (List ℕ) → Type 0} {faults : P → ℕ} {plant : PlantData} {polls sent lost : ℕ} {a b : Outside P} where
  -- there are no more sends than polls, and no more polls than a history has entries
  pub sent_few : IsDriving WasSent faults plant polls sent lost a b → sent ≤ polls
  sent_few d = omega (
    arith,
    d.sent_count,
    length-filter was_done d.sends,
    count_by-le-length was_done d.sends,
    sym (length-map d.sends (λ (send : LampSend). send.entry)),
    ap (length {A = PlantEntry}) d.sent_are,
    length-filter shows_lamps (entries_of a.seat.number d.new),
    count_by-le-length shows_lamps (entries_of a.seat.number d.new),
    d.counted,
  )

  pub lost_few : IsDriving WasSent faults plant polls sent lost a b → lost ≤ polls
  lost_few d = omega (
    arith,
    d.lost_count,
    length-filter was_lost d.sends,
    count_by-le-length was_lost d.sends,
    sym (length-map d.sends (λ (send : LampSend). send.entry)),
    ap (length {A = PlantEntry}) d.sent_are,
    length-filter shows_lamps (entries_of a.seat.number d.new),
    count_by-le-length shows_lamps (entries_of a.seat.number d.new),
    d.counted,
  )

  pub polls_few : (number : ℕ) → IsDriving WasSent faults plant polls sent lost a b → IsNumbered number b.seat.seen → polls ≤ 2 ^ 62
  polls_few number d numbered = omega (arith, d.counted, own-few plant a.seat b.seat d.new d.sees, numbered.0, numbered.1)

  -- the own entries, with one more
  own_more : {seat : PlantSeat} (d : IsDriving WasSent faults plant polls sent lost a b) (request : Request) (answers : List Answer) (number : ℕ) (one : SeesOwn plant (asked_by b.seat request answers) number b.seat seat)
      → entries_of a.seat.number (d.new ++ one.new) ≡ entries_of a.seat.number d.new ++ asked_by b.seat request answers ∷ []
  own_more d request answers number one =
      own-behind plant a.seat b.seat d.new one.new d.sees ∙ ap (λ (entries : List PlantEntry). entries_of a.seat.number d.new ++ entries) one.own

  -- they are the polls
  polls_on : {seat : PlantSeat} (d : IsDriving WasSent faults plant polls sent lost a b) (request : Request) (answers : List Answer) (number : ℕ) (one : SeesOwn plant (asked_by b.seat request answers) number b.seat seat)
      → request ≡ poll_at plant polls → AreInRounds plant (entries_of a.seat.number (d.new ++ one.new))
  polls_on d request answers number one is =
      subst (AreInRounds plant) (sym (own_more d request answers number one))
      (polls_more plant (entries_of a.seat.number d.new) (asked_by b.seat request answers) d.polls_are (is ∙ ap (poll_at plant) (sym d.counted)))

  -- the mark, and the lines
  mark_on : {seat : PlantSeat} (d : IsDriving WasSent faults plant polls sent lost a b) (request : Request) (answers : List Answer) (number : ℕ) (one : SeesOwn plant (asked_by b.seat request answers) number b.seat seat)
      → seat.ticket_full ≡ mark_after (d.new ++ one.new) a.seat.ticket_full
  mark_on d request answers number one = one.full ∙ ap (mark_after one.new) d.mark ∙ sym (mark-both d.new one.new a.seat.ticket_full)

  lines_on : {seat : PlantSeat} (d : IsDriving WasSent faults plant polls sent lost a b) (request : Request) (answers : List Answer) (number : ℕ) (one : SeesOwn plant (asked_by b.seat request answers) number b.seat seat)
      → own_lines plant a.seat.number (length a.seat.seen) d.new ++ trace_line plant number request answers ≡ own_lines plant a.seat.number (length a.seat.seen) (d.new ++ one.new)
  lines_on d request answers number one =
      ap (λ (line : List ℕ). own_lines plant a.seat.number (length a.seat.seen) d.new ++ line) (sym one.lines)
      ∙ sym (lines-behind plant a.seat b.seat d.new one.new d.sees)

  -- A screen was polled, and not all is finished.
  pub driving_polled : {c : Outside P} (polled : Polled) (screen : ℕ) (refresh : Bool) → IsDriving WasSent faults plant polls sent lost a b → DisplayPoll screen refresh ≡ poll_at plant polls → was_last polled ≡ false
      → HasPolled WasSent faults plant (DisplayPoll screen refresh) polled b c → IsDriving WasSent faults plant (polls + 1) (sent + sent_by polled) (lost + lost_by polled) a c
  driving_polled {c = c} polled screen refresh d is more has =
      let request : Request = DisplayPoll screen refresh in
      let entry : PlantEntry = asked_by b.seat request has.answers in
      let one = sees_own plant request has.answers has.number b.seat c.seat has.given in
      let mine : List PlantEntry = entries_of a.seat.number d.new in
      let own = own_more d request has.answers has.number one in
      let send : List LampSend = send_of entry polled in
      let of_send = λ (send : LampSend). send.entry in
      let lines : List ℕ = own_lines plant a.seat.number (length a.seat.seen) d.new in
      let line : List ℕ = trace_line plant has.number request has.answers in
      record {
        new = d.new ++ one.new;
        sends = d.sends ++ send;
        sees = sees_both plant a.seat b.seat c.seat d.new one.new d.sees one.sees;
        mark = mark_on d request has.answers has.number one;
        polls_are = polls_on d request has.answers has.number one is;
        counted = omega (arith, ap (length {A = PlantEntry}) own, length-append mine (entry ∷ []), d.counted);
        none_last = subst NoneIsLast (sym own) (All-push (λ (entry : PlantEntry). is_last entry ≡ false) mine entry d.none_last (has.told.last ∙ more));
        sent_are = map-append of_send d.sends send
            ∙ ap (λ (entries : List PlantEntry). entries ++ map of_send send) d.sent_are
            ∙ ap (λ (entries : List PlantEntry). filter shows_lamps mine ++ entries) has.told.sent
            ∙ sym (filter-append shows_lamps mine (entry ∷ []))
            ∙ ap (filter shows_lamps) (sym own);
        sent_count = omega (arith, d.sent_count, ap (length {A = LampSend}) (filter-append was_done d.sends send), length-append (filter was_done d.sends) (filter was_done send), one_sent entry polled);
        lost_count = omega (arith, d.lost_count, ap (length {A = LampSend}) (filter-append was_lost d.sends send), length-append (filter was_lost d.sends) (filter was_lost send), one_lost entry polled);
        packets =
            let Given : List (List ℕ) → Type 0 = λ given. SendsOn WasSent a.port c.port given in
            subst Given (sym (given_both plant d.sends send)) (sends_both WasSent a.port b.port c.port (packets_given plant d.sends) (packets_given plant send) d.packets has.told.packets);
        port_count = has.told.count ∙ ap (faults_after send) d.port_count ∙ sym (faults_both d.sends send (faults a.port));
        traced = has.line
            ∙ ap (λ (traced : Option (List ℕ)). appended traced line) d.traced
            ∙ appended-both a.traced lines line
            ∙ ap (λ (lines : List ℕ). appended a.traced lines) (lines_on d request has.answers has.number one);
        trace_count = has.trace_count ∙ d.trace_count;
      }

  -- A screen was polled, and all is finished.
  last_polled : {c : Outside P} (screen : ℕ) (refresh : Bool) → screens_of plant ≢ [] → IsDriving WasSent faults plant polls sent lost a b → DisplayPoll screen refresh ≡ poll_at plant polls
      → HasPolled WasSent faults plant (DisplayPoll screen refresh) Last b c → Driven WasSent faults plant (Finished sent lost) a.seat c.seat a.port c.port (traced_of a) (traced_of c)
  last_polled {c = c} screen refresh some d is has =
      let request : Request = DisplayPoll screen refresh in
      let entry : PlantEntry = asked_by b.seat request has.answers in
      let one = sees_own plant request has.answers has.number b.seat c.seat has.given in
      let mine : List PlantEntry = entries_of a.seat.number d.new in
      let own = own_more d request has.answers has.number one in
      let sees = sees_both plant a.seat b.seat c.seat d.new one.new d.sees one.sees in
      let lines : List ℕ = own_lines plant a.seat.number (length a.seat.seen) d.new in
      let line : List ℕ = trace_line plant has.number request has.answers in
      let all : List ℕ = own_lines plant a.seat.number (length a.seat.seen) (d.new ++ one.new) in
      record {
        new = d.new ++ one.new;
        sends = d.sends;
        lines = all;
        legal = sees.legal;
        seen = sees.seen;
        own = own-seen plant a.seat c.seat (d.new ++ one.new) sees;
        full = mark_on d request has.answers has.number one;
        seat_same = sees.same;
        polls = polls_on d request has.answers has.number one is;
        sent = d.sent_are
            ∙ sym (append-nil (filter shows_lamps mine))
            ∙ ap (λ (entries : List PlantEntry). filter shows_lamps mine ++ entries) has.told.sent
            ∙ sym (filter-append shows_lamps mine (entry ∷ []))
            ∙ ap (filter shows_lamps) (sym own);
        packets =
            let Given : List (List ℕ) → Type 0 = λ given. SendsOn WasSent a.port c.port given in
            subst Given (append-nil (packets_given plant d.sends)) (sends_both WasSent a.port b.port c.port (packets_given plant d.sends) [] d.packets has.told.packets);
        port_count = has.told.count ∙ d.port_count;
        traced = has.line
            ∙ ap (λ (traced : Option (List ℕ)). appended traced line) d.traced
            ∙ appended-both a.traced lines line
            ∙ ap (λ (lines : List ℕ). appended a.traced lines) (lines_on d request has.answers has.number one);
        traces = (([], append-nil all), λ _. refl);
        trace_count = has.trace_count ∙ d.trace_count;
        ends = (
          (λ _. record { front = mine; last = entry; entries_are = own; is = has.told.last; others = d.none_last }, λ none. absurd (some none)),
          d.sent_count,
          d.lost_count,
        );
      }

  pub driven_last : {c : Outside P} (polled : Polled) (screen : ℕ) (refresh : Bool) → screens_of plant ≢ [] → IsDriving WasSent faults plant polls sent lost a b → DisplayPoll screen refresh ≡ poll_at plant polls → was_last polled ≡ true
      → HasPolled WasSent faults plant (DisplayPoll screen refresh) polled b c → Driven WasSent faults plant (Finished sent lost) a.seat c.seat a.port c.port (traced_of a) (traced_of c)
  driven_last Quiet screen refresh some d is last has = absurd (false≢true last)
  driven_last (Lit answer) screen refresh some d is last has = absurd (false≢true last)
  driven_last Last screen refresh some d is last has = last_polled screen refresh some d is has

  -- The line of a poll wasn't traced.
  pub driven_untraced : {c : Outside P} (screen : ℕ) (refresh : Bool) → screens_of plant ≢ [] → IsDriving WasSent faults plant polls sent lost a b → DisplayPoll screen refresh ≡ poll_at plant polls → IsUntraced plant (DisplayPoll screen refresh) b.seat c.seat b.traced c.traced
      → c.port ≡ b.port → c.trace_faults ≡ count_after true b.trace_faults
      → Driven WasSent faults plant TraceFault a.seat c.seat a.port c.port (traced_of a) (traced_of c)
  driven_untraced {c = c} screen refresh some d is un same count =
      let request : Request = DisplayPoll screen refresh in
      let entry : PlantEntry = asked_by b.seat request un.answers in
      let one = sees_own plant request un.answers un.number b.seat c.seat un.given in
      let mine : List PlantEntry = entries_of a.seat.number d.new in
      let own = own_more d request un.answers un.number one in
      let sees = sees_both plant a.seat b.seat c.seat d.new one.new d.sees one.sees in
      let lines : List ℕ = own_lines plant a.seat.number (length a.seat.seen) d.new in
      let line : List ℕ = trace_line plant un.number request un.answers in
      let front : List ℕ = take un.part.count line in
      let whole : whole_traced TraceFault (entries_of a.seat.number (d.new ++ one.new)) ≡ mine = ap (whole_traced TraceFault) own ∙ all_but_last mine entry in
      record {
        new = d.new ++ one.new;
        sends = d.sends;
        lines = lines ++ front;
        legal = sees.legal;
        seen = sees.seen;
        own = own-seen plant a.seat c.seat (d.new ++ one.new) sees;
        full = mark_on d request un.answers un.number one;
        seat_same = sees.same;
        polls = polls_on d request un.answers un.number one is;
        sent = d.sent_are ∙ ap (filter shows_lamps) (sym whole);
        packets = (let Sends : P → Type 0 = λ port. SendsOn WasSent a.port port (packets_given plant d.sends) in subst Sends (sym same) d.packets);
        port_count = ap faults same ∙ d.port_count;
        traced = un.part.appends ∙ ap (λ (traced : Option (List ℕ)). appended traced front) d.traced ∙ appended-both a.traced lines front;
        traces = (
          (drop un.part.count line, append_assoc lines front (drop un.part.count line) ∙ ap (λ (line : List ℕ). lines ++ line) (take-append-drop un.part.count line) ∙ lines_on d request un.answers un.number one),
          λ good. absurd (false≢true (sym good)),
        );
        trace_count = count ∙ ap (count_after true) d.trace_count;
        ends = (
          some,
          λ none. absurd (omega (arith, ap (length {A = PlantEntry}) (sym own ∙ none), length-append mine (entry ∷ []))),
          subst NoneIsLast (sym whole) d.none_last,
        );
      }

  -- The history had no place.
  pub driven_full : {c : Outside P} → screens_of plant ≢ [] → IsDriving WasSent faults plant polls sent lost a b → FoundFull b.seat c.seat → c.traced ≡ b.traced → c.port ≡ b.port → c.trace_faults ≡ b.trace_faults
      → Driven WasSent faults plant Full a.seat c.seat a.port c.port (traced_of a) (traced_of c)
  driven_full {c = c} some d found traced same count =
      let seen : c.seat.seen ≡ b.seat.seen = ap (λ (seat : PlantSeat). seat.seen) found in
      let mark : c.seat.ticket_full ≡ true = ap (λ (seat : PlantSeat). seat.ticket_full) found in
      let all : List ℕ = own_lines plant a.seat.number (length a.seat.seen) d.new in
      let Legal : List PlantEntry → Type 0 = λ seen. IsLegal step Takes (start plant) seen in
      record {
        new = d.new;
        sends = d.sends;
        lines = all;
        legal = λ more. subst Legal (sym seen) (d.sees.legal more);
        seen = seen ∙ d.sees.seen;
        own = ap (entries_of a.seat.number) seen ∙ own-seen plant a.seat b.seat d.new d.sees;
        full = mark;
        seat_same = found
            ∙ ap (λ (seat : PlantSeat). record seat { ticket_full = true }) d.sees.same
            ∙ ap (λ (seen : List PlantEntry). record a.seat { seen = seen; ticket_full = true }) (sym seen)
            ∙ ap (λ (full : Bool). record a.seat { seen = c.seat.seen; ticket_full = full }) (sym mark);
        polls = d.polls_are;
        sent = d.sent_are;
        packets = (let Sends : P → Type 0 = λ port. SendsOn WasSent a.port port (packets_given plant d.sends) in subst Sends (sym same) d.packets);
        port_count = ap faults same ∙ d.port_count;
        traced = traced ∙ d.traced;
        traces = (([], append-nil all), λ _. refl);
        trace_count = count ∙ d.trace_count;
        ends = (some, d.none_last);
      }

  -- How the worker ends at a poll.
  pub driven_ends : {c : Outside P} (end : DriverEnd) (screen : ℕ) (refresh : Bool) → screens_of plant ≢ [] → IsDriving WasSent faults plant polls sent lost a b → DisplayPoll screen refresh ≡ poll_at plant polls
      → EndsPolling end plant (DisplayPoll screen refresh) b.seat c.seat b.traced c.traced → c.port ≡ b.port → c.trace_faults ≡ count_after (ends_by_trace end) b.trace_faults
      → Driven WasSent faults plant end a.seat c.seat a.port c.port (traced_of a) (traced_of c)
  driven_ends (Finished done failed) screen refresh some d is ends same count = absurd ends
  driven_ends TraceFault screen refresh some d is ends same count = driven_untraced screen refresh some d is ends same count
  driven_ends Full screen refresh some d is ends same count = driven_full some d ends.0 ends.1 same count
  driven_ends NoMemory screen refresh some d is ends same count = absurd ends

  -- The worker goes on, after a pause or without.
  pub driving_on : {c : Outside P} (polled : Polled) (screen : ℕ) (refresh : Bool) (more_sent more_lost : ℕ) (port : P) → IsDriving WasSent faults plant polls sent lost a b
      → DisplayPoll screen refresh ≡ poll_at plant polls → was_last polled ≡ false → HasPolled WasSent faults plant (DisplayPoll screen refresh) polled b c → more_sent ≡ sent_by polled → more_lost ≡ lost_by polled
      → ((packets : List (List ℕ)) → WasSent c.port packets → WasSent port packets) → faults port ≡ faults c.port
      → IsDriving WasSent faults plant (polls + 1) (sent + more_sent) (lost + more_lost) a (outside c.seat port c.traced c.trace_faults)
  driving_on {c = c} polled screen refresh more_sent more_lost port d is more has sent_is lost_is stays count =
      let on = driving_polled polled screen refresh d is more has in
      rw sent_is (rw lost_is (record {
        new = on.new;
        sends = on.sends;
        sees = on.sees;
        mark = on.mark;
        polls_are = on.polls_are;
        counted = on.counted;
        none_last = on.none_last;
        sent_are = on.sent_are;
        sent_count = on.sent_count;
        lost_count = on.lost_count;
        packets = λ former was. stays (former ++ packets_given plant on.sends) (on.packets former was);
        port_count = count ∙ on.port_count;
        traced = on.traced;
        trace_count = on.trace_count;
      }))
