-- What a port over the sink of a file was given.
use Rattle.std.proofs.Common.{◌≡◌, ◌⊎◌, inl, inr, ℕ, List, [], ◌∷◌, ◌++◌, map, Option, Some, None, Result, Ok, Err, refl, sym, ◌∙◌, ap, subst}
use Rattle.std.specs.Prelude.{Bool, IfSome, OnOk}
use Rattle.ctl_io.specs.Custody.{SinkEnd}
use Rattle.ctl_io.specs.Faults.{one_more}
use Rattle.ctl_io.specs.Held.{IsNamed}
use Rattle.ctl_io.specs.Sink.{IsUnwritten}
use Rattle.ctl_net.specs.declared.port.Sent.{Sent}
use Rattle.ctl_net.specs.declared.port.Sent.TheVariants as sends
use Rattle.ctl_net.specs.Port.{SendsOn, sent_after}
use Rattle.command_rows.specs.MadeFile.{sink_end}
use Rattle.plant_config.specs.Plant.{PlantData}
use Rattle.tsl_stream.specs.declared.port.StreamPort.{StreamPort}
use Rattle.tsl_stream.specs.Items.{Packet, stream_items}
use Rattle.tsl_stream.specs.Laws.{stream_texts}
use Rattle.tsl_stream.specs.Port.{HasPackets, IsJust, HasSent, sink_of}
use Rattle.record_replay.specs.declared.streamed.StreamedFault.{StreamedFault}
use Rattle.record_replay.specs.declared.streamed.StreamedFault.TheVariants as streams
use Rattle.record_replay.specs.Script.{IsFirstBad}
use Rattle.record_replay.specs.Streamed.{HasStreamed, HasStreamedFront, PortStops, HasStoppedAtPort, StaysBoth, PortCounts}
use Rattle.command_stream.specs.declared.file_port.FilePort.{FilePort}
use Rattle.command_stream.specs.StreamInside.{WasGiven, ShowsPackets, IsUnused, StreamsTo}

module _ {K : Type 0} (name written : K → Option (List ℕ)) (faults : K → ℕ) where
  -- a send puts its packet behind those before, where it is done
  behind : (result : Sent) (packet file : List ℕ) (packets sent : List (List ℕ)) → sent ≡ file ∷ packets → sent_after result packet sent ≡ file ∷ sent_after result packet packets
  behind sends.Done packet file packets sent is = ap (λ (ps : List (List ℕ)). ps ++ packet ∷ []) is
  behind sends.Failed packet file packets sent is = is

  pub given_after : (result : Sent) (packet : List ℕ) (port port_then : StreamPort K) (sent : List (List ℕ))
      → ((packets : List (List ℕ)) → HasSent written faults port packets → HasSent written faults port_then (sent_after result packet packets)) → name (sink_of port_then) ≡ name (sink_of port)
      → WasGiven name written faults port sent → WasGiven name written faults port_then (sent_after result packet sent)
  given_after result packet port port_then sent goes_on same given = record {
    file = given.file;
    packets = sent_after result packet given.packets;
    sent_is = behind result packet given.file given.packets sent given.sent_is;
    named = subst (IsNamed given.file) (sym same) given.named;
    has = goes_on given.packets given.has;
  }

  -- a port that is as it was was given what it was given
  pub given_same : (port port_then : StreamPort K) (sent : List (List ℕ)) → port_then ≡ port → WasGiven name written faults port sent → WasGiven name written faults port_then sent
  given_same port port_then sent same given = subst (λ (p : StreamPort K). WasGiven name written faults p sent) (sym same) given

  abbrev Given : FilePort K → List (List ℕ) → Type 0
  Given port sent = WasGiven name written faults port.port sent

  abbrev Sink : FilePort K → SinkEnd
  Sink port = sink_end name written faults (sink_of port.port)

  -- a new port was given nothing
  pub given_none : (port : StreamPort K) (file : List ℕ) → IsNamed file (name (sink_of port)) → HasSent written faults port [] → WasGiven name written faults port (file ∷ [])
  given_none port file named has = record { file = file; packets = []; sent_is = refl; named = named; has = has }

  -- what it was sent behind that is what its sink shows
  shown_of : (sink : Option (List ℕ)) (count : ℕ) (packets : List (List ℕ)) (half : Bool) → IfSome sink (λ text. HasPackets text packets half × (count ≡ 0 → IsJust text packets half))
      → IfSome sink (λ text. (stream_items text ≡ map Packet packets) × (count ≡ 0 → text ≡ stream_texts packets))
  shown_of None count packets half has = tt
  shown_of (Some text) count packets half has = (has.0.all_items, λ none. (has.1 none).text_is)

  shows : (port port_then : FilePort K) (file : List ℕ) (packets : List (List ℕ)) → Given port (file ∷ []) → SendsOn Given port port_then packets → IsNamed file (name (sink_of port_then.port)) × ShowsPackets (Sink port_then) packets
  shows port port_then file packets given goes_on =
      let now : Given port_then (file ∷ packets) = goes_on (file ∷ []) given in
      let file_is : now.file ≡ file = let is = now.sent_is in cc in
      let packets_are : now.packets ≡ packets = let is = now.sent_is in cc in
      let shown = shown_of (written (sink_of port_then.port)) (faults (sink_of port_then.port)) now.packets _ now.has in (
        subst (λ (f : List ℕ). IsNamed f (name (sink_of port_then.port))) file_is now.named,
        subst (λ (ps : List (List ℕ)). ShowsPackets (Sink port_then) ps) packets_are shown,
      )

  pub shows_named : (port port_then : FilePort K) (file : List ℕ) (packets : List (List ℕ)) → Given port (file ∷ []) → SendsOn Given port port_then packets → IsNamed file (name (sink_of port_then.port))
  shows_named port port_then file packets given goes_on = (shows port port_then file packets given goes_on).0

  pub shows_packets : (port port_then : FilePort K) (file : List ℕ) (packets : List (List ℕ)) → Given port (file ∷ []) → SendsOn Given port port_then packets → ShowsPackets (Sink port_then) packets
  shows_packets port port_then file packets given goes_on = (shows port port_then file packets given goes_on).1

  -- some name that a sink shows
  abbrev a_name : Option (List ℕ) → List ℕ
  a_name None = []
  a_name (Some its) = its

  its_name : (shown : Option (List ℕ)) → IsNamed (a_name shown) shown
  its_name None = tt
  its_name (Some its) = refl

  -- what a replay to the port did
  module _ (plant : PlantData) (script : List ℕ) (port port_then : FilePort K) (before now : Option (List ℕ)) (has : HasSent written faults port.port []) (unwritten : IsUnwritten (written (sink_of port.port)))
      (new : faults (sink_of port.port) ≡ 0) where
    abbrev file : List ℕ
    file = a_name (name (sink_of port.port))

    given : Given port (file ∷ [])
    given = given_none port.port file (its_name (name (sink_of port.port))) has

    pub to_done : HasStreamed plant script before now (SendsOn Given port port_then) → faults (sink_of port_then.port) ≡ faults (sink_of port.port)
        → (faults (sink_of port_then.port) ≡ 0) × HasStreamed plant script before now (ShowsPackets (Sink port_then))
    to_done streamed count =
        (count ∙ new, record { output = streamed.output; replay = streamed.replay; appends = streamed.appends; sends = shows_packets port port_then file _ given streamed.sends })

    to_front : HasStreamedFront plant script before now (SendsOn Given port port_then) (faults (sink_of port.port)) (faults (sink_of port_then.port))
        → HasStreamedFront plant script before now (ShowsPackets (Sink port_then)) 0 (faults (sink_of port_then.port))
    to_front streamed = record {
      output = streamed.output;
      replay = streamed.replay;
      front = streamed.front;
      later = streamed.later;
      place = streamed.place;
      cut = streamed.cut;
      sends = shows_packets port port_then file _ given streamed.sends;
      stops = subst (λ (count : ℕ). PortStops plant streamed.later count (faults (sink_of port_then.port))) new streamed.stops;
    }

    to_stopped : HasStoppedAtPort plant script before now (SendsOn Given port port_then) → HasStoppedAtPort plant script before now (ShowsPackets (Sink port_then))
    to_stopped streamed = record {
      output = streamed.output;
      replay = streamed.replay;
      front = streamed.front;
      failed = streamed.failed;
      later = streamed.later;
      place = streamed.place;
      has_packet = streamed.has_packet;
      appends = streamed.appends;
      sends = shows_packets port port_then file _ given streamed.sends;
    }

    unused : port_then ≡ port → IsUnused (Sink port_then)
    unused same = subst (λ (p : FilePort K). IsUnused (Sink p)) (sym same) (record { unwritten = unwritten; no_faults = new })

    pub to_ended : {T : Type 0} (ended : Result T StreamedFault) → ((done : T) → ended ≡ Ok done → HasStreamed plant script before now (SendsOn Given port port_then))
        → ((number : ℕ) → ended ≡ Err (streams.BadLine number) → IsFirstBad plant script number)
        → (ended ≡ Err streams.OutputFault → HasStreamedFront plant script before now (SendsOn Given port port_then) (faults (sink_of port.port)) (faults (sink_of port_then.port)))
        → (ended ≡ Err streams.PortFault → HasStoppedAtPort plant script before now (SendsOn Given port port_then))
        → ((number : ℕ) → ended ≡ Err (streams.BadLine number) → StaysBoth before now port port_then) → (ended ≡ Err streams.NoMemory → StaysBoth before now port port_then)
        → PortCounts ended (faults (sink_of port.port)) (faults (sink_of port_then.port)) → StreamsTo plant script ended (Sink port_then) before now
    to_ended (Ok done) ok bad_line output_fault port_fault same no_memory count = to_done (ok done refl) count
    to_ended (Err streams.NoMemory) ok bad_line output_fault port_fault same no_memory count =
        let stays = no_memory refl in
        (stays.0, unused stays.1)
    to_ended (Err (streams.BadLine number)) ok bad_line output_fault port_fault same no_memory count =
        let stays = same number refl in
        (bad_line number refl, stays.0, unused stays.1)
    to_ended (Err streams.OutputFault) ok bad_line output_fault port_fault same no_memory count = to_front (output_fault refl)
    to_ended (Err streams.PortFault) ok bad_line output_fault port_fault same no_memory count = (count ∙ ap one_more new, to_stopped (port_fault refl))

    -- the sink's name stays
    pub named_ended : {T : Type 0} (its : List ℕ) → IsNamed its (name (sink_of port.port)) → (ended : Result T StreamedFault) → ((done : T) → ended ≡ Ok done → HasStreamed plant script before now (SendsOn Given port port_then))
        → (ended ≡ Err streams.OutputFault → HasStreamedFront plant script before now (SendsOn Given port port_then) (faults (sink_of port.port)) (faults (sink_of port_then.port)))
        → (ended ≡ Err streams.PortFault → HasStoppedAtPort plant script before now (SendsOn Given port port_then))
        → ((number : ℕ) → ended ≡ Err (streams.BadLine number) → StaysBoth before now port port_then) → (ended ≡ Err streams.NoMemory → StaysBoth before now port port_then) → IsNamed its (name (sink_of port_then.port))
    named_ended its named (Ok done) ok output_fault port_fault same no_memory = shows_named port port_then its _ (given_none port.port its named has) (ok done refl).sends
    named_ended its named (Err streams.NoMemory) ok output_fault port_fault same no_memory =
        subst (λ (p : FilePort K). IsNamed its (name (sink_of p.port))) (sym (no_memory refl).1) named
    named_ended its named (Err (streams.BadLine number)) ok output_fault port_fault same no_memory =
        subst (λ (p : FilePort K). IsNamed its (name (sink_of p.port))) (sym (same number refl).1) named
    named_ended its named (Err streams.OutputFault) ok output_fault port_fault same no_memory = shows_named port port_then its _ (given_none port.port its named has) (output_fault refl).sends
    named_ended its named (Err streams.PortFault) ok output_fault port_fault same no_memory = shows_named port port_then its _ (given_none port.port its named has) (port_fault refl).sends

-- the done that an answer gives
pub if_ok : {T P : Type 0} (ended : Result T StreamedFault) → OnOk ended P → (done : T) → ended ≡ Ok done → P
if_ok (Ok other) p done is = p
if_ok (Err fault) p done is = absurd (cc)
