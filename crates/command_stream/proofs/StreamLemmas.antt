-- How a replay with a stream ends.
use Rattle.std.proofs.Common.{◌≡◌, inl, inr, ℕ, ◌≤◌, ◌<◌, Bool, true, List, [], ◌∷◌, ◌++◌, length, take, map, Option, Some, None, Result, Ok, Err, refl, sym, ◌∙◌, ap, subst, append_assoc, arith}
use Rattle.std.specs.Prelude.{IfSome}
use Rattle.std.specs.List.{flat_map}
use Rattle.std.proofs.lemmas.Grind.{flat_map-append}
use Rattle.std.proofs.lemmas.Bool.{lt-ltb}
use Rattle.std.proofs.lemmas.List.{append-nil, length-append, take-append-le}
use Rattle.ctl_io.specs.Custody.{SinkEnd}
use Rattle.ctl_io.specs.Faults.{Rose, one_more, count_after, is_faulty}
use Rattle.ctl_io.specs.Held.{IsNamed}
use Rattle.ctl_io.specs.Sink.{appended, AppendsPart}
use Rattle.ctl_io.proofs.FaultsLemmas.{rose_counted}
use Rattle.ctl_io.proofs.SinkLemmas.{appended-appended}
use Rattle.plant_config.specs.Plant.{PlantData}
use Rattle.tsl_stream.specs.Items.{Packet, stream_items}
use Rattle.tsl_stream.specs.Laws.{stream_texts}
use Rattle.record_replay.specs.declared.streamed.StreamedFault.{StreamedFault}
use Rattle.record_replay.specs.declared.streamed.StreamedFault.TheVariants as streams
use Rattle.record_replay.specs.Laws.{Action, line_of}
use Rattle.record_replay.specs.Streamed.{packets_in, lines_in, BeginWithPacket, HasStreamed, HasStreamedFront, HasStoppedAtPort, stream_failed}
use Rattle.command_rows.specs.Lines.{file_fault}
use Rattle.command_rows.specs.Moment.{Snapshot, Output, Moment}
use Rattle.command_rows.specs.MadeFile.{MakesFile, FailsToMake, IsAsMade, TakesBack}
use Rattle.command_rows.specs.End.{ComesTo, file_failed, out_of_memory}
use Rattle.command_rows.specs.Row.{RowEnds}
use Rattle.command_rows.proofs.RowLemmas.{comes_behind, later as comes_later}
use Rattle.command_stream.specs.Stream.{GivesFile, StreamEnds}
use Rattle.command_stream.specs.StreamInside.{ShowsPackets, IsUnused, StreamsTo, TellsStream}

-- the lines of a front of actions stand in front of those of all
lines_front : (plant : PlantData) (actions front later : List Action) (output : List ℕ) → output ≡ flat_map (line_of plant) actions → actions ≡ front ++ later → output ≡ lines_in plant front ++ lines_in plant later
lines_front plant actions front later output shown place =
    shown ∙ ap (λ (all : List Action). lines_in plant all) place ∙ flat_map-append (line_of plant) front later

-- a shorter front of a text is one of what the text stands in front of
longer-part : (text rest : List ℕ) (before now : Option (List ℕ)) → AppendsPart text before now → AppendsPart (text ++ rest) before now
longer-part text rest before now part = record {
  count = part.count;
  shorter = omega (arith, part.shorter, length-append text rest);
  appends = part.appends ∙ ap (appended before) (sym (take-append-le part.count text rest (omega (arith, part.shorter))));
}

-- what a sink shows of packets, while no write failed and always
just_texts : (written : Option (List ℕ)) (faults : ℕ) (packets : List (List ℕ)) → faults ≡ 0 → ShowsPackets (record { name = None; written = written; faults = faults }) packets
    → IfSome written (λ text. text ≡ stream_texts packets)
just_texts None faults packets none shows = tt
just_texts (Some text) faults packets none shows = shows.1 none

its_items : (written : Option (List ℕ)) (faults : ℕ) (packets : List (List ℕ)) → ShowsPackets (record { name = None; written = written; faults = faults }) packets
    → IfSome written (λ text. stream_items text ≡ map Packet packets)
its_items None faults packets shows = tt
its_items (Some text) faults packets shows = shows.0

-- something stands behind what was written, whatever came of writing that
more_behind : (name front : List ℕ) (status : ℕ) (before mid now : Output) → mid.written ≡ appended before.written front → ComesTo (file_failed name) status mid now
    → (more : List ℕ) × (now.written ≡ appended before.written (front ++ more))
more_behind name front status before mid now wrote (inl is) =
    (file_fault name, is.appends ∙ ap (λ (w : Option (List ℕ)). appended w (file_fault name)) wrote ∙ appended-appended before.written front (file_fault name))
more_behind name front status before mid now wrote (inr is) =
    let more = take is.appends.count (file_fault name) in
    (more, is.appends.appends ∙ ap (λ (w : Option (List ℕ)). appended w more) wrote ∙ appended-appended before.written front more)

faulty : (count : ℕ) → count ≡ one_more 0 → is_faulty count ≡ true
faulty count is = ap is_faulty is ∙ lt-ltb 0 (one_more 0) (omega arith)

-- memory ran out before the file was made
pub unready : (plant : PlantData) (script name : List ℕ) (files : Snapshot) (before now : Output) (status : ℕ) → ComesTo out_of_memory status before now
    → RowEnds (StreamEnds plant script name) (record { files = files; output = before }) (record { files = files; output = now }) status
unready plant script name files before now status comes = record {
  end = out_of_memory;
  ends = inl (refl, inl refl);
  own = record { not_words = λ h. omega (arith, h); not_plant = λ h. omega (arith, h); faults = refl };
  comes = comes;
}

-- the file could not be made
pub unmade : (plant : PlantData) (script name : List ℕ) (files made : Snapshot) (before now : Output) (status : ℕ) → FailsToMake name files made → ComesTo (file_failed name) status before now
    → RowEnds (StreamEnds plant script name) (record { files = files; output = before }) (record { files = made; output = now }) status
unmade plant script name files made before now status fails comes = record {
  end = file_failed name;
  ends = inr (inr (inr ([], refl, inl (record { none = refl; fails = fails }))));
  own = record { not_words = λ h. omega (arith, h); not_plant = λ h. omega (arith, h); faults = subst (Rose files.faults) (sym fails.faults) (rose_counted files.faults) };
  comes = comes;
}

module _ (plant : PlantData) (script name : List ℕ) (files made back : Snapshot) (shown : SinkEnd) (before mid : Output) (makes : MakesFile name files made) (named : IsNamed name shown.name)
    (takes : TakesBack shown made back) where
  -- the moments when the file was asked for, and when all was written
  abbrev first : Moment
  first = record { files = files; output = before }

  abbrev last : Output → Moment
  last now = record { files = back; output = now }

  abbrev Ends : Output → ℕ → Type 0
  Ends now status = RowEnds (StreamEnds plant script name) first (last now) status

  gives : {Shows : SinkEnd → Type 0} → Shows shown → GivesFile name Shows files back
  gives shows = record { made = made; makes = makes; shown = shown; named = named; shows = shows; takes = takes }

  as_made : IsUnused shown → IsAsMade name shown
  as_made is = record { named = named; unwritten = is.unwritten; no_faults = is.no_faults }

  -- the counts of files whose sink had no fault, and whose sink had one
  well_counted : shown.faults ≡ 0 → back.faults ≡ files.faults
  well_counted none = takes.faults ∙ ap (λ (n : ℕ). count_after (is_faulty n) made.faults) none ∙ makes.faults

  once_counted : is_faulty shown.faults ≡ true → Rose files.faults back.faults
  once_counted is =
      subst (Rose files.faults) (sym (takes.faults ∙ ap (λ (b : Bool). count_after b made.faults) is ∙ ap one_more makes.faults)) (rose_counted files.faults)

  -- the replay was done
  done_so : shown.faults ≡ 0 → HasStreamed plant script before.written mid.written (ShowsPackets shown) → mid.faults ≡ before.faults → Ends mid 0
  done_so none has count = record {
    end = _;
    ends = inr (inl (
      has.output,
      refl,
      gives (record {
        no_faults = none;
        streamed = record {
          replay = has.replay;
          front = has.replay.actions;
          later = [];
          place = sym (append-nil has.replay.actions);
          all = λ zero. refl;
          whole = λ zero. has.appends;
          cut = λ other. absurd (other refl);
          given = just_texts shown.written shown.faults (packets_in plant has.replay.actions) none has.sends;
        };
      }),
    ));
    own = record { not_words = λ h. omega (arith, h); not_plant = λ h. omega (arith, h); faults = well_counted none };
    comes = inl (record { status_is = refl; appends = has.appends; faults = count });
  }

  -- the output failed, and no write of the stream
  cut_so : shown.faults ≡ 0 → HasStreamedFront plant script before.written mid.written (ShowsPackets shown) 0 shown.faults → mid.faults ≡ one_more before.faults → Ends mid 7
  cut_so none has count =
      let lines = lines_front plant has.replay.actions has.front has.later has.output has.replay.history.shown has.place in
      let part = longer-part (lines_in plant has.front) (lines_in plant has.later) before.written mid.written has.cut.appends in
      record {
        end = _;
        ends = inr (inl (
          has.output,
          refl,
          gives (record {
            no_faults = none;
            streamed = record {
              replay = has.replay;
              front = has.front;
              later = has.later;
              place = has.place;
              all = λ zero. absurd (omega (arith, zero));
              whole = λ zero. absurd (omega (arith, zero));
              cut = λ other. has.cut;
              given = just_texts shown.written shown.faults (packets_in plant has.front) none has.sends;
            };
          }),
        ));
        own = record { not_words = λ h. omega (arith, h); not_plant = λ h. omega (arith, h); faults = well_counted none };
        comes = inr (record { status_is = refl; appends = subst (λ (text : List ℕ). AppendsPart text before.written mid.written) (sym lines) part; faults = count });
      }

  -- the output failed, and a write of the stream
  cut_both : shown.faults ≡ one_more 0 → (has : HasStreamedFront plant script before.written mid.written (ShowsPackets shown) 0 shown.faults) → BeginWithPacket plant has.later → mid.faults ≡ one_more before.faults → Ends mid 7
  cut_both one has begins count = record {
    end = _;
    ends = inr (inr (inr (
      lines_in plant has.front,
      refl,
      inr (gives (record {
        faults = faulty shown.faults one;
        broke = record {
          whole = has.output;
          replay = has.replay;
          front = has.front;
          later = has.later;
          place = has.place;
          stops = begins;
          lines = refl;
          wrote = inr (refl, has.cut);
          given = its_items shown.written shown.faults (packets_in plant has.front) has.sends;
        };
      })),
    )));
    own = record { not_words = λ h. omega (arith, h); not_plant = λ h. omega (arith, h); faults = once_counted (faulty shown.faults one) };
    comes = inr (record { status_is = refl; appends = longer-part (lines_in plant has.front) (file_fault name) before.written mid.written has.cut.appends; faults = count });
  }

  -- a write of the stream failed
  broken_so : (now : Output) (status : ℕ) → shown.faults ≡ one_more 0 → HasStoppedAtPort plant script before.written mid.written (ShowsPackets shown) → mid.faults ≡ before.faults → ComesTo (file_failed name) status mid now
      → Ends now status
  broken_so now status one has count comes = record {
    end = _;
    ends = inr (inr (inr (
      lines_in plant has.front,
      refl,
      inr (gives (record {
        faults = faulty shown.faults one;
        broke = record {
          whole = has.output;
          replay = has.replay;
          front = has.front;
          later = has.failed ∷ has.later;
          place = has.place;
          stops = (has.failed, has.later, refl, has.has_packet);
          lines = refl;
          wrote = inl (more_behind name (lines_in plant has.front) status before mid now has.appends comes);
          given = its_items shown.written shown.faults (packets_in plant has.front) has.sends;
        };
      })),
    )));
    own = record { not_words = λ h. omega (arith, h); not_plant = λ h. omega (arith, h); faults = once_counted (faulty shown.faults one) };
    comes = comes_behind (lines_in plant has.front) (file_failed name) status before mid now has.appends count comes;
  }

  -- by what the replay answered, and what was told of that
  pub ended_so : {T : Type 0} (ended : Result T StreamedFault) (now : Output) (status : ℕ) → StreamsTo plant script ended shown before.written mid.written → mid.faults ≡ count_after (stream_failed ended) before.faults
      → TellsStream name ended mid now status → Ends now status
  ended_so (Ok done) now status streams count tells =
      subst (λ (o : Output). Ends o status) (sym tells.same) (subst (λ (s : ℕ). Ends mid s) (sym tells.status_is) (done_so streams.0 streams.1 count))
  ended_so (Err streams.NoMemory) now status (same, is) count tells = record {
    end = _;
    ends = inl (refl, inr (gives (as_made is)));
    own = record { not_words = λ h. omega (arith, h); not_plant = λ h. omega (arith, h); faults = well_counted is.no_faults };
    comes = comes_later _ status before mid now same count tells;
  }
  ended_so (Err (streams.BadLine number)) now status (bad, same, is) count tells = record {
    end = _;
    ends = inr (inr (inl (number, refl, bad, gives (as_made is))));
    own = record { not_words = λ h. omega (arith, h); not_plant = λ h. omega (arith, h); faults = well_counted is.no_faults };
    comes = comes_later _ status before mid now same count tells;
  }
  ended_so (Err streams.OutputFault) now status has count tells =
      subst (λ (o : Output). Ends o status) (sym tells.same) (subst (λ (s : ℕ). Ends mid s) (sym tells.status_is) (elim has.stops [
        | inl none ↦ cut_so none has count
        | inr stops ↦ cut_both stops.0 has stops.1 count
      ]))
  ended_so (Err streams.PortFault) now status (one, has) count tells = broken_so now status one has count tells
