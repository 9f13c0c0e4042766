-- What a script's replay gives to the sink, and sends to the port.
use Rattle.std.proofs.Common.{◌≡◌, ℕ, ◌⊎◌, inl, inr, ◌+◌, ◌^◌, ◌<◌, ◌≤◌, Bool, true, false, List, [], ◌∷◌, ◌++◌, length, take, Option, sym, ap, ◌∙◌, subst, arith}
use Rattle.std.specs.Bool.{OnTrue, OnFalse}
use Rattle.std.specs.List.{AllByRecursion, flat_map}
use Rattle.std.proofs.lemmas.List.{append-nil}
use Rattle.std.proofs.lemmas.List.Concat.{flat_map-append}
use Rattle.std.proofs.lemmas.List.Elements.{All-from_recursion}
use Rattle.ctl_io.specs.Faults.{one_more}
use Rattle.ctl_io.specs.Sink.{appended, AppendsPart}
use Rattle.plant_config.specs.Plant.{PlantData}
use Rattle.record_replay.specs.declared.output.Output.{Output}
use Rattle.record_replay.specs.declared.replayer.Replayer.{Replayer}
use Rattle.record_replay.specs.OutputInside.{HasNothing, PutsLines, IsAllGiven, IsCutShort}
use Rattle.record_replay.specs.Script.{Work, IsOfPlant, lines, worked, LinesSpell}
use Rattle.record_replay.specs.Replay.{ReplayState, begun, AllWork}
use Rattle.record_replay.specs.Laws.{Action, line_of, history_of}
use Rattle.record_replay.specs.TiedReplay.{IsTiedReplay, HasReplayed, HasReplayedFront}
use Rattle.ctl_net.specs.Port.{SendsOn}
use Rattle.record_replay.specs.Streamed.{packets_in, lines_in, most_waiting, BeginWithPacket, HasStreamed, HasStreamedFront, HasStoppedAtPort, PortStops}
use Rattle.record_replay.specs.PortInside.{SendsAll, SendsUntil, LeavesNone, LeavesPacket}
use Rattle.record_replay.specs.ReplayerInside.{StandsAt, MayDo, DoesScript}
use Rattle.record_replay.proofs.IsReplayLemmas.{of_plant}
use Rattle.record_replay.proofs.ActionsInParts.{InParts, history_parts}
use Rattle.record_replay.proofs.OutputLemmas.{AppendsPart-more}
use Rattle.plant_core.proofs.HistoryLemmas.{keeps_ties_valid}
use Rattle.record_replay.proofs.WorksLemmas.{works_exist}

-- A new replayer may do any script.
pub may_begin : (plant : PlantData) (replayer : Replayer) (script : List ℕ) → StandsAt plant replayer (begun plant) 0 → length script < 2 ^ 63 → MayDo (length script) replayer.plant.now replayer
may_begin plant replayer script stands small =
    subst (λ (plant : PlantData). MayDo (length script) plant replayer) (sym stands.plant_is) (record { stand = begun plant; used = 0; stands = stands; within = omega (arith, small) })

-- What holds of each work holds of each of the last ones.
last_have : (P : Work → Type 0) (done left : List Work) → AllByRecursion P (done ++ left) → AllByRecursion P left
last_have P [] left all = all
last_have P (work ∷ done) left all = last_have P done left all.1

-- A script's replay, of which this was put and sent.
pub record Came (plant : PlantData) (script : List ℕ) (Leaves : ReplayState → List Work → Type 0) (earlier text : List ℕ) (packets : List (List ℕ)) : Type 0 where
  pub rest : List ℕ
  pub replay : IsTiedReplay plant script (text ++ rest)
  pub mid : ReplayState
  pub left : List Work
  pub leaves : Leaves mid left
  pub parts : InParts plant left mid earlier text packets replay.actions
  pub whole : left ≡ [] → rest ≡ []

-- No works write nothing.
nothing_left : (plant : PlantData) (left : List Work) (mid last : ReplayState) (rest : List ℕ) → AllWork plant left mid rest last → left ≡ [] → rest ≡ []
nothing_left plant left mid last rest all none = (subst (λ (left : List Work). AllWork plant left mid rest last) none all).0

pub came : (plant : PlantData) (script : List ℕ) (replayer : Replayer) (Leaves : PlantData → ReplayState → List Work → Type 0) (IsPut : List ℕ → List ℕ → List (List ℕ) → Type 0) → StandsAt plant replayer (begun plant) 0 → length script < 2 ^ 63
    → (works : List Work) × LinesSpell plant (worked (lines script)) works → DoesScript replayer.plant.now script replayer (Leaves replayer.plant.now) IsPut
    → (earlier text : List ℕ) × (packets : List (List ℕ)) × IsPut earlier text packets × Came plant script (Leaves plant) earlier text packets
came plant script replayer Leaves IsPut stands small spelled does =
    let Does : PlantData → Type 0 = λ plant. DoesScript plant script replayer (Leaves plant) IsPut in
    let done = subst Does stands.plant_is does (begun plant) 0 spelled.0 stands (omega (arith, small)) spelled.1 in
    let Has : Work → Type 0 = IsOfPlant plant in
    let works = subst (LinesSpell plant (worked (lines script))) done.4.works_are spelled.1 in
    let has = of_plant plant (worked (lines script)) (done.4.done ++ done.4.left) works in
    let later = works_exist plant done.4.left done.4.next done.4.settled (All-from_recursion Has done.4.left (last_have Has done.4.done done.4.left has)) in
    let made = history_parts plant script done.4.done done.4.left done.0 done.1 later.0 done.2 done.4.next later.1 works done.4.sent later.2 in (
      done.0,
      done.1,
      done.2,
      done.3,
      record {
        rest = later.0;
        replay = record { actions = made.0; history = made.1; ties = keeps_ties_valid plant (history_of made.0) stands.valid.is_plant };
        mid = done.4.next;
        left = done.4.left;
        leaves = done.4.leaves;
        parts = made.2;
        whole = nothing_left plant done.4.left done.4.next later.1 later.0 later.2;
      },
    )

-- All works were done: the whole text, and all packets.
pub came_whole : (plant : PlantData) (script earlier text : List ℕ) (packets : List (List ℕ)) (failed : Bool) (before now : Option (List ℕ)) (Sends : List (List ℕ) → Type 0) → Came plant script (LeavesNone failed) earlier text packets
    → failed ≡ false → now ≡ appended before text → Sends packets → HasStreamed plant script before now Sends
came_whole plant script earlier text packets failed before now Sends came on given sends =
    let none = came.leaves on in
    let text_is : text ++ came.rest ≡ text = ap (λ (rest : List ℕ). text ++ rest) (came.whole none) ∙ append-nil text in
    let front_is : came.replay.actions ≡ came.parts.front = came.parts.place ∙ ap (λ (later : List Action). came.parts.front ++ later) (came.parts.begins.none none) ∙ append-nil came.parts.front in
    record {
      output = text ++ came.rest;
      replay = came.replay;
      appends = given ∙ ap (appended before) (sym text_is);
      sends = subst Sends (came.parts.sent ∙ ap (packets_in plant) (sym front_is)) sends;
    }

-- A write failed: a front of the lines, and the packets of these.
pub came_front : (plant : PlantData) (script earlier text : List ℕ) (packets : List (List ℕ)) (Leaves : ReplayState → List Work → Type 0) (before now : Option (List ℕ)) (Sends : List (List ℕ) → Type 0) (count_before count_now : ℕ) (came : Came plant script Leaves earlier text packets)
    → (part : AppendsPart text before now) → length earlier ≤ part.count + most_waiting → Sends packets → PortStops plant came.parts.later count_before count_now → HasStreamedFront plant script before now Sends count_before count_now
came_front plant script earlier text packets Leaves before now Sends count_before count_now came part waited sends stops = record {
  output = text ++ came.rest;
  replay = came.replay;
  front = came.parts.front;
  later = came.parts.later;
  place = came.parts.place;
  cut = record {
    appends = record {
      count = part.count;
      shorter = subst (λ (text : List ℕ). part.count < length text) came.parts.shown part.shorter;
      appends = part.appends ∙ ap (λ (text : List ℕ). appended before (take part.count text)) came.parts.shown;
    };
    earlier = came.parts.first;
    last = came.parts.last;
    actions_are = came.parts.front_is;
    one = came.parts.one;
    waited = subst (λ (lines : List ℕ). length lines ≤ part.count + most_waiting) came.parts.before waited;
  };
  sends = subst Sends came.parts.sent sends;
  stops = stops;
}

-- Where works are left of which the first has a packet, the actions of these begin with it.
came_waits : (plant : PlantData) (script earlier text : List ℕ) (packets : List (List ℕ)) (came : Came plant script (LeavesPacket plant) earlier text packets) → BeginWithPacket plant came.parts.later
came_waits plant script earlier text packets came =
    let waits = came.leaves in
    let next = came.parts.begins.some waits.0 waits.1 waits.2 in
    (next.0, next.1, next.2, λ none. waits.3 (next.3 ∙ none))

-- A send failed: the lines before, and their packets.
pub came_to_port : (plant : PlantData) (script earlier text : List ℕ) (packets : List (List ℕ)) (before now : Option (List ℕ)) (Sends : List (List ℕ) → Type 0) → Came plant script (LeavesPacket plant) earlier text packets
    → now ≡ appended before text → Sends packets → HasStoppedAtPort plant script before now Sends
came_to_port plant script earlier text packets before now Sends came given sends =
    let next = came_waits plant script earlier text packets came in
    record {
      output = text ++ came.rest;
      replay = came.replay;
      front = came.parts.front;
      failed = next.0;
      later = next.1;
      place = came.parts.place ∙ ap (λ (later : List Action). came.parts.front ++ later) next.2;
      has_packet = next.3;
      appends = given ∙ ap (appended before) came.parts.shown;
      sends = subst Sends came.parts.sent sends;
    }

module _ {K P : Type 0} (written : K → Option (List ℕ)) (faults : K → ℕ) (WasSent : P → List (List ℕ) → Type 0) (port_faults : P → ℕ) (plant : PlantData) (script : List ℕ) (replayer : Replayer) (sink now : K)
    (first last : Output K) (port port_now : P) (stands : StandsAt plant replayer (begun plant) 0) (small : length script < 2 ^ 63) (spelled : (works : List Work) × LinesSpell plant (worked (lines script)) works)
    (nothing : HasNothing written faults sink first) where
  -- All that was put was given, and all packets were sent.
  pub streamed : DoesScript replayer.plant.now script replayer (LeavesNone last.failed) (λ earlier text packets. PutsLines written faults earlier text first last × SendsAll WasSent port_faults packets port port_now)
      → last.failed ≡ false → IsAllGiven written faults last now
      → HasStreamed plant script (written sink) (written now) (SendsOn WasSent port port_now) × (faults now ≡ faults sink) × (port_faults port_now ≡ port_faults port)
  streamed does whole given =
      let done = came plant script replayer (λ plant. LeavesNone last.failed) (λ earlier text packets. PutsLines written faults earlier text first last × SendsAll WasSent port_faults packets port port_now) stands small spelled does in
      let all = given (written sink) (faults sink) (length done.0) done.1 (done.3.0.puts (written sink) (faults sink) [] nothing) in
      (came_whole plant script done.0 done.1 done.2 last.failed (written sink) (written now) (SendsOn WasSent port port_now) done.4 whole all.0 done.3.1.sends, all.1, done.3.1.count)

  -- All that was put was given, and a send failed.
  pub stopped : DoesScript replayer.plant.now script replayer (LeavesPacket replayer.plant.now) (λ earlier text packets. PutsLines written faults earlier text first last × SendsUntil WasSent port_faults packets port port_now)
      → IsAllGiven written faults last now
      → HasStoppedAtPort plant script (written sink) (written now) (SendsOn WasSent port port_now) × (faults now ≡ faults sink) × (port_faults port_now ≡ one_more (port_faults port))
  stopped does given =
      let done = came plant script replayer (λ plant. LeavesPacket plant) (λ earlier text packets. PutsLines written faults earlier text first last × SendsUntil WasSent port_faults packets port port_now) stands small spelled does in
      let all = given (written sink) (faults sink) (length done.0) done.1 (done.3.0.puts (written sink) (faults sink) [] nothing) in
      (came_to_port plant script done.0 done.1 done.2 (written sink) (written now) (SendsOn WasSent port port_now) done.4 all.0 done.3.1.sends, all.1, done.3.1.count)

  -- A write failed, behind which a send may have failed too.
  pub cut_short : (told : Bool) → OnTrue told (DoesScript replayer.plant.now script replayer (LeavesNone last.failed) (λ earlier text packets. PutsLines written faults earlier text first last × SendsAll WasSent port_faults packets port port_now))
      → OnFalse told (DoesScript replayer.plant.now script replayer (LeavesPacket replayer.plant.now) (λ earlier text packets. PutsLines written faults earlier text first last × SendsUntil WasSent port_faults packets port port_now))
      → IsCutShort written faults last now
      → HasStreamedFront plant script (written sink) (written now) (SendsOn WasSent port port_now) (port_faults port) (port_faults port_now) × (faults now ≡ one_more (faults sink))
      × ((port_faults port_now ≡ port_faults port) ⊎ (port_faults port_now ≡ one_more (port_faults port)))
  cut_short true does stops cut =
      let done = came plant script replayer (λ plant. LeavesNone last.failed) (λ earlier text packets. PutsLines written faults earlier text first last × SendsAll WasSent port_faults packets port port_now) stands small spelled does in
      let part = cut (written sink) (faults sink) (length done.0) done.1 (done.3.0.puts (written sink) (faults sink) [] nothing) in
      (came_front plant script done.0 done.1 done.2 _ (written sink) (written now) (SendsOn WasSent port port_now) (port_faults port) (port_faults port_now) done.4 part.appends part.waited done.3.1.sends (inl done.3.1.count), part.count, inl done.3.1.count)
  cut_short false does stops cut =
      let done = came plant script replayer (λ plant. LeavesPacket plant) (λ earlier text packets. PutsLines written faults earlier text first last × SendsUntil WasSent port_faults packets port port_now) stands small spelled stops in
      let part = cut (written sink) (faults sink) (length done.0) done.1 (done.3.0.puts (written sink) (faults sink) [] nothing) in (
        came_front plant script done.0 done.1 done.2 _ (written sink) (written now) (SendsOn WasSent port port_now) (port_faults port) (port_faults port_now) done.4 part.appends part.waited done.3.1.sends
            (inr (done.3.1.count, came_waits plant script done.0 done.1 done.2 done.4)),
        part.count,
        inr done.3.1.count,
      )

-- What was streamed was replayed, whole
pub streamed_whole : (plant : PlantData) (script : List ℕ) (before now : Option (List ℕ)) (Sends : List (List ℕ) → Type 0) → HasStreamed plant script before now Sends → HasReplayed plant script before now
streamed_whole plant script before now Sends streamed = record { output = streamed.output; replay = streamed.replay; appends = streamed.appends }

-- or a front of it.
pub streamed_front : (plant : PlantData) (script : List ℕ) (before now : Option (List ℕ)) (Sends : List (List ℕ) → Type 0) (count_before count_now : ℕ) → HasStreamedFront plant script before now Sends count_before count_now → HasReplayedFront plant script before now
streamed_front plant script before now Sends count_before count_now streamed = record {
  output = streamed.output;
  replay = streamed.replay;
  appends = subst (λ (text : List ℕ). AppendsPart text before now)
      (sym (streamed.replay.history.shown ∙ ap (flat_map (line_of plant)) streamed.place ∙ flat_map-append (line_of plant) streamed.front streamed.later))
      (AppendsPart-more (lines_in plant streamed.front) (lines_in plant streamed.later) before now streamed.cut.appends);
}

-- No count rises that stays at 0.
pub never_rises : 0 ≡ one_more 0 → ⊥
never_rises is = omega (arith, is)
