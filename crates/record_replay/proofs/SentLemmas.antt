-- What works that are done one after the other send.
use Rattle.std.proofs.Common.{◌≡◌, ℕ, ◌≤◌, List, [], ◌∷◌, ◌++◌, length, refl, sym, ◌∙◌, ap, subst, append_assoc, append-nil, arith}
use Rattle.ctl_io.specs.Faults.{one_more}
use Rattle.plant_config.specs.Plant.{PlantData}
use Rattle.record_replay.specs.Script.{Work}
use Rattle.record_replay.specs.Replay.{ReplayState}
use Rattle.record_replay.specs.PortInside.{SendsAll, SendsUntil, packets_at, AllSent, SentTo}
use Rattle.record_replay.specs.ReplayerInside.{DoesWork}
use Rattle.record_replay.specs.declared.replayer.Replayer.{Replayer}

-- Works are done behind others.
pub AllSent-append : (plant : PlantData) (works later : List Work) (stand mid last : ReplayState) (text rest : List ℕ) (packets others : List (List ℕ))
    → AllSent plant works stand text packets mid → AllSent plant later mid rest others last → AllSent plant (works ++ later) stand (text ++ rest) (packets ++ others) last
AllSent-append plant [] later stand mid last text rest packets others done more =
    let From : ReplayState → Type 0 = λ stand. AllSent plant later stand rest others last in
    let Says : List ℕ → Type 0 = λ text. AllSent plant later stand (text ++ rest) others last in
    let Gives : List (List ℕ) → Type 0 = λ packets. AllSent plant later stand (text ++ rest) (packets ++ others) last in
    subst Gives (sym done.1) (subst Says (sym done.0) (subst From done.2 more))
AllSent-append plant (work ∷ works) later stand mid last text rest packets others done more = (
  done.0,
  done.1,
  done.2 ++ rest,
  done.3 ++ others,
  done.4,
  AllSent-append plant works later done.0 mid last done.2 rest done.3 others done.5 more,
  ap (λ (text : List ℕ). text ++ rest) done.6 ∙ append_assoc done.1 done.2 rest,
  ap (λ (packets : List (List ℕ)). packets ++ others) done.7 ∙ append_assoc (packets_at plant stand.state work) done.3 others,
)

-- Works that are done as a front and a last one are done one after the other.
pub sent_all : (plant : PlantData) (works : List Work) (stand : ReplayState) (earlier output : List ℕ) (packets : List (List ℕ)) (last : ReplayState) → SentTo plant works stand earlier output packets last → AllSent plant works stand output packets last
sent_all plant works stand earlier output packets last sent =
    let Does : List Work → Type 0 = λ works. AllSent plant works stand output packets last in
    let Says : List ℕ → Type 0 = λ output. AllSent plant (sent.first ++ sent.final) stand output packets last in
    let Gives : List (List ℕ) → Type 0 = λ packets. AllSent plant (sent.first ++ sent.final) stand (earlier ++ sent.more) packets last in
    subst Does (sym sent.works_are)
    (subst Says (sym sent.output_is)
    (subst Gives (sym sent.packets_are) (AllSent-append plant sent.first sent.final stand sent.mid last earlier sent.more sent.first_packets sent.more_packets sent.first_sent sent.final_sent)))

-- No works are done,
pub sent_nothing : (plant : PlantData) (stand : ReplayState) → SentTo plant [] stand [] [] [] stand
sent_nothing plant stand = record {
  first = [];
  final = [];
  works_are = refl;
  one = omega arith;
  mid = stand;
  more = [];
  first_packets = [];
  more_packets = [];
  first_sent = (refl, refl, refl);
  final_sent = (refl, refl, refl);
  output_is = refl;
  packets_are = refl;
}

-- and one behind others.
pub sent_one : (plant : PlantData) (works final : List Work) (stand mid last : ReplayState) (earlier output more : List ℕ) (packets others : List (List ℕ)) → length final ≤ 1 → SentTo plant works stand earlier output packets mid → AllSent plant final mid more others last
    → SentTo plant (works ++ final) stand output (output ++ more) (packets ++ others) last
sent_one plant works final stand mid last earlier output more packets others one sent done = record {
  first = works;
  final = final;
  works_are = refl;
  one = one;
  mid = mid;
  more = more;
  first_packets = packets;
  more_packets = others;
  first_sent = sent_all plant works stand earlier output packets mid sent;
  final_sent = done;
  output_is = refl;
  packets_are = refl;
}

-- A port that stays as it is was sent nothing.
pub sends_none : {P : Type 0} (WasSent : P → List (List ℕ) → Type 0) (faults : P → ℕ) (port : P) → SendsAll WasSent faults [] port port
sends_none WasSent faults port = record { sends = λ all has. subst (WasSent port) (sym (append-nil all)) has; count = refl }

-- Packets are sent behind others,
pub sends_more : {P : Type 0} (WasSent : P → List (List ℕ) → Type 0) (faults : P → ℕ) (packets others : List (List ℕ)) (first next last : P)
    → SendsAll WasSent faults packets first next → SendsAll WasSent faults others next last → SendsAll WasSent faults (packets ++ others) first last
sends_more WasSent faults packets others first next last h k = record {
  sends = λ all has. subst (WasSent last) (append_assoc all packets others) (k.sends (all ++ packets) (h.sends all has));
  count = k.count ∙ h.count;
}

-- and then a send fails.
pub sends_until : {P : Type 0} (WasSent : P → List (List ℕ) → Type 0) (faults : P → ℕ) (packets others : List (List ℕ)) (first next last : P)
    → SendsAll WasSent faults packets first next → SendsUntil WasSent faults others next last → SendsUntil WasSent faults (packets ++ others) first last
sends_until WasSent faults packets others first next last h k = record {
  sends = λ all has. subst (WasSent last) (append_assoc all packets others) (k.sends (all ++ packets) (h.sends all has));
  count = k.count ∙ (λ i. one_more (h.count i));
}

-- A work without packets leaves the port as it is.
pub does_unsent : {P : Type 0} (WasSent : P → List (List ℕ) → Type 0) (faults : P → ℕ) (port : P) (plant : PlantData) (work : Work) (before after : Replayer) (IsPut : List ℕ → Type 0)
    → ((stand : ReplayState) → packets_at plant stand.state work ≡ []) → DoesWork plant work before after (λ text packets. IsPut text)
    → DoesWork plant work before after (λ text packets. IsPut text × SendsAll WasSent faults packets port port)
does_unsent WasSent faults port plant work before after IsPut none does stand used stands within =
    let done = does stand used stands within in
    let Sent : List (List ℕ) → Type 0 = λ packets. SendsAll WasSent faults packets port port in
    (done.0, (done.1, subst Sent (sym (none stand)) (sends_none WasSent faults port)), done.2)
