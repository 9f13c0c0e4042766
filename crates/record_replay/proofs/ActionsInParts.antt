-- A script's history in parts: the actions whose works were done, and the others.
use Rattle.std.proofs.Common.{◌≡◌, ℕ, ◌≤◌, List, [], ◌∷◌, ◌++◌, length, All, refl, sym, ◌∙◌, ap, subst, append_assoc, arith}
use Rattle.std.proofs.lemmas.List.Concat.{flat_map-append}
use Rattle.std.proofs.lemmas.List.Elements.{All-head, All-tail, All-from_recursion}
use Rattle.plant_config.specs.Plant.{PlantData}
use Rattle.record_replay.specs.Script.{Work, IsOfPlant, lines, worked, LinesSpell}
use Rattle.record_replay.specs.Replay.{ReplayState, begun, AllWork}
use Rattle.record_replay.specs.Laws.{Action, line_of, IsHistory}
use Rattle.record_replay.specs.Streamed.{packets_by, packets_in, lines_in}
use Rattle.record_replay.specs.PortInside.{packets_at, AllSent, SentTo}
use Rattle.record_replay.proofs.IsReplayLemmas.{of_plant}
use Rattle.record_replay.proofs.ActionsLemmas.{LeadTo, Does, DoesAll, lead-begun, does, does_none, does_first, does_all}

module _ (plant : PlantData) where
  -- Works that are left are done, the first of them by the action that has its packets.
  pub record BeginsSo (left : List Work) (stand : ReplayState) (more : List Action) : Type 0 where
    pub none : left ≡ [] → more ≡ []
    pub some : (work : Work) (works : List Work) → left ≡ work ∷ works → (action : Action) × (behind : List Action) × (more ≡ action ∷ behind) × (packets_at plant stand.state work ≡ packets_by plant action)

  does_left : (left : List Work) (actions : List Action) (output : List ℕ) (stand last : ReplayState) → LeadTo plant actions stand → All (IsOfPlant plant) left → AllWork plant left stand output last
      → (all : DoesAll plant actions left output) × BeginsSo left stand all.more
  unfolding does_none does_first
  does_left [] actions output stand last lead has done =
      (does_none plant actions output stand lead done.0, record { none = λ is. refl; some = λ work works is. absurd cc })
  does_left (first ∷ left) actions output stand last lead has done =
      let Has : Work → Type 0 = IsOfPlant plant in
      let one : Does plant actions first done.1 stand done.0 = does plant actions first done.1 stand done.0 lead (All-head Has first left has) done.3 in
      let later = does_all plant left (actions ++ one.action ∷ []) done.2 done.0 last one.lead (All-tail Has first left has) done.4 in
      let begins : (work : Work) (works : List Work) → first ∷ left ≡ work ∷ works → packets_at plant stand.state work ≡ packets_by plant one.action =
      λ work works is. let head : work ≡ first = cc in ap (packets_at plant stand.state) head ∙ one.packets_are in
      (does_first plant actions first left done.1 done.2 output stand done.0 lead one later done.5, record { none = λ is. absurd cc; some = λ work works is. (one.action, later.more, refl, begins work works is) })

  -- Of the actions that do works, a front does the first ones, with this text and these packets. Those that are left are done
  -- by the others.
  record InFront (done left : List Work) (mid : ReplayState) (text : List ℕ) (packets : List (List ℕ)) (all : List Action) : Type 0 where
    front : List Action
    later : List Action
    place : all ≡ front ++ later
    count : length front ≡ length done
    shown : text ≡ lines_in plant front
    sent : packets ≡ packets_in plant front
    begins : BeginsSo left mid later

  does_parts : (done left : List Work) (actions : List Action) (text rest : List ℕ) (packets : List (List ℕ)) (stand mid last : ReplayState) → LeadTo plant actions stand → All (IsOfPlant plant) (done ++ left)
      → AllSent plant done stand text packets mid → AllWork plant left mid rest last → (all : DoesAll plant actions (done ++ left) (text ++ rest)) × InFront done left mid text packets all.more
  unfolding does_first
  does_parts [] left actions text rest packets stand mid last lead has sent after =
      let From : ReplayState → Type 0 = λ stand. AllWork plant left stand rest last in
      let all = does_left left actions rest stand last lead has (subst From sent.2 after) in
      let Begins : ReplayState → Type 0 = λ stand. BeginsSo left stand all.0.more in (
        record {
          more = all.0.more;
          works_are = all.0.works_are;
          shown = ap (λ (text : List ℕ). text ++ rest) sent.0 ∙ all.0.shown;
          seated = all.0.seated;
          legal = all.0.legal;
          each = all.0.each;
          answers = all.0.answers;
        },
        record { front = []; later = all.0.more; place = refl; count = refl; shown = sent.0; sent = sent.1; begins = subst Begins (sym sent.2) all.1 },
      )
  does_parts (work ∷ done) left actions text rest packets stand mid last lead has sent after =
      let Has : Work → Type 0 = IsOfPlant plant in
      let one : Does plant actions work sent.1 stand sent.0 = does plant actions work sent.1 stand sent.0 lead (All-head Has work (done ++ left) has) sent.4 in
      let later = does_parts done left (actions ++ one.action ∷ []) sent.2 rest sent.3 sent.0 mid last one.lead (All-tail Has work (done ++ left) has) sent.5 after in
      let parts = later.1 in (
        does_first plant actions work (done ++ left) sent.1 (sent.2 ++ rest) (text ++ rest) stand sent.0 lead one later.0 (ap (λ (text : List ℕ). text ++ rest) sent.6 ∙ append_assoc sent.1 sent.2 rest),
        record {
          front = one.action ∷ parts.front;
          later = parts.later;
          place = ap (λ (more : List Action). one.action ∷ more) parts.place;
          count = omega (arith, parts.count);
          shown = sent.6 ∙ (λ i. one.line_is i ++ parts.shown i);
          sent = sent.7 ∙ (λ i. one.packets_are i ++ parts.sent i);
          begins = parts.begins;
        },
      )

  -- Behind actions that do works with this text, others do some that were done with more.
  record InTwo (final left : List Work) (mid : ReplayState) (earlier more : List ℕ) (packets others : List (List ℕ)) (all : List Action) : Type 0 where
    first : List Action
    behind : List Action
    place : all ≡ first ++ behind
    before : earlier ≡ lines_in plant first
    sent : packets ≡ packets_in plant first
    parts : InFront final left mid more others behind

  does_two : (works final left : List Work) (actions : List Action) (earlier more rest : List ℕ) (packets others : List (List ℕ)) (stand mid next last : ReplayState) → LeadTo plant actions stand → All (IsOfPlant plant) (works ++ (final ++ left))
      → AllSent plant works stand earlier packets mid → AllSent plant final mid more others next → AllWork plant left next rest last
      → (all : DoesAll plant actions (works ++ (final ++ left)) (earlier ++ (more ++ rest))) × InTwo final left next earlier more packets others all.more
  unfolding does_first
  does_two [] final left actions earlier more rest packets others stand mid next last lead has sent then after =
      let From : ReplayState → Type 0 = λ stand. AllSent plant final stand more others next in
      let all = does_parts final left actions more rest others stand next last lead has (subst From sent.2 then) after in (
        record {
          more = all.0.more;
          works_are = all.0.works_are;
          shown = ap (λ (text : List ℕ). text ++ (more ++ rest)) sent.0 ∙ all.0.shown;
          seated = all.0.seated;
          legal = all.0.legal;
          each = all.0.each;
          answers = all.0.answers;
        },
        record { first = []; behind = all.0.more; place = refl; before = sent.0; sent = sent.1; parts = all.1 },
      )
  does_two (work ∷ works) final left actions earlier more rest packets others stand mid next last lead has sent then after =
      let Has : Work → Type 0 = IsOfPlant plant in
      let one : Does plant actions work sent.1 stand sent.0 = does plant actions work sent.1 stand sent.0 lead (All-head Has work (works ++ (final ++ left)) has) sent.4 in
      let later = does_two works final left (actions ++ one.action ∷ []) sent.2 more rest sent.3 others sent.0 mid next last one.lead (All-tail Has work (works ++ (final ++ left)) has) sent.5 then after in
      let two = later.1 in (
        does_first plant actions work (works ++ (final ++ left)) sent.1 (sent.2 ++ (more ++ rest)) (earlier ++ (more ++ rest)) stand sent.0 lead one later.0
            (ap (λ (text : List ℕ). text ++ (more ++ rest)) sent.6 ∙ append_assoc sent.1 sent.2 (more ++ rest)),
        record {
          first = one.action ∷ two.first;
          behind = two.behind;
          place = ap (λ (more : List Action). one.action ∷ more) two.place;
          before = sent.6 ∙ (λ i. one.line_is i ++ two.before i);
          sent = sent.7 ∙ (λ i. one.packets_are i ++ two.sent i);
          parts = two.parts;
        },
      )

  -- Of a script's actions a front does the works that were done, with this text and these packets. All of it but the last action,
  -- or all, has this text before. Those that are left are done by the others.
  pub record InParts (left : List Work) (mid : ReplayState) (earlier text : List ℕ) (packets : List (List ℕ)) (all : List Action) : Type 0 where
    pub front : List Action
    pub later : List Action
    pub place : all ≡ front ++ later
    pub shown : text ≡ lines_in plant front
    pub sent : packets ≡ packets_in plant front
    pub begins : BeginsSo left mid later
    pub first : List Action
    pub last : List Action
    pub front_is : front ≡ first ++ last
    pub one : length last ≤ 1
    pub before : earlier ≡ lines_in plant first

  in_parts : (final left : List Work) (mid : ReplayState) (earlier more text : List ℕ) (packets others both : List (List ℕ)) (all : List Action) → text ≡ earlier ++ more → both ≡ packets ++ others → length final ≤ 1
      → InTwo final left mid earlier more packets others all → InParts left mid earlier text both all
  in_parts final left mid earlier more text packets others both all text_is both_are few two = record {
    front = two.first ++ two.parts.front;
    later = two.parts.later;
    place = two.place ∙ ap (λ (behind : List Action). two.first ++ behind) two.parts.place ∙ sym (append_assoc two.first two.parts.front two.parts.later);
    shown = text_is ∙ (λ i. two.before i ++ two.parts.shown i) ∙ sym (flat_map-append (line_of plant) two.first two.parts.front);
    sent = both_are ∙ (λ i. two.sent i ++ two.parts.sent i) ∙ sym (flat_map-append (packets_by plant) two.first two.parts.front);
    begins = two.parts.begins;
    first = two.first;
    last = two.parts.front;
    front_is = refl;
    one = omega (arith, two.parts.count, few);
    before = two.before;
  }

  -- So a script whose first works were done, with this text and these packets, has a history in these parts.
  pub history_parts : (script : List ℕ) (done left : List Work) (earlier text rest : List ℕ) (packets : List (List ℕ)) (mid last : ReplayState) → LinesSpell plant (worked (lines script)) (done ++ left)
      → SentTo plant done (begun plant) earlier text packets mid → AllWork plant left mid rest last
      → (actions : List Action) × IsHistory plant script (text ++ rest) actions × InParts left mid earlier text packets actions
  history_parts script done left earlier text rest packets mid last spelled sent after =
      let works : done ++ left ≡ sent.first ++ (sent.final ++ left) = ap (λ (done : List Work). done ++ left) sent.works_are ∙ append_assoc sent.first sent.final left in
      let output : text ++ rest ≡ earlier ++ (sent.more ++ rest) = ap (λ (text : List ℕ). text ++ rest) sent.output_is ∙ append_assoc earlier sent.more rest in
      let spelled_so = subst (LinesSpell plant (worked (lines script))) works spelled in
      let has = All-from_recursion (IsOfPlant plant) (sent.first ++ (sent.final ++ left)) (of_plant plant (worked (lines script)) (sent.first ++ (sent.final ++ left)) spelled_so) in
      let made = does_two sent.first sent.final left [] earlier sent.more rest sent.first_packets sent.more_packets (begun plant) sent.mid mid last (lead-begun plant) has sent.first_sent sent.final_sent after in
      let all : DoesAll plant [] (sent.first ++ (sent.final ++ left)) (earlier ++ (sent.more ++ rest)) = made.0 in (
        all.more,
        record {
          spelled = subst (LinesSpell plant (worked (lines script))) (sym all.works_are) spelled_so;
          shown = output ∙ all.shown;
          seated = all.seated;
          legal = all.legal;
          each = all.each;
        },
        in_parts sent.final left mid earlier sent.more text sent.first_packets sent.more_packets packets all.more sent.output_is sent.packets_are sent.one made.1,
      )
