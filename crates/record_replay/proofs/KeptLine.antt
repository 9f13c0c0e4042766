-- What the work of a line makes of a replay that keeps its states.
use Rattle.std.proofs.Common.{◌≡◌, ℕ, ◌+◌, ◌^◌, ◌≤◌, ◌<◌, List, [], ◌∷◌, ◌++◌, length, Option, sym, ◌∙◌, ap, subst, append_assoc, arith, length-append}
use Rattle.std.specs.Prelude.{IfSome}
use Rattle.std.proofs.lemmas.List.{nil_from_length}
use Rattle.plant_config.specs.Plant.{PlantData}
use Rattle.plant_core.specs.State.{State}
use Rattle.plant_snapshot.specs.StandsFor.{StandsFor}
use Rattle.plant_snapshot.specs.Store.{disk_of, saved_number}
use Rattle.plant_snapshot.specs.declared.store.Store.{Store}
use Rattle.record_replay.specs.declared.replayer.Replayer.{Replayer}
use Rattle.record_replay.specs.Script.{Work, lines, worked, LinesSpell}
use Rattle.record_replay.specs.Replay.{ReplayState, AllWork}
use Rattle.record_replay.specs.FirstInside.{IsFirst}
use Rattle.record_replay.specs.PortInside.{AllSent}
use Rattle.record_replay.specs.ReplayerInside.{StandsAt, DoesLine}
use Rattle.record_replay.specs.Kept.{begun_in, HasWorked}
use Rattle.record_replay.specs.KeptInside.{IsKeeping}
use Rattle.record_replay.proofs.LinesSpellLemmas.{worked-append, LinesSpell-append}
use Rattle.record_replay.proofs.WorkScriptLemmas.{InParts, first_line, one_at_most, line_worked}
use Rattle.record_replay.proofs.KeptWorks.{all_more, sent_work, no_work, one_work}

-- One work more was done than so many, whose output lines these are: that of the first line of a rest.
pub record IsOneMore (plant : PlantData) (script : List ℕ) (first : State) (count : ℕ) (output text rest behind : List ℕ) (then : Replayer) : Type 0 where
  pub line : List ℕ
  pub line_is : worked (lines rest) ≡ line ∷ worked (lines behind)
  pub left : List Work
  pub has : HasWorked plant script first (worked (lines behind)) (count + 1) (output ++ text) then.state
  pub spelled : LinesSpell plant (worked (lines behind)) left
  pub used : ℕ
  pub stands : StandsAt plant then has.stand used
  pub within : used + length behind ≤ length script

module _ {D : Type 0} (size : D → ℕ) (contents : D → Option (List ℕ)) (may_leave : D → List ℕ → Type 0) (moment : D → ℕ) (left_since : D → ℕ → List ℕ → Type 0) (faults : D → ℕ) (name : D → Option (List ℕ))
    (plant : PlantData) (script : List ℕ) (first : State) (store : Store D) (before : Option (List ℕ)) where
  abbrev Keeping : Option (List ℕ) → List ℕ → Replayer → Store D → Type 0
  Keeping now rest replayer kept = IsKeeping size contents may_leave moment left_since faults name plant script first store before now rest replayer kept

  module _ (now : Option (List ℕ)) (rest line behind text : List ℕ) (replayer then : Replayer) (kept : Store D) (small : length script < 2 ^ 63) (split : IsFirst rest line behind) (keeping : Keeping now rest replayer kept)
      (does : DoesLine plant line replayer then (λ its packets. text ≡ its)) where
    abbrev stand : ReplayState
    stand = keeping.keeps.has.stand

    parts : InParts plant (worked (line ∷ [])) (worked (lines behind)) keeping.left
    parts = first_line plant rest line behind keeping.left split.lines_are keeping.spelled

    -- the lines of work, the first of which is this if it has a work
    lines_on : worked (lines rest) ≡ worked (line ∷ []) ++ worked (lines behind)
    lines_on = ap worked split.lines_are ∙ worked-append (line ∷ []) (lines behind)

    -- The state is one of the plant.
    pub plant_then : then.state.plant ≡ plant
    plant_then =
        let did = does stand keeping.used parts.done keeping.stands (omega (arith, keeping.within, split.within, small)) parts.front_spelled in
        ap (λ (s : State). s.plant) did.3.stands.state_is ∙ did.3.stands.settled.plant_is

    -- A line of no work was passed.
    pub passed : text ≡ [] → Keeping now behind then kept
    passed none =
        let did = does stand keeping.used parts.done keeping.stands (omega (arith, keeping.within, split.within, small)) parts.front_spelled in
        let idle : parts.done ≡ [] = no_work plant parts.done stand did.3.next did.0 did.1 did.3.all_sent (sym did.2 ∙ none) in
        let still : did.3.next ≡ stand = (subst (λ (works : List Work). AllSent plant works stand did.0 did.1 did.3.next) idle did.3.all_sent).2 in
        let unworked : worked (line ∷ []) ≡ [] = nil_from_length (worked (line ∷ [])) (sym parts.count ∙ ap (length {A = Work}) idle) in
        let same : worked (lines rest) ≡ worked (lines behind) = lines_on ∙ ap (λ (all : List (List ℕ)). all ++ worked (lines behind)) unworked in
        let state : then.state ≡ stand.state = did.3.stands.state_is ∙ ap (λ (s : ReplayState). s.state) still in
        let has = keeping.keeps.has in
        record {
          left = parts.left;
          keeps = record {
            count = keeping.keeps.count;
            output = keeping.keeps.output;
            has = record {
              front = has.front;
              place = has.place ∙ ap (λ (all : List (List ℕ)). has.front ++ all) same;
              done = has.done;
              spelled = has.spelled;
              count_is = has.count_is;
              stand = stand;
              all_work = has.all_work;
              state_is = state;
            };
            number_is = keeping.keeps.number_is;
            stands = subst (λ (s : State). IfSome (contents (disk_of kept)) (StandsFor plant s (saved_number kept))) (has.state_is ∙ sym state) keeping.keeps.stands;
            few = keeping.keeps.few;
            wrote = keeping.keeps.wrote;
          };
          spelled = parts.later_spelled;
          used = keeping.used + length line;
          stands = subst (λ (s : ReplayState). StandsAt plant then s (keeping.used + length line)) still did.3.stands;
          within = omega (arith, keeping.within, split.within);
          of_plant = keeping.of_plant;
          moments = keeping.moments;
          size_is = keeping.size_is;
          name_is = keeping.name_is;
          faults_are = keeping.faults_are;
        }

    -- A line of work was worked.
    pub one_more : (text ≡ [] → ⊥) → IsOneMore plant script first keeping.keeps.count keeping.keeps.output text rest behind then
    one_more some =
        let did = does stand keeping.used parts.done keeping.stands (omega (arith, keeping.within, split.within, small)) parts.front_spelled in
        let one : length parts.done ≡ 1 = one_work plant parts.done stand did.3.next did.0 did.1 did.3.all_sent (let count = parts.count in let most = one_at_most line in omega (arith, count, most)) (λ none. some (did.2 ∙ none)) in
        let has = keeping.keeps.has in
        let all : AllWork plant (has.done ++ parts.done) (begun_in first) (keeping.keeps.output ++ did.0) did.3.next =
        all_more plant has.done parts.done (begun_in first) stand did.3.next keeping.keeps.output did.0 has.all_work (sent_work plant parts.done stand did.3.next did.0 did.1 did.3.all_sent) in
        record {
          line = line;
          line_is = let more = parts.count in lines_on ∙ ap (λ (all : List (List ℕ)). all ++ worked (lines behind)) (line_worked line (omega (arith, more, one)));
          left = parts.left;
          has = record {
            front = has.front ++ worked (line ∷ []);
            place = has.place ∙ ap (λ (all : List (List ℕ)). has.front ++ all) lines_on ∙ sym (append_assoc has.front (worked (line ∷ [])) (worked (lines behind)));
            done = has.done ++ parts.done;
            spelled = LinesSpell-append plant has.front (worked (line ∷ [])) has.done parts.done has.spelled parts.front_spelled;
            count_is = let count = has.count_is in let two = length-append has.done parts.done in omega (arith, count, two, one);
            stand = did.3.next;
            all_work = subst (λ (its : List ℕ). AllWork plant (has.done ++ parts.done) (begun_in first) (keeping.keeps.output ++ its) did.3.next) (sym did.2) all;
            state_is = did.3.stands.state_is;
          };
          spelled = parts.later_spelled;
          used = keeping.used + length line;
          stands = did.3.stands;
          within = omega (arith, keeping.within, split.within);
        }
