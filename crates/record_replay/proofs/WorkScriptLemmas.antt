-- What a script makes of the plant and the sessions.
use Rattle.std.proofs.Common.{◌≡◌, ℕ, ◌+◌, ◌^◌, ◌≤◌, ◌<◌, Bool, true, false, not, cond, List, [], ◌∷◌, ◌++◌, length, refl, sym, ap, ◌∙◌, subst, arith}
use Rattle.std.proofs.lemmas.List.{append_assoc}
use Rattle.plant_config.specs.Plant.{PlantData}
use Rattle.record_replay.specs.declared.replayer.Replayer.{Replayer}
use Rattle.record_replay.specs.Script.{Work, is_skipped, lines, worked, LinesSpell}
use Rattle.record_replay.specs.Replay.{ReplayState}
use Rattle.record_replay.specs.PortInside.{LeavesPacket}
use Rattle.record_replay.specs.ReplayerInside.{MayDo, DoesLine, LineHasPacket, IsOnTheWay, PlaysOn, DoesScript}
use Rattle.record_replay.proofs.LinesSpellLemmas.{worked-append, worked-cons}
use Rattle.record_replay.proofs.WorkLineLemmas.{no_works}
use Rattle.record_replay.proofs.SentLemmas.{sent_nothing, sent_one}

-- Lines that spell works do so in two parts.
pub record InParts (plant : PlantData) (front later : List (List ℕ)) (works : List Work) : Type 0 where
  pub done : List Work
  pub left : List Work
  pub works_are : works ≡ done ++ left
  pub count : length done ≡ length front
  pub front_spelled : LinesSpell plant front done
  pub later_spelled : LinesSpell plant later left

in_parts : (plant : PlantData) (front later : List (List ℕ)) (works : List Work) → LinesSpell plant (front ++ later) works → InParts plant front later works
in_parts plant [] later works spelled = record { done = []; left = works; works_are = refl; count = refl; front_spelled = tt; later_spelled = spelled }
in_parts plant (line ∷ front) later [] spelled = absurd spelled
in_parts plant (line ∷ front) later (work ∷ works) spelled =
    let parts = in_parts plant front later works spelled.1 in
    record {
      done = work ∷ parts.done;
      left = parts.left;
      works_are = ap (λ (works : List Work). work ∷ works) parts.works_are;
      count = omega (arith, parts.count);
      front_spelled = (spelled.0, parts.front_spelled);
      later_spelled = parts.later_spelled;
    }

-- The first line, and those behind it.
pub first_line : (plant : PlantData) (rest line after : List ℕ) (left : List Work) → lines rest ≡ line ∷ lines after → LinesSpell plant (worked (lines rest)) left → InParts plant (worked (line ∷ [])) (worked (lines after)) left
first_line plant rest line after left is spelled =
    in_parts plant (worked (line ∷ [])) (worked (lines after)) left
    (subst (λ (all : List (List ℕ)). LinesSpell plant all left) (ap worked is ∙ worked-append (line ∷ []) (lines after)) spelled)

-- One line has one work at most.
worked_few : (line : List ℕ) (skipped : Bool) → worked (line ∷ []) ≡ cond (not skipped) (line ∷ []) [] → length (worked (line ∷ [])) ≤ 1
worked_few line true is = let none : length (worked (line ∷ [])) ≡ 0 = ap (length {A = List ℕ}) is in omega (arith, none)
worked_few line false is = let one : length (worked (line ∷ [])) ≡ 1 = ap (length {A = List ℕ}) is in omega (arith, one)

pub one_at_most : (line : List ℕ) → length (worked (line ∷ [])) ≤ 1
one_at_most line = worked_few line (is_skipped line) (worked-cons line [])

-- A line that has a work isn't skipped.
worked_one : (line : List ℕ) (skipped : Bool) → worked (line ∷ []) ≡ cond (not skipped) (line ∷ []) [] → length (worked (line ∷ [])) ≡ 1 → worked (line ∷ []) ≡ line ∷ []
worked_one line true is one = let none : length (worked (line ∷ [])) ≡ 0 = ap (length {A = List ℕ}) is in absurd (omega (arith, none, one))
worked_one line false is one = is

pub line_worked : (line : List ℕ) → length (worked (line ∷ [])) ≡ 1 → worked (line ∷ []) ≡ line ∷ []
line_worked line one = worked_one line (is_skipped line) (worked-cons line []) one

-- A script begins.
pub begins : (plant : PlantData) (script : List ℕ) (replayer : Replayer) (IsPut : List ℕ → List ℕ → List (List ℕ) → Type 0) → IsPut [] [] [] → PlaysOn plant script script replayer replayer IsPut
begins plant script replayer IsPut put stand used works stands within spelled = record {
  done = [];
  left = works;
  works_are = refl;
  spelled = spelled;
  next = stand;
  earlier = [];
  text = [];
  packets = [];
  put = put;
  sent = sent_nothing plant stand;
  used = used;
  stands = stands;
  within = omega arith;
}

-- The lines that are left may be done.
pub rest_may : (plant : PlantData) (works : List Work) (stand : ReplayState) (all : ℕ) (rest : List ℕ) (now : Replayer) (IsPut : List ℕ → List ℕ → List (List ℕ) → Type 0) → all < 2 ^ 63
    → IsOnTheWay plant works stand all rest now IsPut → MayDo (length rest) plant now
rest_may plant works stand all rest now IsPut small way = record { stand = way.next; used = way.used; stands = way.stands; within = omega (arith, way.within, small) }

-- The first line spells works, if all do.
pub first_spelled : (plant : PlantData) (text line behind : List ℕ) → lines text ≡ line ∷ lines behind → (works : List Work) × LinesSpell plant (worked (lines text)) works
    → (works : List Work) × LinesSpell plant (worked (line ∷ [])) works
first_spelled plant text line behind is spelled = let parts = first_line plant text line behind spelled.0 is spelled.1 in (parts.done, parts.front_spelled)

-- What was put before a line, and by it, is put as a whole.
abbrev pub PutOn : (Far : List ℕ → List ℕ → List (List ℕ) → Type 0) (Here : List ℕ → List (List ℕ) → Type 0) (Put : List ℕ → List ℕ → List (List ℕ) → Type 0) → Type 0
PutOn Far Here Put = (earlier text more : List ℕ) (packets others : List (List ℕ)) → Far earlier text packets → Here more others → Put text (text ++ more) (packets ++ others)

-- A line more was done.
pub goes_on : (plant : PlantData) (script rest line after : List ℕ) (before now then : Replayer) (Far : List ℕ → List ℕ → List (List ℕ) → Type 0) (Here : List ℕ → List (List ℕ) → Type 0) (Put : List ℕ → List ℕ → List (List ℕ) → Type 0) → PutOn Far Here Put → lines rest ≡ line ∷ lines after
    → length line + length after ≤ length rest → PlaysOn plant script rest before now Far → DoesLine plant line now then Here → PlaysOn plant script after before then Put
goes_on plant script rest line after before now then Far Here Put on is shorter way does stand used works stands within spelled =
    let so_far = way stand used works stands within spelled in
    let parts = first_line plant rest line after so_far.left is so_far.spelled in
    let done = does so_far.next so_far.used parts.done so_far.stands (omega (arith, so_far.within, within, shorter)) parts.front_spelled in
    record {
      done = so_far.done ++ parts.done;
      left = parts.left;
      works_are = so_far.works_are ∙ ap (λ (left : List Work). so_far.done ++ left) parts.works_are ∙ sym (append_assoc so_far.done parts.done parts.left);
      spelled = parts.later_spelled;
      next = done.3.next;
      earlier = so_far.text;
      text = so_far.text ++ done.0;
      packets = so_far.packets ++ done.1;
      put = on so_far.earlier so_far.text done.0 so_far.packets done.1 so_far.put done.2;
      sent = sent_one plant so_far.done parts.done stand so_far.next done.3.next so_far.earlier so_far.text done.0 so_far.packets done.1 (omega (arith, parts.count, one_at_most line)) so_far.sent done.3.all_sent;
      used = so_far.used + length line;
      stands = done.3.stands;
      within = omega (arith, so_far.within, shorter);
    }

-- What was done of a script, by what is left of it.
pub script_done : (plant : PlantData) (script rest : List ℕ) (before now : Replayer) (Leaves : ReplayState → List Work → Type 0) (IsPut : List ℕ → List ℕ → List (List ℕ) → Type 0) → PlaysOn plant script rest before now IsPut
    → ((stand : ReplayState) (left : List Work) → LinesSpell plant (worked (lines rest)) left → Leaves stand left) → DoesScript plant script before Leaves IsPut
script_done plant script rest before now Leaves IsPut way leaves stand used works stands within spelled =
    let so_far = way stand used works stands within spelled in (
      so_far.earlier,
      so_far.text,
      so_far.packets,
      so_far.put,
      record {
        done = so_far.done;
        left = so_far.left;
        works_are = so_far.works_are;
        next = so_far.next;
        sent = so_far.sent;
        settled = so_far.stands.settled;
        leaves = leaves so_far.next so_far.left so_far.spelled;
      },
    )

-- Nothing is left of a script of which no bytes are left.
pub leaves_none : (plant : PlantData) (rest : List ℕ) (left : List Work) → rest ≡ [] → LinesSpell plant (worked (lines rest)) left → left ≡ []
leaves_none plant rest left is spelled = no_works plant left (subst (λ (rest : List ℕ). LinesSpell plant (worked (lines rest)) left) is spelled)

-- A script stops at a line whose packet wasn't sent.
pub script_stops : (plant : PlantData) (script rest line after : List ℕ) (before now : Replayer) (Far Put : List ℕ → List ℕ → List (List ℕ) → Type 0) → ((earlier text : List ℕ) (packets : List (List ℕ)) → Far earlier text packets → Put earlier text packets)
    → lines rest ≡ line ∷ lines after → PlaysOn plant script rest before now Far → LineHasPacket plant line now → DoesScript plant script before (LeavesPacket plant) Put
script_stops plant script rest line after before now Far Put on is way has stand used works stands within spelled =
    let so_far = way stand used works stands within spelled in
    let parts = first_line plant rest line after so_far.left is so_far.spelled in
    let packet = has so_far.next so_far.used parts.done so_far.stands parts.front_spelled in (
      so_far.earlier,
      so_far.text,
      so_far.packets,
      on so_far.earlier so_far.text so_far.packets so_far.put,
      record {
        done = so_far.done;
        left = so_far.left;
        works_are = so_far.works_are;
        next = so_far.next;
        sent = so_far.sent;
        settled = so_far.stands.settled;
        leaves = (packet.0, packet.1 ++ parts.left, parts.works_are ∙ ap (λ (works : List Work). works ++ parts.left) packet.2, packet.3);
      },
    )
