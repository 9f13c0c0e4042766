-- What lines make of the plant and the sessions.
use Rattle.std.proofs.Common.{◌≡◌, ℕ, ◌+◌, ◌≤◌, Bool, true, false, not, cond, List, [], ◌∷◌, length, refl, sym, ap, ◌∙◌, subst, arith}
use Rattle.std.proofs.lemmas.List.{append-nil}
use Rattle.plant_config.specs.Plant.{PlantData}
use Rattle.record_replay.specs.declared.replayer.Replayer.{Replayer}
use Rattle.record_replay.specs.LineInside.{IsBad}
use Rattle.record_replay.specs.FirstInside.{IsFirst, BeginsWithTurn}
use Rattle.record_replay.specs.Script.{Work, Read, is_skipped, worked, LineSpells, LinesSpell}
use Rattle.record_replay.specs.Replay.{ReplayState}
use Rattle.record_replay.specs.PortInside.{packets_at, AllSent}
use Rattle.record_replay.specs.ReplayerInside.{StandsAt, MayDo, HasDone, HasDoneLine, DoesWork, DoesLine, HasPacket, LineHasPacket, need_of}
use Rattle.record_replay.proofs.LineSpellsLemmas.{one_work}
use Rattle.record_replay.proofs.NeedLemmas.{need_within}
use Rattle.record_replay.proofs.LinesSpellLemmas.{worked-cons}
use Rattle.record_replay.proofs.SmallLemmas.{small_later}

-- Behind more of a script a replayer stands as before.
pub stands_later : (plant : PlantData) (replayer : Replayer) (stand : ReplayState) (used later : ℕ) → used ≤ later → StandsAt plant replayer stand used → StandsAt plant replayer stand later
stands_later plant replayer stand used later within stands = record {
  plant_is = stands.plant_is;
  state_is = stands.state_is;
  valid = stands.valid;
  short = stands.short;
  settled = stands.settled;
  count = stands.count;
  each = stands.each;
  small = λ panel. small_later used later (stand.pasts panel) within (stands.small panel);
  empty = stands.empty;
  places = stands.places;
}

-- the lines of one line that are worked
worked_one : (line : List ℕ) (skipped : Bool) → is_skipped line ≡ skipped → worked (line ∷ []) ≡ cond (not skipped) (line ∷ []) []
worked_one line skipped is = worked-cons line [] ∙ ap (λ (skipped : Bool). cond (not skipped) (line ∷ []) []) is

only_work : (plant : PlantData) (line : List ℕ) (work : Work) (works : List Work) → LineSpells plant line work → LinesSpell plant (line ∷ []) works → works ≡ work ∷ []
only_work plant line work [] spells spelled = absurd spelled
only_work plant line work (other ∷ []) spells spelled = ap (λ (work : Work). work ∷ []) (one_work plant line other work spelled.0 spells)
only_work plant line work (other ∷ next ∷ works) spells spelled = absurd spelled.1

-- The line spells this work alone,
pub works_one : (plant : PlantData) (line : List ℕ) (work : Work) (works : List Work) → is_skipped line ≡ false → LineSpells plant line work → LinesSpell plant (worked (line ∷ [])) works → works ≡ work ∷ []
works_one plant line work works unskipped spells spelled =
    only_work plant line work works spells (subst (λ (all : List (List ℕ)). LinesSpell plant all works) (worked_one line false unskipped) spelled)

pub no_works : (plant : PlantData) (works : List Work) → LinesSpell plant [] works → works ≡ []
no_works plant [] spelled = refl
no_works plant (work ∷ works) spelled = absurd spelled

-- or none, where it is skipped.
pub works_none : (plant : PlantData) (line : List ℕ) (works : List Work) → is_skipped line ≡ true → LinesSpell plant (worked (line ∷ [])) works → works ≡ []
works_none plant line works skipped spelled = no_works plant works (subst (λ (all : List (List ℕ)). LinesSpell plant all works) (worked_one line true skipped) spelled)

bad_one : (plant : PlantData) (line : List ℕ) (works : List Work) → ((work : Work) → LineSpells plant line work → ⊥) → LinesSpell plant (line ∷ []) works → ⊥
bad_one plant line [] refused spelled = spelled
bad_one plant line (work ∷ works) refused spelled = refused work spelled.0

-- A line without a form spells nothing.
pub works_bad : (plant : PlantData) (line : List ℕ) (works : List Work) → IsBad plant line → LinesSpell plant (worked (line ∷ [])) works → ⊥
works_bad plant line works bad spelled = bad_one plant line works bad.1 (subst (λ (all : List (List ℕ)). LinesSpell plant all works) (worked_one line false bad.0) spelled)

-- The work of a line was done.
pub line_done : (plant : PlantData) (line : List ℕ) (work : Work) (works : List Work) (stand : ReplayState) (used : ℕ) (after : Replayer) (text : List ℕ) → works ≡ work ∷ [] → need_of work ≤ length line
    → HasDone plant work stand used after text → HasDoneLine plant line works stand used after text (packets_at plant stand.state work)
line_done plant line work works stand used after text is within done = record {
  next = done.next;
  all_sent = subst (λ (works : List Work). AllSent plant works stand text (packets_at plant stand.state work) done.next) (sym is)
      (done.next, text, [], [], done.works, (refl, refl, refl), sym (append-nil text), sym (append-nil (packets_at plant stand.state work)));
  stands = stands_later plant after done.next (used + need_of work) (used + length line) (omega (arith, within)) done.stands;
}

-- A line was skipped.
pub line_skipped : (plant : PlantData) (line : List ℕ) (works : List Work) (stand : ReplayState) (used : ℕ) (replayer : Replayer) → works ≡ [] → StandsAt plant replayer stand used → HasDoneLine plant line works stand used replayer [] []
line_skipped plant line works stand used replayer is stands = record {
  next = stand;
  all_sent = subst (λ (works : List Work). AllSent plant works stand [] [] stand) (sym is) (refl, refl, refl);
  stands = stands_later plant replayer stand used (used + length line) (omega arith) stands;
}

-- A replayer that may do more may do less.
pub may_less : (need more : ℕ) (plant : PlantData) (replayer : Replayer) → need ≤ more → MayDo more plant replayer → MayDo need plant replayer
may_less need more plant replayer within may = record { stand = may.stand; used = may.used; stands = may.stands; within = omega (arith, within, may.within) }

-- The work that a line spells was done, and so the line's.
pub does_line : (plant : PlantData) (line : List ℕ) (work : Work) (before after : Replayer) (IsPut : List ℕ → List (List ℕ) → Type 0) → is_skipped line ≡ false → LineSpells plant line work → DoesWork plant work before after IsPut
    → DoesLine plant line before after IsPut
does_line plant line work before after IsPut unskipped spells does stand used works stands within spelled =
    let need = need_within plant line work spells in
    let done = does stand used stands (omega (arith, within, need)) in
    (done.0, packets_at plant stand.state work, done.1, line_done plant line work works stand used after done.0 (works_one plant line work works unskipped spells spelled) need done.2)

-- A line that is skipped has no work.
pub does_nothing : (plant : PlantData) (line : List ℕ) (replayer : Replayer) (IsPut : List ℕ → List (List ℕ) → Type 0) → is_skipped line ≡ true → IsPut [] [] → DoesLine plant line replayer replayer IsPut
does_nothing plant line replayer IsPut skipped put stand used works stands within spelled =
    ([], [], put, line_skipped plant line works stand used replayer (works_none plant line works skipped spelled) stands)

-- A line has a packet if its work has one.
pub line_has : (plant : PlantData) (line : List ℕ) (work : Work) (before : Replayer) → is_skipped line ≡ false → LineSpells plant line work → HasPacket plant work before → LineHasPacket plant line before
line_has plant line work before unskipped spells has stand used works stands spelled =
    (work, [], works_one plant line work works unskipped spells spelled, has stand used stands)

-- The first line of a text is a turn with these bytes, which were lent. It may be done,
pub first_may : (plant : PlantData) (replayer : Replayer) (text piece lent behind : List ℕ) (panel : ℕ) → BeginsWithTurn plant text panel piece behind → lent ≡ piece → MayDo (length text) plant replayer
    → MayDo (need_of (Read panel lent)) plant replayer
first_may plant replayer text piece lent behind panel turn is may =
    let work = subst (λ (piece : List ℕ). LineSpells plant turn.0 (Read panel piece)) (sym is) turn.2.1 in
    may_less (need_of (Read panel lent)) (length text) plant replayer (omega (arith, turn.1.within, need_within plant turn.0 (Read panel lent) work)) may

-- and once it was, the line's work is done.
pub first_done : (plant : PlantData) (text piece lent behind : List ℕ) (panel : ℕ) (before after : Replayer) (IsPut : List ℕ → List (List ℕ) → Type 0) → BeginsWithTurn plant text panel piece behind → lent ≡ piece
    → DoesWork plant (Read panel lent) before after IsPut → (line : List ℕ) × IsFirst text line behind × DoesLine plant line before after IsPut
first_done plant text piece lent behind panel before after IsPut turn is does =
    let work = subst (λ (piece : List ℕ). LineSpells plant turn.0 (Read panel piece)) (sym is) turn.2.1 in
    (turn.0, turn.1, does_line plant turn.0 (Read panel lent) before after IsPut turn.2.0 work does)
