-- What a line spells.
use Rattle.std.proofs.Common.{◌≡◌, ℕ, ◌<◌, ◌≤◌, ◌≢◌, ◌⊎◌, inl, inr, true, false, List, [], ◌∷◌, ◌++◌, length, get_or, take, drop, All, sym, ◌∙◌, ap, subst, append_assoc, arith}
use Rattle.std.specs.Prelude.{codes}
use Rattle.std.specs.Str.{bytes_eq}
use Rattle.std.proofs.Math.ListN.{take-append-drop}
use Rattle.std.proofs.Math.Seq.{take-append_seam}
use Rattle.std.proofs.lemmas.Bool.Decides.{nat_tests}
use Rattle.std.proofs.lemmas.Slice.Eq.{bytes_eq-Decides}
use Rattle.hex.proofs.HexLemmas.{decode_of-same}
use Rattle.plant_config.specs.Plant.{PlantData}
use Rattle.line_text.specs.Decimal.{IsDigit}
use Rattle.record_replay.specs.Take.{message_frame}
use Rattle.record_replay.specs.Script.{Work, Read, Leave, Show, space, hash, longest_line, is_skipped, NumberSpells, HexSpells, Sends, IsTakeLine, LineSpells}
use Rattle.record_replay.specs.LineInside.{IsTurn, IsNoTurn, IsTake, IsNoTake, SpellsNoPanel, SpellsNoScreen}
use Rattle.record_replay.proofs.NumberSpellsLemmas.{one_number}
use Rattle.line_text.proofs.CutLemmas.{one_cut}
use Rattle.record_replay.proofs.LineInsideLemmas.{no_space-digits, no_tab-digits}
use Rattle.record_replay.proofs.LineKinds.{kind_of, kind_is, turn_kind, show_kind}
use Rattle.record_replay.proofs.TakeLemmas.{one_take}

-- the line of a turn with these digits
abbrev pub turn : List ℕ → List ℕ → List ℕ
turn digits hex = codes "> " ++ digits ++ codes " " ++ hex

pub turn-cut : (digits hex : List ℕ) → turn digits hex ≡ 62 ∷ 32 ∷ (digits ++ space ∷ hex)
turn-cut digits hex = ap (λ (l : List ℕ). 62 ∷ 32 ∷ l) (append_assoc digits (space ∷ []) hex)

-- two turns that one line spells
one_turn : (line digits others hex other_hex : List ℕ) → All IsDigit digits → All IsDigit others → line ≡ turn digits hex → line ≡ turn others other_hex → (digits ≡ others) × (hex ≡ other_hex)
one_turn line digits others hex other_hex each_digits each_others is_one is_other =
    one_cut space digits others hex other_hex (no_space-digits digits each_digits) (no_space-digits others each_others)
    (ap (drop 2) (sym (is_one ∙ turn-cut digits hex) ∙ is_other ∙ turn-cut others other_hex))

-- a take is what stands behind `take `
pub take_behind : (plant : PlantData) (line digits piece : List ℕ) (panel : ℕ) → NumberSpells digits panel → panel < length plant.panels → IsTakeLine plant line digits piece → IsTake plant (drop 5 line) panel piece
take_behind plant line digits piece panel number has_panel takes = record {
  digits = digits;
  matrix = takes.matrix;
  level = takes.level;
  dest = takes.dest;
  source = takes.source;
  parts = record {
    place = ap (drop 5) takes.place;
    panel_ends = no_space-digits digits number.spelled.each;
    matrix_ends = no_space-digits takes.matrix takes.asks.matrix_spelled.spelled.each;
    level_ends = no_tab-digits takes.level takes.asks.level_spelled.spelled.each;
    dest_ends = takes.dest_ends;
  };
  number = number;
  has_panel = has_panel;
  message = takes.message;
  asks = takes.asks;
  piece_is = takes.piece_is;
}

-- the forms of a line differ in its first byte
first_is : (line : List ℕ) (byte : ℕ) (more : List ℕ) → line ≡ byte ∷ more → get_or line 0 0 ≡ byte
first_is line byte more is = ap (λ (l : List ℕ). get_or l 0 0) is

-- A line has the form of a turn with bytes.
abbrev pub Fills : PlantData → List ℕ → List ℕ → List ℕ → Type 0
Fills plant line digits piece = Sends line digits piece ⊎ IsTakeLine plant line digits piece

-- a line spells one turn with bytes
one_filled : (plant : PlantData) (line digits others : List ℕ) (m n : ℕ) (piece other : List ℕ) → NumberSpells digits m → NumberSpells others n → m < length plant.panels → n < length plant.panels
    → Fills plant line digits piece → Fills plant line others other → (m ≡ n) × (piece ≡ other)
one_filled plant line digits others m n piece other number_m number_n has_m has_n (inl a) (inl b) =
    let same = one_turn line digits others a.0 b.0 number_m.spelled.each number_n.spelled.each a.1 b.1 in
    (one_number digits others m n same.0 number_m number_n, decode_of-same _ _ _ a.2 (subst (λ (hex : List ℕ). HexSpells hex other) (sym same.1) b.2))
one_filled plant line digits others m n piece other number_m number_n has_m has_n (inl a) (inr b) = absurd (omega (arith, first_is line 62 _ a.1, first_is line 116 _ b.place))
one_filled plant line digits others m n piece other number_m number_n has_m has_n (inr a) (inl b) = absurd (omega (arith, first_is line 116 _ a.place, first_is line 62 _ b.1))
one_filled plant line digits others m n piece other number_m number_n has_m has_n (inr a) (inr b) =
    one_take plant (drop 5 line) m n piece other (take_behind plant line digits piece m number_m has_m a) (take_behind plant line others other n number_n has_n b)

-- A line spells one piece of work.
pub one_work : (plant : PlantData) (line : List ℕ) (a b : Work) → LineSpells plant line a → LineSpells plant line b → a ≡ b
one_work plant line (Read m []) (Read n []) a b =
    ap (λ (panel : ℕ). Read panel []) (one_number a.digits b.digits m n (ap (drop 5) (sym a.form ∙ b.form)) a.number b.number)
one_work plant line (Read m (byte ∷ bytes)) (Read n (other ∷ others)) a b =
    let same = one_filled plant line a.digits b.digits m n (byte ∷ bytes) (other ∷ others) a.number b.number a.of_plant b.of_plant a.form b.form in
    λ i. Read (same.0 i) (same.1 i)
one_work plant line (Leave m) (Leave n) a b =
    ap (λ (panel : ℕ). Leave panel) (one_number a.digits b.digits m n (ap (drop 6) (sym a.form ∙ b.form)) a.number b.number)
one_work plant line (Show m false) (Show n false) a b =
    ap (λ (screen : ℕ). Show screen false) (one_number a.digits b.digits m n (ap (drop 5) (sym a.form ∙ b.form)) a.number b.number)
one_work plant line (Show m true) (Show n true) a b =
    ap (λ (screen : ℕ). Show screen true) (one_number a.digits b.digits m n (ap (drop 8) (sym a.form ∙ b.form)) a.number b.number)
one_work plant line (Read m piece) (Leave n) a b = absurd (omega (arith, turn_kind m piece, kind_is plant line (Read m piece) a, kind_is plant line (Leave n) b))
one_work plant line (Leave m) (Read n piece) a b = absurd (omega (arith, turn_kind n piece, kind_is plant line (Leave m) a, kind_is plant line (Read n piece) b))
one_work plant line (Read m piece) (Show n refresh) a b =
    absurd (omega (arith, turn_kind m piece, show_kind n refresh, kind_is plant line (Read m piece) a, kind_is plant line (Show n refresh) b))
one_work plant line (Show m refresh) (Read n piece) a b =
    absurd (omega (arith, turn_kind n piece, show_kind m refresh, kind_is plant line (Show m refresh) a, kind_is plant line (Read n piece) b))
one_work plant line (Leave m) (Show n refresh) a b = absurd (omega (arith, show_kind n refresh, kind_is plant line (Leave m) a, kind_is plant line (Show n refresh) b))
one_work plant line (Show m refresh) (Leave n) a b = absurd (omega (arith, show_kind m refresh, kind_is plant line (Show m refresh) a, kind_is plant line (Leave n) b))
one_work plant line one other a b = absurd (omega (arith, kind_is plant line one a, kind_is plant line other b))

-- a line that isn't empty and doesn't begin with `#` isn't skipped
pub not_skipped : (line : List ℕ) → 1 ≤ length line → get_or line 0 0 ≢ hash → is_skipped line ≡ false
not_skipped [] some isnt = absurd (omega arith)
not_skipped (byte ∷ more) some isnt = grind (arith, nat_tests)

-- a line by the test of its front
pub with_front : (front line behind : List ℕ) → bytes_eq (take (length front) line) front ≡ true → behind ≡ drop (length front) line → line ≡ front ++ behind
with_front front line behind is cut =
    sym (take-append-drop (length front) line) ∙ ap (λ (l : List ℕ). l ++ drop (length front) line) ((bytes_eq-Decides (take (length front) line) front).0 is)
    ∙ ap (λ (l : List ℕ). front ++ l) (sym cut)

-- The line hasn't this front.
abbrev pub HasNoFront : List ℕ → List ℕ → Type 0
HasNoFront line front = (behind : List ℕ) → line ≡ front ++ behind → ⊥

pub without_front : (front line : List ℕ) → bytes_eq (take (length front) line) front ≡ false → HasNoFront line front
without_front front line isnt behind form =
    let is = (bytes_eq-Decides (take (length front) line) front).1 (ap (take (length front)) form ∙ take-append_seam front behind) in cc

-- a turn by what stands behind its front
pub turn_spells : (plant : PlantData) (line behind : List ℕ) (panel : ℕ) (piece : List ℕ) → length line ≤ longest_line → line ≡ codes "> " ++ behind → IsTurn plant behind panel piece → LineSpells plant line (Read panel piece)
turn_spells plant line behind panel [] within front found = let some = found.some in absurd (omega arith)
turn_spells plant line behind panel (byte ∷ bytes) within front found = record {
  digits = found.digits;
  number = found.number;
  of_plant = found.has_panel;
  form = inl (found.hex, front ∙ ap (λ (l : List ℕ). codes "> " ++ l) found.place ∙ sym (turn-cut found.digits found.hex), found.spelled);
  within = within;
}

-- a take by what stands behind its front
pub take_spells : (plant : PlantData) (line behind : List ℕ) (panel : ℕ) (piece : List ℕ) → length line ≤ longest_line → line ≡ codes "take " ++ behind → IsTake plant behind panel piece → LineSpells plant line (Read panel piece)
take_spells plant line behind panel [] within front found =
    let is : [] ≡ message_frame found.message = found.piece_is in
    absurd cc
take_spells plant line behind panel (byte ∷ bytes) within front found = record {
  digits = found.digits;
  number = found.number;
  of_plant = found.has_panel;
  form = inr (record {
    matrix = found.matrix;
    level = found.level;
    dest = found.dest;
    source = found.source;
    place = front ∙ ap (λ (l : List ℕ). codes "take " ++ l) found.parts.place;
    dest_ends = found.parts.dest_ends;
    message = found.message;
    asks = found.asks;
    piece_is = found.piece_is;
  });
  within = within;
}

no_sends : (plant : PlantData) (line behind : List ℕ) (panel : ℕ) (digits piece : List ℕ) → line ≡ codes "> " ++ behind → IsNoTurn plant behind → NumberSpells digits panel → panel < length plant.panels → 1 ≤ length piece
    → Fills plant line digits piece → ⊥
no_sends plant line behind panel digits piece front none number has_panel some (inl sends) = none panel piece (record {
  digits = digits;
  hex = sends.0;
  place = ap (drop 2) (sym front ∙ sends.1 ∙ turn-cut digits sends.0);
  number = number;
  has_panel = has_panel;
  spelled = sends.2;
  some = some;
})
no_sends plant line behind panel digits piece front none number has_panel some (inr takes) = omega (arith, first_is line 62 _ front, first_is line 116 _ takes.place)

pub no_turn : (plant : PlantData) (line behind : List ℕ) → line ≡ codes "> " ++ behind → IsNoTurn plant behind → (work : Work) → LineSpells plant line work → ⊥
no_turn plant line behind front none (Read panel (byte ∷ bytes)) spells = no_sends plant line behind panel spells.digits (byte ∷ bytes) front none spells.number spells.of_plant (omega arith) spells.form
no_turn plant line behind front none (Show screen refresh) spells = absurd (omega (arith, show_kind screen refresh, kind_is plant line (Show screen refresh) spells, ap kind_of front))
no_turn plant line behind front none work spells = absurd (omega (arith, kind_is plant line work spells, ap kind_of front))

no_takes : (plant : PlantData) (line behind : List ℕ) (panel : ℕ) (digits piece : List ℕ) → line ≡ codes "take " ++ behind → IsNoTake plant behind → NumberSpells digits panel → panel < length plant.panels
    → Fills plant line digits piece → ⊥
no_takes plant line behind panel digits piece front none number has_panel (inl sends) = omega (arith, first_is line 116 _ front, first_is line 62 _ sends.1)
no_takes plant line behind panel digits piece front none number has_panel (inr takes) =
    none panel piece (subst (λ (text : List ℕ). IsTake plant text panel piece) (ap (drop 5) front) (take_behind plant line digits piece panel number has_panel takes))

pub no_take : (plant : PlantData) (line behind : List ℕ) → line ≡ codes "take " ++ behind → IsNoTake plant behind → (work : Work) → LineSpells plant line work → ⊥
no_take plant line behind front none (Read panel (byte ∷ bytes)) spells = no_takes plant line behind panel spells.digits (byte ∷ bytes) front none spells.number spells.of_plant spells.form
no_take plant line behind front none (Show screen refresh) spells = absurd (omega (arith, show_kind screen refresh, kind_is plant line (Show screen refresh) spells, ap kind_of front))
no_take plant line behind front none work spells = absurd (omega (arith, kind_is plant line work spells, ap kind_of front))

pub no_poll : (plant : PlantData) (line digits : List ℕ) → line ≡ codes "poll " ++ digits → SpellsNoPanel plant digits → (work : Work) → LineSpells plant line work → ⊥
no_poll plant line digits form none (Read panel []) spells =
    none panel (subst (λ (d : List ℕ). NumberSpells d panel) (ap (drop 5) (sym spells.form ∙ form)) spells.number) spells.of_plant
no_poll plant line digits form none (Show screen refresh) spells = absurd (omega (arith, show_kind screen refresh, kind_is plant line (Show screen refresh) spells, ap kind_of form))
no_poll plant line digits form none work spells = absurd (omega (arith, kind_is plant line work spells, ap kind_of form))

pub no_leave : (plant : PlantData) (line digits : List ℕ) → line ≡ codes "leave " ++ digits → SpellsNoPanel plant digits → (work : Work) → LineSpells plant line work → ⊥
no_leave plant line digits form none (Leave panel) spells =
    none panel (subst (λ (d : List ℕ). NumberSpells d panel) (ap (drop 6) (sym spells.form ∙ form)) spells.number) spells.of_plant
no_leave plant line digits form none (Read panel piece) spells = absurd (omega (arith, turn_kind panel piece, kind_is plant line (Read panel piece) spells, ap kind_of form))
no_leave plant line digits form none (Show screen refresh) spells = absurd (omega (arith, show_kind screen refresh, kind_is plant line (Show screen refresh) spells, ap kind_of form))

pub no_show : (plant : PlantData) (line digits : List ℕ) → line ≡ codes "show " ++ digits → SpellsNoScreen plant digits → (work : Work) → LineSpells plant line work → ⊥
no_show plant line digits form none (Show screen false) spells =
    none screen (subst (λ (d : List ℕ). NumberSpells d screen) (ap (drop 5) (sym spells.form ∙ form)) spells.number) spells.of_plant
no_show plant line digits form none (Read panel piece) spells = absurd (omega (arith, turn_kind panel piece, kind_is plant line (Read panel piece) spells, ap kind_of form))
no_show plant line digits form none work spells = absurd (omega (arith, kind_is plant line work spells, ap kind_of form))

pub no_refresh : (plant : PlantData) (line digits : List ℕ) → line ≡ codes "refresh " ++ digits → SpellsNoScreen plant digits → (work : Work) → LineSpells plant line work → ⊥
no_refresh plant line digits form none (Show screen true) spells =
    none screen (subst (λ (d : List ℕ). NumberSpells d screen) (ap (drop 8) (sym spells.form ∙ form)) spells.number) spells.of_plant
no_refresh plant line digits form none (Read panel piece) spells = absurd (omega (arith, turn_kind panel piece, kind_is plant line (Read panel piece) spells, ap kind_of form))
no_refresh plant line digits form none work spells = absurd (omega (arith, kind_is plant line work spells, ap kind_of form))
