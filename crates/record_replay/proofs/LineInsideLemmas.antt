-- A text that is cut at its first space, and a turn's digits and hexadecimal.
use Rattle.std.proofs.Common.{◌≡◌, ℕ, ◌<◌, ◌⊎◌, inl, inr, List, [], ◌∷◌, length, All, Result, Ok, Err, refl, sym, ◌∙◌, ap, subst, arith}
use Rattle.std.specs.Prelude.{filter, ◌==◌, not}
use Rattle.hex.specs.Hex.{decode_of}
use Rattle.hex.specs.declared.error.FromHexError.{FromHexError}
use Rattle.hex.proofs.HexLemmas.{decode_of-same}
use Rattle.plant_config.specs.Plant.{PlantData}
use Rattle.line_text.specs.Decimal.{IsDigit}
use Rattle.record_replay.specs.Script.{space, tab, HasNo, NumberSpells, HexSpells}
use Rattle.line_text.specs.Cut.{IsCut}
use Rattle.line_text.proofs.CutLemmas.{one_cut, has_byte, cut_of}
use Rattle.record_replay.specs.LineInside.{IsTurn}
use Rattle.record_replay.proofs.NumberSpellsLemmas.{panel_of_digits}

pub no_space-digits : (digits : List ℕ) → All IsDigit digits → HasNo space digits
no_space-digits digits each = λ k d below is. let digit = each k d below in omega arith

pub no_tab-digits : (digits : List ℕ) → All IsDigit digits → HasNo tab digits
no_tab-digits digits each = λ k d below is. let digit = each k d below in omega arith

no_turn-space : (plant : PlantData) (behind : List ℕ) → HasNo space behind → (panel : ℕ) (piece : List ℕ) → IsTurn plant behind panel piece → ⊥
no_turn-space plant behind none panel piece turn = has_byte space turn.digits turn.hex (subst (HasNo space) turn.place none)

-- the parts of a turn are those before its first space and behind it
parts_of : (plant : PlantData) (behind front rest : List ℕ) (panel : ℕ) (piece : List ℕ) → IsCut space behind front rest → (turn : IsTurn plant behind panel piece) → (turn.digits ≡ front) × (turn.hex ≡ rest)
parts_of plant behind front rest panel piece cut turn = one_cut space turn.digits front turn.hex rest (no_space-digits turn.digits turn.number.spelled.each) cut.first (sym turn.place ∙ cut.place)

pub no_turn-panel : (plant : PlantData) (behind front rest : List ℕ) → IsCut space behind front rest → ((number : ℕ) → NumberSpells front number → number < length plant.panels → ⊥)
    → (panel : ℕ) (piece : List ℕ) → IsTurn plant behind panel piece → ⊥
no_turn-panel plant behind front rest cut none panel piece turn =
    none panel (subst (λ (digits : List ℕ). NumberSpells digits panel) (parts_of plant behind front rest panel piece cut turn).0 turn.number) turn.has_panel

turn-hex : (plant : PlantData) (behind front rest : List ℕ) (panel : ℕ) (piece : List ℕ) → IsCut space behind front rest → IsTurn plant behind panel piece → HexSpells rest piece
turn-hex plant behind front rest panel piece cut turn = subst (λ (hex : List ℕ). HexSpells hex piece) (parts_of plant behind front rest panel piece cut turn).1 turn.spelled

pub no_turn-hex : (plant : PlantData) (behind front rest : List ℕ) → IsCut space behind front rest → ((bytes : List ℕ) → HexSpells rest bytes → ⊥) → (panel : ℕ) (piece : List ℕ) → IsTurn plant behind panel piece → ⊥
no_turn-hex plant behind front rest cut none panel piece turn = none piece (turn-hex plant behind front rest panel piece cut turn)

-- the hexadecimal of no bytes is no turn
pub no_turn-bytes : (plant : PlantData) (behind front rest bytes : List ℕ) → IsCut space behind front rest → HexSpells rest bytes → length bytes ≡ 0 → (panel : ℕ) (piece : List ℕ) → IsTurn plant behind panel piece → ⊥
no_turn-bytes plant behind front rest bytes cut spells empty panel piece turn =
    let same = ap length (decode_of-same _ _ _ spells (turn-hex plant behind front rest panel piece cut turn)) in
    let some = turn.some in
    omega arith

-- Behind `> ` is a turn.
abbrev SomeTurn : PlantData → List ℕ → Type 0
SomeTurn plant behind = (panel : ℕ) × (piece : List ℕ) × IsTurn plant behind panel piece

-- Behind `> ` is no turn.
abbrev NoTurn : PlantData → List ℕ → Type 0
NoTurn plant behind = (panel : ℕ) (piece : List ℕ) → IsTurn plant behind panel piece → ⊥

turn_of_hex : (plant : PlantData) (behind front rest : List ℕ) (panel : ℕ) → IsCut space behind front rest → NumberSpells front panel → panel < length plant.panels
    → (read : Result (List ℕ) FromHexError) → decode_of (filter (λ byte. not (byte == space)) rest) ≡ read → SomeTurn plant behind ⊎ NoTurn plant behind
turn_of_hex plant behind front rest panel cut number has_panel (Err fault) read =
    inr (no_turn-hex plant behind front rest cut (λ bytes spells. let is : decode_of (filter (λ byte. not (byte == space)) rest) ≡ Ok bytes = spells in cc))
turn_of_hex plant behind front rest panel cut number has_panel (Ok []) read = inr (no_turn-bytes plant behind front rest [] cut read refl)
turn_of_hex plant behind front rest panel cut number has_panel (Ok (byte ∷ bytes)) read = inl (
  panel,
  byte ∷ bytes,
  record {
    digits = front;
    hex = rest;
    place = cut.place;
    number = number;
    has_panel = has_panel;
    spelled = read;
    some = omega arith;
  },
)

-- behind `> ` is a turn or none
pub turn_of : (plant : PlantData) (behind : List ℕ) → SomeTurn plant behind ⊎ NoTurn plant behind
turn_of plant behind = elim (cut_of space behind) [
  | inr none ↦ inr (no_turn-space plant behind none)
  | inl cut ↦ elim (panel_of_digits cut.0 (length plant.panels)) [
    | inr none ↦ inr (no_turn-panel plant behind cut.0 cut.1 cut.2 none)
    | inl panel ↦ turn_of_hex plant behind cut.0 cut.1 panel.0 cut.2 panel.1 panel.2 _ refl
  ]
]
