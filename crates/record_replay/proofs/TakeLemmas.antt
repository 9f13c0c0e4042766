-- The parts of a take, and what they ask for.
use Rattle.std.proofs.Common.{◌≡◌, ℕ, ◌⊎◌, inl, inr, List, ◌∷◌, ◌++◌, length, Option, Some, None, refl, sym, ◌∙◌, ap, subst}
use Rattle.swp08_messages.specs.declared.message.Message.{Message}
use Rattle.plant_config.specs.Plant.{PlantData}
use Rattle.record_replay.specs.Take.{message_frame}
use Rattle.record_replay.specs.Take.{connect_named}
use Rattle.record_replay.specs.Script.{space, tab, HasNo, NumberSpells, AsksConnect}
use Rattle.line_text.specs.Cut.{IsCut}
use Rattle.record_replay.specs.LineInside.{AreParts, HasNoParts, AsksNothing, SpellsNoPanel, IsTake, IsNoTake}
use Rattle.record_replay.proofs.NumberSpellsLemmas.{one_number, panel_of_digits, number_or}
use Rattle.line_text.proofs.CutLemmas.{one_cut, has_byte, cut_of}

-- The parts of a take are the same.
pub record Same (p m l d s q n k e t : List ℕ) : Type 0 where
  pub panel : p ≡ q
  pub matrix : m ≡ n
  pub level : l ≡ k
  pub dest : d ≡ e
  pub source : s ≡ t

-- a text has its parts in one way
pub one_parts : (behind p m l d s q n k e t : List ℕ) → AreParts behind p m l d s → AreParts behind q n k e t → Same p m l d s q n k e t
one_parts behind p m l d s q n k e t a b =
    let first = one_cut space p q (m ++ space ∷ (l ++ tab ∷ (d ++ tab ∷ s))) (n ++ space ∷ (k ++ tab ∷ (e ++ tab ∷ t))) a.panel_ends b.panel_ends (sym a.place ∙ b.place) in
    let second = one_cut space m n (l ++ tab ∷ (d ++ tab ∷ s)) (k ++ tab ∷ (e ++ tab ∷ t)) a.matrix_ends b.matrix_ends first.1 in
    let third = one_cut tab l k (d ++ tab ∷ s) (e ++ tab ∷ t) a.level_ends b.level_ends second.1 in
    let fourth = one_cut tab d e s t a.dest_ends b.dest_ends third.1 in
    record { panel = first.0; matrix = second.0; level = third.0; dest = fourth.0; source = fourth.1 }

-- a text is cut where its first part ends
pub no_parts-panel : (behind : List ℕ) → HasNo space behind → HasNoParts behind
no_parts-panel behind none p m l d s parts = has_byte space p (m ++ space ∷ (l ++ tab ∷ (d ++ tab ∷ s))) (subst (HasNo space) parts.place none)

module _ (behind panel more : List ℕ) (cut : IsCut space behind panel more) where
  behind_panel : (p m l d s : List ℕ) → AreParts behind p m l d s → more ≡ m ++ space ∷ (l ++ tab ∷ (d ++ tab ∷ s))
  behind_panel p m l d s parts = (one_cut space panel p more (m ++ space ∷ (l ++ tab ∷ (d ++ tab ∷ s))) cut.first parts.panel_ends (sym cut.place ∙ parts.place)).1

  pub no_parts-matrix : HasNo space more → HasNoParts behind
  no_parts-matrix none p m l d s parts = has_byte space m (l ++ tab ∷ (d ++ tab ∷ s)) (subst (HasNo space) (behind_panel p m l d s parts) none)

  module _ (matrix rest : List ℕ) (next : IsCut space more matrix rest) where
    behind_matrix : (p m l d s : List ℕ) → AreParts behind p m l d s → rest ≡ l ++ tab ∷ (d ++ tab ∷ s)
    behind_matrix p m l d s parts = (one_cut space matrix m rest (l ++ tab ∷ (d ++ tab ∷ s)) next.first parts.matrix_ends (sym next.place ∙ behind_panel p m l d s parts)).1

    pub no_parts-level : HasNo tab rest → HasNoParts behind
    no_parts-level none p m l d s parts = has_byte tab l (d ++ tab ∷ s) (subst (HasNo tab) (behind_matrix p m l d s parts) none)

    module _ (level names : List ℕ) (third : IsCut tab rest level names) where
      behind_level : (p m l d s : List ℕ) → AreParts behind p m l d s → names ≡ d ++ tab ∷ s
      behind_level p m l d s parts = (one_cut tab level l names (d ++ tab ∷ s) third.first parts.level_ends (sym third.place ∙ behind_matrix p m l d s parts)).1

      pub no_parts-dest : HasNo tab names → HasNoParts behind
      no_parts-dest none p m l d s parts = has_byte tab d s (subst (HasNo tab) (behind_level p m l d s parts) none)

      pub are_parts : (dest source : List ℕ) → IsCut tab names dest source → AreParts behind panel matrix level dest source
      are_parts dest source last = record {
        place =
            cut.place
            ∙ ap (λ (text : List ℕ). panel ++ space ∷ text) (next.place
            ∙ ap (λ (text : List ℕ). matrix ++ space ∷ text) (third.place ∙ ap (λ (text : List ℕ). level ++ tab ∷ text) last.place));
        panel_ends = cut.first;
        matrix_ends = next.first;
        level_ends = third.first;
        dest_ends = last.first;
      }

-- A text has its parts.
abbrev SomeParts : List ℕ → Type 0
SomeParts behind = (panel matrix level dest source : List ℕ) × AreParts behind panel matrix level dest source

-- a text has its parts or none
parts_of : (behind : List ℕ) → SomeParts behind ⊎ HasNoParts behind
parts_of behind = elim (cut_of space behind) [
  | inr none ↦ inr (no_parts-panel behind none)
  | inl a ↦ elim (cut_of space a.1) [
    | inr none ↦ inr (no_parts-matrix behind a.0 a.1 a.2 none)
    | inl b ↦ elim (cut_of tab b.1) [
      | inr none ↦ inr (no_parts-level behind a.0 a.1 a.2 b.0 b.1 b.2 none)
      | inl c ↦ elim (cut_of tab c.1) [
        | inr none ↦ inr (no_parts-dest behind a.0 a.1 a.2 b.0 b.1 b.2 c.0 c.1 c.2 none)
        | inl d ↦ inl (a.0, b.0, c.0, d.0, d.1, are_parts behind a.0 a.1 a.2 b.0 b.1 b.2 c.0 c.1 c.2 d.0 d.1 d.2)
      ]
    ]
  ]
]

-- parts ask for one connect
pub one_asks : (plant : PlantData) (matrix level dest source : List ℕ) (a b : Message) → AsksConnect plant matrix level dest source a → AsksConnect plant matrix level dest source b → a ≡ b
one_asks plant matrix level dest source a b asks others =
    let m = one_number matrix matrix asks.matrix_number others.matrix_number refl asks.matrix_spelled others.matrix_spelled in
    let l = one_number level level asks.level_number others.level_number refl asks.level_spelled others.level_spelled in
    let same : connect_named plant asks.matrix_number asks.level_number dest source ≡ connect_named plant others.matrix_number others.level_number dest source = λ i. connect_named plant (m i) (l i) dest source in
    let is : Some a ≡ Some b = sym asks.connect ∙ same ∙ others.connect in
    cc

pub no_asks-matrix : (plant : PlantData) (matrix level dest source : List ℕ) → ((number : ℕ) → NumberSpells matrix number → ⊥) → AsksNothing plant matrix level dest source
no_asks-matrix plant matrix level dest source none message asks = none asks.matrix_number asks.matrix_spelled

pub no_asks-level : (plant : PlantData) (matrix level dest source : List ℕ) → ((number : ℕ) → NumberSpells level number → ⊥) → AsksNothing plant matrix level dest source
no_asks-level plant matrix level dest source none message asks = none asks.level_number asks.level_spelled

pub no_asks-names : (plant : PlantData) (matrix level dest source : List ℕ) (m l : ℕ) → NumberSpells matrix m → NumberSpells level l → connect_named plant m l dest source ≡ None → AsksNothing plant matrix level dest source
no_asks-names plant matrix level dest source m l spells_m spells_l none message asks =
    let m_is = one_number matrix matrix m asks.matrix_number refl spells_m asks.matrix_spelled in
    let l_is = one_number level level l asks.level_number refl spells_l asks.level_spelled in
    let same : connect_named plant m l dest source ≡ connect_named plant asks.matrix_number asks.level_number dest source = λ i. connect_named plant (m_is i) (l_is i) dest source in
    let is : None ≡ Some message = sym none ∙ same ∙ asks.connect in
    absurd cc

-- parts ask for a connect or for none
asks_of : (plant : PlantData) (matrix level dest source : List ℕ) → ((message : Message) × AsksConnect plant matrix level dest source message) ⊎ AsksNothing plant matrix level dest source
asks_of plant matrix level dest source = elim (number_or matrix) [
  | inr none ↦ inr (no_asks-matrix plant matrix level dest source none)
  | inl m ↦ elim (number_or level) [
    | inr none ↦ inr (no_asks-level plant matrix level dest source none)
    | inl l ↦
        elim (connect_named plant m.0 l.0 dest source) as (λ (found : Option Message). connect_named plant m.0 l.0 dest source ≡ found → ((message : Message) × AsksConnect plant matrix level dest source message) ⊎ AsksNothing plant matrix level dest source) [
          | None ↦ λ is. inr (no_asks-names plant matrix level dest source m.0 l.0 m.1 l.1 is)
          | Some message ↦ λ is. inl (message, record { matrix_number = m.0; level_number = l.0; matrix_spelled = m.1; level_spelled = l.1; connect = is })
        ] refl
  ]
]

-- the same parts ask for the same
same_asks : (plant : PlantData) (p m l d s q n k e t : List ℕ) (message : Message) → Same p m l d s q n k e t → AsksConnect plant m l d s message → AsksConnect plant n k e t message
same_asks plant p m l d s q n k e t message same asks =
    subst (λ (m : List ℕ). AsksConnect plant m k e t message) same.matrix
    (subst (λ (l : List ℕ). AsksConnect plant m l e t message) same.level
    (subst (λ (d : List ℕ). AsksConnect plant m l d t message) same.dest
    (subst (λ (s : List ℕ). AsksConnect plant m l d s message) same.source asks)))

pub no_take-parts : (plant : PlantData) (behind : List ℕ) → HasNoParts behind → IsNoTake plant behind
no_take-parts plant behind none panel piece take = none take.digits take.matrix take.level take.dest take.source take.parts

module _ (plant : PlantData) (behind p m l d s : List ℕ) (parts : AreParts behind p m l d s) where
  pub no_take-panel : SpellsNoPanel plant p → IsNoTake plant behind
  no_take-panel none panel piece take =
      let same = one_parts behind take.digits take.matrix take.level take.dest take.source p m l d s take.parts parts in
      none panel (subst (λ (digits : List ℕ). NumberSpells digits panel) same.panel take.number) take.has_panel

  pub no_take-asks : AsksNothing plant m l d s → IsNoTake plant behind
  no_take-asks none panel piece take =
      let same = one_parts behind take.digits take.matrix take.level take.dest take.source p m l d s take.parts parts in
      none take.message (same_asks plant take.digits take.matrix take.level take.dest take.source p m l d s take.message same take.asks)

-- what a line has behind `take ` is one take
pub one_take : (plant : PlantData) (behind : List ℕ) (m n : ℕ) (piece other : List ℕ) → IsTake plant behind m piece → IsTake plant behind n other → (m ≡ n) × (piece ≡ other)
one_take plant behind m n piece other a b =
    let same = one_parts behind a.digits a.matrix a.level a.dest a.source b.digits b.matrix b.level b.dest b.source a.parts b.parts in
    let message = one_asks plant b.matrix b.level b.dest b.source a.message b.message
    (same_asks plant a.digits a.matrix a.level a.dest a.source b.digits b.matrix b.level b.dest b.source a.message same a.asks) b.asks in
    (one_number a.digits b.digits m n same.panel a.number b.number, a.piece_is ∙ ap message_frame message ∙ sym b.piece_is)

-- Behind `take ` is a take.
abbrev SomeTake : PlantData → List ℕ → Type 0
SomeTake plant behind = (panel : ℕ) × (piece : List ℕ) × IsTake plant behind panel piece

-- behind `take ` is a take or none
pub take_of : (plant : PlantData) (behind : List ℕ) → SomeTake plant behind ⊎ IsNoTake plant behind
take_of plant behind = elim (parts_of behind) [
  | inr none ↦ inr (no_take-parts plant behind none)
  | inl parts ↦ elim (panel_of_digits parts.0 (length plant.panels)) [
    | inr none ↦ inr (no_take-panel plant behind parts.0 parts.1 parts.2 parts.3 parts.4 parts.5 none)
    | inl panel ↦ elim (asks_of plant parts.1 parts.2 parts.3 parts.4) [
      | inr none ↦ inr (no_take-asks plant behind parts.0 parts.1 parts.2 parts.3 parts.4 parts.5 none)
      | inl asks ↦ inl (
        panel.0,
        message_frame asks.0,
        record {
          digits = parts.0;
          matrix = parts.1;
          level = parts.2;
          dest = parts.3;
          source = parts.4;
          parts = parts.5;
          number = panel.1;
          has_panel = panel.2;
          message = asks.0;
          asks = asks.1;
          piece_is = refl;
        },
      )
    ]
  ]
]
