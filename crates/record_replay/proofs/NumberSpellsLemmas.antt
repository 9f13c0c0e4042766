-- The number that digits spell.
use Rattle.std.proofs.Common.{◌≡◌, ℕ, suc, ◌<◌, ◌⊎◌, inl, inr, true, false, List, ◌∷◌, [], length, All, MatchOption, Option, Some, None, refl, sym, ◌∙◌, ap, subst, arith}
use Rattle.std.specs.Str.Parse.{digits_value}
use Rattle.std.proofs.lemmas.Bool.{cases_lt, true≢false}
use Rattle.std.proofs.lemmas.List.Elements.{All-nil, All-cons, All-head, All-tail}
use Rattle.plant_config.specs.Plant.{PlantData}
use Rattle.plant_config.specs.Screens.{has_screen, screen_of}
use Rattle.plant_config.proofs.ScreenLemmas.{screen_of-Some, screen_of-None}
use Rattle.line_text.specs.Decimal.{IsDigit}
use Rattle.record_replay.specs.Script.{NumberSpells}
use Rattle.record_replay.specs.LineInside.{SpellsNoScreen, SpellsScreen}

-- digits spell one number
pub one_number : (digits others : List ℕ) (m n : ℕ) → digits ≡ others → NumberSpells digits m → NumberSpells others n → m ≡ n
one_number digits others m n same spells_m spells_n = spells_m.spelled.number_is ∙ ap (λ (ds : List ℕ). digits_value 10 ds) same ∙ sym spells_n.spelled.number_is

-- a byte is a digit or not
digit_or : (byte : ℕ) → IsDigit byte ⊎ ¬ IsDigit byte
digit_or byte = elim (cases_lt byte 48) [
  | inl low ↦ inr (λ digit. absurd (omega (arith, digit.0)))
  | inr least ↦ elim (cases_lt 57 byte) [
    | inl high ↦ inr (λ digit. absurd (omega (arith, digit.1)))
    | inr most ↦ inl (least, most)
  ]
]

digits_or : (text : List ℕ) → All IsDigit text ⊎ ¬ All IsDigit text
digits_or [] = inl (All-nil IsDigit)
digits_or (byte ∷ text) = elim (digit_or byte) [
  | inr other ↦ inr (λ each. other (All-head IsDigit byte text each))
  | inl digit ↦ elim (digits_or text) [
    | inl each ↦ inl (All-cons IsDigit byte text digit each)
    | inr some_other ↦ inr (λ each. some_other (All-tail IsDigit byte text each))
  ]
]

-- A text spells no number below this count.
abbrev pub NoPanel : List ℕ → ℕ → Type 0
NoPanel text count = (number : ℕ) → NumberSpells text number → number < count → ⊥

-- A text spells a number below this count.
abbrev pub SomePanel : List ℕ → ℕ → Type 0
SomePanel text count = (number : ℕ) × NumberSpells text number × (number < count)

-- a text spells a number below this count or none
pub panel_of_digits : (text : List ℕ) (count : ℕ) → SomePanel text count ⊎ NoPanel text count
panel_of_digits text count = elim (cases_lt 0 (length text)) [
  | inr empty ↦ inr (λ number spells below. absurd (omega (arith, spells.spelled.some)))
  | inl some ↦ elim (cases_lt 5 (length text)) [
    | inl many ↦ inr (λ number spells below. absurd (omega (arith, spells.few)))
    | inr few ↦ elim (digits_or text) [
      | inr other ↦ inr (λ number spells below. other spells.spelled.each)
      | inl each ↦ elim (cases_lt (digits_value 10 text) count) [
        | inl below ↦ inl (digits_value 10 text, record { spelled = record { some = some; each = each; number_is = refl }; few = few }, below)
        | inr past ↦ inr (λ number spells below. absurd (omega (arith, spells.spelled.number_is)))
      ]
    ]
  ]
]

-- a text spells a number or none
pub number_or : (text : List ℕ) → ((number : ℕ) × NumberSpells text number) ⊎ ((number : ℕ) → NumberSpells text number → ⊥)
number_or text = elim (panel_of_digits text (suc (digits_value 10 text))) [
  | inl some ↦ inl (some.0, some.1)
  | inr none ↦ inr (λ number spells. none number spells (omega (arith, spells.spelled.number_is)))
]

-- a text spells a screen of the plant or none
pub screen_of_digits : (plant : PlantData) (text : List ℕ) → ((screen : ℕ) × NumberSpells text screen × (has_screen plant screen ≡ true)) ⊎ SpellsNoScreen plant text
screen_of_digits plant text = elim (number_or text) [
  | inr none ↦ inr (λ number spells has. none number spells)
  | inl some ↦ elim (has_screen plant some.0) as (λ has. has_screen plant some.0 ≡ has → ((screen : ℕ) × NumberSpells text screen × (has_screen plant screen ≡ true)) ⊎ SpellsNoScreen plant text) [
    | true ↦ λ has. inl (some.0, some.1, has)
    | false ↦ λ hasnt. inr (λ number spells has.
        let same : some.0 ≡ number = one_number text text some.0 number refl some.1 spells in
        absurd (true≢false (sym has ∙ ap (has_screen plant) (sym same) ∙ hasnt)))
  ] refl
]

-- what is found of a number that a text spells is the screen that the text spells, or none is spelled
pub screen_spelled : (plant : PlantData) (digits : List ℕ) (number : ℕ) (found : Option ℕ) → NumberSpells digits number → found ≡ screen_of plant number →
    MatchOption found (SpellsNoScreen plant digits) (λ screen. SpellsScreen plant digits screen)
screen_spelled plant digits number None spells is = λ other other_spells has.
    let same = one_number digits digits number other refl spells other_spells in
    true≢false (sym has ∙ ap (has_screen plant) (sym same) ∙ screen_of-None plant number is)
screen_spelled plant digits number (Some screen) spells is =
    let one = screen_of-Some plant number screen is in
    (subst (NumberSpells digits) (sym one.0) spells, subst (λ n. has_screen plant n ≡ true) (sym one.0) one.1)
