-- A line spells a piece of work or none.
use Rattle.std.proofs.Common.{◌≡◌, ℕ, ◌≤◌, ◌⊎◌, inl, inr, Bool, true, false, List, [], ◌∷◌, ◌++◌, length, take, drop, Option, Some, None, refl, ◌∙◌, arith}
use Rattle.std.specs.Prelude.{codes, MatchOption}
use Rattle.std.specs.Str.{bytes_eq}
use Rattle.std.proofs.lemmas.Bool.{cases_lt}
use Rattle.plant_config.specs.Plant.{PlantData}
use Rattle.record_replay.specs.Script.{Work, Read, Leave, Show, space, tab, longest_line, is_skipped, LineSpells}
use Rattle.record_replay.specs.declared.line.Line as code
use Rattle.record_replay.specs.declared.line.Line.TheVariants as found
use Rattle.record_replay.specs.LineInside.{IsBad, IsFound, IsShow, IsNoShow}
use Rattle.record_replay.proofs.NumberSpellsLemmas.{panel_of_digits, screen_of_digits}
use Rattle.record_replay.proofs.LineInsideLemmas.{turn_of}
use Rattle.record_replay.proofs.TakeLemmas.{take_of}
use Rattle.record_replay.proofs.LineSpellsLemmas.{turn-cut, Fills, HasNoFront, with_front, without_front, turn_spells, take_spells, no_turn, no_take, no_poll, no_leave, no_show, no_refresh}

no_filled : (plant : PlantData) (line digits piece : List ℕ) → HasNoFront line (codes "> ") → HasNoFront line (codes "take ") → Fills plant line digits piece → ⊥
no_filled plant line digits piece no_turn no_take (inl sends) = no_turn (digits ++ space ∷ sends.0) (sends.1 ∙ turn-cut digits sends.0)
no_filled plant line digits piece no_turn no_take (inr takes) = no_take (digits ++ space ∷ (takes.matrix ++ space ∷ (takes.level ++ tab ∷ (takes.dest ++ tab ∷ takes.source)))) takes.place

pub no_form : (plant : PlantData) (line : List ℕ) → HasNoFront line (codes "> ") → HasNoFront line (codes "take ") → HasNoFront line (codes "poll ") → HasNoFront line (codes "leave ")
    → IsNoShow plant line → (work : Work) → LineSpells plant line work → ⊥
no_form plant line no_turn no_take no_poll no_leave no_show (Read panel []) spells = no_poll spells.digits spells.form
no_form plant line no_turn no_take no_poll no_leave no_show (Read panel (byte ∷ bytes)) spells = no_filled plant line spells.digits (byte ∷ bytes) no_turn no_take spells.form
no_form plant line no_turn no_take no_poll no_leave no_show (Leave panel) spells = no_leave spells.digits spells.form
no_form plant line no_turn no_take no_poll no_leave no_show (Show screen refresh) spells = no_show screen refresh spells

-- a line that has neither front spells no display poll
pub no_show-fronts : (plant : PlantData) (line : List ℕ) → HasNoFront line (codes "show ") → HasNoFront line (codes "refresh ") → IsNoShow plant line
no_show-fronts plant line no_show no_refresh screen false spells = no_show spells.digits spells.form
no_show-fronts plant line no_show no_refresh screen true spells = no_refresh spells.digits spells.form

-- What is found at the end is a display poll or nothing.
pub show_found : (plant : PlantData) (line bytes : List ℕ) (found : Option code.Line) → is_skipped line ≡ false → HasNoFront line (codes "> ") → HasNoFront line (codes "take ") → HasNoFront line (codes "poll ")
    → HasNoFront line (codes "leave ") → MatchOption found (IsNoShow plant line) (IsShow plant line) → MatchOption found (IsBad plant line) (λ what. IsFound plant line what bytes)
show_found plant line bytes None kept no_turn no_take no_poll no_leave none = (kept, no_form plant line no_turn no_take no_poll no_leave none)
show_found plant line bytes (Some found.Skipped) kept no_turn no_take no_poll no_leave shows = absurd shows
show_found plant line bytes (Some (found.Read panel)) kept no_turn no_take no_poll no_leave shows = absurd shows
show_found plant line bytes (Some (found.Leave panel)) kept no_turn no_take no_poll no_leave shows = absurd shows
show_found plant line bytes (Some (found.Show screen refresh)) kept no_turn no_take no_poll no_leave shows = (kept, shows)

-- a line has a front or not
front_of : (front line : List ℕ) → ((behind : List ℕ) × (line ≡ front ++ behind)) ⊎ HasNoFront line front
front_of front line = decided (bytes_eq (take (length front) line) front) refl
  where
    decided : (is : Bool) → bytes_eq (take (length front) line) front ≡ is → ((behind : List ℕ) × (line ≡ front ++ behind)) ⊎ HasNoFront line front
    decided true is = inl (drop (length front) line, with_front front line (drop (length front) line) is refl)
    decided false isnt = inr (without_front front line isnt)

-- A line spells a piece of work of the plant.
abbrev pub IsSpelled : PlantData → List ℕ → Type 0
IsSpelled plant line = (work : Work) × LineSpells plant line work

spelled_turn : (plant : PlantData) (line behind : List ℕ) → length line ≤ longest_line → line ≡ codes "> " ++ behind → IsSpelled plant line ⊎ ¬ IsSpelled plant line
spelled_turn plant line behind within form = elim (turn_of plant behind) [
  | inl turn ↦ inl (Read turn.0 turn.1, turn_spells plant line behind turn.0 turn.1 within form turn.2)
  | inr none ↦ inr (λ spelled. no_turn plant line behind form none spelled.0 spelled.1)
]

spelled_take : (plant : PlantData) (line behind : List ℕ) → length line ≤ longest_line → line ≡ codes "take " ++ behind → IsSpelled plant line ⊎ ¬ IsSpelled plant line
spelled_take plant line behind within form = elim (take_of plant behind) [
  | inl take ↦ inl (Read take.0 take.1, take_spells plant line behind take.0 take.1 within form take.2)
  | inr none ↦ inr (λ spelled. no_take plant line behind form none spelled.0 spelled.1)
]

spelled_poll : (plant : PlantData) (line digits : List ℕ) → length line ≤ longest_line → line ≡ codes "poll " ++ digits → IsSpelled plant line ⊎ ¬ IsSpelled plant line
spelled_poll plant line digits within form = elim (panel_of_digits digits (length plant.panels)) [
  | inl panel ↦ inl (Read panel.0 [], record { digits = digits; number = panel.1; of_plant = panel.2; form = form; within = within })
  | inr none ↦ inr (λ spelled. no_poll plant line digits form none spelled.0 spelled.1)
]

spelled_leave : (plant : PlantData) (line digits : List ℕ) → length line ≤ longest_line → line ≡ codes "leave " ++ digits → IsSpelled plant line ⊎ ¬ IsSpelled plant line
spelled_leave plant line digits within form = elim (panel_of_digits digits (length plant.panels)) [
  | inl panel ↦ inl (Leave panel.0, record { digits = digits; number = panel.1; of_plant = panel.2; form = form; within = within })
  | inr none ↦ inr (λ spelled. no_leave plant line digits form none spelled.0 spelled.1)
]

spelled_show : (plant : PlantData) (line digits : List ℕ) → length line ≤ longest_line → line ≡ codes "show " ++ digits → IsSpelled plant line ⊎ ¬ IsSpelled plant line
spelled_show plant line digits within form = elim (screen_of_digits plant digits) [
  | inl screen ↦ inl (Show screen.0 false, record { digits = digits; number = screen.1; of_plant = screen.2; form = form; within = within })
  | inr none ↦ inr (λ spelled. no_show plant line digits form none spelled.0 spelled.1)
]

spelled_refresh : (plant : PlantData) (line digits : List ℕ) → length line ≤ longest_line → line ≡ codes "refresh " ++ digits → IsSpelled plant line ⊎ ¬ IsSpelled plant line
spelled_refresh plant line digits within form = elim (screen_of_digits plant digits) [
  | inl screen ↦ inl (Show screen.0 true, record { digits = digits; number = screen.1; of_plant = screen.2; form = form; within = within })
  | inr none ↦ inr (λ spelled. no_refresh plant line digits form none spelled.0 spelled.1)
]

spelled_within : (plant : PlantData) (line : List ℕ) → length line ≤ longest_line → IsSpelled plant line ⊎ ¬ IsSpelled plant line
spelled_within plant line within = elim (front_of (codes "> ") line) [
  | inl turn ↦ spelled_turn plant line turn.0 within turn.1
  | inr isnt_turn ↦ elim (front_of (codes "take ") line) [
    | inl take ↦ spelled_take plant line take.0 within take.1
    | inr isnt_take ↦ elim (front_of (codes "poll ") line) [
      | inl poll ↦ spelled_poll plant line poll.0 within poll.1
      | inr isnt_poll ↦ elim (front_of (codes "leave ") line) [
        | inl leave ↦ spelled_leave plant line leave.0 within leave.1
        | inr isnt_leave ↦ elim (front_of (codes "show ") line) [
          | inl show ↦ spelled_show plant line show.0 within show.1
          | inr isnt_show ↦ elim (front_of (codes "refresh ") line) [
            | inl refresh ↦ spelled_refresh plant line refresh.0 within refresh.1
            | inr isnt_refresh ↦
                let none = no_show-fronts plant line isnt_show isnt_refresh in
                inr (λ spelled. no_form plant line isnt_turn isnt_take isnt_poll isnt_leave none spelled.0 spelled.1)
          ]
        ]
      ]
    ]
  ]
]

-- a line spells a piece of work or none
pub spelled_line : (plant : PlantData) (line : List ℕ) → IsSpelled plant line ⊎ ¬ IsSpelled plant line
spelled_line plant line = elim (cases_lt longest_line (length line)) [
  | inl long ↦ inr (λ spelled. absurd (omega (arith, spelled.1.within)))
  | inr within ↦ spelled_within plant line within
]
