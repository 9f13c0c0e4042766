-- A text that begins with a request.
use Rattle.std.proofs.Common.{◌≡◌, ◌≢◌, ℕ, ◌≤◌, Bool, true, false, List, [], ◌∷◌, ◌++◌, get_or, drop, refl, sym, ◌∙◌, ap, append_assoc, arith}
use Rattle.std.specs.Prelude.{codes}
use Rattle.std.specs.Fmt.{decimal}
use Rattle.hex.specs.Hex.{encode_upper}
use Rattle.swp08_messages.specs.declared.message.Message.{Message}
use Rattle.swp08_messages.specs.Text.{text}
use Rattle.plant_config.specs.Plant.{PlantData}
use Rattle.plant_core.specs.declared.request.Request.TheVariants.{Told, Poll, Leave, DisplayPoll}
use Rattle.trace_lines.specs.TraceLine.{trace_limit, request_text}
use Rattle.line_text.specs.Cut.{space}
use Rattle.trace_lines.specs.LineInside.{BeginsWithNumber, BeginsWithMessage, BeginsWithPanel, BeginsWithScreen, BeginsWithRequest}

-- three fields
three : (a b c d : List ℕ) → ((((a ++ space ∷ []) ++ b) ++ space ∷ []) ++ c) ++ space ∷ d ≡ a ++ space ∷ (b ++ space ∷ (c ++ space ∷ d))
three a b c d =
    append_assoc (((a ++ space ∷ []) ++ b) ++ space ∷ []) c (space ∷ d)
    ∙ append_assoc ((a ++ space ∷ []) ++ b) (space ∷ []) (c ++ space ∷ d)
    ∙ append_assoc (a ++ space ∷ []) b (space ∷ (c ++ space ∷ d))
    ∙ append_assoc a (space ∷ []) (b ++ space ∷ (c ++ space ∷ d))

told_text : (panel item : ℕ) (message : Message) (behind : List ℕ)
    → request_text (Told panel item message) ++ space ∷ behind ≡ codes "told " ++ (decimal panel ++ space ∷ (decimal item ++ space ∷ (encode_upper (text message) ++ space ∷ behind)))
told_text panel item message behind = ap (λ (more : List ℕ). codes "told " ++ more) (three (decimal panel) (decimal item) (encode_upper (text message)) behind)

poll_text : (panel item turn : ℕ) (behind : List ℕ)
    → request_text (Poll panel item turn) ++ space ∷ behind ≡ codes "poll " ++ (decimal panel ++ space ∷ (decimal item ++ space ∷ (decimal turn ++ space ∷ behind)))
poll_text panel item turn behind = ap (λ (more : List ℕ). codes "poll " ++ more) (three (decimal panel) (decimal item) (decimal turn) behind)

-- the digit of a refresh
abbrev pub refresh_text : Bool → List ℕ
refresh_text true = codes "1 "
refresh_text false = codes "0 "

show_text : (screen : ℕ) (refresh : Bool) (behind : List ℕ)
    → request_text (DisplayPoll screen refresh) ++ space ∷ behind ≡ codes "show " ++ (decimal screen ++ space ∷ (refresh_text refresh ++ behind))
show_text screen true behind = ap (λ (more : List ℕ). codes "show " ++ more) (append_assoc (decimal screen) (codes " 1") (space ∷ behind))
show_text screen false behind = ap (λ (more : List ℕ). codes "show " ++ more) (append_assoc (decimal screen) (codes " 0") (space ∷ behind))

abbrev first_byte : List ℕ → ℕ
first_byte line = get_or line 0 0

-- which refresh a digit says
pub no_refresh : (line rest behind : List ℕ) (refresh : Bool) → line ≡ codes "0 " ++ rest → line ≡ refresh_text refresh ++ behind → (false ≡ refresh) × (rest ≡ behind)
no_refresh line rest behind true one other = let heads : 48 ≡ 49 = ap first_byte (sym one ∙ other) in absurd (omega (arith, heads))
no_refresh line rest behind false one other = (refl, ap (drop 2) (sym one ∙ other))

pub a_refresh : (line rest behind : List ℕ) (refresh : Bool) → line ≡ codes "1 " ++ rest → line ≡ refresh_text refresh ++ behind → (true ≡ refresh) × (rest ≡ behind)
a_refresh line rest behind false one other = let heads : 49 ≡ 48 = ap first_byte (sym one ∙ other) in absurd (omega (arith, heads))
a_refresh line rest behind true one other = (refl, ap (drop 2) (sym one ∙ other))

pub neither : (line behind : List ℕ) (refresh : Bool) → ((rest : List ℕ) → line ≢ codes "0 " ++ rest) → ((rest : List ℕ) → line ≢ codes "1 " ++ rest) → line ≡ refresh_text refresh ++ behind → ⊥
neither line behind true off on is = on behind is
neither line behind false off on is = off behind is

module _ (plant : PlantData) where
  -- What a text that begins with a told request has behind `told `, field by field.
  pub record ToldParts (line : List ℕ) (panel item : ℕ) (message : Message) (behind : List ℕ) : Type 0 where
    pub second : List ℕ
    pub third : List ℕ
    pub has_panel : BeginsWithPanel plant line panel second
    pub has_item : BeginsWithNumber second item third
    pub has_message : BeginsWithMessage third message behind

  pub told_parts : (line behind : List ℕ) (panel item : ℕ) (message : Message) → panel ≤ trace_limit → BeginsWithRequest plant (codes "told " ++ line) (Told panel item message) behind → ToldParts line panel item message behind
  told_parts line behind panel item message small begins = record {
    second = decimal item ++ space ∷ (encode_upper (text message) ++ space ∷ behind);
    third = encode_upper (text message) ++ space ∷ behind;
    has_panel = record { number = record { place = ap (drop 5) (begins.place ∙ told_text panel item message behind); most = small }; has_panel = begins.fits.0 };
    has_item = record { place = refl; most = begins.numbers };
    has_message = record { place = refl; for_plant = begins.fits.1 };
  }

  -- The same of a poll.
  pub record PollParts (line : List ℕ) (panel item turn : ℕ) (behind : List ℕ) : Type 0 where
    pub second : List ℕ
    pub third : List ℕ
    pub has_panel : BeginsWithPanel plant line panel second
    pub has_item : BeginsWithNumber second item third
    pub has_turn : BeginsWithNumber third turn behind

  pub poll_parts : (line behind : List ℕ) (panel item turn : ℕ) → panel ≤ trace_limit → BeginsWithRequest plant (codes "poll " ++ line) (Poll panel item turn) behind → PollParts line panel item turn behind
  poll_parts line behind panel item turn small begins = record {
    second = decimal item ++ space ∷ (decimal turn ++ space ∷ behind);
    third = decimal turn ++ space ∷ behind;
    has_panel = record { number = record { place = ap (drop 5) (begins.place ∙ poll_text panel item turn behind); most = small }; has_panel = begins.fits };
    has_item = record { place = refl; most = begins.numbers.0 };
    has_turn = record { place = refl; most = begins.numbers.1 };
  }

  pub leave_part : (line behind : List ℕ) (panel : ℕ) → panel ≤ trace_limit → BeginsWithRequest plant (codes "leave " ++ line) (Leave panel) behind → BeginsWithPanel plant line panel behind
  leave_part line behind panel small begins = record { number = record { place = ap (drop 6) begins.place; most = small }; has_panel = begins.fits }

  pub show_part : (line behind : List ℕ) (screen : ℕ) (refresh : Bool) → screen ≤ trace_limit → BeginsWithRequest plant (codes "show " ++ line) (DisplayPoll screen refresh) behind
      → BeginsWithScreen plant line screen (refresh_text refresh ++ behind)
  show_part line behind screen refresh small begins =
      record { number = record { place = ap (drop 5) (begins.place ∙ show_text screen refresh behind); most = small }; has_screen = begins.fits }
