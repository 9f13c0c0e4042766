-- What clap makes of a word that doesn't begin with a dash.
use Rattle.std.proofs.Common.{◌≡◌, ◌&&◌, refl, ap, ℕ, Bool, true, false, cond, List, [], ◌∷◌, Option, Some, None, eqb}
use Rattle.std.specs.Prelude.{option_and_then}
use Rattle.std.specs.Str.{bytes_eq}
use Rattle.clap.specs.Words.{Rule, Text}
use Rattle.clap.specs.Lexer.{long_of, long_of_rest, short_of, short_of_rest, strip_byte}
use Rattle.clap.specs.Walk.{Held, Waiting, idle, positional, plain_word, subcommand_met, value}

pub no_dash : (first : ℕ) (rest : Text) → eqb first 45 ≡ false → strip_byte 45 (first ∷ rest) ≡ None
no_dash first rest differs = ap (λ b. cond b (Some rest) None) differs

pub not_dashes : (first : ℕ) (rest : Text) → eqb first 45 ≡ false → bytes_eq (first ∷ rest) (45 ∷ 45 ∷ []) ≡ false
not_dashes first rest differs = ap (λ b. b && bytes_eq rest (45 ∷ [])) differs

pub not_long : (first : ℕ) (rest : Text) → eqb first 45 ≡ false → long_of (first ∷ rest) ≡ None
not_long first rest differs = ap (λ (o : Option Text). option_and_then long_of_rest (option_and_then (strip_byte 45) o)) (no_dash first rest differs)

pub not_short : (first : ℕ) (rest : Text) → eqb first 45 ≡ false → short_of (first ∷ rest) ≡ None
not_short first rest differs = ap (λ (o : Option Text). option_and_then short_of_rest o) (no_dash first rest differs)

-- whether a positional waits for more values
abbrev pub waits : Bool → Waiting
waits true = positional
waits false = idle

pub no_subcommand : (more : Bool) (word : Text) → subcommand_met [] (waits more) word ≡ None
no_subcommand true word = refl
no_subcommand false word = refl

pub is_plain : (c : List Rule) (more : Bool) (word : Text) (h : Held) → plain_word c (waits more) word h ≡ (h, value)
is_plain c true word h = refl
is_plain c false word h = refl
