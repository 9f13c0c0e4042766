-- The texts of words.
use Rattle.std.proofs.Common.{◌≡◌, ℕ, ◌-◌, ◌≤◌, List, [], ◌∷◌, length, take, drop, get_or, sym, ◌∙◌, ap, ap₂, arith}
use Rattle.std.proofs.lemmas.List.{take_all}
use Rattle.std.specs.Global.{Global}
use Rattle.std.specs.declared.string.String.{String}
use Rattle.std.specs.String.{string_bytes}
use Rattle.command_words.specs.Words.{texts}

pub front_text : (words : List (String Global)) (word : String Global) (text : List ℕ) → 1 ≤ length words → word ≡ get_or words 0 word → text ≡ string_bytes word
    → texts words ≡ text ∷ texts (take (length words - 1) (drop 1 words))
front_text [] word text some is named = absurd (omega (arith, some))
front_text (first ∷ words) word text some is named =
    ap₂ (λ (t : List ℕ) (ws : List (String Global)). t ∷ texts ws) (sym (named ∙ ap string_bytes is)) (sym (take_all (length (first ∷ words) - 1) words (omega arith)))
