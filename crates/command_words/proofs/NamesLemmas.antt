-- The words of the command line, one after the other.
use Rattle.std.proofs.Common.{◌≡◌, ℕ, ◌+◌, ◌<◌, Bool, true, false, List, [], ◌∷◌, ◌++◌, length, take, drop, get_or, sym, ◌∙◌, ap, subst, append_assoc, arith}
use Rattle.std.specs.Prelude.{All, IsTrue, Some, slice_get}
use Rattle.std.specs.Global.{Global}
use Rattle.std.specs.declared.string.String.{String}
use Rattle.std.specs.String.{string_bytes}
use Rattle.std.proofs.lemmas.Bool.{false≢true}
use Rattle.std.proofs.lemmas.List.{take-append-drop, take_more, map-append, get_or-map, length-map}
use Rattle.std.proofs.lemmas.List.Elements.{All-push}
use Rattle.std.proofs.lemmas.Option.{slice_get-get_or}
use Rattle.command_words.specs.Words.{texts, IsFileName}

-- the texts of words in front of one, its own, and those behind it
pub texts-at : (words : List (String Global)) (i : ℕ) (word : String Global) (name : List ℕ) → i < length words → word ≡ get_or words i word → name ≡ string_bytes word
    → texts words ≡ texts (take i words) ++ name ∷ texts (drop (i + 1) words)
texts-at words i word name less is named =
    let whole : words ≡ take i words ++ word ∷ drop (i + 1) words =
    sym (take-append-drop (i + 1) words)
    ∙ ap (λ (ws : List (String Global)). ws ++ drop (i + 1) words) (take_more words i word less ∙ ap (λ (w : String Global). take i words ++ w ∷ []) (sym is))
    ∙ append_assoc (take i words) (word ∷ []) (drop (i + 1) words) in
    ap texts whole ∙ map-append string_bytes (take i words) (word ∷ drop (i + 1) words) ∙ ap (λ (n : List ℕ). texts (take i words) ++ n ∷ texts (drop (i + 1) words)) (sym named)

pub texts-more : (words : List (String Global)) (i : ℕ) (word : String Global) (name : List ℕ) → i < length words → word ≡ get_or words i word → name ≡ string_bytes word
    → texts (take (i + 1) words) ≡ texts (take i words) ++ name ∷ []
texts-more words i word name less is named =
    ap texts (take_more words i word less ∙ ap (λ (w : String Global). take i words ++ w ∷ []) (sym is)) ∙ map-append string_bytes (take i words) (word ∷ [])
    ∙ ap (λ (n : List ℕ). texts (take i words) ++ n ∷ []) (sym named)

-- A word names something.
abbrev pub NamesOne : String Global → Type 0
NamesOne word = IsFileName (string_bytes word)

-- a word that names nothing, among others
no_name : (b : Bool) (name : List ℕ) → (IsFileName name → IsTrue b) → b ≡ false → IsFileName name → ⊥
no_name b name only is named = false≢true (sym is ∙ only named)

pub not_all : (words : List (String Global)) (i : ℕ) (word : String Global) (name : List ℕ) (b : Bool) → i < length words → word ≡ get_or words i word → name ≡ string_bytes word
    → (IsFileName name → IsTrue b) → b ≡ false → All IsFileName (texts words) → ⊥
not_all words i word name b less is named only is_not all =
    let there : get_or (texts words) i name ≡ name = get_or-map string_bytes words i word name less ∙ ap string_bytes (sym is) ∙ sym named in
    no_name b name only is_not (subst IsFileName there (all i name (omega (arith, less, length-map words string_bytes))))

-- one more word that names something
pub all_more : (words : List (String Global)) (i : ℕ) (word : String Global) (name : List ℕ) (b : Bool) → i < length words → word ≡ get_or words i word → name ≡ string_bytes word
    → (IsTrue b → IsFileName name) → b ≡ true → All NamesOne (take i words) → All NamesOne (take (i + 1) words)
all_more words i word name b less is named only is_one all =
    subst (All NamesOne) (sym (take_more words i word less ∙ ap (λ (w : String Global). take i words ++ w ∷ []) (sym is)))
    (All-push NamesOne (take i words) word all (subst IsFileName named (only is_one)))

-- the text of a word, among those of all
module _ (words : List (String Global)) (i : ℕ) (word : String Global) (name : List ℕ) (less : i < length words) (is : word ≡ get_or words i word) (named : name ≡ string_bytes word) where
  within : i < length (texts words)
  within = omega (arith, less, length-map words string_bytes)

  there : get_or (texts words) i name ≡ name
  there = get_or-map string_bytes words i word name less ∙ ap string_bytes (sym is) ∙ sym named

  pub text-at : slice_get (texts words) i ≡ Some name
  text-at = slice_get-get_or (texts words) i name within ∙ ap Some there

  pub take-texts : take (i + 1) (texts words) ≡ take i (texts words) ++ name ∷ []
  take-texts = take_more (texts words) i name within ∙ ap (λ (n : List ℕ). take i (texts words) ++ n ∷ []) there
