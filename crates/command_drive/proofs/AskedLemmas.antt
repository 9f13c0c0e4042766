-- The drive that words ask for.
use Rattle.std.proofs.Common.{◌≡◌, ℕ, ◌<◌, ◌≤◌, List, [], ◌∷◌, length, get_or, sym, ◌∙◌, ap, subst, arith}
use Rattle.std.specs.Global.{Global}
use Rattle.std.specs.declared.string.String.{String}
use Rattle.std.specs.String.{string_bytes}
use Rattle.command_words.specs.Words.{texts, SaysNumber}
use Rattle.command_words.specs.Parts.{NoMore, AllSay}
use Rattle.command_rows.specs.Opener.{SaySome}
use Rattle.command_drive.specs.declared.asked.Asked.{Asked}
use Rattle.command_drive.specs.DriveRow.{parts}
use Rattle.command_drive.specs.DriveInside.{AskFor}

-- the texts of two words
pub two_texts : (words : List (String Global)) (x y : String Global) (a b : List ℕ) → 2 ≤ length words → length words < 3
    → x ≡ get_or words 0 x → y ≡ get_or words 1 y → a ≡ string_bytes x → b ≡ string_bytes y → texts words ≡ a ∷ b ∷ []
two_texts [] x y a b some few xi yi an bn = absurd (omega (arith, some))
two_texts (p ∷ []) x y a b some few xi yi an bn = absurd (omega (arith, some))
two_texts (p ∷ q ∷ []) x y a b some few xi yi an bn =
    let first : string_bytes p ≡ a = sym (an ∙ ap string_bytes xi) in
    let second : string_bytes q ≡ b = sym (bn ∙ ap string_bytes yi) in
    λ i. first i ∷ second i ∷ []
two_texts (p ∷ q ∷ r ∷ more) x y a b some few xi yi an bn = absurd (omega (arith, few))

-- What two words say of a drive.
pub record SayTwo (a b : List ℕ) : Type 0 where
  pub number : ℕ
  pub wants : ℕ
  pub says_number : SaysNumber 0 4294967295 a number
  pub says_wants : SaysNumber 1 100000 b wants

pub say_two : (words : List (List ℕ)) (a b : List ℕ) → words ≡ a ∷ b ∷ [] → SaySome parts NoMore words → SayTwo a b
say_two words a b form some =
    let it : SaySome parts NoMore (a ∷ b ∷ []) = subst (λ (ws : List (List ℕ)). SaySome parts NoMore ws) form some in
    record { number = it.said.0; wants = it.said.1.0; says_number = it.say.0; says_wants = it.say.1.0 }

-- the drive of the numbers that they say
pub ask_for : (words : List (List ℕ)) (a b : List ℕ) (asked : Asked) → words ≡ a ∷ b ∷ [] → ((least most n : ℕ) → SaysNumber least most a n → asked.number ≡ n)
    → ((least most n : ℕ) → SaysNumber least most b n → asked.wants ≡ n) → AskFor words asked
ask_for words a b asked form one two said say =
    let all : AllSay 0 parts NoMore (a ∷ b ∷ []) said = subst (λ (ws : List (List ℕ)). AllSay 0 parts NoMore ws said) form say in
    (one 0 4294967295 said.0 all.0, two 1 100000 said.1.0 all.1.0)
