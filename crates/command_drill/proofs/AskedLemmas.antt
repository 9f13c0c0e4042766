-- The drill that words ask for.
use Rattle.std.proofs.Common.{◌≡◌, ℕ, ◌<◌, ◌≤◌, List, [], ◌∷◌, length, get_or, sym, ◌∙◌, ap, subst, arith}
use Rattle.std.specs.Global.{Global}
use Rattle.std.specs.declared.string.String.{String}
use Rattle.std.specs.String.{string_bytes}
use Rattle.command_words.specs.Words.{texts, SaysNumber}
use Rattle.command_words.specs.Parts.{NoMore, AllSay}
use Rattle.command_rows.specs.Opener.{SaysOne, SaySome}
use Rattle.command_drill.specs.Drill.{parts, drill_of}
use Rattle.command_drill.specs.DrillInside.{AskFor}

-- the texts of three words
pub three_texts : (words : List (String Global)) (x y z : String Global) (a b c : List ℕ) → 3 ≤ length words → length words < 4
    → x ≡ get_or words 0 x → y ≡ get_or words 1 y → z ≡ get_or words 2 z → a ≡ string_bytes x → b ≡ string_bytes y → c ≡ string_bytes z
    → texts words ≡ a ∷ b ∷ c ∷ []
three_texts [] x y z a b c some few xi yi zi an bn cn = absurd (omega (arith, some))
three_texts (p ∷ []) x y z a b c some few xi yi zi an bn cn = absurd (omega (arith, some))
three_texts (p ∷ q ∷ []) x y z a b c some few xi yi zi an bn cn = absurd (omega (arith, some))
three_texts (p ∷ q ∷ r ∷ []) x y z a b c some few xi yi zi an bn cn =
    let first : string_bytes p ≡ a = sym (an ∙ ap string_bytes xi) in
    let second : string_bytes q ≡ b = sym (bn ∙ ap string_bytes yi) in
    let third : string_bytes r ≡ c = sym (cn ∙ ap string_bytes zi) in
    λ i. first i ∷ second i ∷ third i ∷ []
three_texts (p ∷ q ∷ r ∷ s ∷ more) x y z a b c some few xi yi zi an bn cn = absurd (omega (arith, few))

-- What three words say of a drill.
pub record SayThree (a b c : List ℕ) : Type 0 where
  pub number : ℕ
  pub panels : ℕ
  pub messages : ℕ
  pub says_number : SaysNumber 0 4294967295 a number
  pub says_panels : SaysNumber 1 16 b panels
  pub says_messages : SaysNumber panels 200000 c messages

pub say_three : (words : List (List ℕ)) (a b c : List ℕ) → words ≡ a ∷ b ∷ c ∷ [] → SaySome parts NoMore words → SayThree a b c
say_three words a b c form some =
    let it : SaySome parts NoMore (a ∷ b ∷ c ∷ []) = subst (λ (ws : List (List ℕ)). SaySome parts NoMore ws) form some in
    record { number = it.said.0; panels = it.said.1.0; messages = it.said.1.1.0; says_number = it.say.0; says_panels = it.say.1.0; says_messages = it.say.1.1.0 }

pub says_one : {least most number : ℕ} {word : List ℕ} → SaysNumber least most word number → SaysOne word
says_one {least} {most} {number} says = record { least = least; most = most; number = number; says = says }

-- the drill of the numbers that they say
pub ask_for : (words : List (List ℕ)) (a b c : List ℕ) (number panels messages : ℕ) → words ≡ a ∷ b ∷ c ∷ [] → ((least most n : ℕ) → SaysNumber least most a n → number ≡ n)
    → ((least most n : ℕ) → SaysNumber least most b n → panels ≡ n) → ((least most n : ℕ) → SaysNumber least most c n → messages ≡ n) → AskFor words (drill_of number panels messages)
ask_for words a b c number panels messages form one two three said say =
    let all : AllSay 0 parts NoMore (a ∷ b ∷ c ∷ []) said = subst (λ (ws : List (List ℕ)). AllSay 0 parts NoMore ws said) form say in
    let is_number = one 0 4294967295 said.0 all.0 in
    let is_panels = two 1 16 said.1.0 all.1.0 in
    let is_messages = three said.1.0 200000 said.1.1.0 all.1.1.0 in
    λ i. drill_of (is_number i) (is_panels i) (is_messages i)
