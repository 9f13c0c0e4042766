-- Words say one thing of the parts of a form.
use Rattle.std.proofs.Common.{◌≡◌, ℕ, List, [], ◌∷◌, Option, None, Some, refl, sym, ◌∙◌, ap, subst}
use Rattle.command_words.specs.Parts.{Part, Plant, Whole, Made, Store, Later, Number, Last, NoMore, Wholes, Prefix, Said, SaidLast, AllSaid, Says, SayLast, number_behind, AllSay}
use Rattle.commands.specs.declared.rows.Verb.{Verb}
use Rattle.commands.specs.Rows.{AskFor, SaidOf, row_of, line_of, table}
use Rattle.commands.proofs.RowsLemmas.{same_verb}

part_once : (before : ℕ) (part : Part) (word : List ℕ) (one other : Said part) → Says before part word one → Says before part word other → one ≡ other
part_once before Plant word one other a b = a.0 ∙ sym b.0
part_once before (Whole kind) word one other a b = a.0 ∙ sym b.0
part_once before Made word one other a b = a.0 ∙ sym b.0
part_once before Store word one other a b = a.0 ∙ sym b.0
part_once before (Later kind) word one other a b = a.0 ∙ sym b.0
part_once before (Number low most) word one other a b = a.spells.number_is ∙ sym b.spells.number_is

last_once : (last : Last) (words : List (List ℕ)) (one other : SaidLast last) → SayLast last words one → SayLast last words other → one ≡ other
last_once NoMore words one other a b = refl
last_once (Wholes kind) words one other a b = a.0 ∙ sym b.0
last_once Prefix [] one other a b = a ∙ sym b
last_once Prefix (word ∷ []) one other a b = a.0 ∙ sym b.0
last_once Prefix (word ∷ next ∷ more) one other a b = absurd a

pub said_once : (before : ℕ) (parts : List Part) (last : Last) (words : List (List ℕ)) (one other : AllSaid parts last) → AllSay before parts last words one → AllSay before parts last words other → one ≡ other
said_once before [] last words one other a b = last_once last words one other a b
said_once before (part ∷ parts) last [] one other a b = absurd a
said_once before (part ∷ parts) last (word ∷ words) one other a b =
    let first = part_once before part word one.0 other.0 a.0 b.0 in
    let later = said_once (number_behind before part one.0) parts last words one.1 other.1 a.1
    (subst (λ (s : Said part). AllSay (number_behind before part s) parts last words other.1) (sym first) b.1) in
    λ i. (first i, later i)

-- so words that ask for a command say one thing behind its name
pub asked_once : (words : List (List ℕ)) (verb : Verb) (one other : SaidOf verb) → AskFor words verb one → AskFor words verb other → one ≡ other
asked_once words verb one other a b =
    let form : (row_of verb).name ∷ a.behind ≡ (row_of verb).name ∷ b.behind = sym a.form ∙ b.form in
    let same : a.behind ≡ b.behind = cc in
    said_once 0 (row_of verb).form.parts (row_of verb).form.last b.behind one other
    (subst (λ (ws : List (List ℕ)). AllSay 0 (row_of verb).form.parts (row_of verb).form.last ws one) same a.say) b.say

-- What holds of the command that words ask for, and of what they say, holds of every one that they ask for.
pub asked_so : (words : List (List ℕ)) (its verb : Verb) (one : SaidOf its) (said : SaidOf verb) (P : (v : Verb) → SaidOf v → Type 0) → AskFor words its one → AskFor words verb said → P its one → P verb said
asked_so words its verb one said P a b p = by_verb (same_verb words its verb one said a b) one a p where
  by_verb : {v : Verb} → v ≡ verb → (s : SaidOf v) → AskFor words v s → P v s → P verb said
  by_verb {v} is s asked p =
      subst (λ (w : Verb). (s : SaidOf w) → AskFor words w s → P w s → P verb said) (sym is) (λ s asked p. subst (P verb) (asked_once words verb s said asked b) p) s asked p
