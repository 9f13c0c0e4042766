-- How clap is told of the forms of a table, line by line and word by word.
use Rattle.std.proofs.Common.{◌≡◌, ◌∙◌, ◌<◌, ◌≤◌, ◌+◌, refl, sym, ap, ap₂, arith, ℕ, zero, suc, Bool, true, false, cond, List, [], ◌∷◌, ◌++◌, map, length, take, get_or, append-nil}
use Rattle.std.specs.Prelude.{◌⊎◌, nat_lt, fold, option_map, Some, None}
use Rattle.std.proofs.Common.{inl, inr, lt-ltb, le-ltb}
use Rattle.std.specs.Borrow.{Bor}
use Rattle.std.specs.Box.{box_value}
use Rattle.std.proofs.lemmas.Bool.{cases_lt}
use Rattle.std.proofs.lemmas.List.{get_or-map, length-map, map-append, take_all, take_more}
use Rattle.std.proofs.lemmas.List.Elements.{filter-append}
use Rattle.std.proofs.lemmas.List.Sums.{fold-append, fold_more}
use Rattle.clap.specs.Words.{App, Row, Rule, Text, subcommand_name_of, subcommand_rows, subcommand_rows_of, with_rule}
use Rattle.clap.specs.declared.parser.matches.ArgMatches.{ArgMatches}
use Rattle.clap.specs.declared.parser.matches.ArgMatches.TheViews.{out-ArgMatches, out-SubCommand}
use Rattle.command_words.specs.declared.table.Line as code
use Rattle.command_words.specs.declared.parts.Part as codes
use Rattle.command_words.specs.ReadParts.{part_as}
use Rattle.command_words.specs.Parts.{Part}
use Rattle.command_words.specs.Table.{Line}
use Rattle.command_words.specs.ReadTable.{line_as}
use Rattle.command_words.specs.ClapForms.{quiet_of, rule_for, rules_of, with_line}

-- ---- the rules of a form's words

pub length-rules_of : (parts : List Part) (names : List Text) → length (rules_of parts names) ≡ length names
length-rules_of parts [] = refl
length-rules_of [] (name ∷ names) = ap suc (length-rules_of [] names)
length-rules_of (part ∷ parts) (name ∷ names) = ap suc (length-rules_of parts names)

front_rule : (parts : List Part) (names : List Text) (i : ℕ) (d : Rule) (e : Text) → i < length names → i < length parts → get_or (rules_of parts names) i d ≡ rule_for true (get_or names i e)
front_rule parts [] i d e less front = absurd (omega (arith, less))
front_rule [] (name ∷ names) i d e less front = absurd (omega (arith, front))
front_rule (part ∷ parts) (name ∷ names) zero d e less front = refl
front_rule (part ∷ parts) (name ∷ names) (suc i) d e less front = front_rule parts names i d e (omega (arith, less)) (omega (arith, front))

last_rule : (parts : List Part) (names : List Text) (i : ℕ) (d : Rule) (e : Text) → i < length names → length parts ≤ i → get_or (rules_of parts names) i d ≡ rule_for false (get_or names i e)
last_rule parts [] i d e less past = absurd (omega (arith, less))
last_rule [] (name ∷ names) zero d e less past = refl
last_rule [] (name ∷ names) (suc i) d e less past = last_rule [] names i d e (omega (arith, less)) (omega arith)
last_rule (part ∷ parts) (name ∷ names) zero d e less past = absurd (omega (arith, past))
last_rule (part ∷ parts) (name ∷ names) (suc i) d e less past = last_rule parts names i d e (omega (arith, less)) (omega (arith, past))

rule_at : (parts : List Part) (names : List Text) (i : ℕ) (d : Rule) (e : Text) → i < length names → (i < length parts) ⊎ (length parts ≤ i)
    → get_or (rules_of parts names) i d ≡ rule_for (nat_lt i (length parts)) (get_or names i e)
rule_at parts names i d e less (inl front) = front_rule parts names i d e less front ∙ ap (λ b. rule_for b (get_or names i e)) (sym (lt-ltb i (length parts) front))
rule_at parts names i d e less (inr past) = last_rule parts names i d e less past ∙ ap (λ b. rule_for b (get_or names i e)) (sym (le-ltb i (length parts) past))

-- one more word
pub rule_more : (app : App) (parts : List Part) (names : List Text) (i : ℕ) (e : Text) → i < length names
    → fold with_rule app (take (i + 1) (rules_of parts names)) ≡ with_rule (fold with_rule app (take i (rules_of parts names))) (rule_for (nat_lt i (length parts)) (get_or names i e))
rule_more app parts names i e less =
    let d = rule_for true [] in
    fold_more with_rule app (rules_of parts names) i d (omega (arith, less, length-rules_of parts names))
    ∙ ap (with_rule (fold with_rule app (take i (rules_of parts names)))) (rule_at parts names i d e less (cases_lt i (length parts)))

-- the same, of what the code has
pub rule_next : (app : App) (parts : List codes.Part) (names : List (Bor Text)) (i : ℕ) (d : Bor Text) → i < length names
    → fold with_rule app (take (i + 1) (rules_of (map part_as parts) (map (λ (n : Bor Text). n.now) names)))
    ≡ with_rule (fold with_rule app (take i (rules_of (map part_as parts) (map (λ (n : Bor Text). n.now) names)))) (rule_for (nat_lt i (length parts)) (get_or names i d).now)
rule_next app parts names i d less =
    let now = λ (n : Bor Text). n.now in
    rule_more app (map part_as parts) (map now names) i d.now (omega (arith, less, length-map names now))
    ∙ ap₂ (λ (n : ℕ) (name : Text). with_rule (fold with_rule app (take i (rules_of (map part_as parts) (map now names)))) (rule_for (nat_lt i n) name))
    (length-map parts part_as) (get_or-map now names i d d.now less)

-- all words
pub rules_all : (app : App) (parts : List Part) (names : List Text) (i : ℕ) → length names ≤ i → fold with_rule app (take i (rules_of parts names)) ≡ fold with_rule app (rules_of parts names)
rules_all app parts names i past = ap (fold with_rule app) (take_all i (rules_of parts names) (omega (arith, past, length-rules_of parts names)))

-- ---- the forms of a table's quiet lines

module _ {V : Type 0} (app : App) (lines : List (code.Line V)) (i : ℕ) (line : code.Line V) (less : i < length lines) (is : line ≡ get_or lines i line) where
  more : map line_as (take (i + 1) lines) ≡ map line_as (take i lines) ++ line_as line ∷ []
  more = ap (map line_as) (take_more lines i line less ∙ ap (λ (l : code.Line V). take i lines ++ l ∷ []) (sym is)) ∙ map-append line_as (take i lines) (line ∷ [])

  quiet_more : (b : Bool) → line.is_quiet ≡ b → quiet_of (map line_as (take (i + 1) lines)) ≡ quiet_of (map line_as (take i lines)) ++ cond b (line_as line ∷ []) []
  quiet_more b quiet =
      ap quiet_of more ∙ filter-append (λ (l : Line V). l.form.is_quiet) (map line_as (take i lines)) (line_as line ∷ [])
      ∙ ap (λ (b : Bool). quiet_of (map line_as (take i lines)) ++ cond b (line_as line ∷ []) []) quiet

  pub line_more : line.is_quiet ≡ true
      → fold with_line app (quiet_of (map line_as (take (i + 1) lines))) ≡ with_line (fold with_line app (quiet_of (map line_as (take i lines)))) (line_as line)
  line_more quiet = ap (fold with_line app) (quiet_more true quiet) ∙ fold-append with_line app (quiet_of (map line_as (take i lines))) (line_as line ∷ [])

  pub line_past : line.is_quiet ≡ false → fold with_line app (quiet_of (map line_as (take (i + 1) lines))) ≡ fold with_line app (quiet_of (map line_as (take i lines)))
  line_past quiet = ap (fold with_line app) (quiet_more false quiet ∙ append-nil (quiet_of (map line_as (take i lines))))

-- ---- what the matches tell

pub name_found : (m : ArgMatches) → subcommand_name_of m ≡ option_map (λ p. p.0) (subcommand_rows_of m)
name_found m = elim (out-ArgMatches m).subcommand as (λ o. option_map (λ b. (out-SubCommand (box_value b)).name.now) o ≡ option_map (λ (p : Text × List Row). p.0) (subcommand_rows o)) [ None ↦ refl | Some b ↦ refl ]
