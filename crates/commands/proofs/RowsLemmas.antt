-- The table of commands: clap takes its forms, and what is asked for is a row.
use Rattle.std.proofs.Common.{◌≡◌, ◌∙◌, refl, sym, ap, subst, ℕ, Bool, List, Option, None, Some}
use Rattle.std.specs.Prelude.{MatchOption}
use Rattle.std.specs.Str.{bytes_eq}
use Rattle.clap.proofs.OnLiterals.{clap_on_literals}
use Rattle.commands.specs.declared.rows.Verb.{Verb}
use Rattle.command_words.specs.declared.table.Asked.{Asked}
use Rattle.command_words.specs.ReadTable.{AsksSo}
use Rattle.command_words.specs.Words.{texts}
use Rattle.command_words.specs.Table.{Line, Ask, AskNone, Asks, SaidFor}
use Rattle.command_words.specs.ClapForms.{ClapTakes}
use Rattle.commands.specs.Rows.{AskFor, AsksFor, SaidOf, line_of, table, verbs}
use Rattle.command_words.proofs.ClapTable.{Fits, clap_takes}
use Rattle.command_words.proofs.TableLemmas.{of_verb, one_verb}

fits : Fits table
unfolding clap_on_literals
fits = record { simple = refl; bare = refl; ends = refl; seen = refl }

pub table_taken : ClapTakes table
table_taken = clap_takes table fits

-- what is asked for by a line is asked for by its row
module _ (is_quiet : Bool) (words : List (List ℕ)) (behind : List (List ℕ)) where
  by_line : (line : Line Verb) (verb : Verb) (said : SaidFor line) (ask : Ask table words line said) → line ≡ line_of verb → line.form.is_quiet ≡ is_quiet → ask.behind ≡ behind
      → AsksFor is_quiet words verb behind
  by_line line verb said ask is quiet behind_is =
      subst (λ (l : Line Verb). (s : SaidFor l) (a : Ask table words l s) → l.form.is_quiet ≡ is_quiet → a.behind ≡ behind → AsksFor is_quiet words verb behind) (sym is)
      (λ s a q b. record { quiet = q; said = s; ask = a; behind_is = b }) said ask quiet behind_is

  pub asks_for : (verb : Verb) → Asks table is_quiet words verb behind → AsksFor is_quiet words verb behind
  asks_for verb asks =
      let line = asks.one.line in
      by_line line verb asks.one.said asks.one.ask
      (of_verb line_of (λ v. refl) (λ (l : Line Verb). bytes_eq l.name line.name) verbs line asks.one.ask.stands ∙ ap line_of asks.verb_is) asks.one.quiet asks.behind_is

-- words ask for one command
pub same_verb : (words : List (List ℕ)) (one other : Verb) (said : SaidOf one) (also : SaidOf other) → AskFor words one said → AskFor words other also → one ≡ other
same_verb words one other said also a b = one_verb line_of (λ v. refl) verbs words one other said also a b

-- what is read by a line is read by its row
pub read_for : (is_quiet : Bool) (words : List (List ℕ)) (read : Option (Asked Verb)) → MatchOption read (AskNone table is_quiet words) (λ asked. AsksSo table is_quiet words asked)
    → MatchOption read (AskNone table is_quiet words) (λ asked. AsksFor is_quiet words asked.verb (texts asked.behind.now))
read_for is_quiet words None none = none
read_for is_quiet words (Some asked) asks = asks_for is_quiet words (texts asked.behind.now) asked.verb asks
