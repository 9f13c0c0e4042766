-- What words ask for, by the line of their first word.
use Rattle.std.proofs.Common.{◌≡◌, refl, sym, ◌∙◌, ap, subst, ℕ, Bool, true, false, cond, List, [], ◌∷◌, map, option_map, Option, Some, None}
use Rattle.std.specs.Borrow.{Bor}
use Rattle.std.specs.List.{find}
use Rattle.std.specs.Str.{bytes_eq}
use Rattle.std.proofs.lemmas.Option.{none-some, same_Some}
use Rattle.std.proofs.lemmas.Slice.Eq.{bytes_eq-Decides}
use Rattle.clap.proofs.WalkLemmas.{find-map}
use Rattle.std.specs.Prelude.{IsSomeAnd, MatchOption}
use Rattle.std.specs.Global.{Global}
use Rattle.std.specs.declared.string.String.{String}
use Rattle.command_words.specs.declared.table.Line as code
use Rattle.command_words.specs.declared.table.Asked.{Asked}
use Rattle.command_words.specs.Words.{texts}
use Rattle.command_words.specs.Table.{Line, Ask, SaidFor, AskNone, AskOne, Asks, line_named}
use Rattle.command_words.specs.ReadParts.{CanSay}
use Rattle.command_words.specs.ReadTable.{AsksSo, line_as, line_of_name}

-- what is found passes
pub find_passes : {X : Type 0} (p : X → Bool) (xs : List X) (x : X) → find p xs ≡ Some x → p x ≡ true
find_passes p [] x found = absurd (none-some x found)
find_passes p (y ∷ ys) x found = go (p y) refl (find_passes p ys x) found
  where
    go : (b : Bool) → p y ≡ b → (find p ys ≡ Some x → p x ≡ true) → cond b (Some y) (find p ys) ≡ Some x → p x ≡ true
    go true is behind e = ap p (sym (same_Some y x e)) ∙ is
    go false is behind e = behind e

module _ {V : Type 0} where
  -- the code's line of a name is that of the definitions
  pub line_named_as : (lines : List (code.Line V)) (name : List ℕ) (found : Option (Bor (code.Line V)))
      → option_map (λ (line : Bor (code.Line V)). line.now) found ≡ find (λ line. bytes_eq line.name.now name) lines
      → option_map (λ (line : Bor (code.Line V)). line_as line.now) found ≡ line_named (map line_as lines) name
  line_named_as lines name None is = ap (option_map line_as) is ∙ find-map (λ (line : Line V). bytes_eq line.name name) line_as lines
  line_named_as lines name (Some line) is = ap (option_map line_as) is ∙ find-map (λ (line : Line V). bytes_eq line.name name) line_as lines

  module _ (lines : List (Line V)) (is_quiet : Bool) (first : List ℕ) (behind : List (List ℕ)) where
    first_names : (one : AskOne lines is_quiet (first ∷ behind)) → line_named lines first ≡ Some one.line
    first_names one =
        let same : first ≡ one.line.name = let form = one.ask.form in cc in
        ap (line_named lines) same ∙ one.ask.stands

    pub none_of_name : line_named lines first ≡ None → AskNone lines is_quiet (first ∷ behind)
    none_of_name none one = none-some one.line (sym none ∙ first_names one)

    module _ (line : Line V) (named : line_named lines first ≡ Some line) where
      pub none_so : (line.form.is_quiet ≡ is_quiet → CanSay 0 line.form.parts line.form.last behind → ⊥) → AskNone lines is_quiet (first ∷ behind)
      none_so not one =
          let same : one.line ≡ line = same_Some one.line line (sym (first_names one) ∙ named) in
          let behind_is : one.ask.behind ≡ behind = let form = one.ask.form in cc in
          not (subst (λ (l : Line V). l.form.is_quiet ≡ is_quiet) same one.quiet)
          (subst (λ (l : Line V). CanSay 0 l.form.parts l.form.last behind) same
          (subst (λ (ws : List (List ℕ)). CanSay 0 one.line.form.parts one.line.form.last ws) behind_is (one.said, one.ask.say)))

      pub asked_so : line.form.is_quiet ≡ is_quiet → CanSay 0 line.form.parts line.form.last behind → Asks lines is_quiet (first ∷ behind) line.verb behind
      asked_so quiet can =
          let same : line.name ≡ first = (bytes_eq-Decides line.name first).0 (find_passes (λ (l : Line V). bytes_eq l.name first) lines line named) in
          record {
            one = record {
              line = line;
              quiet = quiet;
              said = can.0;
              ask = record {
                behind = behind;
                stands = ap (line_named lines) same ∙ named;
                form = ap (λ (name : List ℕ). name ∷ behind) (sym same);
                say = can.1;
              };
            };
            verb_is = refl;
            behind_is = refl;
          }

-- words that aren't there ask for nothing
pub none_of_none : {V : Type 0} (lines : List (Line V)) (is_quiet : Bool) → AskNone lines is_quiet []
none_of_none lines is_quiet one = let form = one.ask.form in cc

-- an answer that isn't there
pub match_none : {X : Type 0} (o : Option X) (P : Type 0) (Q : X → Type 0) → o ≡ None → P → MatchOption o P Q
match_none o P Q is p = subst (λ r. MatchOption r P Q) (sym is) p

-- what is found again is asked for
pub asked_again : {V : Type 0} (lines : List (Line V)) (is_quiet : Bool) (words : List (List ℕ)) (asked : Asked V) (asks : AsksSo lines is_quiet words asked) (again : Option (Asked V))
    → IsSomeAnd again (λ a. (a.verb ≡ asks.one.line.verb) × (a.behind ≡ asked.behind)) → MatchOption again (AskNone lines is_quiet words) (λ a. AsksSo lines is_quiet words a)
asked_again lines is_quiet words asked asks None same = absurd same
asked_again lines is_quiet words asked asks (Some a) same = record {
  one = asks.one;
  verb_is = sym same.0;
  behind_is = asks.behind_is ∙ ap (λ (ws : Bor (List (String Global))). texts ws.now) (sym same.1);
}

-- the name that clap found leads to its line
pub named_by : {V : Type 0} (lines : List (Line V)) (name : Option (Bor (List ℕ))) (line : Line V) → option_map (λ (n : Bor (List ℕ)). n.now) name ≡ Some line.name
    → line_named lines line.name ≡ Some line → line_of_name lines name ≡ Some line
named_by lines None line is stands = absurd (none-some line.name is)
named_by lines (Some n) line is stands = ap (line_named lines) (same_Some n.now line.name is) ∙ stands

-- ---- a table that has a line for each verb of a list

module _ {V : Type 0} (line_of : V → Line V) (verb_is : (v : V) → (line_of v).verb ≡ v) where
  -- a line that is found is that of its verb
  pub of_verb : (p : Line V → Bool) (verbs : List V) (line : Line V) → find p (map line_of verbs) ≡ Some line → line ≡ line_of line.verb
  of_verb p [] line found = absurd (none-some line found)
  of_verb p (v ∷ verbs) line found = go (p (line_of v)) (of_verb p verbs line) found
    where
      go : (b : Bool) → (find p (map line_of verbs) ≡ Some line → line ≡ line_of line.verb) → cond b (Some (line_of v)) (find p (map line_of verbs)) ≡ Some line → line ≡ line_of line.verb
      go true behind e = let same = same_Some (line_of v) line e in sym same ∙ ap line_of (sym (verb_is v) ∙ ap (λ (l : Line V). l.verb) same)
      go false behind e = behind e

  -- words ask for one command
  pub one_verb : (verbs : List V) (words : List (List ℕ)) (v w : V) (one : SaidFor (line_of v)) (other : SaidFor (line_of w))
      → Ask (map line_of verbs) words (line_of v) one → Ask (map line_of verbs) words (line_of w) other → v ≡ w
  one_verb verbs words v w one other a b =
      let names : (line_of v).name ≡ (line_of w).name = let form = a.form in let same = b.form in cc in
      let same = same_Some (line_of v) (line_of w) (sym a.stands ∙ ap (line_named (map line_of verbs)) names ∙ b.stands) in
      sym (verb_is v) ∙ ap (λ (l : Line V). l.verb) same ∙ verb_is w
