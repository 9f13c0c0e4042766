-- clap takes the words of each quiet command of a table, once that computes on the table.
use Rattle.std.proofs.Common.{◌≡◌, ◌∙◌, ◌&&◌, refl, sym, ap, ap₂, subst, Bool, true, false, cond, List, [], ◌∷◌, ◌++◌, Option, Some, append-nil, append_assoc}
use Rattle.std.specs.Prelude.{is_some, find, filter, fold, option_map, if◌then◌else◌, drop}
use Rattle.std.specs.List.{list_all}
use Rattle.std.specs.Str.{bytes_eq}
use Rattle.std.specs.Option.{option_map_or}
use Rattle.std.proofs.lemmas.Bool.{false≢true}
use Rattle.std.proofs.lemmas.Option.{none-some, same_Some}
use Rattle.clap.specs.Words.{App, Rule, Shape, Text, built, is_simple, subcommand_of, takes}
use Rattle.clap.specs.Walk.{Held, Names, Walk, answers_to, finished, nothing_held, walk, walk_from, walked}
use Rattle.clap.specs.Simple.{argument_words, built_leaf, entered, inherited, label_of, names_of, new_shape, rows_at}
use Rattle.clap.specs.Takes.{built_takes, default_passes, entered_passes, is_valid, level_passes, settle_passes, turn_passes, walk_passes}
use Rattle.command_words.specs.Table.{Line, AskOne}
use Rattle.command_words.specs.ClapForms.{ClapTakes, app_of_line, program, quiet_of}
use Rattle.command_words.proofs.ClapWalk.{Passes, Seen, ends_well, meant, passes_parts, seen, standing}

-- ---- the program stops at the name of a subcommand, and the other words are that one's

abbrev pub stood : Text → List Text → Walk
stood name words = record (walk_from nothing_held) { stopped = Some (name, words) }

passed : (c : List Rule) (names : Names) (name : Text) (before words : List Text) → fold (walked c names) (stood name before) words ≡ stood name (before ++ words)
unfolding walked
passed c names name before [] = ap (stood name) (sym (append-nil before))
passed c names name before (word ∷ more) = passed c names name (before ++ word ∷ []) more ∙ ap (stood name) (append_assoc before (word ∷ []) more)

passes : (s : Shape) (names : Names) (name : Text) (before words : List Text) → walk_passes s names (stood name before) words ≡ true
unfolding walked walk_passes
passes s names name before [] = refl
passes s names name before (word ∷ more) = passes s names name (before ++ word ∷ []) more

abbrev pub ends_above : Shape → Held → Bool
ends_above s h = settle_passes s.rules s.args_override_self h && (list_all default_passes s.rules && is_valid s (finished s.rules h) true)

above_passes : (s : Shape) (names : Names) (name : Text) (words : List Text) → walked s.rules names (walk_from nothing_held) name ≡ stood name []
    → turn_passes s names (walk_from nothing_held) name ≡ true → ends_above s nothing_held ≡ true → level_passes s names nothing_held (name ∷ words) true ≡ true
unfolding walk_passes
above_passes s names name words stops turn ends =
    ap₂ ◌&&◌ (ap₂ ◌&&◌ turn (ap (λ (w : Walk). walk_passes s names w words) stops ∙ passes s names name [] words))
    (ap (λ (w : Walk). ends_above s w.held) (ap (λ (w : Walk). fold (walked s.rules names) w words) stops ∙ passed s.rules names name [] words) ∙ ends)

-- ---- what is computed on a table

-- the settings of the program that its subcommands take on
abbrev above : Shape
above = record (new_shape []) { no_binary_name = true }

module _ {V : Type 0} where
  -- the subcommand of a line, as built
  abbrev pub leaf : Line V → Shape
  leaf line = built_leaf (inherited above (app_of_line line).top)

  abbrev pub SeenAt : Line V → Type 0
  SeenAt line = Walk × Bool × Option Shape × Text × Seen line.form.parts line.form.last

  abbrev pub seen_at : (app : App) (line : Line V) → SeenAt line
  seen_at app line = (
    walked app.top.rules (names_of app) (walk_from nothing_held) line.name,
    turn_passes app.top (names_of app) (walk_from nothing_held) line.name,
    find (λ s. answers_to line.name (label_of s)) app.subs,
    (leaf line).name,
    seen (leaf line) 1 nothing_held line.form.parts line.form.last,
  )

  abbrev pub meant_at : (line : Line V) → SeenAt line
  meant_at line = (stood line.name [], true, Some (leaf line), line.name, meant (leaf line) 1 nothing_held line.form.parts line.form.last)

  abbrev pub AllSeen : List (Line V) → Type 0
  AllSeen [] = Unit {0}
  AllSeen (line ∷ lines) = SeenAt line × AllSeen lines

  abbrev pub all_seen : (app : App) (lines : List (Line V)) → AllSeen lines
  all_seen app [] = tt
  all_seen app (line ∷ lines) = (seen_at app line, all_seen app lines)

  abbrev pub all_meant : (lines : List (Line V)) → AllSeen lines
  all_meant [] = tt
  all_meant (line ∷ lines) = (meant_at line, all_meant lines)

  -- clap takes the forms of this table: each fact is `refl` on a table that is written out
  pub record Fits (lines : List (Line V)) : Type 0 where
    pub simple : is_simple (program lines) ≡ true
    pub bare : (program lines).top.no_binary_name ≡ true
    pub ends : ends_above (built (program lines)).top nothing_held ≡ true
    pub seen : all_seen (built (program lines)) (quiet_of lines) ≡ all_meant (quiet_of lines)

  -- ---- of one line

  found_seen : (app : App) (lines : List (Line V)) (line : Line V) (p : Line V → Bool) → all_seen app lines ≡ all_meant lines → find p lines ≡ Some line → seen_at app line ≡ meant_at line
  found_seen app [] line p is found = absurd (none-some line found)
  found_seen app (one ∷ lines) line p is found = go (p one) (found_seen app lines line p (ap (λ (x : AllSeen (one ∷ lines)). x.1) is)) found
    where
      go : (b : Bool) → (find p lines ≡ Some line → seen_at app line ≡ meant_at line) → cond b (Some one) (find p lines) ≡ Some line → seen_at app line ≡ meant_at line
      go true behind e = subst (λ (l : Line V). seen_at app l ≡ meant_at l) (same_Some one line e) (ap (λ (x : AllSeen (one ∷ lines)). x.0) is)
      go false behind e = behind e

-- what is found among all is found among those that pass another test, if it passes that
find_filtered : {X : Type 0} (p q : X → Bool) (xs : List X) (x : X) → find p xs ≡ Some x → q x ≡ true → find p (filter q xs) ≡ Some x
find_filtered p q [] x found is = found
find_filtered p q (y ∷ ys) x found is = go (p y) (q y) refl refl (λ e. find_filtered p q ys x e is) found
  where
    go : (b c : Bool) → p y ≡ b → q y ≡ c → (find p ys ≡ Some x → find p (filter q ys) ≡ Some x) → cond b (Some y) (find p ys) ≡ Some x → find p (cond c (y ∷ filter q ys) (filter q ys)) ≡ Some x
    go true true pb qc behind e = ap (λ b. cond b (Some y) (find p (filter q ys))) pb ∙ e
    go true false pb qc behind e = absurd (false≢true (sym qc ∙ ap q (same_Some y x e) ∙ is))
    go false true pb qc behind e = ap (λ b. cond b (Some y) (find p (filter q ys))) pb ∙ behind e
    go false false pb qc behind e = behind e

module _ {V : Type 0} (lines : List (Line V)) (fits : Fits lines) (words : List Text) (one : AskOne lines true words) where
  abbrev line : Line V
  line = one.line

  abbrev app : App
  app = built (program lines)

  abbrev behind : List Text
  behind = one.ask.behind

  facts : seen_at app line ≡ meant_at line
  facts = found_seen app (quiet_of lines) line (λ (l : Line V). bytes_eq l.name line.name) fits.seen
      (find_filtered (λ (l : Line V). bytes_eq l.name line.name) (λ (l : Line V). l.form.is_quiet) lines line one.ask.stands one.quiet)

  stops : walked app.top.rules (names_of app) (walk_from nothing_held) line.name ≡ stood line.name []
  stops = ap (λ (x : SeenAt line). x.0) facts

  found : find (λ s. answers_to line.name (label_of s)) app.subs ≡ Some (leaf line)
  found = ap (λ (x : SeenAt line). x.2) facts

  said : argument_words (program lines) words ≡ line.name ∷ behind
  said = ap (λ (b : Bool). if b then words else drop 1 words) fits.bare ∙ one.ask.form

  stop : (walk app.top.rules (names_of app) nothing_held (line.name ∷ behind)).stopped ≡ Some (line.name, behind)
  stop = ap (λ (w : Walk). w.stopped) (ap (λ (w : Walk). fold (walked app.top.rules (names_of app)) w behind) stops ∙ passed app.top.rules (names_of app) line.name [] behind)

  below_passes : level_passes (leaf line) [] nothing_held behind false ≡ true
  below_passes =
      let over : Passes (leaf line) (standing false nothing_held 1) behind =
      passes_parts (leaf line) 1 nothing_held 0 line.form.parts line.form.last behind one.said (ap (λ (x : SeenAt line). x.4) facts) one.ask.say in
      ap₂ ◌&&◌ over.goes.passes (ap (ends_well (leaf line)) over.goes.ends ∙ over.ends)

  takes_so : built_takes app nothing_held (line.name ∷ behind) ≡ true
  takes_so =
      ap (λ (at : Option (Text × List Text)). entered_passes app at && level_passes app.top (names_of app) nothing_held (line.name ∷ behind) (is_some (entered app at))) stop
      ∙ ap₂ ◌&&◌ (ap (λ (o : Option Shape). option_map_or (λ s. level_passes s [] nothing_held behind false) o true) found ∙ below_passes)
      (ap (λ (o : Option Shape). level_passes app.top (names_of app) nothing_held (line.name ∷ behind) (is_some (option_map (λ s. rows_at s behind) o))) found
      ∙ above_passes app.top (names_of app) line.name behind stops (ap (λ (x : SeenAt line). x.1) facts) fits.ends)

  pub taken : takes (program lines) words ≡ true
  taken = ap₂ ◌&&◌ fits.simple (ap (built_takes app nothing_held) said ∙ takes_so)

  pub enters : option_map (λ p. p.0) (subcommand_of (program lines) words) ≡ Some line.name
  enters =
      ap (λ (ws : List Text). option_map (λ p. p.0) (entered app (walk app.top.rules (names_of app) nothing_held ws).stopped)) said
      ∙ ap (λ (at : Option (Text × List Text)). option_map (λ p. p.0) (entered app at)) stop
      ∙ ap (λ (o : Option Shape). option_map (λ p. p.0) (option_map (λ s. rows_at s behind) o)) found
      ∙ ap Some (ap (λ (x : SeenAt line). x.3) facts)

pub clap_takes : {V : Type 0} (lines : List (Line V)) → Fits lines → ClapTakes lines
clap_takes lines fits = record {
  taken = λ words one. taken lines fits words one;
  entered = λ words one. enters lines fits words one;
}
