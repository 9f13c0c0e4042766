-- clap's walk over the words of any form: where it goes, and that it refuses none of them.
use Rattle.std.proofs.Common.{◌≡◌, ◌≤◌, ◌+◌, ◌∙◌, ◌&&◌, ◌||◌, refl, sym, ap, ap₂, subst, arith, ℕ, Bool, true, false, cond, List, [], ◌∷◌, ◌++◌, Option, Some, None, length, eqb, append-nil, append_assoc}
use Rattle.std.specs.Prelude.{fold, nat_le, unwrap_or}
use Rattle.std.specs.List.{All, list_all}
use Rattle.std.specs.Option.{option_map_or}
use Rattle.std.proofs.lemmas.Bool.{false≢true, le-leb, ne_eqb}
use Rattle.std.proofs.lemmas.List.Elements.{All-head, All-tail}
use Rattle.clap.specs.Words.{Rule, Shape, Text, new_rule}
use Rattle.clap.specs.Lexer.{long_of}
use Rattle.clap.specs.Walk.{Held, Step, Walk, after_step, arg_by_index, finished, long_or_other, settled, short_or_plain, subcommand_met, subcommand_or_other, to_positional, trailing, value, walked, word_met}
use Rattle.clap.specs.Takes.{bundle_passes, default_passes, flag_word_passes, is_valid, other_passes, settle_passes, step_passes, turn_passes, value_passes, walk_passes}
use Rattle.line_text.specs.Decimal.{IsDigit}
use Rattle.command_words.specs.Words.{IsFileName}
use Rattle.command_words.specs.Parts.{AllSaid, AllSay, Last, NoMore, Number, Made, Part, Plant, Prefix, Said, Says, Store, Later, Whole, Wholes, number_behind}
use Rattle.command_words.proofs.DashLemmas.{not_dashes, not_long, not_short, waits, no_subcommand, is_plain}

-- ---- a word that does not begin with a dash is no flag

pub word_is_value : (c : List Rule) (more : Bool) (position first : ℕ) (rest : Text) (h : Held) → eqb first 45 ≡ false → word_met c [] false (waits more) position (first ∷ rest) h ≡ (h, value)
word_is_value c more position first rest h differs =
    let word = first ∷ rest in
    ap (λ (o : Option Text). subcommand_or_other c o (waits more) position word h) (no_subcommand more word)
    ∙ ap (λ b. cond b (h, trailing position) (long_or_other c (waits more) word (long_of word) h)) (not_dashes first rest differs)
    ∙ ap (λ (o : Option (Text × Option Text)). long_or_other c (waits more) word o h) (not_long first rest differs)
    ∙ ap (λ (o : Option Text). short_or_plain c (waits more) word o h) (not_short first rest differs)
    ∙ is_plain c more word h

pub word_passes_on : (s : Shape) (more : Bool) (first : ℕ) (rest : Text) (h : Held) → eqb first 45 ≡ false → other_passes s (subcommand_met [] (waits more) (first ∷ rest)) (first ∷ rest) h ≡ true
word_passes_on s more first rest h differs =
    let word = first ∷ rest in
    ap (λ (o : Option Text). other_passes s o word h) (no_subcommand more word)
    ∙ ap (λ b. b || flag_word_passes s.rules s.args_override_self (long_of word) word h) (not_dashes first rest differs)
    ∙ ap (λ (o : Option (Text × Option Text)). flag_word_passes s.rules s.args_override_self o word h) (not_long first rest differs)
    ∙ ap (λ (o : Option Text). option_map_or (λ flags. bundle_passes s.rules s.args_override_self flags h) o true) (not_short first rest differs)

-- ---- so it goes to the next positional

abbrev pub standing : Bool → Held → ℕ → Walk
standing more h position = record { held = h; waiting = waits more; position = position; is_trailing = false; stopped = None }

abbrev pub went : List Rule → Bool → Held → ℕ → Text → Walk
went c more h position word = to_positional c (arg_by_index c position) word (standing more h position) h

-- The walk goes over these words from here to there, and refuses none.
pub record Goes (s : Shape) (from : Walk) (words : List Text) (to : Walk) : Type 0 where
  pub ends : fold (walked s.rules []) from words ≡ to
  pub passes : walk_passes s [] from words ≡ true

stays : (s : Shape) (w : Walk) → Goes s w [] w
unfolding walk_passes
stays s w = record { ends = refl; passes = refl }

-- one word, and those behind it
goes_on : (s : Shape) (more : Bool) (h : Held) (position first : ℕ) (rest : Text) (next to : Walk) (words : List Text) → IsFileName (first ∷ rest)
    → step_passes s position h value ≡ true → went s.rules more h position (first ∷ rest) ≡ next → Goes s next words to → Goes s (standing more h position) ((first ∷ rest) ∷ words) to
unfolding walked walk_passes
goes_on s more h position first rest next to words name passes is behind =
    let differs = ne_eqb first 45 name in
    let word = first ∷ rest in
    let there : walked s.rules [] (standing more h position) word ≡ next =
    ap (λ (met : Held × Step). after_step s.rules word (standing more h position) met.0 met.1) (word_is_value s.rules more position first rest h differs) ∙ is in
    let turn : turn_passes s [] (standing more h position) word ≡ true =
    ap₂ ◌&&◌ (word_passes_on s more first rest h differs)
    (ap (λ (met : Held × Step). step_passes s position met.0 met.1) (word_is_value s.rules more position first rest h differs) ∙ passes) in
    record {
      ends = ap (λ (w : Walk). fold (walked s.rules []) w words) there ∙ behind.ends;
      passes = ap₂ ◌&&◌ turn (ap (λ (w : Walk). walk_passes s [] w words) there ∙ behind.passes);
    }

-- ---- several words at one position are gathered until the words end

abbrev pub rule_at : Shape → ℕ → Rule
rule_at s position = unwrap_or (arg_by_index s.rules position) (new_rule [])

abbrev pub gathered : Shape → ℕ → Held → List Text → Held
gathered s position h values = record {
  rows = (settled s.rules h).rows;
  pending = Some ((rule_at s position).id, values);
  skip = h.skip;
}

abbrev pub gathering : Shape → ℕ → Held → List Text → Walk
gathering s position h values = standing true (gathered s position h values) position

gathers : (s : Shape) (position : ℕ) (h : Held) → ((values : List Text) (next : Text) → went s.rules true (gathered s position h values) position next ≡ gathering s position h (values ++ next ∷ []))
    → ((values : List Text) → step_passes s position (gathered s position h values) value ≡ true)
    → (values more : List Text) → All IsFileName more → Goes s (gathering s position h values) more (gathering s position h (values ++ more))
gathers s position h on passes values [] names = subst (λ (vs : List Text). Goes s (gathering s position h values) [] (gathering s position h vs)) (sym (append-nil values)) (stays s (gathering s position h values))
gathers s position h on passes values ([] ∷ more) names = absurd (All-head IsFileName [] more names)
gathers s position h on passes values ((first ∷ rest) ∷ more) names =
    let word = first ∷ rest in
    subst (λ (vs : List Text). Goes s (gathering s position h values) (word ∷ more) (gathering s position h vs)) (append_assoc values (word ∷ []) more)
    (goes_on s true (gathered s position h values) position first rest (gathering s position h (values ++ word ∷ [])) (gathering s position h ((values ++ word ∷ []) ++ more)) more
    (All-head IsFileName word more names) (passes values) (on values word) (gathers s position h on passes (values ++ word ∷ []) more (All-tail IsFileName word more names)))

all_pass : (passes : Text → Bool) (values : List Text) → ((v : Text) → passes v ≡ true) → list_all passes values ≡ true
all_pass passes [] each = refl
all_pass passes (v ∷ values) each = ap₂ ◌&&◌ (each v) (all_pass passes values each)

-- ---- what the walk does at the parts of a form and behind them, and what it is meant to do. Both are computed on a table that
-- ---- is written out, and there they are the same, whatever the words

abbrev pub ends_well : Shape → Walk → Bool
ends_well s w = settle_passes s.rules s.args_override_self w.held && (list_all default_passes s.rules && is_valid s (finished s.rules w.held) false)

-- at several words: the first; each of the others; each value; the end
abbrev pub SeenLast : Last → Type 0
SeenLast NoMore = Bool
SeenLast (Wholes kind) = Text → Walk × Bool × (List Text → Text → Walk) × (List Text → Bool) × (Text → Bool) × (Text → List Text → Bool)
SeenLast Prefix = Bool

abbrev pub Seen : List Part → Last → Type 0
Seen [] last = SeenLast last
Seen (part ∷ parts) last = Text → Walk × Bool × Seen parts last

abbrev pub seen_last : (s : Shape) (position : ℕ) (h : Held) (last : Last) → SeenLast last
seen_last s position h NoMore = ends_well s (standing false h position)
seen_last s position h (Wholes kind) = λ word. (
  went s.rules false h position word,
  step_passes s position h value,
  λ values next. went s.rules true (gathered s position h values) position next,
  λ values. step_passes s position (gathered s position h values) value,
  λ v. value_passes (rule_at s position) v,
  λ first more. ends_well s (gathering s position h (first ∷ more)),
)
seen_last s position h Prefix = false

abbrev pub meant_last : (s : Shape) (position : ℕ) (h : Held) (last : Last) → SeenLast last
meant_last s position h NoMore = true
meant_last s position h (Wholes kind) = λ word. (
  gathering s position h (word ∷ []),
  true,
  λ values next. gathering s position h (values ++ next ∷ []),
  λ values. true,
  λ v. true,
  λ first more. (nat_le 1 (length (first ∷ more)) && (nat_le (length (first ∷ more)) 200 && list_all (value_passes (rule_at s position)) (first ∷ more))) && true,
)
meant_last s position h Prefix = true

-- what is held behind a word
abbrev pub held_behind : List Rule → ℕ → Held → Text → Held
held_behind c position h word = (went c false h position word).held

abbrev pub seen : (s : Shape) (position : ℕ) (h : Held) (parts : List Part) (last : Last) → Seen parts last
seen s position h [] last = seen_last s position h last
seen s position h (part ∷ parts) last = λ word. (
  went s.rules false h position word,
  step_passes s position h value,
  seen s (position + 1) (held_behind s.rules position h word) parts last,
)

abbrev pub meant : (s : Shape) (position : ℕ) (h : Held) (parts : List Part) (last : Last) → Seen parts last
meant s position h [] last = meant_last s position h last
meant s position h (part ∷ parts) last = λ word. (
  standing false (held_behind s.rules position h word) (position + 1),
  true,
  meant s (position + 1) (held_behind s.rules position h word) parts last,
)

-- ---- words that say something of a form are gone over, and end well

-- a word that says a number begins with no dash
pub says_name : (before : ℕ) (part : Part) (word : Text) (said : Said part) → Says before part word said → IsFileName word
says_name before Plant word said says = says.1
says_name before (Whole kind) word said says = says.1
says_name before Made word said says = says.1
says_name before Store word said says = says.1
says_name before (Later kind) word said says = says.1
says_name before (Number low most) [] said says = let none : 1 ≤ 0 = says.spells.some in absurd (omega (arith, none))
says_name before (Number low most) (first ∷ rest) said says =
    let digit = All-head IsDigit first rest says.spells.each in
    λ is. omega (arith, digit, is)

-- the walk over words, to an end that passes
pub record Passes (s : Shape) (from : Walk) (words : List Text) : Type 0 where
  pub to : Walk
  pub goes : Goes s from words to
  pub ends : ends_well s to ≡ true

passes_several : (s : Shape) (position : ℕ) (h : Held) (first : ℕ) (rest : Text) (more : List Text)
    → (a : went s.rules false h position (first ∷ rest) ≡ gathering s position h ((first ∷ rest) ∷ [])) → step_passes s position h value ≡ true
    → ((values : List Text) (next : Text) → went s.rules true (gathered s position h values) position next ≡ gathering s position h (values ++ next ∷ []))
    → ((values : List Text) → step_passes s position (gathered s position h values) value ≡ true)
    → ((v : Text) → value_passes (rule_at s position) v ≡ true)
    → ends_well s (gathering s position h ((first ∷ rest) ∷ more))
    ≡ ((nat_le 1 (length ((first ∷ rest) ∷ more)) && (nat_le (length ((first ∷ rest) ∷ more)) 200 && list_all (value_passes (rule_at s position)) ((first ∷ rest) ∷ more))) && true)
    → All IsFileName ((first ∷ rest) ∷ more) → length ((first ∷ rest) ∷ more) ≤ 200 → Passes s (standing false h position) ((first ∷ rest) ∷ more)
passes_several s position h first rest more begins passes on on_passes each end names few =
    let word = first ∷ rest in
    record {
      to = gathering s position h (word ∷ more);
      goes = goes_on s false h position first rest (gathering s position h (word ∷ [])) (gathering s position h (word ∷ more)) more (All-head IsFileName word more names) passes begins
          (gathers s position h on on_passes (word ∷ []) more (All-tail IsFileName word more names));
      ends = end
          ∙ ap (λ b. b && true) (ap₂ ◌&&◌ (le-leb 1 (length (word ∷ more)) (omega arith))
          (ap₂ ◌&&◌ (le-leb (length (word ∷ more)) 200 few) (all_pass (value_passes (rule_at s position)) (word ∷ more) each)));
    }

pub passes_parts : (s : Shape) (position : ℕ) (h : Held) (before : ℕ) (parts : List Part) (last : Last) (words : List Text) (said : AllSaid parts last)
    → seen s position h parts last ≡ meant s position h parts last → AllSay before parts last words said → Passes s (standing false h position) words
passes_parts s position h before [] NoMore [] said is say = record { to = standing false h position; goes = stays s (standing false h position); ends = is }
passes_parts s position h before [] NoMore (word ∷ words) said is say = absurd (let none : word ∷ words ≡ [] = say in cc)
passes_parts s position h before [] (Wholes kind) [] said is say = let none : 1 ≤ 0 = say.1.some in absurd (omega (arith, none))
passes_parts s position h before [] (Wholes kind) ([] ∷ more) said is say = absurd (All-head IsFileName [] more say.1.names)
passes_parts s position h before [] (Wholes kind) ((first ∷ rest) ∷ more) said is say =
    let word = first ∷ rest in
    passes_several s position h first rest more (ap (λ (f : SeenLast (Wholes kind)). (f word).0) is) (ap (λ (f : SeenLast (Wholes kind)). (f word).1) is)
    (λ values next. ap (λ (f : SeenLast (Wholes kind)). (f word).2 values next) is) (λ values. ap (λ (f : SeenLast (Wholes kind)). (f word).3 values) is)
    (λ v. ap (λ (f : SeenLast (Wholes kind)). (f word).4 v) is) (ap (λ (f : SeenLast (Wholes kind)). (f word).5 word more) is) say.1.names say.1.few
passes_parts s position h before [] Prefix words said is say = absurd (false≢true is)
passes_parts s position h before (part ∷ parts) last [] said is say = absurd say
passes_parts s position h before (part ∷ parts) last ([] ∷ words) said is say = absurd (says_name before part [] said.0 say.0)
passes_parts s position h before (part ∷ parts) last ((first ∷ rest) ∷ words) said is say =
    let word = first ∷ rest in
    let behind = passes_parts s (position + 1) (held_behind s.rules position h word) (number_behind before part said.0) parts last words said.1
    (ap (λ (f : Seen (part ∷ parts) last). (f word).2) is) say.1 in
    record {
      to = behind.to;
      goes = goes_on s false h position first rest (standing false (held_behind s.rules position h word) (position + 1)) behind.to words (says_name before part word said.0 say.0)
          (ap (λ (f : Seen (part ∷ parts) last). (f word).1) is) (ap (λ (f : Seen (part ∷ parts) last). (f word).0) is) behind.goes;
      ends = behind.ends;
    }
