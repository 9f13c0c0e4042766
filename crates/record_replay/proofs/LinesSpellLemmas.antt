-- Lines that spell works, one after the other.
use Rattle.std.proofs.Common.{◌≡◌, ℕ, ◌+◌, inl, inr, true, false, cond, List, [], ◌∷◌, ◌++◌, length, Option, Some, None, refl, sym, ◌∙◌, ap, append_assoc, arith, length-append}
use Rattle.std.specs.Prelude.{not, MatchOption, is_some}
use Rattle.std.specs.Bool.{OnTrue, OnFalse}
use Rattle.std.proofs.lemmas.List.Elements.{filter-append}
use Rattle.plant_config.specs.Plant.{PlantData}
use Rattle.record_replay.specs.declared.line.Line as code
use Rattle.record_replay.specs.declared.line.Line.TheVariants as found
use Rattle.record_replay.specs.Script.{Work, Read, Leave, Show, lines, is_skipped, worked, LineSpells, LinesSpell, IsFirstBad}
use Rattle.record_replay.specs.LineInside.{IsBad, IsFound, IsFormed}
use Rattle.record_replay.specs.FirstInside.{BeginsBad}

pub LinesSpell-append : (plant : PlantData) (before after : List (List ℕ)) (works more : List Work) → LinesSpell plant before works → LinesSpell plant after more → LinesSpell plant (before ++ after) (works ++ more)
LinesSpell-append plant [] after [] more spelled behind = behind
LinesSpell-append plant [] after (work ∷ works) more spelled behind = absurd spelled
LinesSpell-append plant (line ∷ before) after [] more spelled behind = absurd spelled
LinesSpell-append plant (line ∷ before) after (work ∷ works) more spelled behind = (spelled.0, LinesSpell-append plant before after works more spelled.1 behind)

pub worked-append : (before after : List (List ℕ)) → worked (before ++ after) ≡ worked before ++ worked after
worked-append before after = filter-append (λ line. not (is_skipped line)) before after

pub worked-cons : (line : List ℕ) (after : List (List ℕ)) → worked (line ∷ after) ≡ cond (not (is_skipped line)) (line ∷ worked after) (worked after)
worked-cons line after = refl

-- The lines of a script before the rest of it have a form, and this is their number.
pub record SoFar (plant : PlantData) (script rest : List ℕ) (number : ℕ) : Type 0 where
  pub before : List (List ℕ)
  pub works : List Work
  pub spelled : LinesSpell plant (worked before) works
  pub place : lines script ≡ before ++ lines rest
  pub counted : number ≡ length before

-- one more line, with the works that it spells, none where it is skipped
so_far-more : (plant : PlantData) (script rest line after : List ℕ) (number : ℕ) (more : List Work) → SoFar plant script rest number → lines rest ≡ line ∷ lines after → LinesSpell plant (worked (line ∷ [])) more
    → SoFar plant script after (number + 1)
so_far-more plant script rest line after number more so_far split spelled = record {
  before = so_far.before ++ line ∷ [];
  works = so_far.works ++ more;
  spelled = rw (worked-append so_far.before (line ∷ [])) (LinesSpell-append plant (worked so_far.before) (worked (line ∷ [])) so_far.works more so_far.spelled spelled);
  place = so_far.place ∙ ap (λ (ls : List (List ℕ)). so_far.before ++ ls) split ∙ sym (append_assoc so_far.before (line ∷ []) (lines after));
  counted = omega (arith, so_far.counted, length-append so_far.before (line ∷ []));
}

worked-skipped : (plant : PlantData) (line : List ℕ) → is_skipped line ≡ true → LinesSpell plant (worked (line ∷ [])) []
worked-skipped plant line is = rw (worked-cons line [], is) tt

worked-work : (plant : PlantData) (line : List ℕ) (work : Work) → is_skipped line ≡ false → LineSpells plant line work → LinesSpell plant (worked (line ∷ [])) (work ∷ [])
worked-work plant line work isnt spells = rw (worked-cons line [], isnt) (spells, tt)

-- the next line has a form
pub so_far-formed : (plant : PlantData) (script rest line after : List ℕ) (number : ℕ) → SoFar plant script rest number → lines rest ≡ line ∷ lines after → IsFormed plant line → SoFar plant script after (number + 1)
so_far-formed plant script rest line after number so_far split (inl skipped) = so_far-more plant script rest line after number [] so_far split (worked-skipped plant line skipped)
so_far-formed plant script rest line after number so_far split (inr work) =
    so_far-more plant script rest line after number (work.0 ∷ []) so_far split (worked-work plant line work.0 work.1.0 work.1.1)

-- what is found in a line is a form of it
found-formed : (plant : PlantData) (line bytes : List ℕ) (what : code.Line) → IsFound plant line what bytes → IsFormed plant line
found-formed plant line bytes found.Skipped is = inl is
found-formed plant line bytes (found.Read panel) is = inr (Read panel bytes, is)
found-formed plant line bytes (found.Leave panel) is = inr (Leave panel, is)
found-formed plant line bytes (found.Show screen refresh) is = inr (Show screen refresh, is)

pub formed : (plant : PlantData) (line bytes : List ℕ) (read : Option code.Line) → MatchOption read (IsBad plant line) (λ what. IsFound plant line what bytes) → OnTrue (is_some read) (IsFormed plant line)
formed plant line bytes (Some what) is = found-formed plant line bytes what is
formed plant line bytes None is = tt

pub not_formed : (plant : PlantData) (line bytes : List ℕ) (read : Option code.Line) → MatchOption read (IsBad plant line) (λ what. IsFound plant line what bytes) → OnFalse (is_some read) (IsBad plant line)
not_formed plant line bytes (Some what) is = tt
not_formed plant line bytes None is = is

-- the next line has none
pub so_far-bad : (plant : PlantData) (script rest : List ℕ) (number : ℕ) → SoFar plant script rest number → BeginsBad plant rest → IsFirstBad plant script (number + 1)
so_far-bad plant script rest number so_far bad = record {
  before = so_far.before;
  works = so_far.works;
  spelled = so_far.spelled;
  line = bad.0;
  after = lines bad.1;
  place = so_far.place ∙ ap (λ (ls : List (List ℕ)). so_far.before ++ ls) bad.2.lines_are;
  not_skipped = bad.3.0;
  refused = bad.3.1;
  counted = omega (arith, so_far.counted);
}

-- no line is before the first
pub so_far-nothing : (plant : PlantData) (script : List ℕ) → SoFar plant script script 0
so_far-nothing plant script = record { before = []; works = []; spelled = tt; place = refl; counted = refl }
