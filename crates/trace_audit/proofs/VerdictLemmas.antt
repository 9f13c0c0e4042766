-- A line tells one entry, and a trace has one verdict.
use Rattle.std.proofs.Common.{◌≡◌, ◌⊎◌, ℕ, suc, ◌+◌, List, [], ◌∷◌, ◌++◌, length, Some, None, refl, sym, ap, ◌∙◌, subst, inl, inr, ⊎_elim, arith}
use Rattle.plant_config.specs.Plant.{PlantData}
use Rattle.plant_config.specs.IsPlant.{IsPlant}
use Rattle.plant_core.specs.State.{FitsPlant}
use Rattle.plant_core.specs.declared.request.Request.{Request}
use Rattle.plant_core.specs.declared.request.Request.TheVariants.{Told, Poll, Leave, DisplayPoll}
use Rattle.trace_lines.specs.TraceLine.{MayTrace}
use Rattle.trace_lines.specs.Laws.{OneEntry}
use Rattle.trace_audit.specs.declared.verdict.Verdict.{Verdict}
use Rattle.trace_audit.specs.declared.verdict.Verdict.TheVariants.{BadLine}
use Rattle.trace_lines.specs.Trace.{TracedEntry, HasTraceNumbers, LineTells}
use Rattle.trace_audit.specs.Verdict.{LinesTell}
use Rattle.trace_audit.specs.Verdict.{finding, IsFirstFinding, AreConfirmed, IsBadLine, IsOfEntries}
use Rattle.trace_audit.specs.Laws.{TellsNone, TracesHaveOneVerdict}
use Rattle.trace_audit.proofs.PlaceLemmas.{under_or_not}
use Rattle.trace_lines.proofs.ScreenLemmas.{screen_small, panel_small}

-- A request that fits a plant, with numbers of a trace, may be traced.
pub may-trace : (plant : PlantData) (request : Request) → IsPlant plant → FitsPlant plant request → HasTraceNumbers request → MayTrace request
may-trace plant (Told panel item message) is fits numbers = (panel_small plant panel is fits.0, numbers, fits.1.1)
may-trace plant (Poll panel item turn) is fits numbers = (panel_small plant panel is fits, numbers.0, numbers.1)
may-trace plant (Leave panel) is fits numbers = panel_small plant panel is fits
may-trace plant (DisplayPoll screen refresh) is fits numbers = screen_small plant screen is fits

module _ (one_entry : OneEntry) where
  -- Two entries that one line tells are one,
  line-one : (plant : PlantData) (line : List ℕ) (one other : TracedEntry) → IsPlant plant → LineTells plant line one → LineTells plant line other → one ≡ other
  line-one plant line one other is tells told =
      let same = one_entry one.position other.position one.request other.request one.reply other.reply tells.position told.position
      (may-trace plant one.request is tells.fits tells.numbers) (may-trace plant other.request is told.fits told.numbers) (sym tells.text ∙ told.text) in
      λ i. record { position = same.0 i; request = same.1 i; reply = same.2 i }

  -- and so are those that lines tell.
  lines-one : (plant : PlantData) (lines : List (List ℕ)) (entries others : List TracedEntry) → IsPlant plant → LinesTell plant lines entries → LinesTell plant lines others → entries ≡ others
  lines-one plant [] [] [] is tells told = refl
  lines-one plant [] [] (other ∷ others) is tells told = absurd told
  lines-one plant [] (entry ∷ entries) others is tells told = absurd tells
  lines-one plant (line ∷ lines) [] others is tells told = absurd tells
  lines-one plant (line ∷ lines) (entry ∷ entries) [] is tells told = absurd told
  lines-one plant (line ∷ lines) (entry ∷ entries) (other ∷ others) is tells told =
      let first : entry ≡ other = line-one plant line entry other is tells.0 told.0 in
      let more : entries ≡ others = lines-one plant lines entries others is tells.1 told.1 in
      cc

-- Of lines that tell entries each tells one.
told-at : (plant : PlantData) (before : List (List ℕ)) (line : List ℕ) (after : List (List ℕ)) (entries : List TracedEntry)
    → LinesTell plant (before ++ line ∷ after) entries → (entry : TracedEntry) × LineTells plant line entry
told-at plant [] line after [] told = absurd told
told-at plant [] line after (entry ∷ entries) told = (entry, told.0)
told-at plant (other ∷ before) line after [] told = absurd told
told-at plant (other ∷ before) line after (entry ∷ entries) told = told-at plant before line after entries told.1

-- The first line that tells none is one.
first-bad : (plant : PlantData) (before : List (List ℕ)) (line : List ℕ) (after : List (List ℕ)) (entries : List TracedEntry) (front : List (List ℕ)) (other : List ℕ) (behind : List (List ℕ)) (others : List TracedEntry)
    → LinesTell plant before entries → TellsNone plant line → LinesTell plant front others → TellsNone plant other → before ++ line ∷ after ≡ front ++ other ∷ behind → length before ≡ length front
first-bad plant [] line after entries [] other behind others tells none told neither same = refl
first-bad plant [] line after entries (first ∷ front) other behind [] tells none told neither same = absurd told
first-bad plant [] line after entries (first ∷ front) other behind (entry ∷ others) tells none told neither same =
    let is : line ≡ first = cc in
    absurd (none entry (subst (λ (text : List ℕ). LineTells plant text entry) (sym is) told.0))
first-bad plant (first ∷ before) line after [] front other behind others tells none told neither same = absurd tells
first-bad plant (first ∷ before) line after (entry ∷ entries) [] other behind others tells none told neither same =
    let is : first ≡ other = cc in
    absurd (neither entry (subst (λ (text : List ℕ). LineTells plant text entry) is tells.0))
first-bad plant (first ∷ before) line after (entry ∷ entries) (second ∷ front) other behind [] tells none told neither same = absurd told
first-bad plant (first ∷ before) line after (entry ∷ entries) (second ∷ front) other behind (entry' ∷ others) tells none told neither same =
    let rest : before ++ line ∷ after ≡ front ++ other ∷ behind = cc in
    ap suc (first-bad plant before line after entries front other behind others tells.1 none told.1 neither rest)

-- What is found first is one finding,
first-one : (plant : PlantData) (entries : List TracedEntry) (one other : Verdict) → IsFirstFinding plant entries one → IsFirstFinding plant entries other → one ≡ other
first-one plant entries one other first second =
    ⊎_elim
    (λ below. let none : None ≡ Some one = sym (second.before first.position below) ∙ first.found in absurd cc)
    (λ behind. ⊎_elim
    (λ above. let none : None ≡ Some other = sym (first.before second.position above) ∙ second.found in absurd cc)
    (λ within.
    let same : first.position ≡ second.position = omega arith in
    let found : Some one ≡ Some other = sym first.found ∙ ap (finding plant entries) same ∙ second.found in cc)
    (under_or_not second.position first.position))
    (under_or_not first.position second.position)

-- and nothing is found where entries are confirmed.
not-both : (plant : PlantData) (entries : List TracedEntry) (one other : Verdict) → IsFirstFinding plant entries one → AreConfirmed plant entries other → one ≡ other
not-both plant entries one other first confirmed =
    let none : None ≡ Some one = sym (confirmed.right first.position first.within) ∙ first.found in absurd cc

entries-one : (plant : PlantData) (entries : List TracedEntry) (one other : Verdict) → IsFirstFinding plant entries one ⊎ AreConfirmed plant entries one
    → IsFirstFinding plant entries other ⊎ AreConfirmed plant entries other → one ≡ other
entries-one plant entries one other (inl first) (inl second) = first-one plant entries one other first second
entries-one plant entries one other (inl first) (inr confirmed) = not-both plant entries one other first confirmed
entries-one plant entries one other (inr confirmed) (inl second) = sym (not-both plant entries other one second confirmed)
entries-one plant entries one other (inr confirmed) (inr too) = confirmed.counted ∙ sym too.counted

bad-or-told : (plant : PlantData) (lines : List (List ℕ)) (one other : Verdict) → IsBadLine plant lines one → IsOfEntries plant lines other → ⊥
bad-or-told plant lines one other bad of =
    let told : LinesTell plant (bad.before ++ bad.line ∷ bad.after) of.entries = subst (λ (texts : List (List ℕ)). LinesTell plant texts of.entries) bad.place of.told in
    let tells = told-at plant bad.before bad.line bad.after of.entries told in
    bad.refused tells.0 tells.1

module _ (one_entry : OneEntry) where
  pub traces-one : TracesHaveOneVerdict
  traces-one plant lines one other is (inl bad) (inl worse) =
      let same : length bad.before ≡ length worse.before =
      first-bad plant bad.before bad.line bad.after bad.entries worse.before worse.line worse.after worse.entries bad.told bad.refused worse.told worse.refused (sym bad.place ∙ worse.place) in
      bad.counted ∙ ap (λ (count : ℕ). BadLine (count + 1)) same ∙ sym worse.counted
  traces-one plant lines one other is (inl bad) (inr of) = absurd (bad-or-told plant lines one other bad of)
  traces-one plant lines one other is (inr of) (inl bad) = absurd (bad-or-told plant lines other one bad of)
  traces-one plant lines one other is (inr of) (inr too) =
      let same : of.entries ≡ too.entries = lines-one one_entry plant lines of.entries too.entries is of.told too.told in
      entries-one plant too.entries one other
      (subst (λ (entries : List TracedEntry). IsFirstFinding plant entries one ⊎ AreConfirmed plant entries one) same of.verdict_is) too.verdict_is
