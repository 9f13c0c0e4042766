-- Which line is refused.
use Rattle.std.proofs.Common.{◌≡◌, ◌⊎◌, ℕ, zero, suc, ◌+◌, true, false, if◌then◌else◌, List, [], ◌∷◌, ◌++◌, length, take, drop, All, Some, None, refl, sym, ap, ◌∙◌, subst, inl, inr}
use Rattle.std.specs.Prelude.{bytes_eq, slice_get}
use Rattle.std.proofs.Math.Seq.{take-append_seam}
use Rattle.std.proofs.lemmas.List.Elements.{All-nil, All-cons, All-head, All-tail, All-contains}
use Rattle.plant_config.specs.Plant.{PlantData}
use Rattle.plant_core.specs.State.{State}
use Rattle.trace_audit.specs.declared.verdict.Verdict.TheVariants.{Confirmed, BadLine, Differs}
use Rattle.trace_lines.specs.Trace.{TracedEntry}
use Rattle.trace_audit.specs.Verdict.{LinesTell}
use Rattle.trace_audit.specs.Verdict.{wanted_reply, fault_of, state_at, entries_at, IsFirstFinding, AreConfirmed}
use Rattle.trace_audit.specs.Laws.{TellsSome, BadLinesTellNone, FirstBadLinesAreNamed, NoBadLineIsPassed}

-- Each of the lines that tell entries tells one.
each-told : (plant : PlantData) (lines : List (List ℕ)) (entries : List TracedEntry) → LinesTell plant lines entries → All (TellsSome plant) lines
each-told plant [] entries told = All-nil (TellsSome plant)
each-told plant (line ∷ lines) [] told = absurd told
each-told plant (line ∷ lines) (entry ∷ entries) told = All-cons (TellsSome plant) line lines (entry, told.0) (each-told plant lines entries told.1)

-- No finding at a position is of a bad line.
found-no_line : (plant : PlantData) (state : State) (position number : ℕ) (entries : List TracedEntry) → fault_of plant state position entries ≡ Some (BadLine number) → ⊥
found-no_line plant state position number [] found = cc
found-no_line plant state position number (entry ∷ []) found =
    let wanted : List ℕ = wanted_reply plant state entry.request in
    elim (bytes_eq entry.reply wanted) as (λ test. (if test then None else Some (Differs position entry.reply wanted)) ≡ Some (BadLine number) → ⊥) [
      | true ↦ λ found. cc
      | false ↦ λ found. cc
    ] found
found-no_line plant state position number (entry ∷ other ∷ others) found = cc

entries-no_line : (plant : PlantData) (entries : List TracedEntry) (number : ℕ) → IsFirstFinding plant entries (BadLine number) ⊎ AreConfirmed plant entries (BadLine number) → ⊥
entries-no_line plant entries number (inl first) = found-no_line plant (state_at plant entries first.position) first.position number (entries_at first.position entries) first.found
entries-no_line plant entries number (inr confirmed) = let same : BadLine number ≡ Confirmed (length entries) = confirmed.counted in cc

slice_get-seam : {X : Type 0} (before : List X) (item : X) (after : List X) → slice_get (before ++ item ∷ after) (length before) ≡ Some item
slice_get-seam [] item after = refl
slice_get-seam (first ∷ before) item after = slice_get-seam before item after

-- The verdict names the first line that tells none,
pub bad-first : BadLinesTellNone
bad-first plant lines number (inr of) = absurd (entries-no_line plant of.entries number of.verdict_is)
bad-first plant lines number (inl bad) = record {
  before = length bad.before;
  counted = (let same : BadLine number ≡ BadLine (length bad.before + 1) = bad.counted in cc);
  line = bad.line;
  place = ap (λ (lines : List (List ℕ)). slice_get lines (length bad.before)) bad.place ∙ slice_get-seam bad.before bad.line bad.after;
  refused = bad.refused;
  told = subst (All (TellsSome plant)) (sym (ap (take (length bad.before)) bad.place ∙ take-append_seam bad.before (bad.line ∷ bad.after))) (each-told plant bad.before bad.entries bad.told);
}

-- where a line is the first, it names this,
entries-of : (plant : PlantData) (lines : List (List ℕ)) → All (TellsSome plant) lines → (entries : List TracedEntry) × LinesTell plant lines entries
entries-of plant [] told = ([], tt)
entries-of plant (line ∷ lines) told =
    let first = All-head (TellsSome plant) line lines told in
    let more = entries-of plant lines (All-tail (TellsSome plant) line lines told) in
    (first.0 ∷ more.0, (first.1, more.1))

cut-at : {X : Type 0} (list : List X) (before : ℕ) (item : X) → slice_get list before ≡ Some item → (list ≡ take before list ++ item ∷ drop (suc before) list) × (length (take before list) ≡ before)
cut-at [] before item is = absurd cc
cut-at {X = X} (first ∷ list) zero item is = (let same : first ≡ item = cc in ap (λ (other : X). other ∷ list) same, refl)
cut-at {X = X} (first ∷ list) (suc before) item is =
    let more = cut-at list before item is in
    (ap (λ (others : List X). first ∷ others) more.0, ap suc more.1)

pub first-named : FirstBadLinesAreNamed
first-named plant lines number is =
    let cut = cut-at lines is.before is.line is.place in
    let of = entries-of plant (take is.before lines) is.told in
    inl (record {
      before = take is.before lines;
      entries = of.0;
      told = of.1;
      line = is.line;
      after = drop (suc is.before) lines;
      place = cut.0;
      refused = is.refused;
      counted = ap BadLine (is.counted ∙ ap (λ (count : ℕ). count + 1) (sym cut.1));
    })

-- and where there is one, the verdict names one.
pub bad-named : NoBadLineIsPassed
bad-named plant lines line verdict has none (inl bad) = (length bad.before + 1, bad.counted)
bad-named plant lines line verdict has none (inr of) =
    let some = All-contains (TellsSome plant) lines line (each-told plant lines of.entries of.told) has in absurd (none some.0 some.1)
