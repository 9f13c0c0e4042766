-- The order of lines is no matter.
use Rattle.std.proofs.Common.{◌≡◌, ◌⊎◌, ℕ, zero, suc, ◌+◌, ◌<◌, List, [], ◌∷◌, ◌++◌, length, All, refl, sym, ap, ◌∙◌, subst, inl, inr, arith}
use Rattle.std.specs.Prelude.{Contains}
use Rattle.std.specs.List.{fold}
use Rattle.std.specs.List.Sorted.{IsPermutation}
use Rattle.std.proofs.lemmas.Option.{slice_get_within, get_or_from_slice_get}
use Rattle.std.proofs.lemmas.List.Sorted.{IsPermutation-sym, All-permutation, Contains-permutation, length_permutation}
use Rattle.plant_config.specs.Plant.{PlantData}
use Rattle.plant_core.specs.State.{State, start}
use Rattle.trace_audit.specs.declared.verdict.Verdict.{Verdict}
use Rattle.trace_audit.specs.declared.verdict.Verdict.TheVariants.{Confirmed}
use Rattle.trace_lines.specs.Trace.{TracedEntry}
use Rattle.trace_audit.specs.Verdict.{LinesTell}
use Rattle.trace_audit.specs.Verdict.{position_count, entries_below, entries_at, state_at, fault_of, finding, AreRightBelow, IsFirstFinding, AreConfirmed}
use Rattle.trace_audit.specs.Laws.{OrderIsNoMatter, BadLinesAreFound}
use Rattle.trace_audit.proofs.MovedLemmas.{map-moved}
use Rattle.trace_audit.proofs.PlaceLemmas.{at-moved, length-at, below-more, count-above, count-most}
use Rattle.trace_audit.proofs.FollowLemmas.{place, line_of, behind, none-right}
use Rattle.trace_audit.proofs.HistoryLemmas.{IsTold, lines-told, told-lines}
use Rattle.trace_audit.proofs.BadLineLemmas.{bad-first, bad-named}

-- Entries in another order have as many positions,
same-count : (entries others : List TracedEntry) → IsPermutation entries others → position_count others ≡ position_count entries
same-count entries others moved =
    let below : All (λ (entry : TracedEntry). entry.position < position_count entries) others =
    All-permutation (λ (entry : TracedEntry). entry.position < position_count entries) entries others moved (count-above place entries) in
    let above : All (λ (entry : TracedEntry). entry.position < position_count others) entries =
    All-permutation (λ (entry : TracedEntry). entry.position < position_count others) others entries (IsPermutation-sym entries others moved) (count-above place others) in
    omega (arith, count-most place (position_count entries) others below, count-most place (position_count others) entries above)

-- the same at and below each position up to the first that isn't right,
same-below : (plant : PlantData) (entries others : List TracedEntry) (position : ℕ) → IsPermutation entries others → AreRightBelow plant entries position
    → entries_below position others ≡ entries_below position entries
same-below plant entries others zero moved right = refl
same-below plant entries others (suc position) moved right =
    let next : position + 1 ≡ suc position = omega arith in
    let before : entries_below position others ≡ entries_below position entries = same-below plant entries others position moved (λ earlier within. right earlier (omega arith)) in
    let is = none-right plant (state_at plant entries position) position (entries_at position entries) (right position (omega arith)) in
    let here : entries_at position others ≡ is.entry ∷ [] = at-moved place position is.entry entries others moved is.only in
    let grown : entries_below (position + 1) entries ≡ entries_below position entries ++ entries_at position entries = below-more place position entries in
    let too : entries_below (position + 1) others ≡ entries_below position others ++ entries_at position others = below-more place position others in
    let only : entries_at position entries ≡ is.entry ∷ [] = is.only in
    let same : entries_below (position + 1) others ≡ entries_below (position + 1) entries = cc in
    subst (λ (number : ℕ). entries_below number others ≡ entries_below number entries) next same

-- and the same is wrong there.
same-fault : (plant : PlantData) (state : State) (position : ℕ) (kept others : List TracedEntry) → length others ≡ length kept
    → ((entry : TracedEntry) → kept ≡ entry ∷ [] → others ≡ entry ∷ []) → fault_of plant state position others ≡ fault_of plant state position kept
same-fault plant state position [] [] long one = refl
same-fault plant state position [] (other ∷ others) long one = absurd (omega arith)
same-fault plant state position (entry ∷ []) others long one = ap (fault_of plant state position) (one entry refl)
same-fault plant state position (entry ∷ another ∷ kept) [] long one = absurd (omega arith)
same-fault plant state position (entry ∷ another ∷ kept) (other ∷ []) long one = absurd (omega arith)
same-fault plant state position (entry ∷ another ∷ kept) (other ∷ more ∷ others) long one = refl

same-found : (plant : PlantData) (entries others : List TracedEntry) (position : ℕ) → IsPermutation entries others → AreRightBelow plant entries position
    → finding plant others position ≡ finding plant entries position
same-found plant entries others position moved right =
    let state : state_at plant others position ≡ state_at plant entries position = ap (fold behind (start plant)) (same-below plant entries others position moved right) in
    let first : finding plant others position ≡ fault_of plant (state_at plant entries position) position (entries_at position others) =
    ap (λ (state : State). fault_of plant state position (entries_at position others)) state in
    let last : fault_of plant (state_at plant entries position) position (entries_at position others) ≡ finding plant entries position =
    same-fault plant (state_at plant entries position) position (entries_at position entries) (entries_at position others) (length-at place position entries others moved)
    (λ entry is. at-moved place position entry entries others moved is) in
    first ∙ last

same-right : (plant : PlantData) (entries others : List TracedEntry) (position : ℕ) → IsPermutation entries others → AreRightBelow plant entries position → AreRightBelow plant others position
same-right plant entries others position moved right earlier within =
    same-found plant entries others earlier moved (λ before below. right before (omega arith)) ∙ right earlier within

entries-moved : (plant : PlantData) (entries others : List TracedEntry) (verdict : Verdict) → IsPermutation entries others
    → IsFirstFinding plant entries verdict ⊎ AreConfirmed plant entries verdict → IsFirstFinding plant others verdict ⊎ AreConfirmed plant others verdict
entries-moved plant entries others verdict moved (inl first) = inl (record {
  position = first.position;
  within = omega (arith, first.within, same-count entries others moved);
  before = same-right plant entries others first.position moved first.before;
  found = same-found plant entries others first.position moved first.before ∙ first.found;
})
entries-moved plant entries others verdict moved (inr confirmed) = inr (record {
  right = subst (AreRightBelow plant others) (sym (same-count entries others moved)) (same-right plant entries others (position_count entries) moved confirmed.right);
  counted = confirmed.counted ∙ ap Confirmed (sym (length_permutation entries others moved));
})

pub order-same : OrderIsNoMatter
order-same plant lines others verdict moved none (inl bad) = absurd (none (length bad.before + 1) bad.counted)
order-same plant lines others verdict moved none (inr of) =
    let told = told-lines plant lines of.entries of.told in
    let so = map-moved line_of of.entries others (subst (λ (texts : List (List ℕ)). IsPermutation texts others) told.0 moved) in
    let each : All (IsTold plant) so.moved = All-permutation (IsTold plant) of.entries so.moved so.order told.1 in
    inr (record {
      entries = so.moved;
      told = subst (λ (texts : List (List ℕ)). LinesTell plant texts so.moved) (sym so.is) (lines-told plant so.moved each);
      verdict_is = entries-moved plant of.entries so.moved verdict so.order of.verdict_is;
    })

pub order-bad : BadLinesAreFound
order-bad plant lines others number verdict moved is other =
    let first = bad-first plant lines number is in
    let has : Contains lines first.line = (first.before, slice_get_within lines first.before first.line first.place, get_or_from_slice_get lines first.before first.line first.line first.place) in
    bad-named plant others first.line verdict (Contains-permutation lines others first.line moved has) first.refused other
