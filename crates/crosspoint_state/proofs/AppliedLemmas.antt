-- What each destination carries after a list of changes.
use Rattle.std.proofs.Common.{◌≡◌, ◌≢◌, ℕ, ◌==◌, Bool, true, false, not, cond, List, [], ◌∷◌, filter, find, Option, Some, None, refl, sym, ap, subst, ◌∙◌, eqb-true}
use Rattle.std.proofs.lemmas.Bool.{eqb-false}
use Rattle.std.specs.Option.{option_map}
use Rattle.std.specs.FinMap as finite
use Rattle.number_tables.specs.Table.{put}
use Rattle.number_tables.proofs.PutLemmas.{get-put_same, get-put_other}
use Rattle.plant_config.specs.declared.records.Change.{Change}
use Rattle.plant_config.specs.Plant.{PlantData}
use Rattle.crosspoint_state.specs.declared.spot.Spot.{Spot}
use Rattle.crosspoint_state.specs.Crosspoints.{Crosspoints, source_of, is_idle, NamesOnce}
use Rattle.crosspoint_state.specs.Ties.{chosen_tie}
use Rattle.crosspoint_state.specs.Applied.{released, given, all_given, applied, untied, put_all}
use Rattle.crosspoint_state.proofs.ChangeLists.{names, passing, NamesOnce-tail, NamesOnce-filter, find-tail, find-filter, found-is}
use Rattle.crosspoint_state.proofs.TieLemmas.{same_option}

abbrev pub source_at : Option Spot → Option ℕ
source_at stands = option_map (λ (spot : Spot). spot.source) stands

-- what stands where a released destination stood, by the change that released it
abbrev pub gone : Option Spot → Option Change → Option Spot
gone stands None = stands
gone stands (Some change) = None

gone_already : (found : Option Change) → gone None found ≡ None
gone_already None = refl
gone_already (Some change) = refl

pub get-released : (crosspoints : Crosspoints) (changes : List Change) (dest : ℕ) → finite.get (released crosspoints changes) dest ≡ gone (finite.get crosspoints dest) (find (names dest) changes)
get-released crosspoints [] dest = refl
get-released crosspoints (change ∷ changes) dest =
    elim (change.dest == dest) as (λ b. (change.dest == dest) ≡ b → finite.get (released (finite.remove crosspoints change.dest) changes) dest ≡ gone (finite.get crosspoints dest) (cond b (Some change) (find (names dest) changes))) [
      | true ↦ λ here.
          let same : change.dest ≡ dest = eqb-true change.dest dest here in
          let parked : finite.get (finite.remove crosspoints change.dest) dest ≡ None = subst (λ d. finite.get (finite.remove crosspoints change.dest) d ≡ None) same (get-put_same crosspoints change.dest None) in
          get-released (finite.remove crosspoints change.dest) changes dest
          ∙ ap (λ stands. gone stands (find (names dest) changes)) parked
          ∙ gone_already (find (names dest) changes)
      | false ↦ λ there.
          let other : dest ≢ change.dest = λ same. eqb-false change.dest dest there (sym same) in
          get-released (finite.remove crosspoints change.dest) changes dest
          ∙ ap (λ stands. gone stands (find (names dest) changes)) (get-put_other crosspoints change.dest None dest other)
    ] refl

abbrev pub with_chosen : PlantData → Crosspoints → ℕ → Spot
with_chosen plant crosspoints source = record { source = source; tie = chosen_tie plant crosspoints source }

-- a destination that is given nothing keeps what it carries
get-given_other : (plant : PlantData) (crosspoints : Crosspoints) (dest : ℕ) (source : Option ℕ) (other : ℕ) → other ≢ dest → finite.get (given plant crosspoints dest source) other ≡ finite.get crosspoints other
get-given_other plant crosspoints dest None other apart = refl
get-given_other plant crosspoints dest (Some source) other apart = get-put_other crosspoints dest (Some (with_chosen plant crosspoints source)) other apart

pub get-all_given : (plant : PlantData) (crosspoints : Crosspoints) (changes : List Change) (dest : ℕ) → find (names dest) changes ≡ None → finite.get (all_given plant crosspoints changes) dest ≡ finite.get crosspoints dest
get-all_given plant crosspoints [] dest none = refl
get-all_given plant crosspoints (change ∷ changes) dest none =
    elim (change.dest == dest) as (λ b. (change.dest == dest) ≡ b → cond b (Some change) (find (names dest) changes) ≡ None → finite.get (all_given plant (given plant crosspoints change.dest change.source) changes) dest ≡ finite.get crosspoints dest) [
      | true ↦ λ here none. cc
      | false ↦ λ there none.
          let other : dest ≢ change.dest = λ same. eqb-false change.dest dest there (sym same) in
          get-all_given plant (given plant crosspoints change.dest change.source) changes dest none
          ∙ get-given_other plant crosspoints change.dest change.source dest other
    ] refl none

-- a parked destination that is given a source has it
source-given : (plant : PlantData) (crosspoints : Crosspoints) (dest : ℕ) (source : Option ℕ) → finite.get crosspoints dest ≡ None → source_of (given plant crosspoints dest source) dest ≡ source
source-given plant crosspoints dest None parked = ap source_at parked
source-given plant crosspoints dest (Some source) parked = ap source_at (get-put_same crosspoints dest (Some (with_chosen plant crosspoints source)))

pub source-all_given : (plant : PlantData) (crosspoints : Crosspoints) (changes : List Change) (dest : ℕ) (change : Change) → NamesOnce changes → finite.get crosspoints dest ≡ None → find (names dest) changes ≡ Some change → source_of (all_given plant crosspoints changes) dest ≡ change.source
source-all_given plant crosspoints [] dest change once parked found = cc
source-all_given plant crosspoints (first ∷ changes) dest change once parked found =
    elim (first.dest == dest) as (λ b. (first.dest == dest) ≡ b → cond b (Some first) (find (names dest) changes) ≡ Some change → source_of (all_given plant (given plant crosspoints first.dest first.source) changes) dest ≡ change.source) [
      | true ↦ λ here found.
          let same : first.dest ≡ dest = eqb-true first.dest dest here in
          let is : first ≡ change = cc in
          let none : find (names dest) changes ≡ None = subst (λ d. find (names d) changes ≡ None) same (find-tail first changes once) in
          let has : source_of (given plant crosspoints first.dest first.source) dest ≡ first.source = subst (λ d. source_of (given plant crosspoints first.dest first.source) d ≡ first.source) same (source-given plant crosspoints first.dest first.source (ap (finite.get crosspoints) same ∙ parked)) in
          ap source_at (get-all_given plant (given plant crosspoints first.dest first.source) changes dest none) ∙ has ∙ ap (λ (c : Change). c.source) is
      | false ↦ λ there found.
          let other : dest ≢ first.dest = λ same. eqb-false first.dest dest there (sym same) in
          source-all_given plant (given plant crosspoints first.dest first.source) changes dest change (NamesOnce-tail first changes once)
          (get-given_other plant crosspoints first.dest first.source dest other ∙ parked) found
    ] refl found

-- whether a change is made
abbrev pub is_busy : Crosspoints → Change → Bool
is_busy crosspoints change = not (is_idle crosspoints change)

-- a destination that no change names, or that an idle one names, keeps what it carries
pub get-applied : (plant : PlantData) (crosspoints : Crosspoints) (changes : List Change) (dest : ℕ) → NamesOnce changes → passing (is_busy crosspoints) (find (names dest) changes) ≡ None → finite.get (applied plant crosspoints changes) dest ≡ finite.get crosspoints dest
get-applied plant crosspoints changes dest once none =
    let kept : List Change = filter (is_busy crosspoints) changes in
    let unnamed : find (names dest) kept ≡ None = find-filter (is_busy crosspoints) dest changes once ∙ none in
    get-all_given plant (released crosspoints kept) kept dest unnamed
    ∙ get-released crosspoints kept dest
    ∙ ap (gone (finite.get crosspoints dest)) unnamed

-- the destination of an idle change has its source
pub idle_has : (crosspoints : Crosspoints) (changes : List Change) (dest : ℕ) (change : Change) → find (names dest) changes ≡ Some change → is_idle crosspoints change ≡ true → source_of crosspoints dest ≡ change.source
idle_has crosspoints changes dest change found idle =
    ap (source_of crosspoints) (sym (found-is dest change changes found).1) ∙ same_option (source_of crosspoints change.dest) change.source idle

-- the destination of a change has its source
pub source-applied : (plant : PlantData) (crosspoints : Crosspoints) (changes : List Change) (dest : ℕ) (change : Change) → NamesOnce changes → find (names dest) changes ≡ Some change → source_of (applied plant crosspoints changes) dest ≡ change.source
source-applied plant crosspoints changes dest change once found = by (is_idle crosspoints change) refl
  where
    kept : List Change
    kept = filter (is_busy crosspoints) changes

    passed : (b : Bool) → is_idle crosspoints change ≡ b → passing (is_busy crosspoints) (find (names dest) changes) ≡ cond (not b) (Some change) None
    passed b e = ap (passing (is_busy crosspoints)) found ∙ ap (λ b. cond (not b) (Some change) None) e

    by : (b : Bool) → is_idle crosspoints change ≡ b → source_of (applied plant crosspoints changes) dest ≡ change.source
    by true idle =
        ap source_at (get-applied plant crosspoints changes dest once (passed true idle))
        ∙ idle_has crosspoints changes dest change found idle
    by false busy =
        let here : find (names dest) kept ≡ Some change = find-filter (is_busy crosspoints) dest changes once ∙ passed false busy in
        source-all_given plant (released crosspoints kept) kept dest change (NamesOnce-filter (is_busy crosspoints) changes once)
        (get-released crosspoints kept dest ∙ ap (gone (finite.get crosspoints dest)) here) here

-- the source of a destination by the change that names it
abbrev pub aim : Option Change → Option ℕ → Option ℕ
aim None source = source
aim (Some change) source = change.source

source-untied : (source : Option ℕ) → source_at (untied source) ≡ source
source-untied None = refl
source-untied (Some source) = refl

-- with all sources put in at once, the destination of each change has its source, and each other one keeps its own
pub source-put_all : (crosspoints : Crosspoints) (changes : List Change) (dest : ℕ) → NamesOnce changes → source_of (put_all crosspoints changes) dest ≡ aim (find (names dest) changes) (source_of crosspoints dest)
source-put_all crosspoints [] dest once = refl
source-put_all crosspoints (change ∷ changes) dest once =
    let rest = source-put_all (put crosspoints change.dest (untied change.source)) changes dest (NamesOnce-tail change changes once) in
    elim (change.dest == dest) as (λ b. (change.dest == dest) ≡ b → source_of (put_all (put crosspoints change.dest (untied change.source)) changes) dest ≡ aim (cond b (Some change) (find (names dest) changes)) (source_of crosspoints dest)) [
      | true ↦ λ here.
          let same : change.dest ≡ dest = eqb-true change.dest dest here in
          let none : find (names dest) changes ≡ None = subst (λ d. find (names d) changes ≡ None) same (find-tail change changes once) in
          let has : finite.get (put crosspoints change.dest (untied change.source)) dest ≡ untied change.source = subst (λ d. finite.get (put crosspoints change.dest (untied change.source)) d ≡ untied change.source) same (get-put_same crosspoints change.dest (untied change.source)) in
          rest ∙ ap (λ found. aim found (source_of (put crosspoints change.dest (untied change.source)) dest)) none ∙ ap source_at has ∙ source-untied change.source
      | false ↦ λ there.
          let other : dest ≢ change.dest = λ same. eqb-false change.dest dest there (sym same) in
          rest ∙ ap (λ stands. aim (find (names dest) changes) (source_at stands)) (get-put_other crosspoints change.dest (untied change.source) dest other)
    ] refl
