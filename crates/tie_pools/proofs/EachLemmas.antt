-- Changes that are made one after another, in two turns, are made as one.
use Rattle.std.proofs.Common.{◌≡◌, ◌≢◌, ℕ, ◌+◌, ◌<◌, nat_eq, Bool, true, false, not, cond, List, [], ◌∷◌, filter, find, length, drop, get_or, Contains, Option, Some, None, suc, refl, sym, ap, subst, ◌∙◌, arith, add-one, drop-cons}
use Rattle.std.proofs.lemmas.Bool.{false≢true}
use Rattle.std.specs.Option.{option_eq}
use Rattle.std.specs.FinMap as finite
use Rattle.number_tables.proofs.PutLemmas.{get-put_other}
use Rattle.plant_config.specs.declared.records.Change.{Change}
use Rattle.plant_config.specs.Plant.{PlantData}
use Rattle.plant_config.specs.IsPlant.{IsPlant}
use Rattle.crosspoint_state.specs.declared.spot.Spot.{Spot}
use Rattle.crosspoint_state.specs.Crosspoints.{Crosspoints, is_idle, NamesOnce}
use Rattle.crosspoint_state.specs.Ties.{chosen_tie, HaveValidTies}
use Rattle.crosspoint_state.specs.Applied.{released, given, all_given, applied, are_enough}
use Rattle.crosspoint_state.specs.Laws.{AreInside}
use Rattle.crosspoint_state.proofs.ChangeLists.{names, passing, NamesOnce-tail, find-tail, find-filter, find-contained}
use Rattle.crosspoint_state.proofs.AppliedLemmas.{source_at, gone, get-released, is_busy}
use Rattle.crosspoint_state.proofs.LawLemmas.{TiesStayValid-applied}
use Rattle.crosspoint_state.proofs.ValidLemmas.{valid_fewer}
use Rattle.tie_pools.specs.CommitInside.{released_one, released_each, given_one, given_each, IsReady, AreReady}

contains_first : (change : Change) (changes : List Change) → Contains (change ∷ changes) change
contains_first change changes = (0, omega arith, refl)

contains_behind : (first change : Change) (changes : List Change) → Contains changes change → Contains (first ∷ changes) change
contains_behind first change changes has = (suc has.0, omega (arith, has.1), has.2)

-- the changes behind the first are of other destinations
apart_behind : (first change : Change) (changes : List Change) → NamesOnce (first ∷ changes) → Contains changes change → change.dest ≢ first.dest
apart_behind first change changes once has = λ same.
    let none : find (names change.dest) changes ≡ None = subst (λ d. find (names d) changes ≡ None) (sym same) (find-tail first changes once) in
    let both : None ≡ Some change = sym none ∙ find-contained change changes (NamesOnce-tail first changes once) has in
    cc

-- whether a change is idle, by what its destination carries
abbrev idle_at : Change → Option Spot → Bool
idle_at change stands = option_eq nat_eq (source_at stands) change.source

-- each change that is busy at the start is released
released_each-is : (start points : Crosspoints) (changes : List Change) → NamesOnce changes → ((change : Change) → Contains changes change → finite.get points change.dest ≡ finite.get start change.dest) → released_each points changes ≡ released points (filter (is_busy start) changes)
released_each-is start points [] once same = refl
released_each-is start points (change ∷ changes) once same = by (λ points same. released_each-is start points changes (NamesOnce-tail change changes once) same) (is_idle start change) refl
  where
    behind : (c : Change) → Contains changes c → finite.get points c.dest ≡ finite.get start c.dest
    behind c has = same c (contains_behind change c changes has)

    now : is_idle points change ≡ is_idle start change
    now = ap (idle_at change) (same change (contains_first change changes))

    by : ((points : Crosspoints) → ((change : Change) → Contains changes change → finite.get points change.dest ≡ finite.get start change.dest) → released_each points changes ≡ released points (filter (is_busy start) changes)) → (b : Bool) → is_idle start change ≡ b → released_each (released_one points change) changes ≡ released points (filter (is_busy start) (change ∷ changes))
    by rest true idle =
        ap (λ b. released_each (cond b points (finite.remove points change.dest)) changes) (now ∙ idle)
        ∙ rest points behind
        ∙ ap (λ b. released points (cond (not b) (change ∷ filter (is_busy start) changes) (filter (is_busy start) changes))) (sym idle)
    by rest false busy =
        ap (λ b. released_each (cond b points (finite.remove points change.dest)) changes) (now ∙ busy)
        ∙ rest (finite.remove points change.dest) (λ c has. get-put_other points change.dest None c.dest (apart_behind change c changes once has) ∙ behind c has)
        ∙ ap (λ b. released points (cond (not b) (change ∷ filter (is_busy start) changes) (filter (is_busy start) changes))) (sym busy)

-- what the destination of a change carries behind the first turn
released_stands : (start : Crosspoints) (changes : List Change) (change : Change) (b : Bool) → NamesOnce changes → Contains changes change → is_idle start change ≡ b → finite.get (released start (filter (is_busy start) changes)) change.dest ≡ gone (finite.get start change.dest) (cond (not b) (Some change) None)
released_stands start changes change b once has e =
    get-released start (filter (is_busy start) changes) change.dest
    ∙ ap (gone (finite.get start change.dest)) (find-filter (is_busy start) change.dest changes once ∙ ap (passing (is_busy start)) (find-contained change changes once has) ∙ ap (λ b. cond (not b) (Some change) None) e)

-- The destinations of these changes are parked where they were busy at the start, and else have their sources still.
record AreParked (start points : Crosspoints) (changes : List Change) : Type 0 where
  parked : (change : Change) → Contains changes change → is_idle start change ≡ false → finite.get points change.dest ≡ None
  idle : (change : Change) → Contains changes change → is_idle start change ≡ true → is_idle points change ≡ true

all_parked : (start : Crosspoints) (changes : List Change) → NamesOnce changes → AreParked start (released start (filter (is_busy start) changes)) changes
all_parked start changes once = record {
  parked = λ change has busy. released_stands start changes change false once has busy;
  idle = λ change has idle. ap (idle_at change) (released_stands start changes change true once has idle) ∙ idle;
}

-- a destination that isn't given anything keeps what it carries
given_other : (plant : PlantData) (points : Crosspoints) (dest : ℕ) (source : Option ℕ) (other : ℕ) → other ≢ dest → finite.get (given plant points dest source) other ≡ finite.get points other
given_other plant points dest None other apart = refl
given_other plant points dest (Some source) other apart = get-put_other points dest (Some (record { source = source; tie = chosen_tie plant points source })) other apart

one_other : (plant : PlantData) (points : Crosspoints) (change : Change) (other : ℕ) → other ≢ change.dest → finite.get (given_one plant points change) other ≡ finite.get points other
one_other plant points change other apart =
    elim (is_idle points change) as (λ b. finite.get (cond b points (given plant points change.dest change.source)) other ≡ finite.get points other) [
      | true ↦ refl
      | false ↦ given_other plant points change.dest change.source other apart
    ]

-- a parked destination is given its source
given_parked : (plant : PlantData) (points : Crosspoints) (change : Change) → finite.get points change.dest ≡ None → given_one plant points change ≡ given plant points change.dest change.source
given_parked plant points change parked = by change.source refl
  where
    by : (source : Option ℕ) → change.source ≡ source → given_one plant points change ≡ given plant points change.dest change.source
    by None e =
        ap (λ b. cond b points (given plant points change.dest change.source)) (ap (idle_at change) parked ∙ ap (option_eq nat_eq None) e)
        ∙ ap (given plant points change.dest) (sym e)
    by (Some source) e =
        ap (λ b. cond b points (given plant points change.dest change.source)) (ap (idle_at change) parked ∙ ap (option_eq nat_eq None) e)

parked_behind : (plant : PlantData) (start points : Crosspoints) (change : Change) (changes : List Change) → NamesOnce (change ∷ changes) → AreParked start points (change ∷ changes) → AreParked start (given plant points change.dest change.source) changes
parked_behind plant start points change changes once are = record {
  parked = λ c has busy. other c has ∙ are.parked c (contains_behind change c changes has) busy;
  idle = λ c has idle. ap (idle_at c) (other c has) ∙ are.idle c (contains_behind change c changes has) idle;
}
  where
    other : (c : Change) → Contains changes c → finite.get (given plant points change.dest change.source) c.dest ≡ finite.get points c.dest
    other c has = given_other plant points change.dest change.source c.dest (apart_behind change c changes once has)

-- in the second turn each change that was busy at the start is given its source
given_each-is : (plant : PlantData) (start points : Crosspoints) (changes : List Change) → NamesOnce changes → AreParked start points changes → given_each plant points changes ≡ all_given plant points (filter (is_busy start) changes)
given_each-is plant start points [] once are = refl
given_each-is plant start points (change ∷ changes) once are = by (λ points are. given_each-is plant start points changes (NamesOnce-tail change changes once) are) (is_idle start change) refl
  where
    by : ((points : Crosspoints) → AreParked start points changes → given_each plant points changes ≡ all_given plant points (filter (is_busy start) changes)) → (b : Bool) → is_idle start change ≡ b → given_each plant (given_one plant points change) changes ≡ all_given plant points (filter (is_busy start) (change ∷ changes))
    by rest true idle =
        ap (λ b. given_each plant (cond b points (given plant points change.dest change.source)) changes) (are.idle change (contains_first change changes) idle)
        ∙ rest points (record {
          parked = λ c has. are.parked c (contains_behind change c changes has);
          idle = λ c has. are.idle c (contains_behind change c changes has);
        })
        ∙ ap (λ b. all_given plant points (cond (not b) (change ∷ filter (is_busy start) changes) (filter (is_busy start) changes))) (sym idle)
    by rest false busy =
        ap (λ points. given_each plant points changes) (given_parked plant points change (are.parked change (contains_first change changes) busy))
        ∙ rest (given plant points change.dest change.source) (parked_behind plant start points change changes once are)
        ∙ ap (λ b. all_given plant points (cond (not b) (change ∷ filter (is_busy start) changes) (filter (is_busy start) changes))) (sym busy)

-- both turns make the changes as one
pub each_made : (plant : PlantData) (start : Crosspoints) (changes : List Change) → NamesOnce changes → given_each plant (released_each start changes) changes ≡ applied plant start changes
each_made plant start changes once =
    ap (λ points. given_each plant points changes) (released_each-is start start changes once (λ change has. refl))
    ∙ given_each-is plant start (released start (filter (is_busy start) changes)) changes once (all_parked start changes once)

-- behind the first turn the second can be made
pub each_ready : (start : Crosspoints) (changes : List Change) → NamesOnce changes → AreReady (released_each start changes) changes
each_ready start changes once = subst (λ points. AreReady points changes) (sym (released_each-is start start changes once (λ change has. refl))) (λ change has busy. by change has busy (is_idle start change) refl)
  where
    are : AreParked start (released start (filter (is_busy start) changes)) changes
    are = all_parked start changes once

    by : (change : Change) → Contains changes change → is_idle (released start (filter (is_busy start) changes)) change ≡ false → (b : Bool) → is_idle start change ≡ b → finite.get (released start (filter (is_busy start) changes)) change.dest ≡ None
    by change has busy true idle = absurd (false≢true (sym busy ∙ are.idle change has idle))
    by change has busy false was = are.parked change has was

pub each_valid : (plant : PlantData) (start : Crosspoints) (changes : List Change) → NamesOnce changes → AreInside plant changes → IsPlant plant → HaveValidTies plant start → are_enough plant start changes ≡ true → HaveValidTies plant (given_each plant (released_each start changes) changes)
each_valid plant start changes once inside is valid enough =
    subst (HaveValidTies plant) (sym (each_made plant start changes once)) (TiesStayValid-applied plant start changes once inside is valid enough)

-- behind a change that was given the others can be
pub ready_behind : (plant : PlantData) (points : Crosspoints) (change : Change) (changes : List Change) → NamesOnce (change ∷ changes) → AreReady points (change ∷ changes) → AreReady (given_one plant points change) changes
ready_behind plant points change changes once ready = λ c has busy.
    let same = one_other plant points change c.dest (apart_behind change c changes once has) in
    same ∙ ready c (contains_behind change c changes has) (ap (idle_at c) (sym same) ∙ busy)

pub ready_first : (points : Crosspoints) (change : Change) (changes : List Change) → AreReady points (change ∷ changes) → IsReady points change
ready_first points change changes ready = ready change (contains_first change changes)

-- the second turn takes nothing away
one_grows : (plant : PlantData) (points : Crosspoints) (change : Change) (dest : ℕ) (spot : Spot) → IsReady points change → finite.get points dest ≡ Some spot → finite.get (given_one plant points change) dest ≡ Some spot
one_grows plant points change dest spot ready stands = by (is_idle points change) refl
  where
    by : (b : Bool) → is_idle points change ≡ b → finite.get (given_one plant points change) dest ≡ Some spot
    by true idle = ap (λ b. finite.get (cond b points (given plant points change.dest change.source)) dest) idle ∙ stands
    by false busy = one_other plant points change dest (λ same.
        let both : None ≡ Some spot = sym (ready busy) ∙ ap (finite.get points) (sym same) ∙ stands in
        cc) ∙ stands

each_grows : (plant : PlantData) (points : Crosspoints) (changes : List Change) (dest : ℕ) (spot : Spot) → NamesOnce changes → AreReady points changes → finite.get points dest ≡ Some spot → finite.get (given_each plant points changes) dest ≡ Some spot
each_grows plant points [] dest spot once ready stands = stands
each_grows plant points (change ∷ changes) dest spot once ready stands =
    each_grows plant (given_one plant points change) changes dest spot (NamesOnce-tail change changes once)
    (ready_behind plant points change changes once ready)
    (one_grows plant points change dest spot (ready_first points change changes ready) stands)

-- so the ties are valid on the way where they are at the end
pub one_valid : (plant : PlantData) (points : Crosspoints) (change : Change) (changes : List Change) → NamesOnce (change ∷ changes) → AreReady points (change ∷ changes) → HaveValidTies plant (given_each plant points (change ∷ changes)) → HaveValidTies plant (given_one plant points change)
one_valid plant points change changes once ready valid =
    valid_fewer plant (given_each plant (given_one plant points change) changes) (given_one plant points change)
    (λ dest spot stands. each_grows plant (given_one plant points change) changes dest spot (NamesOnce-tail change changes once) (ready_behind plant points change changes once ready) stands)
    valid

-- the next change of a list
pub next_change : (changes : List Change) (i : ℕ) (change : Change) → i < length changes → change ≡ get_or changes i change → drop i changes ≡ change ∷ drop (i + 1) changes
next_change changes i change within is =
    let next : drop i changes ≡ get_or changes i change ∷ drop (i + 1) changes = rw (add-one, drop-cons changes i change within) refl in
    next ∙ ap (λ c. c ∷ drop (i + 1) changes) (sym is)
