-- Which changes are permitted, and what they change.
use Rattle.std.proofs.Common.{◌≡◌, ◌≢◌, ℕ, ◌<◌, nat_eq, true, false, not, Bool, cond, List, [], ◌∷◌, ◌&&◌, ◌||◌, filter, find, get_or, All, Option, Some, None, IfSome, suc, inl, inr, refl, sym, ap, subst, ◌∙◌, arith}
use Rattle.std.specs.Prelude.{◌==◌}
use Rattle.std.specs.List.{list_any, Any}
use Rattle.std.specs.Option.{option_map, option_map_or, option_eq}
use Rattle.std.specs.FinMap as finite
use Rattle.std.proofs.lemmas.Bool.{cases_eq, eqb-true, eq-eqb, ne_eqb, both_ways, and_parts, or_parts}
use Rattle.std.proofs.lemmas.List.{get_or_default, get_or-map, length-map}
use Rattle.std.proofs.lemmas.List.Elements.{All-nil, All-cons, All-map, All-filter}
use Rattle.std.proofs.lemmas.List.Folds.{list_all_at, list_any_at, Any-from_list_any}
use Rattle.plant_config.specs.declared.records.Change.{Change}
use Rattle.plant_config.specs.Plant.{PlantData, destinations_of}
use Rattle.crosspoint_state.specs.Crosspoints.{Crosspoints, source_of, is_idle, NamesOnce}
use Rattle.crosspoint_state.specs.Applied.{released, all_given, applied}
use Rattle.crosspoint_state.specs.Laws.{NoneNames, AreInside}
use Rattle.crosspoint_state.specs.declared.spot.Spot.{Spot}
use Rattle.std.proofs.lemmas.Map.Keys.{IsDistinct-cons}
use Rattle.crosspoint_state.proofs.ChangeLists.{names, find-unnamed, NamesOnce-nil}
use Rattle.crosspoint_state.proofs.AppliedLemmas.{gone, get-released, get-all_given, is_busy}
use Rattle.crosspoint_state.proofs.LawLemmas.{ChangesAreMade-applied}
use Rattle.tally.specs.Moved.{has_moved}
use Rattle.tally.specs.Update.{MovedOnly, AreMoves}
use Rattle.tally.proofs.MovedLemmas.{each_named}
use Rattle.protects.specs.Owners.{Owners, allows, IsForeign}
use Rattle.plant_core.specs.Connects.{are_permitted}
use Rattle.plant_core.specs.Salvos.{moved}
use Rattle.plant_core.proofs.Noticed.{is_among}

-- a destination that no change names carries what it carried, however often others are named
pub get-applied_other : (plant : PlantData) (crosspoints : Crosspoints) (changes : List Change) (dest : ℕ) → NoneNames changes dest → finite.get (applied plant crosspoints changes) dest ≡ finite.get crosspoints dest
get-applied_other plant crosspoints changes dest apart =
    let busy : List Change = filter (is_busy crosspoints) changes in
    let none : find (names dest) busy ≡ None = find-unnamed dest busy (All-filter (is_busy crosspoints) (λ (change : Change). change.dest ≢ dest) changes apart) in
    get-all_given plant (released crosspoints busy) busy dest none
    ∙ get-released crosspoints busy dest
    ∙ ap (gone (finite.get crosspoints dest)) none

-- each destination that a change names carries its source
pub source_of-applied : (plant : PlantData) (crosspoints : Crosspoints) (changes : List Change) → NamesOnce changes → All (λ change. source_of (applied plant crosspoints changes) change.dest ≡ change.source) changes
source_of-applied plant crosspoints changes once k d below =
    let change : Change = get_or changes k d in
    ChangesAreMade-applied plant crosspoints changes once change (k, below, get_or_default changes k change d below)

pub same_source : (a b : Option ℕ) → option_eq nat_eq a b ≡ true → a ≡ b
same_source None None h = refl
same_source None (Some y) h = cc
same_source (Some x) None h = cc
same_source (Some x) (Some y) h = ap Some (eqb-true x y h)

pub source_same : (a : Option ℕ) → option_eq nat_eq a a ≡ true
source_same None = refl
source_same (Some x) = eq-eqb x x refl

-- a device may change what has no owner, or is its own
pub allows-free : (owners : Owners) (device dest : ℕ) → allows owners device dest ≡ true → IfSome (finite.get owners dest) (λ owner. owner ≡ device)
allows-free owners device dest h =
    elim (finite.get owners dest) as (λ o. option_map_or (λ owner. owner == device) o true ≡ true → IfSome o (λ owner. owner ≡ device)) [
      | None ↦ λ e. tt
      | Some owner ↦ λ e. eqb-true owner device e
    ] h

pub free-allows : (owners : Owners) (device dest : ℕ) → IfSome (finite.get owners dest) (λ owner. owner ≡ device) → allows owners device dest ≡ true
free-allows owners device dest h =
    elim (finite.get owners dest) as (λ o. IfSome o (λ owner. owner ≡ device) → option_map_or (λ owner. owner == device) o true ≡ true) [
      | None ↦ λ e. refl
      | Some owner ↦ λ e. eq-eqb owner device e
    ] h

pub kept-allows : (owners : Owners) (device dest owner : ℕ) → finite.get owners dest ≡ Some owner → owner ≢ device → allows owners device dest ≡ false
kept-allows owners device dest owner is other = ap (λ o. option_map_or (λ owner. owner == device) o true) is ∙ ne_eqb owner device other

pub allows-foreign : (owners : Owners) (device dest : ℕ) → allows owners device dest ≡ false → IsForeign owners device dest
allows-foreign owners device dest h = go (finite.get owners dest) refl
  where
    go : (o : Option ℕ) → finite.get owners dest ≡ o → IsForeign owners device dest
    go None e = absurd (both_ways (allows owners device dest) h (ap (λ o. option_map_or (λ owner. owner == device) o true) e))
    go (Some owner) e = record {
      owner = owner;
      owns = e;
      other = λ same. both_ways (allows owners device dest) h (ap (λ o. option_map_or (λ owner. owner == device) o true) e ∙ eq-eqb owner device same);
    }

-- a list of one is permitted where its destination may be changed
pub permitted-one : (owners : Owners) (device : ℕ) (change : Change) → are_permitted owners device (change ∷ []) ≡ allows owners device change.dest
permitted-one owners device change = elim (allows owners device change.dest) as (λ b. (b && true) ≡ b) [ true ↦ refl | false ↦ refl ]

-- a change is of a destination that another device protects
abbrev pub IsOfForeign : Owners → ℕ → Change → Type 0
IsOfForeign owners device change = IsForeign owners device change.dest

-- permitted changes name no destination of another device
pub permitted-apart : (changes : List Change) (owners : Owners) (device dest owner : ℕ) → finite.get owners dest ≡ Some owner → owner ≢ device → are_permitted owners device changes ≡ true → All (λ change. change.dest ≢ dest) changes
permitted-apart [] owners device dest owner is other permitted = λ k d below. absurd (omega arith)
permitted-apart (change ∷ changes) owners device dest owner is other permitted =
    let parts = and_parts (allows owners device change.dest) (are_permitted owners device changes) permitted in
    let apart : change.dest ≢ dest = λ same. both_ways (allows owners device change.dest) (ap (allows owners device) same ∙ kept-allows owners device dest owner is other) parts.0 in
    All-cons (λ (c : Change). c.dest ≢ dest) change changes apart (permitted-apart changes owners device dest owner is other parts.1)

-- a list isn't permitted exactly where the device is kept from one of its destinations
pub not_permitted : (changes : List Change) (owners : Owners) (device : ℕ) → are_permitted owners device changes ≡ false → Any (IsOfForeign owners device) changes
not_permitted [] owners device h = cc
not_permitted (change ∷ changes) owners device h = go (not_permitted changes owners device) (allows owners device change.dest) refl
  where
    go : (are_permitted owners device changes ≡ false → Any (IsOfForeign owners device) changes) → (b : Bool) → allows owners device change.dest ≡ b → Any (IsOfForeign owners device) (change ∷ changes)
    go behind false e = (0, change, omega arith, refl, allows-foreign owners device change.dest e)
    go behind true e =
        let later : are_permitted owners device changes ≡ false = rw e at h in
        let rest = behind later in
        (suc rest.0, rest.1, omega (arith, rest.2), rest.3, rest.4)

pub kept-permitted : (changes : List Change) (owners : Owners) (device : ℕ) → Any (IsOfForeign owners device) changes → are_permitted owners device changes ≡ false
kept-permitted changes owners device kept =
    let change : Change = kept.1 in
    let foreign : IsForeign owners device change.dest = kept.4 in
    list_all_at (λ (c : Change). allows owners device c.dest) changes kept.0 change kept.2
    (ap (λ (c : Change). allows owners device c.dest) kept.3 ∙ kept-allows owners device change.dest foreign.owner foreign.owns foreign.other)

-- an idle change does nothing
pub applied-idle : (plant : PlantData) (crosspoints : Crosspoints) (change : Change) → is_idle crosspoints change ≡ true → applied plant crosspoints (change ∷ []) ≡ crosspoints
applied-idle plant crosspoints change idle =
    ap (λ b. all_given plant (released crosspoints (cond (not b) (change ∷ []) [])) (cond (not b) (change ∷ []) [])) idle

-- a list of one names its destination once
pub once-one : (change : Change) → NamesOnce (change ∷ [])
once-one change = IsDistinct-cons nat_eq change.dest [] tt NamesOnce-nil

-- none of it is idle where its change isn't
pub busy-one : (crosspoints : Crosspoints) (change : Change) → is_idle crosspoints change ≡ false → All (λ change. is_idle crosspoints change ≡ false) (change ∷ [])
busy-one crosspoints change busy = All-cons (λ (c : Change). is_idle crosspoints c ≡ false) change [] busy (All-nil (λ (c : Change). is_idle crosspoints c ≡ false))

-- and is inside the plant where its destination is
pub inside-one : (plant : PlantData) (change : Change) → change.dest < destinations_of plant → AreInside plant (change ∷ [])
inside-one plant change within = All-cons (λ (c : Change). c.dest < destinations_of plant) change [] within (All-nil (λ (c : Change). c.dest < destinations_of plant))

pub source_of-one : (plant : PlantData) (crosspoints : Crosspoints) (change : Change) → source_of (applied plant crosspoints (change ∷ [])) change.dest ≡ change.source
source_of-one plant crosspoints change = source_of-applied plant crosspoints (change ∷ []) (once-one change) 0 change (omega arith)

pub get-one_other : (plant : PlantData) (crosspoints : Crosspoints) (change : Change) (dest : ℕ) → dest ≢ change.dest → finite.get (applied plant crosspoints (change ∷ [])) dest ≡ finite.get crosspoints dest
get-one_other plant crosspoints change dest other =
    get-applied_other plant crosspoints (change ∷ []) dest (All-cons (λ (c : Change). c.dest ≢ dest) change [] (λ same. other (sym same)) (All-nil (λ (c : Change). c.dest ≢ dest)))

-- what stands is what a change gives, where the change is idle, and only there
pub idle-source : (crosspoints : Crosspoints) (change : Change) → is_idle crosspoints change ≡ true → source_of crosspoints change.dest ≡ change.source
idle-source crosspoints change idle = same_source (source_of crosspoints change.dest) change.source idle

pub source-idle : (crosspoints : Crosspoints) (change : Change) → source_of crosspoints change.dest ≡ change.source → is_idle crosspoints change ≡ true
source-idle crosspoints change same =
    ap (λ o. option_eq nat_eq o change.source) same ∙ source_same change.source

-- of a destination that no change moves, each change is idle
all_idle : (changes : List Change) (crosspoints : Crosspoints) (d : ℕ) → is_among (moved crosspoints changes) d ≡ false → All (λ change. change.dest ≡ d → is_idle crosspoints change ≡ true) changes
all_idle [] crosspoints d h = All-nil (λ (change : Change). change.dest ≡ d → is_idle crosspoints change ≡ true)
all_idle (first ∷ rest) crosspoints d h = go (all_idle rest crosspoints d) (is_idle crosspoints first) refl
  where
    Idle : Change → Type 0
    Idle change = change.dest ≡ d → is_idle crosspoints change ≡ true

    go : (is_among (moved crosspoints rest) d ≡ false → All Idle rest) → (b : Bool) → is_idle crosspoints first ≡ b → All Idle (first ∷ rest)
    go behind true idle =
        let later : is_among (moved crosspoints rest) d ≡ false = rw idle at h in
        All-cons Idle first rest (λ same. idle) (behind later)
    go behind false busy =
        let either : ((d == first.dest) || is_among (moved crosspoints rest) d) ≡ false = rw busy at h in
        let parts = or_parts (d == first.dest) (is_among (moved crosspoints rest) d) either in
        All-cons Idle first rest (λ same. absurd (both_ways (d == first.dest) parts.0 (eq-eqb d first.dest (sym same)))) (behind parts.1)

-- a destination that changes move is that of a change which isn't idle
some_busy : (changes : List Change) (crosspoints : Crosspoints) (d : ℕ) → is_among (moved crosspoints changes) d ≡ true → Any (λ change. (change.dest ≡ d) × (is_idle crosspoints change ≡ false)) changes
some_busy [] crosspoints d h = cc
some_busy (first ∷ rest) crosspoints d h = go (some_busy rest crosspoints d) (is_idle crosspoints first) refl
  where
    Busy : Change → Type 0
    Busy change = (change.dest ≡ d) × (is_idle crosspoints change ≡ false)

    later : Any Busy rest → Any Busy (first ∷ rest)
    later found = (suc found.0, found.1, omega (arith, found.2), found.3, found.4)

    go : (is_among (moved crosspoints rest) d ≡ true → Any Busy rest) → (b : Bool) → is_idle crosspoints first ≡ b → Any Busy (first ∷ rest)
    go behind true idle = let among : is_among (moved crosspoints rest) d ≡ true = rw idle at h in later (behind among)
    go behind false busy = elim (cases_eq d first.dest) [
      | inl same ↦ (0, first, omega arith, refl, (sym same, busy))
      | inr other ↦
          let either : ((d == first.dest) || is_among (moved crosspoints rest) d) ≡ true = rw busy at h in
          let among : is_among (moved crosspoints rest) d ≡ true = rw (ne_eqb d first.dest other) at either in
          later (behind among)
    ]

-- a destination that changes don't move carries the source of before, and each other one carries another
pub not_moved : (plant : PlantData) (crosspoints : Crosspoints) (changes : List Change) (d : ℕ) → NamesOnce changes → is_among (moved crosspoints changes) d ≡ false → source_of (applied plant crosspoints changes) d ≡ source_of crosspoints d
not_moved plant crosspoints changes d once h = go (list_any (names d) changes) refl
  where
    go : (b : Bool) → list_any (names d) changes ≡ b → source_of (applied plant crosspoints changes) d ≡ source_of crosspoints d
    go false none =
        ap (option_map (λ (spot : Spot). spot.source)) (get-applied_other plant crosspoints changes d (λ k c below same. both_ways (list_any (names d) changes) none (list_any_at (names d) changes k c below (eq-eqb _ _ same))))
    go true some =
        let found = Any-from_list_any (names d) changes some in
        let change : Change = found.1 in
        let here : change.dest ≡ d = eqb-true change.dest d found.4 in
        let idle : is_idle crosspoints change ≡ true =
        subst (λ (c : Change). c.dest ≡ d → is_idle crosspoints c ≡ true) found.3 (all_idle changes crosspoints d h found.0 change found.2) here in
        let carries : source_of (applied plant crosspoints changes) change.dest ≡ change.source =
        subst (λ (c : Change). source_of (applied plant crosspoints changes) c.dest ≡ c.source) found.3 (source_of-applied plant crosspoints changes once found.0 change found.2) in
        subst (λ dest. source_of (applied plant crosspoints changes) dest ≡ source_of crosspoints dest) here (carries ∙ sym (idle-source crosspoints change idle))

pub is_moved : (plant : PlantData) (crosspoints : Crosspoints) (changes : List Change) (d : ℕ) → NamesOnce changes → is_among (moved crosspoints changes) d ≡ true → source_of (applied plant crosspoints changes) d ≢ source_of crosspoints d
is_moved plant crosspoints changes d once h same =
    let found = some_busy changes crosspoints d h in
    let change : Change = found.1 in
    let carries : source_of (applied plant crosspoints changes) change.dest ≡ change.source =
    subst (λ (c : Change). source_of (applied plant crosspoints changes) c.dest ≡ c.source) found.3 (source_of-applied plant crosspoints changes once found.0 change found.2) in
    let alike : source_of (applied plant crosspoints changes) change.dest ≡ source_of crosspoints change.dest =
    subst (λ dest. source_of (applied plant crosspoints changes) dest ≡ source_of crosspoints dest) (sym found.4.0) same in
    both_ways (is_idle crosspoints change) found.4.1 (source-idle crosspoints change (sym alike ∙ carries))

-- moved destinations are those of changes
pub moved-within : (changes : List Change) (crosspoints : Crosspoints) (P : ℕ → Type 0) → All (λ change. P change.dest) changes → All P (moved crosspoints changes)
moved-within changes crosspoints P all =
    All-map P (λ (change : Change). change.dest) (filter (λ (change : Change). not (is_idle crosspoints change)) changes) (All-filter _ (λ (change : Change). P change.dest) changes all)

-- only what changes name is moved by them
pub moved-applied : (plant : PlantData) (old new : Crosspoints) (changes : List Change) → new ≡ applied plant old changes → MovedOnly old new changes
moved-applied plant old new changes made dest unnamed =
    ap (λ points. finite.get points dest) made
    ∙ get-applied_other plant old changes dest
    (λ k change below same. unnamed (k, omega (arith, below, length-map changes dest_of), get_or-map dest_of changes k change dest below ∙ same))
  where
    dest_of : Change → ℕ
    dest_of change = change.dest

-- where none of the changes is idle, each moves what it names
pub moves-applied : (plant : PlantData) (old new : Crosspoints) (changes : List Change) → NamesOnce changes → All (λ change. is_idle old change ≡ false) changes → new ≡ applied plant old changes → AreMoves old new changes
moves-applied plant old new changes once busy made = record {
  only = moved-applied plant old new changes made;
  each = each_named (λ dest. has_moved old new dest ≡ true) changes moves;
  once = once;
}
  where
    moves : All (λ (change : Change). has_moved old new change.dest ≡ true) changes
    moves k d below =
        let change : Change = get_or changes k d in
        let carries : source_of new change.dest ≡ change.source = ap (λ points. source_of points change.dest) made ∙ source_of-applied plant old changes once k d below in
        ap (λ source. not (option_eq nat_eq (source_of old change.dest) source)) carries ∙ ap not (busy k d below)
