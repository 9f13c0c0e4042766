-- What is left is live, and what is marked and closed is all that is live.
use Rattle.std.proofs.Common.{◌≡◌, ℕ, ◌==◌, nat_eq, Bool, true, false, not, ◌&&◌, ◌||◌, List, slice_get, Some, refl, sym, ap, subst, ◌∙◌, eqb-true}
use Rattle.std.proofs.lemmas.Bool.{and_parts, and_from, or_right, both_ways}
use Rattle.std.specs.Option.{option_map, option_map_or, option_and_then, option_eq}
use Rattle.std.specs.FinMap.{get}
use Rattle.plant_config.specs.declared.records.Bus.{Bus}
use Rattle.plant_config.specs.Plant.{PlantData}
use Rattle.plant_config.specs.Sources.{origin_of}
use Rattle.crosspoint_state.specs.declared.spot.Spot.{Spot}
use Rattle.crosspoint_state.specs.Crosspoints.{Crosspoints}
use Rattle.mixer_effects.specs.Buses.{is_bus_on, output_of}
use Rattle.mixer_effects.specs.Live.{is_fed_by, is_live}
use Rattle.mixer_effects.specs.Laws.{AreClosed, LiveIsLeast}
use Rattle.mixer_effects.proofs.AnyLemmas.{any_place}
use Rattle.tally.specs.Tally.{is_root}
use Rattle.tally.specs.Left.{AreLeftOver, LeftAreLive}

-- what stands where nothing moved is fed as it was
same_fed : (plant : PlantData) (old new : Crosspoints) (device dest : ℕ) → get new dest ≡ get old dest → is_fed_by plant new device dest ≡ is_fed_by plant old device dest
same_fed plant old new device dest same =
    ap (λ spot. option_map_or (λ output. option_eq nat_eq (option_and_then (origin_of plant) (option_map (λ (spot : Spot). spot.source) spot)) (Some output)) (output_of plant device) false) same

module _ (plant : PlantData) (old new : Crosspoints) (roots : List ℕ) (is_left : ℕ → Bool) (before : LiveIsLeast plant old roots) (after : LiveIsLeast plant new roots) (are : AreLeftOver plant old new roots is_left) where
  -- what was live, and is live where it is left
  abbrev stays : ℕ → Bool
  stays dest = is_live plant old roots dest && (not (is_left dest) || is_live plant new roots dest)

  root_lives : (dest : ℕ) → is_root roots dest ≡ true → is_live plant new roots dest ≡ true
  root_lives dest root =
      let found = any_place (λ root. root == dest) roots root in
      subst (λ dest. is_live plant new roots dest ≡ true) (eqb-true found.1 dest found.3) (after.closed.has_roots found.0 found.1 found.2)

  -- a bus that is left is live where its device feeds a destination that stays
  bus_lives : (place dest : ℕ) (bus : Bus) → slice_get plant.buses place ≡ Some bus → is_bus_on plant old bus ≡ true → is_live plant old roots dest ≡ true → (not (is_left dest) || is_live plant new roots dest) ≡ true → is_fed_by plant old bus.device dest ≡ true →
      is_left bus.dest ≡ true → (a b : Bool) → is_root roots bus.dest ≡ a → is_left dest ≡ b → is_live plant new roots bus.dest ≡ true
  bus_lives place dest bus at on lived stays fed left true b root here = root_lives bus.dest root
  bus_lives place dest bus at on lived stays fed left false false root here =
      absurd (both_ways (is_left bus.dest) (are.followed place dest bus at lived here fed root) left)
  bus_lives place dest bus at on lived stays fed left false true root here =
      let lives : is_live plant new roots dest ≡ true = ap (λ b. not b || is_live plant new roots dest) (sym here) ∙ stays in
      after.closed.has_buses place dest bus at (are.switches place bus at left ∙ on) lives (same_fed plant old new bus.device dest (are.stood dest here) ∙ fed)

  or_not : (b c : Bool) → (b ≡ true → c ≡ true) → (not b || c) ≡ true
  or_not true c then = then refl
  or_not false c then = refl

  closed : AreClosed plant old roots stays
  closed = record {
    has_roots = λ place root at. and_from (is_live plant old roots root) (not (is_left root) || is_live plant new roots root)
        (before.closed.has_roots place root at)
        (or_right (not (is_left root)) (is_live plant new roots root) (after.closed.has_roots place root at));
    has_buses = λ place dest bus at on among fed.
        let parts = and_parts (is_live plant old roots dest) (not (is_left dest) || is_live plant new roots dest) among in
        and_from (is_live plant old roots bus.dest) (not (is_left bus.dest) || is_live plant new roots bus.dest)
        (before.closed.has_buses place dest bus at on parts.0 fed)
        (or_not (is_left bus.dest) (is_live plant new roots bus.dest) (λ left. bus_lives place dest bus at on parts.0 parts.1 fed left (is_root roots bus.dest) (is_left dest) refl refl));
  }

  pub left_live : LeftAreLive plant old new roots is_left
  left_live dest lived left =
      let parts = and_parts (is_live plant old roots dest) (not (is_left dest) || is_live plant new roots dest) (before.least stays closed dest lived) in
      ap (λ b. not b || is_live plant new roots dest) (sym left) ∙ parts.1
