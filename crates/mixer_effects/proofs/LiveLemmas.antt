-- The laws of what is live and of what is seen.
use Rattle.std.proofs.Common.{◌≡◌, ◌⊎◌, ℕ, ◌==◌, nat_eq, Bool, true, false, not, ◌&&◌, List, length, slice_get, Option, Some, None, zero, suc, inl, inr, refl, sym, ap, subst, ◌∙◌, arith, eq-eqb, eqb-true}
use Rattle.std.proofs.lemmas.Bool.{and_parts, and_from, or_cases, or_right, both_ways, false_from_ne_true}
use Rattle.std.proofs.lemmas.Map.Keys.{any_passes_from_place}
use Rattle.std.specs.List.{list_any}
use Rattle.std.specs.Option.{option_map, option_map_or, option_and_then, option_eq, MatchOption}
use Rattle.plant_config.specs.declared.records.Bus.{Bus}
use Rattle.plant_config.specs.Plant.{PlantData}
use Rattle.plant_config.specs.IsPlant.{IsPlant}
use Rattle.plant_config.specs.Sites.{source_number_of}
use Rattle.plant_config.specs.Sources.{origin_of}
use Rattle.plant_config.proofs.OriginLemmas.{buses_differ}
use Rattle.crosspoint_state.specs.Crosspoints.{Crosspoints, source_of}
use Rattle.mixer_effects.specs.Buses.{is_switch_on, is_bus_on}
use Rattle.mixer_effects.specs.Live.{carries, is_fed_by, buses_behind, reach, live, is_live, is_origin_seen, is_seen}
use Rattle.mixer_effects.specs.Laws.{HasRoots, HasBusesBehind, AreClosed, LiveIsLeast, RootsAreSeen, CutIsDark, IsSwitchCut, IsNoRoot, SwitchesCut}
use Rattle.mixer_effects.proofs.AnyLemmas.{any_place}
use Rattle.mixer_effects.proofs.ReachLemmas.{any_behind, reach-step, reach-grows, end-fixed}

module _ (plant : PlantData) (points : Crosspoints) (roots : List ℕ) where
  -- a root is live
  pub root_live : HasRoots roots (is_live plant points roots)
  root_live place root at =
      let here = any_passes_from_place (λ other. other == root) roots place root at (eq-eqb root root refl) in
      reach-grows plant points roots (λ other. other == root) 0 (length plant.devices) (omega arith) here

  -- a bus behind what is reached is reached by one more round
  behind : (round place dest : ℕ) (bus : Bus) → slice_get plant.buses place ≡ Some bus → is_bus_on plant points bus ≡ true → list_any (λ other. other == dest) (reach plant points roots round) ≡ true → is_fed_by plant points bus.device dest ≡ true →
      list_any (λ other. other == bus.dest) (reach plant points roots (suc round)) ≡ true
  behind round place dest bus at on reached fed =
      let found = any_place (λ other. other == dest) (reach plant points roots round) reached in
      let same : dest ≡ found.1 = sym (eqb-true found.1 dest found.3) in
      let feeds = any_passes_from_place (is_fed_by plant points bus.device) (reach plant points roots round) found.0 found.1 found.2 (subst (λ (dest : ℕ). is_fed_by plant points bus.device dest ≡ true) same fed) in
      let passes = and_from (is_bus_on plant points bus && list_any (is_fed_by plant points bus.device) (reach plant points roots round)) (bus.dest == bus.dest) (and_from (is_bus_on plant points bus) (list_any (is_fed_by plant points bus.device) (reach plant points roots round)) on feeds) (eq-eqb bus.dest bus.dest refl) in
      let one = any_passes_from_place (λ (it : Bus). (is_bus_on plant points it && list_any (is_fed_by plant points it.device) (reach plant points roots round)) && it.dest == bus.dest) plant.buses place bus at passes in
      let stands = any_behind plant points (reach plant points roots round) (λ other. other == bus.dest) ∙ one in
      reach-step plant points roots (λ other. other == bus.dest) round
      ∙ or_right (list_any (λ other. other == bus.dest) (reach plant points roots round)) (list_any (λ other. other == bus.dest) (buses_behind plant points (reach plant points roots round))) stands

  -- a bus behind a live destination is live
  pub bus_live : HasBusesBehind plant points (is_live plant points roots)
  bus_live place dest bus at on reached fed =
      let fixed = end-fixed plant points roots in
      sym (fixed.same (λ other. other == bus.dest)) ∙ behind (length plant.devices) place dest bus at on reached fed

  -- a bus that a round reaches stands behind what the round before reached
  pub bus_behind : (round dest : ℕ) → list_any (λ other. other == dest) (buses_behind plant points (reach plant points roots round)) ≡ true →
      (place : ℕ) × (bus : Bus) × (feeding : ℕ) × (other : ℕ) × (slice_get plant.buses place ≡ Some bus) × (is_bus_on plant points bus ≡ true) × (slice_get (reach plant points roots round) feeding ≡ Some other) × (is_fed_by plant points bus.device other ≡ true) × (bus.dest ≡ dest)
  bus_behind round dest some =
      let one = any_place (λ (it : Bus). (is_bus_on plant points it && list_any (is_fed_by plant points it.device) (reach plant points roots round)) && it.dest == dest) plant.buses (sym (any_behind plant points (reach plant points roots round) (λ other. other == dest)) ∙ some) in
      let bus : Bus = one.1 in
      let parts = and_parts (is_bus_on plant points bus && list_any (is_fed_by plant points bus.device) (reach plant points roots round)) (bus.dest == dest) one.3 in
      let both = and_parts (is_bus_on plant points bus) (list_any (is_fed_by plant points bus.device) (reach plant points roots round)) parts.0 in
      let feeds = any_place (is_fed_by plant points bus.device) (reach plant points roots round) both.1 in
      (one.0, bus, feeds.0, feeds.1, one.2, both.0, feeds.2, feeds.3, eqb-true bus.dest dest parts.1)

  -- what is reached is among all that are closed
  reach_among : (is_among : ℕ → Bool) → AreClosed plant points roots is_among → (round dest : ℕ) → list_any (λ other. other == dest) (reach plant points roots round) ≡ true → is_among dest ≡ true
  reach_among is_among closed zero dest reached =
      let found = any_place (λ other. other == dest) roots reached in
      subst (λ (dest : ℕ). is_among dest ≡ true) (eqb-true found.1 dest found.3) (closed.has_roots found.0 found.1 found.2)
  reach_among is_among closed (suc round) dest reached =
      by (or_cases (list_any (λ other. other == dest) (reach plant points roots round)) (list_any (λ other. other == dest) (buses_behind plant points (reach plant points roots round))) (sym (reach-step plant points roots (λ other. other == dest) round) ∙ reached)) (reach_among is_among closed round)
    where
      by : (list_any (λ other. other == dest) (reach plant points roots round) ≡ true) ⊎ (list_any (λ other. other == dest) (buses_behind plant points (reach plant points roots round)) ≡ true) → ((dest : ℕ) → list_any (λ other. other == dest) (reach plant points roots round) ≡ true → is_among dest ≡ true) → is_among dest ≡ true
      by (inl before) earlier = earlier dest before
      by (inr new) earlier =
          let it = bus_behind round dest new in
          let bus : Bus = it.1 in
          let other : ℕ = it.3 in
          let there = any_passes_from_place (λ (one : ℕ). one == other) (reach plant points roots round) it.2 other it.6 (eq-eqb other other refl) in
          let among = earlier other there in
          subst (λ (dest : ℕ). is_among dest ≡ true) it.8 (closed.has_buses it.0 other bus it.4 it.5 among it.7)

  pub live_is_least : LiveIsLeast plant points roots
  live_is_least = record {
    closed = record { has_roots = root_live; has_buses = bus_live };
    least = λ is_among closed dest reached. reach_among is_among closed (length plant.devices) dest reached;
  }

  -- a source is seen where its origin is
  pub seen-origin : (source origin : ℕ) → origin_of plant source ≡ Some origin → is_seen plant points roots source ≡ is_origin_seen plant points roots origin
  seen-origin source origin from = ap (λ found. option_map_or (is_origin_seen plant points roots) found false) from

  pub roots_are_seen : RootsAreSeen plant points roots
  roots_are_seen place root source origin at carried from =
      let here : carries plant points origin root ≡ true = ap (λ found. option_eq nat_eq (option_and_then (origin_of plant) found) (Some origin)) carried ∙ ap (λ found. option_eq nat_eq found (Some origin)) from ∙ eq-eqb origin origin refl in
      let at_root = any_passes_from_place (carries plant points origin) roots place root at here in
      seen-origin source origin from
      ∙ reach-grows plant points roots (carries plant points origin) 0 (length plant.devices) (omega arith) at_root

  pub cut_is_dark : CutIsDark plant points roots
  cut_is_dark is_among source closed none = by (origin_of plant source) refl
    where
      by : (found : Option ℕ) → origin_of plant source ≡ found → option_map_or (is_origin_seen plant points roots) found false ≡ false
      by None from = refl
      by (Some origin) from = false_from_ne_true (is_origin_seen plant points roots origin) (λ seen.
          let found = any_place (carries plant points origin) (live plant points roots) seen in
          let there = any_passes_from_place (λ (one : ℕ). one == found.1) (live plant points roots) found.0 found.1 found.2 (eq-eqb found.1 found.1 refl) in
          both_ways (carries plant points origin found.1) (none found.1 origin (reach_among is_among closed (length plant.devices) found.1 there) from) found.3)

-- a switch that is cut isn't on
cut_off : (plant : PlantData) (points : Crosspoints) (switch : ℕ) → IsSwitchCut plant points switch → is_switch_on plant points switch ≡ false
cut_off plant points switch cut = by (source_of points switch) cut
  where
    by : (found : Option ℕ) → MatchOption found Unit (λ source. source_number_of plant source ≡ Some 0) → option_map_or (λ number. not (number == 0)) (option_and_then (source_number_of plant) found) false ≡ false
    by None cut = refl
    by (Some source) cut = ap (λ number. option_map_or (λ number. not (number == 0)) number false) cut

-- one destination is one bus
one_bus : (plant : PlantData) → IsPlant plant → (place other : ℕ) (bus same : Bus) → slice_get plant.buses place ≡ Some bus → slice_get plant.buses other ≡ Some same → same.dest ≡ bus.dest → same ≡ bus
one_bus plant is place other bus same at there dest =
    let differ = buses_differ plant is in
    let here : place ≡ other = differ place other bus.dest (ap (option_map (λ (found : Bus). found.dest)) at) (ap (option_map (λ (found : Bus). found.dest)) there ∙ ap Some dest) in
    let both : Some same ≡ Some bus = sym there ∙ ap (slice_get plant.buses) (sym here) ∙ at in
    cc

module _ (plant : PlantData) (points : Crosspoints) (roots : List ℕ) (is : IsPlant plant) where
  -- no round reaches a bus that is off and no root
  off_unreached : (place : ℕ) (bus : Bus) → slice_get plant.buses place ≡ Some bus → is_bus_on plant points bus ≡ false → IsNoRoot roots bus.dest → (round : ℕ) → list_any (λ other. other == bus.dest) (reach plant points roots round) ≡ true → ⊥
  off_unreached place bus at off no_root zero reached =
      let found = any_place (λ other. other == bus.dest) roots reached in
      no_root found.0 (found.2 ∙ ap Some (eqb-true found.1 bus.dest found.3))
  off_unreached place bus at off no_root (suc round) reached =
      by (or_cases (list_any (λ other. other == bus.dest) (reach plant points roots round)) (list_any (λ other. other == bus.dest) (buses_behind plant points (reach plant points roots round))) (sym (reach-step plant points roots (λ other. other == bus.dest) round) ∙ reached)) (off_unreached place bus at off no_root round)
    where
      by : (list_any (λ other. other == bus.dest) (reach plant points roots round) ≡ true) ⊎ (list_any (λ other. other == bus.dest) (buses_behind plant points (reach plant points roots round)) ≡ true) → (list_any (λ other. other == bus.dest) (reach plant points roots round) ≡ true → ⊥) → ⊥
      by (inl before) earlier = earlier before
      by (inr new) earlier =
          let it = bus_behind plant points roots round bus.dest new in
          let same : Bus = it.1 in
          let one = one_bus plant is place it.0 bus same at it.4 it.8 in
          both_ways (is_bus_on plant points bus) off (subst (λ (bus : Bus). is_bus_on plant points bus ≡ true) one it.5)

  pub switches_cut : SwitchesCut plant points roots
  switches_cut place switch bus at switched cut no_root =
      let off : is_bus_on plant points bus ≡ false = ap (λ switch. option_map_or (is_switch_on plant points) switch true) switched ∙ cut_off plant points switch cut in
      false_from_ne_true (is_live plant points roots bus.dest) (off_unreached place bus at off no_root (length plant.devices))
