-- What the rounds reach: how each follows from the one before, and that so many rounds as there are devices are enough.
use Rattle.std.proofs.Common.{◌≡◌, ◌≢◌, ◌⊎◌, ℕ, ◌≤◌, ◌<◌, Bool, true, false, ◌&&◌, ◌||◌, List, [], map, filter, length, count_by, slice_get, Option, Some, None, zero, suc, inl, inr, refl, sym, ap, subst, ◌∙◌, arith}
use Rattle.std.proofs.lemmas.Bool.{and_right, or_left, cases_eq, cases_lt}
use Rattle.std.proofs.lemmas.List.Folds.{list_any-append}
use Rattle.std.proofs.lemmas.List.Sums.{count_by-le-length}
use Rattle.std.specs.List.{list_any}
use Rattle.std.specs.Option.{option_map, option_map_or}
use Rattle.plant_config.specs.declared.records.Device.{Device}
use Rattle.plant_config.specs.declared.records.Bus.{Bus}
use Rattle.plant_config.specs.Plant.{PlantData}
use Rattle.crosspoint_state.specs.Crosspoints.{Crosspoints}
use Rattle.mixer_effects.specs.Buses.{is_bus_on}
use Rattle.mixer_effects.specs.Live.{carries, is_fed_by, buses_behind, reach}
use Rattle.mixer_effects.proofs.AnyLemmas.{any-map, any-filter, any_never, filter_never, count_wider, count_same, count_none}

-- One more round reaches nothing that passes a test which nothing passed before.
pub record IsFixed (plant : PlantData) (points : Crosspoints) (roots : List ℕ) (round : ℕ) : Type 0 where
  pub same : (p : ℕ → Bool) → list_any p (reach plant points roots (suc round)) ≡ list_any p (reach plant points roots round)

or_again : (a b : Bool) → ((a || b) || b) ≡ (a || b)
or_again true b = refl
or_again false true = refl
or_again false false = refl

or_false : (a : Bool) → (a || false) ≡ a
or_false true = refl
or_false false = refl

module _ (plant : PlantData) (points : Crosspoints) where
  -- whether some bus that is on passes, of a device that feeds one of these destinations
  pub any_behind : (dests : List ℕ) (p : ℕ → Bool) → list_any p (buses_behind plant points dests) ≡ list_any (λ (bus : Bus). (is_bus_on plant points bus && list_any (is_fed_by plant points bus.device) dests) && p bus.dest) plant.buses
  any_behind dests p =
      any-map p (λ (bus : Bus). bus.dest) (filter (λ (bus : Bus). is_bus_on plant points bus && list_any (is_fed_by plant points bus.device) dests) plant.buses)
      ∙ any-filter (λ (bus : Bus). p bus.dest) (λ (bus : Bus). is_bus_on plant points bus && list_any (is_fed_by plant points bus.device) dests) plant.buses

  -- the same buses stand behind where the same devices feed
  pub same_behind : (one other : List ℕ) → ((device : ℕ) → list_any (is_fed_by plant points device) one ≡ list_any (is_fed_by plant points device) other) → buses_behind plant points one ≡ buses_behind plant points other
  same_behind one other same =
      λ i. map (λ (bus : Bus). bus.dest) (filter (λ (bus : Bus). is_bus_on plant points bus && same bus.device i) plant.buses)

  -- no bus stands behind where no device feeds
  pub none_behind : (dests : List ℕ) → ((device : ℕ) → list_any (is_fed_by plant points device) dests ≡ false) → buses_behind plant points dests ≡ []
  none_behind dests none =
      let off : (bus : Bus) → (is_bus_on plant points bus && list_any (is_fed_by plant points bus.device) dests) ≡ false = λ bus. and_right (is_bus_on plant points bus) (list_any (is_fed_by plant points bus.device) dests) (none bus.device) in
      let all : filter (λ (bus : Bus). is_bus_on plant points bus && list_any (is_fed_by plant points bus.device) dests) plant.buses ≡ [] = (λ i. filter (λ (bus : Bus). off bus i) plant.buses) ∙ filter_never plant.buses in
      ap (map (λ (bus : Bus). bus.dest)) all

  -- whether a destination carries what a device puts out, if there is one
  abbrev fed : Option Device → ℕ → Bool
  fed found dest = option_map_or (λ (output : ℕ). carries plant points output dest) (option_map (λ (found : Device). found.output) found) false

  -- what is so of each device's output, for the destinations that it feeds, is so of the device
  fed_alike : (one other : List ℕ) → ((place : ℕ) (found : Device) → slice_get plant.devices place ≡ Some found → list_any (carries plant points found.output) one ≡ list_any (carries plant points found.output) other) →
      (device : ℕ) → list_any (is_fed_by plant points device) one ≡ list_any (is_fed_by plant points device) other
  fed_alike one other alike device = by (slice_get plant.devices device) refl
    where
      by : (found : Option Device) → slice_get plant.devices device ≡ found → list_any (fed found) one ≡ list_any (fed found) other
      by None at = any_never one ∙ sym (any_never other)
      by (Some found) at = alike device found at

  fed_none : (dests : List ℕ) → ((place : ℕ) (found : Device) → slice_get plant.devices place ≡ Some found → list_any (carries plant points found.output) dests ≡ false) →
      (device : ℕ) → list_any (is_fed_by plant points device) dests ≡ false
  fed_none dests none device = by (slice_get plant.devices device) refl
    where
      by : (found : Option Device) → slice_get plant.devices device ≡ found → list_any (fed found) dests ≡ false
      by None at = any_never dests
      by (Some found) at = none device found at

module _ (plant : PlantData) (points : Crosspoints) (roots : List ℕ) where
  -- one more round
  pub reach-step : (p : ℕ → Bool) (round : ℕ) → list_any p (reach plant points roots (suc round)) ≡ (list_any p (reach plant points roots round) || list_any p (buses_behind plant points (reach plant points roots round)))
  reach-step p round = list_any-append p (reach plant points roots round) (buses_behind plant points (reach plant points roots round))

  grows : (p : ℕ → Bool) (round : ℕ) → list_any p (reach plant points roots round) ≡ true → list_any p (reach plant points roots (suc round)) ≡ true
  grows p round some =
      reach-step p round
      ∙ or_left (list_any p (reach plant points roots round)) (list_any p (buses_behind plant points (reach plant points roots round))) some

  -- what is reached stays reached
  pub reach-grows : (p : ℕ → Bool) (round later : ℕ) → round ≤ later → list_any p (reach plant points roots round) ≡ true → list_any p (reach plant points roots later) ≡ true
  reach-grows p round zero before some =
      let here : round ≡ 0 = omega (arith, before) in
      subst (λ (round : ℕ). list_any p (reach plant points roots round) ≡ true) here some
  reach-grows p round (suc later) before some = by (cases_lt later round) (λ earlier. reach-grows p round later earlier some)
    where
      by : (later < round) ⊎ (round ≤ later) → (round ≤ later → list_any p (reach plant points roots later) ≡ true) → list_any p (reach plant points roots (suc later)) ≡ true
      by (inl last) still =
          let here : round ≡ suc later = omega (arith, last, before) in
          subst (λ (round : ℕ). list_any p (reach plant points roots round) ≡ true) here some
      by (inr earlier) still = grows p later (still earlier)

  -- Where the same devices feed what is reached as one round before, nothing more is reached.
  next_fixed : (round : ℕ) → ((device : ℕ) → list_any (is_fed_by plant points device) (reach plant points roots (suc round)) ≡ list_any (is_fed_by plant points device) (reach plant points roots round)) → IsFixed plant points roots (suc round)
  next_fixed round same = record {
    same = λ p.
        reach-step p (suc round)
        ∙ ap (λ (behind : List ℕ). list_any p (reach plant points roots (suc round)) || list_any p behind) (same_behind plant points (reach plant points roots (suc round)) (reach plant points roots round) same)
        ∙ ap (λ b. b || list_any p (buses_behind plant points (reach plant points roots round))) (reach-step p round)
        ∙ or_again (list_any p (reach plant points roots round)) (list_any p (buses_behind plant points (reach plant points roots round)))
        ∙ sym (reach-step p round);
  }

  -- Where one more round reaches nothing new, no later one does.
  pub reach-fixed : (round later : ℕ) → round ≤ later → IsFixed plant points roots round → IsFixed plant points roots later
  reach-fixed round zero before fixed =
      let here : round ≡ 0 = omega (arith, before) in
      subst (IsFixed plant points roots) here fixed
  reach-fixed round (suc later) before fixed = by (cases_lt later round) (λ earlier. reach-fixed round later earlier fixed)
    where
      by : (later < round) ⊎ (round ≤ later) → (round ≤ later → IsFixed plant points roots later) → IsFixed plant points roots (suc later)
      by (inl last) still =
          let here : round ≡ suc later = omega (arith, last, before) in
          subst (IsFixed plant points roots) here fixed
      by (inr earlier) still = next_fixed later (λ device. (still earlier).same (is_fed_by plant points device))

  -- so nothing is reached later that isn't reached now
  pub fixed-stays : (round later : ℕ) → round ≤ later → IsFixed plant points roots round → (p : ℕ → Bool) → list_any p (reach plant points roots later) ≡ list_any p (reach plant points roots round)
  fixed-stays round zero before fixed p =
      let here : 0 ≡ round = omega (arith, before) in
      ap (λ (round : ℕ). list_any p (reach plant points roots round)) here
  fixed-stays round (suc later) before fixed p = by (cases_lt later round) (λ earlier. fixed-stays round later earlier fixed p)
    where
      by : (later < round) ⊎ (round ≤ later) → (round ≤ later → list_any p (reach plant points roots later) ≡ list_any p (reach plant points roots round)) → list_any p (reach plant points roots (suc later)) ≡ list_any p (reach plant points roots round)
      by (inl last) still =
          let here : suc later ≡ round = omega (arith, last, before) in
          ap (λ (round : ℕ). list_any p (reach plant points roots round)) here
      by (inr earlier) stays =
          let still = reach-fixed round later earlier fixed in
          still.same p ∙ stays earlier

  -- Where one more round brings no new origin, the next one reaches nothing new.
  pub origins-fixed : (round : ℕ) → ((origin : ℕ) → list_any (carries plant points origin) (reach plant points roots (suc round)) ≡ list_any (carries plant points origin) (reach plant points roots round)) → IsFixed plant points roots (suc round)
  origins-fixed round same =
      next_fixed round (fed_alike plant points (reach plant points roots (suc round)) (reach plant points roots round) (λ place found at. same found.output))

  -- Where one more round brings no new origin, no later one does.
  pub origins-stay : (round later : ℕ) → round ≤ later → ((origin : ℕ) → list_any (carries plant points origin) (reach plant points roots (suc round)) ≡ list_any (carries plant points origin) (reach plant points roots round)) →
      (origin : ℕ) → list_any (carries plant points origin) (reach plant points roots later) ≡ list_any (carries plant points origin) (reach plant points roots round)
  origins-stay round later before same origin = by (cases_eq round later)
    where
      by : (round ≡ later) ⊎ (round ≢ later) → list_any (carries plant points origin) (reach plant points roots later) ≡ list_any (carries plant points origin) (reach plant points roots round)
      by (inl here) = ap (λ (round : ℕ). list_any (carries plant points origin) (reach plant points roots round)) (sym here)
      by (inr apart) =
          fixed-stays (suc round) later (omega (arith, apart, before)) (origins-fixed round same) (carries plant points origin)
          ∙ same origin

  -- how many devices feed what is reached
  feeding : ℕ → ℕ
  feeding round = count_by (λ (found : Device). list_any (carries plant points found.output) (reach plant points roots round)) plant.devices

  feeding_grows : (round : ℕ) → feeding round ≤ feeding (suc round)
  unfolding feeding
  feeding_grows round =
      count_wider (λ (found : Device). list_any (carries plant points found.output) (reach plant points roots round)) (λ (found : Device). list_any (carries plant points found.output) (reach plant points roots (suc round)))
      (λ found. grows (carries plant points found.output) round) plant.devices

  feeding_same : (round : ℕ) → feeding (suc round) ≡ feeding round → IsFixed plant points roots (suc round)
  unfolding feeding
  feeding_same round same =
      next_fixed round (fed_alike plant points (reach plant points roots (suc round)) (reach plant points roots round)
      (count_same (λ (found : Device). list_any (carries plant points found.output) (reach plant points roots round)) (λ (found : Device). list_any (carries plant points found.output) (reach plant points roots (suc round)))
      (λ found. grows (carries plant points found.output) round) plant.devices same))

  feeding_none : feeding 0 ≡ 0 → IsFixed plant points roots 0
  unfolding feeding
  feeding_none none =
      let nothing = none_behind plant points roots (fed_none plant points roots (count_none (λ (found : Device). list_any (carries plant points found.output) roots) plant.devices none)) in
      record {
        same = λ p.
            reach-step p 0
            ∙ ap (λ (behind : List ℕ). list_any p roots || list_any p behind) nothing
            ∙ or_false (list_any p roots);
      }

  feeding_few : (round : ℕ) → feeding round ≤ length plant.devices
  unfolding feeding
  feeding_few round = count_by-le-length (λ (found : Device). list_any (carries plant points found.output) (reach plant points roots round)) plant.devices

  -- While something new is reached, one more device feeds in each round.
  settles : (round : ℕ) → IsFixed plant points roots round ⊎ (suc round ≤ feeding round)
  settles zero = by (cases_eq (feeding 0) 0)
    where
      by : (feeding 0 ≡ 0) ⊎ (feeding 0 ≢ 0) → IsFixed plant points roots 0 ⊎ (1 ≤ feeding 0)
      by (inl none) = inl (feeding_none none)
      by (inr some) = inr (omega (arith, some))
  settles (suc round) = by (settles round) (cases_eq (feeding (suc round)) (feeding round)) (feeding_grows round)
    where
      by : IsFixed plant points roots round ⊎ (suc round ≤ feeding round) → (feeding (suc round) ≡ feeding round) ⊎ (feeding (suc round) ≢ feeding round) → feeding round ≤ feeding (suc round) → IsFixed plant points roots (suc round) ⊎ (suc (suc round) ≤ feeding (suc round))
      by (inl fixed) more wider = inl (reach-fixed round (suc round) (omega arith) fixed)
      by (inr many) (inl same) wider = inl (feeding_same round same)
      by (inr many) (inr more) wider = inr (omega (arith, many, more, wider))

  -- So many rounds as there are devices are enough.
  pub end-fixed : IsFixed plant points roots (length plant.devices)
  end-fixed = by (settles (length plant.devices)) (feeding_few (length plant.devices))
    where
      by : IsFixed plant points roots (length plant.devices) ⊎ (suc (length plant.devices) ≤ feeding (length plant.devices)) → feeding (length plant.devices) ≤ length plant.devices → IsFixed plant points roots (length plant.devices)
      by (inl fixed) few = fixed
      by (inr many) few = absurd (omega (arith, many, few))
