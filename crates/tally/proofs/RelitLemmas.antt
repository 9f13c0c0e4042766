-- Destinations that were looked at again, none, one, and some after others.
use Rattle.std.proofs.Common.{◌≡◌, ◌≢◌, ◌⊎◌, ℕ, ◌<◌, ◌==◌, Bool, true, false, not, ◌&&◌, List, [], ◌∷◌, ◌++◌, length, slice_get, Some, inl, inr, refl, sym, ap, subst, ◌∙◌, arith, eq-eqb, eqb-true, append_assoc}
use Rattle.std.proofs.lemmas.Bool.{or_cases, or_left, or_right, or_parts, both_ways, cases_eq, ne_eqb}
use Rattle.std.proofs.lemmas.List.Elements.{Contains-append_left, Contains-append_right}
use Rattle.std.specs.Option.{option_map_or}
use Rattle.std.specs.List.{Contains}
use Rattle.std.specs.FinSet.{contains, remove}
use Rattle.number_tables.proofs.Members.{contains_removed}
use Rattle.plant_config.specs.declared.records.Bus.{Bus}
use Rattle.plant_config.specs.Limits.{device_limit}
use Rattle.plant_config.specs.Plant.{PlantData}
use Rattle.plant_config.specs.IsPlant.{IsPlant}
use Rattle.crosspoint_state.specs.Crosspoints.{Crosspoints}
use Rattle.mixer_effects.specs.Buses.{is_bus_on, is_on, device_at, buses_at}
use Rattle.mixer_effects.specs.Live.{is_live}
use Rattle.mixer_effects.proofs.LiveLemmas.{live_is_least}
use Rattle.mixer_effects.proofs.AnyLemmas.{any_place}
use Rattle.tally.specs.Tally.{Origins, is_root}
use Rattle.tally.specs.Marks.{Marks, AreMarksOf}
use Rattle.tally.specs.MarksInside.{StayTurned}
use Rattle.tally.specs.MarkLaws.{AreSound}
use Rattle.tally.specs.Lost.{AreRoots}
use Rattle.tally.specs.Relit.{IsMarkedOrLeft, AreLighting, is_reached, MarksOne, AreFedMore, WaitOnceFed, AreRelit}
use Rattle.tally.proofs.ListLemmas.{first_or_behind}
use Rattle.tally.proofs.BusLemmas.{is_of_device}
use Rattle.tally.proofs.FedLemmas.{fed_lives, fed_bus, fed_bus_reached}
use Rattle.tally.proofs.WeightLemmas.{weigh_removed}

pub fed_same : (plant : PlantData) (fed waiting : Origins) → AreFedMore plant fed fed waiting waiting
fed_same plant fed waiting = record {
  more = λ device has. has;
  below = λ device has. inl has;
  within = λ device has. inl has;
  work = λ weight. omega arith;
}

pub fed_then : (plant : PlantData) (a b c u v w : Origins) → AreFedMore plant a b u v → AreFedMore plant b c v w → AreFedMore plant a c u w
fed_then plant a b c u v w one two = record {
  more = λ device has. two.more device (one.more device has);
  below = λ device has. by device (two.below device has);
  within = λ device has. there device (two.within device has);
  work = λ weight. omega (arith, one.work weight, two.work weight);
}
  where
    by : (device : ℕ) → (contains v device ≡ true) ⊎ (device < length plant.devices) → (contains u device ≡ true) ⊎ (device < length plant.devices)
    by device (inl was) = one.below device was
    by device (inr below) = inr below

    there : (device : ℕ) → (contains b device ≡ true) ⊎ (device < length plant.devices) → (contains a device ≡ true) ⊎ (device < length plant.devices)
    there device (inl was) = one.within device was
    there device (inr below) = inr below

module _ (plant : PlantData) (points : Crosspoints) (set : Origins) where
  pub relit_none : (marks : Marks) (waiting : Origins) → AreRelit plant points set [] marks marks waiting waiting
  relit_none marks waiting = record {
    lighting = λ roots left same lights. lights;
    kept = λ are. are;
    turned = λ was are. are;
    fed = fed_same plant marks.fed waiting;
  }

  pub relit_then : (xs ys : List ℕ) (a b c : Marks) (u v w : Origins) → AreRelit plant points set xs a b u v → AreRelit plant points set ys b c v w → AreRelit plant points set (xs ++ ys) a c u w
  relit_then xs ys a b c u v w one two = record {
    lighting = λ roots left same lights.
        two.lighting roots left same
        (one.lighting roots (ys ++ left) same
        (subst (λ (left : List ℕ). AreLighting plant points roots left a u) (append_assoc xs ys left) lights));
    kept = λ are. two.kept (one.kept are);
    turned = λ was are. two.turned was (one.turned was are);
    fed = fed_then plant a.fed b.fed c.fed u v w one.fed two.fed;
  }

  module _ (is : IsPlant plant) (dest : ℕ) (marks : Marks) (waiting : Origins) where
    -- a destination that isn't reached
    pub relit_not : is_reached plant points set marks dest ≡ false → AreRelit plant points set (dest ∷ []) marks marks waiting waiting
    relit_not unreached = record {
      lighting = λ roots left same lights. record {
        kept = lights.kept;
        sound = lights.sound;
        rooted = λ other is_one. root_left roots left same other is_one (lights.rooted other is_one);
        buses = λ place bus at on fed. bus_left left place bus at on fed (lights.buses place bus at on fed);
      };
      kept = λ are. are;
      turned = λ was are. are;
      fed = fed_same plant marks.fed waiting;
    }
      where
        no_root : contains set dest ≡ false
        no_root = (or_parts (contains set dest) (is_on plant points dest && option_map_or (contains marks.fed) (device_at plant dest) false) unreached).0

        root_left : (roots left : List ℕ) → AreRoots roots set → (other : ℕ) → is_root roots other ≡ true → (contains marks.live other ≡ true) ⊎ Contains (dest ∷ left) other → (contains marks.live other ≡ true) ⊎ Contains left other
        root_left roots left same other root (inl marked) = inl marked
        root_left roots left same other root (inr has) =
            elim (first_or_behind dest left other has) [
              | inl here ↦ absurd (both_ways (contains set dest) no_root (ap (contains set) here ∙ same other ∙ root))
              | inr behind ↦ inr behind
            ]

        bus_left : (left : List ℕ) (place : ℕ) (bus : Bus) → slice_get plant.buses place ≡ Some bus → is_bus_on plant points bus ≡ true → contains marks.fed bus.device ≡ true → IsMarkedOrLeft (dest ∷ left) marks waiting bus → IsMarkedOrLeft left marks waiting bus
        bus_left left place bus at on fed (inl marked) = inl marked
        bus_left left place bus at on fed (inr (inr waits)) = inr (inr waits)
        bus_left left place bus at on fed (inr (inl has)) =
            elim (first_or_behind dest left bus.dest has) [
              | inl here ↦ absurd (both_ways (is_reached plant points set marks dest) unreached (fed_bus_reached plant points set marks is place bus dest at on fed here))
              | inr behind ↦ inr (inl behind)
            ]

    -- a destination that is, and is marked
    module _ (new : Marks) (more : Origins) (reached : is_reached plant points set marks dest ≡ true) (one : MarksOne marks new dest) (kept : AreMarksOf plant points new) (turned : StayTurned marks new) (feeds : AreFedMore plant marks.fed new.fed waiting more) (waits : WaitOnceFed marks.fed new.fed waiting more) where
      stays : (other : ℕ) → contains marks.live other ≡ true → contains new.live other ≡ true
      stays other marked = one other ∙ or_right (other == dest) (contains marks.live other) marked

      here_marked : (other : ℕ) → dest ≡ other → contains new.live other ≡ true
      here_marked other same = one other ∙ or_left (other == dest) (contains marks.live other) (eq-eqb other dest (sym same))

      lives : (roots left : List ℕ) → AreRoots roots set → AreLighting plant points roots (dest ∷ left) marks waiting → is_live plant points roots dest ≡ true
      lives roots left same lights =
          let least = live_is_least plant points roots in
          elim (or_cases (contains set dest) (is_on plant points dest && option_map_or (contains marks.fed) (device_at plant dest) false) reached) [
            | inl root ↦
                let found = any_place (λ root. root == dest) roots (sym (same dest) ∙ root) in
                subst (λ dest. is_live plant points roots dest ≡ true) (eqb-true found.1 dest found.3) (least.closed.has_roots found.0 found.1 found.2)
            | inr bus ↦
                let found = fed_bus plant points marks dest bus in
                subst (λ dest. is_live plant points roots dest ≡ true) found.is
                (fed_lives plant points roots marks is least lights.kept lights.sound found.place found.bus found.at found.on found.fed)
          ]

      sound : (roots left : List ℕ) → AreRoots roots set → AreLighting plant points roots (dest ∷ left) marks waiting → AreSound plant points roots new
      sound roots left same lights other marked =
          elim (or_cases (other == dest) (contains marks.live other) (sym (one other) ∙ marked)) [
            | inl here ↦ subst (λ dest. is_live plant points roots dest ≡ true) (sym (eqb-true other dest here)) (lives roots left same lights)
            | inr before ↦ lights.sound other before
          ]

      root_now : (left : List ℕ) (other : ℕ) → (contains marks.live other ≡ true) ⊎ Contains (dest ∷ left) other → (contains new.live other ≡ true) ⊎ Contains left other
      root_now left other (inl marked) = inl (stays other marked)
      root_now left other (inr has) =
          elim (first_or_behind dest left other has) [
            | inl here ↦ inl (here_marked other here)
            | inr behind ↦ inr behind
          ]

      bus_before : (left : List ℕ) (bus : Bus) → IsMarkedOrLeft (dest ∷ left) marks waiting bus → IsMarkedOrLeft left new more bus
      bus_before left bus (inl marked) = inl (stays bus.dest marked)
      bus_before left bus (inr (inr was)) = inr (inr (waits.wait bus.device was))
      bus_before left bus (inr (inl has)) =
          elim (first_or_behind dest left bus.dest has) [
            | inl here ↦ inl (here_marked bus.dest here)
            | inr behind ↦ inr (inl behind)
          ]

      bus_now : (left : List ℕ) (bus : Bus) → (contains marks.fed bus.device ≡ true → IsMarkedOrLeft (dest ∷ left) marks waiting bus) → (contains marks.fed bus.device ≡ true) ⊎ (contains more bus.device ≡ true) → IsMarkedOrLeft left new more bus
      bus_now left bus before (inl was) = bus_before left bus (before was)
      bus_now left bus before (inr here) = inr (inr here)

      pub relit_light : AreRelit plant points set (dest ∷ []) marks new waiting more
      relit_light = record {
        lighting = λ roots left same lights. record {
          kept = kept;
          sound = sound roots left same lights;
          rooted = λ other is_one. root_now left other (lights.rooted other is_one);
          buses = λ place bus at on fed. bus_now left bus (lights.buses place bus at on) (waits.news bus.device fed);
        };
        kept = λ are. kept;
        turned = turned;
        fed = feeds;
      }

  -- a device that waited, and whose buses were looked at
  module _ (waiting : Origins) (v : ℕ) (below : v < device_limit) (has : contains waiting v ≡ true) where
    others : (device : ℕ) → contains (remove waiting v) device ≡ true → contains waiting device ≡ true
    others device left = by (contains waiting device) refl
      where
        by : (b : Bool) → contains waiting device ≡ b → b ≡ true
        by true was = refl
        by false was = sym (ap (λ b. not (device == v) && b) was ∙ none (device == v)) ∙ sym (contains_removed waiting v device) ∙ left
          where
            none : (b : Bool) → (not b && false) ≡ false
            none true = refl
            none false = refl

    fed_popped : (fed : Origins) → AreFedMore plant fed fed waiting (remove waiting v)
    fed_popped fed = record {
      more = λ device is. is;
      below = λ device left. inl (others device left);
      within = λ device was. inl was;
      work = λ weight. omega (arith, weigh_removed weight waiting v below has);
    }

    pub relit_popped : (marks new : Marks) (more : Origins) → AreRelit plant points set (buses_at plant v) marks new (remove waiting v) more → AreRelit plant points set [] marks new waiting more
    relit_popped marks new more relit = record {
      lighting = λ roots left same lights.
          relit.lighting roots left same
          (record {
            kept = lights.kept;
            sound = lights.sound;
            rooted = λ other is_one. root_more other left (lights.rooted other is_one);
            buses = λ place bus at on fed. bus_more place bus left at (lights.buses place bus at on fed);
          });
      kept = relit.kept;
      turned = relit.turned;
      fed = fed_then plant marks.fed marks.fed new.fed waiting (remove waiting v) more (fed_popped marks.fed) relit.fed;
    }
      where
        root_more : (other : ℕ) (left : List ℕ) → (contains marks.live other ≡ true) ⊎ Contains left other → (contains marks.live other ≡ true) ⊎ Contains (buses_at plant v ++ left) other
        root_more other left (inl marked) = inl marked
        root_more other left (inr behind) = inr (Contains-append_right (buses_at plant v) left other behind)

        waits : (place : ℕ) (bus : Bus) (left : List ℕ) → slice_get plant.buses place ≡ Some bus → contains waiting bus.device ≡ true → (bus.device ≡ v) ⊎ (bus.device ≢ v) → IsMarkedOrLeft (buses_at plant v ++ left) marks (remove waiting v) bus
        waits place bus left at was (inl same) =
            inr (inl (Contains-append_left (buses_at plant v) left bus.dest (subst (λ device. Contains (buses_at plant device) bus.dest) same (is_of_device plant place bus at))))
        waits place bus left at was (inr apart) =
            inr (inr (contains_removed waiting v bus.device ∙ ap (λ b. not b && contains waiting bus.device) (ne_eqb bus.device v apart) ∙ was))

        bus_more : (place : ℕ) (bus : Bus) (left : List ℕ) → slice_get plant.buses place ≡ Some bus → IsMarkedOrLeft left marks waiting bus → IsMarkedOrLeft (buses_at plant v ++ left) marks (remove waiting v) bus
        bus_more place bus left at (inl marked) = inl marked
        bus_more place bus left at (inr (inl behind)) = inr (inl (Contains-append_right (buses_at plant v) left bus.dest behind))
        bus_more place bus left at (inr (inr was)) = waits place bus left at was (cases_eq bus.device v)

    -- who waits then is a device
    pub popped_devices : (marks new : Marks) (more : Origins) → ((device : ℕ) → contains waiting device ≡ true → device < length plant.devices) → AreRelit plant points set (buses_at plant v) marks new (remove waiting v) more → (device : ℕ) → contains more device ≡ true → device < length plant.devices
    popped_devices marks new more devices relit device waits = by (relit.fed.below device waits)
      where
        by : (contains (remove waiting v) device ≡ true) ⊎ (device < length plant.devices) → device < length plant.devices
        by (inl was) = devices device (others device was)
        by (inr within) = within
