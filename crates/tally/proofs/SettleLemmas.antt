-- Marks that were settled before a move are settled after it.
use Rattle.std.proofs.Common.{◌≡◌, ◌≢◌, ◌⊎◌, ℕ, ◌<◌, ◌==◌, Bool, true, false, not, List, [], ◌∷◌, ◌++◌, length, slice_get, Option, Some, None, inl, inr, refl, sym, ap, subst, ◌∙◌, arith, eq-eqb, eqb-true}
use Rattle.std.proofs.lemmas.Bool.{or_cases, both_ways, cases_eq}
use Rattle.std.proofs.lemmas.List.Elements.{Contains-append_left, Contains-append_right}
use Rattle.std.proofs.lemmas.Map.Keys.{any_passes_from_place}
use Rattle.std.specs.Option.{option_map, option_map_or, option_and_then}
use Rattle.std.specs.List.{Contains}
use Rattle.std.specs.Ordering.{nat_cmp}
use Rattle.std.specs.FinMap.{get}
use Rattle.std.specs.FinSet.{empty, contains, contains-empty}
use Rattle.plant_config.specs.declared.records.Bus.{Bus}
use Rattle.plant_config.specs.declared.records.Change.{Change}
use Rattle.plant_config.specs.Plant.{PlantData}
use Rattle.plant_config.specs.IsPlant.{IsPlant}
use Rattle.plant_config.specs.Sources.{origin_of}
use Rattle.plant_config.specs.Sites.{source_number_of}
use Rattle.crosspoint_state.specs.declared.spot.Spot.{Spot}
use Rattle.crosspoint_state.specs.Crosspoints.{Crosspoints}
use Rattle.crosspoint_state.specs.Taps.{origin_at}
use Rattle.mixer_effects.specs.Buses.{is_switch_on, is_bus_on, output_of, fed_device, switched_at, buses_at}
use Rattle.mixer_effects.specs.Live.{is_fed_by, is_live}
use Rattle.mixer_effects.specs.Laws.{LiveIsLeast}
use Rattle.mixer_effects.proofs.LiveLemmas.{live_is_least}
use Rattle.mixer_effects.proofs.PlantLemmas.{bus_device_below}
use Rattle.mixer_effects.proofs.AnyLemmas.{any_place}
use Rattle.tally.specs.Tally.{Origins, is_root}
use Rattle.tally.specs.Marks.{Marks, AreMarksOf}
use Rattle.tally.specs.MarkLaws.{AreSound, AreSettled}
use Rattle.tally.specs.Left.{AreLeftOver}
use Rattle.tally.specs.Losing.{feeder_of, WentDark, AreLosing}
use Rattle.tally.specs.Lost.{WaitsFor, AreLost, AreGoneThrough, HasSpread}
use Rattle.tally.specs.Relit.{IsMarkedOrLeft, AreLighting, AreRelit}
use Rattle.tally.specs.Touched.{named_by, with_switched, touched_by}
use Rattle.tally.specs.Update.{IsMove}
use Rattle.tally.proofs.DeviceLemmas.{fed_found}
use Rattle.tally.proofs.LeftLemmas.{left_live}
use Rattle.tally.proofs.LiveLemmas.{bus_found}
use Rattle.tally.proofs.MarkLemmas.{settled_say, fed_output}
use Rattle.tally.proofs.ListLemmas.{first_or_behind, is_kept}
use Rattle.tally.proofs.LostLemmas.{stays_dark}
use Rattle.tally.proofs.BusLemmas.{is_of_device, is_switched}
use Rattle.tally.proofs.FedLemmas.{feeds_marked, is_fed}

-- a number is in a list or isn't
has_or_not : (xs : List ℕ) (x : ℕ) → Contains xs x ⊎ (Contains xs x → ⊥)
has_or_not [] x = inr (λ has. absurd (omega (arith, has.1)))
has_or_not (y ∷ ys) x = by (cases_eq y x) (has_or_not ys x)
  where
    by : (y ≡ x) ⊎ (y ≢ x) → Contains ys x ⊎ (Contains ys x → ⊥) → Contains (y ∷ ys) x ⊎ (Contains (y ∷ ys) x → ⊥)
    by (inl same) rest = inl (0, omega arith, same)
    by (inr apart) (inl behind) = inl (Contains-append_right (y ∷ []) ys x behind)
    by (inr apart) (inr none) = inr (λ has. elim (first_or_behind y ys x has) [ inl same ↦ apart same | inr behind ↦ none behind ])

-- what a change names is touched, and so is what that switches
named_touched : (plant : PlantData) (changes : List Change) (dest d : ℕ) → Contains (named_by changes) dest → Contains (with_switched plant dest) d → Contains (touched_by plant changes) d
named_touched plant [] dest d named with = absurd (omega (arith, named.1))
named_touched plant (change ∷ changes) dest d named with =
    elim (first_or_behind change.dest (named_by changes) dest named) [
      | inl same ↦ Contains-append_left (with_switched plant change.dest) (touched_by plant changes) d (subst (λ dest. Contains (with_switched plant dest) d) (sym same) with)
      | inr behind ↦ Contains-append_right (with_switched plant change.dest) (touched_by plant changes) d (named_touched plant changes dest d behind with)
    ]

itself : (plant : PlantData) (dest : ℕ) → Contains (with_switched plant dest) dest
itself plant dest = (0, omega arith, refl)

pub none_has : (device : ℕ) → contains {R = nat_cmp} empty device ≡ true → ⊥
none_has device has = both_ways (contains {R = nat_cmp} empty device) (contains-empty nat_cmp device) has

-- what stands carries what it did
same_origin : (plant : PlantData) (old new : Crosspoints) (dest : ℕ) → get new dest ≡ get old dest → origin_at plant new dest ≡ origin_at plant old dest
same_origin plant old new dest same = ap (λ spot. option_and_then (origin_of plant) (option_map (λ (spot : Spot). spot.source) spot)) same

module _ (plant : PlantData) (is : IsPlant plant) (old new : Crosspoints) (roots : List ℕ) (set : Origins) (changes : List Change) (first : Marks) (move : IsMove plant old new roots set changes first) where
  least : LiveIsLeast plant old roots
  least = live_is_least plant old roots

  said : (dest : ℕ) → contains first.live dest ≡ is_live plant old roots dest
  said = (settled_say plant old roots least first move.settled.kept move.settled).live

  -- nothing that is live is dark before anything is lost
  not_dark : (dest : ℕ) → WentDark plant old roots first dest → ⊥
  not_dark dest dark = both_ways (contains first.live dest) dark.dark (said dest ∙ dark.lived)

  pub losing_none : AreLosing plant old roots (touched_by plant changes) first empty empty
  losing_none = record {
    kept = move.settled.kept;
    sound = move.settled.sound;
    followed = λ dest device dark fed. absurd (not_dark dest dark);
    caused = λ dest dark. absurd (not_dark dest dark);
  }

  -- what isn't touched stands, and its switch does
  module _ (dest : ℕ) (free : Contains (touched_by plant changes) dest → ⊥) where
    stands : get new dest ≡ get old dest
    stands = move.moved.only dest (λ named. free (named_touched plant changes dest dest named (itself plant dest)))

    switch_stands : (place : ℕ) (bus : Bus) → slice_get plant.buses place ≡ Some bus → bus.dest ≡ dest → (switch : ℕ) → bus.switch ≡ Some switch → get new switch ≡ get old switch
    switch_stands place bus at here switch switched =
        move.moved.only switch (λ named.
        free (named_touched plant changes switch dest named
        (Contains-append_right (switch ∷ []) (switched_at plant switch) dest
        (subst (λ d. Contains (switched_at plant switch) d) here (is_switched plant place bus switch at switched)))))

    same_on : (place : ℕ) (bus : Bus) → slice_get plant.buses place ≡ Some bus → bus.dest ≡ dest → is_bus_on plant new bus ≡ is_bus_on plant old bus
    same_on place bus at here = by bus.switch refl
      where
        by : (found : Option ℕ) → bus.switch ≡ found → option_map_or (is_switch_on plant new) found true ≡ option_map_or (is_switch_on plant old) found true
        by None switched = refl
        by (Some switch) switched =
            ap (λ spot. option_map_or (λ number. not (number == 0)) (option_and_then (source_number_of plant) (option_map (λ (spot : Spot). spot.source) spot)) false)
            (switch_stands place bus at here switch switched)

  -- once doubt has spread
  module _ (marks : Marks) (doubted : Origins) (losing : AreLosing plant old roots (touched_by plant changes) marks empty doubted) (touched_dark : (dest : ℕ) → Contains (touched_by plant changes) dest → contains marks.live dest ≡ false) (gone : AreGoneThrough plant set marks doubted) where
    untouched : (dest : ℕ) → contains marks.live dest ≡ true → Contains (touched_by plant changes) dest → ⊥
    untouched dest marked touched = both_ways (contains marks.live dest) (touched_dark dest touched) marked

    feeder : (device dest : ℕ) → is_fed_by plant old device dest ≡ true → feeder_of plant old dest ≡ Some device
    feeder device dest fed =
        let found = fed_output plant old dest (output_of plant device) fed in
        ap (option_and_then (fed_device plant)) found.2 ∙ fed_found plant is found.0 device found.1

    doubted_now : (dest device : ℕ) → WentDark plant old roots marks dest → feeder_of plant old dest ≡ Some device → contains doubted device ≡ true
    doubted_now dest device dark fed =
        elim (or_cases (contains {R = nat_cmp} empty device) (contains doubted device) (losing.followed dest device dark fed)) [
          | inl none ↦ absurd (none_has device none)
          | inr here ↦ here
        ]

    pub are_left : AreLeftOver plant old new roots (contains marks.live)
    are_left = record {
      stood = λ dest marked. stands dest (untouched dest marked);
      switches = λ place bus at marked. same_on bus.dest (untouched bus.dest marked) place bus at refl;
      followed = λ place dest bus at lived here fed root.
          gone bus.device bus.dest
          (doubted_now dest bus.device (record { lived = lived; dark = here }) (feeder bus.device dest fed))
          (is_kept (λ dest. not (contains set dest)) (buses_at plant bus.device) bus.dest (is_of_device plant place bus at)
          (ap not (move.rooted bus.dest ∙ root)));
    }

    sound_now : AreSound plant new roots marks
    sound_now dest marked =
        left_live plant old new roots (contains marks.live) least (live_is_least plant new roots) are_left dest (losing.sound dest marked) marked

    kept_now : AreMarksOf plant new marks
    kept_now = record {
      heads = losing.kept.heads;
      members = losing.kept.members;
      below = losing.kept.below;
      lit = λ origin dest. (
        λ under.
            let was = (losing.kept.lit origin dest).0 under in
            (was.0, same_origin plant old new dest (stands dest (untouched dest was.0)) ∙ was.1),
        λ both.
            (losing.kept.lit origin dest).1
            (both.0, sym (same_origin plant old new dest (stands dest (untouched dest both.0))) ∙ both.1),
      );
      fed = losing.kept.fed;
    }

    -- a root that is dark is touched
    root_left : (dest : ℕ) → is_root roots dest ≡ true → (b : Bool) → contains marks.live dest ≡ b → (contains marks.live dest ≡ true) ⊎ Contains (touched_by plant changes ++ []) dest
    root_left dest root true here = inl here
    root_left dest root false here =
        let found = any_place (λ root. root == dest) roots root in
        let lived : is_live plant old roots dest ≡ true =
        subst (λ dest. is_live plant old roots dest ≡ true) (eqb-true found.1 dest found.3) (least.closed.has_roots found.0 found.1 found.2) in
        elim (losing.caused dest (record { lived = lived; dark = here })) [
          | inl touched ↦ inr (Contains-append_left (touched_by plant changes) [] dest touched)
          | inr behind ↦ absurd (both_ways (is_root roots dest) behind.no_root root)
        ]

    -- a bus that is dark is touched, or behind a device in doubt, where it was live
    bus_dark : (place : ℕ) (bus : Bus) → slice_get plant.buses place ≡ Some bus → contains marks.live bus.dest ≡ false → is_live plant old roots bus.dest ≡ true → IsMarkedOrLeft (touched_by plant changes ++ []) marks doubted bus
    bus_dark place bus at here lived =
        elim (losing.caused bus.dest (record { lived = lived; dark = here })) [
          | inl touched ↦ inr (inl (Contains-append_left (touched_by plant changes) [] bus.dest touched))
          | inr behind ↦
              let same : Some behind.device ≡ Some bus.device = sym behind.bus ∙ ap (option_map (λ (bus : Bus). bus.device)) (bus_found plant place bus is at) in
              let it : behind.device ≡ bus.device = cc in
              inr (inr (subst (λ device. contains doubted device ≡ true) it behind.doubted_one))
        ]

    bus_left : (place : ℕ) (bus : Bus) → slice_get plant.buses place ≡ Some bus → is_bus_on plant new bus ≡ true → contains marks.fed bus.device ≡ true → (b : Bool) → contains marks.live bus.dest ≡ b → Contains (touched_by plant changes) bus.dest ⊎ (Contains (touched_by plant changes) bus.dest → ⊥) → IsMarkedOrLeft (touched_by plant changes ++ []) marks doubted bus
    bus_left place bus at on fed true here touched = inl here
    bus_left place bus at on fed false here (inl touched) = inr (inl (Contains-append_left (touched_by plant changes) [] bus.dest touched))
    bus_left place bus at on fed false here (inr free) =
        let feeds = feeds_marked plant old marks bus.device losing.kept (bus_device_below plant is place bus at) fed in
        let was_on : is_bus_on plant old bus ≡ true = sym (same_on bus.dest free place bus at refl) ∙ on in
        bus_dark place bus at here
        (least.closed.has_buses place feeds.dest bus at was_on (losing.sound feeds.dest feeds.marked) (is_fed plant old bus.device feeds.output feeds.dest feeds.puts feeds.carried))

    pub lighting : AreLighting plant new roots (touched_by plant changes ++ []) marks doubted
    lighting = record {
      kept = kept_now;
      sound = sound_now;
      rooted = λ dest root. root_left dest root (contains marks.live dest) refl;
      buses = λ place bus at on fed. bus_left place bus at on fed (contains marks.live bus.dest) refl (has_or_not (touched_by plant changes) bus.dest);
    }

-- where nothing is left to be looked at and no device waits, marks are settled
pub all_lit : (plant : PlantData) (points : Crosspoints) (roots : List ℕ) (marks : Marks) (waiting : Origins) → waiting ≡ empty → AreLighting plant points roots [] marks waiting → AreSettled plant points roots marks
all_lit plant points roots marks waiting none lights = record {
  kept = lights.kept;
  sound = lights.sound;
  rooted = λ place root at. root_lit root (lights.rooted root (any_passes_from_place (λ other. other == root) roots place root at (eq-eqb root root refl)));
  buses = λ place bus at on fed. bus_lit bus (lights.buses place bus at on fed);
}
  where
    root_lit : (root : ℕ) → (contains marks.live root ≡ true) ⊎ Contains [] root → contains marks.live root ≡ true
    root_lit root (inl marked) = marked
    root_lit root (inr has) = absurd (omega (arith, has.1))

    bus_lit : (bus : Bus) → IsMarkedOrLeft [] marks waiting bus → contains marks.live bus.dest ≡ true
    bus_lit bus (inl marked) = marked
    bus_lit bus (inr (inl has)) = absurd (omega (arith, has.1))
    bus_lit bus (inr (inr waits)) = absurd (none_has bus.device (ap (λ (set : Origins). contains set bus.device) (sym none) ∙ waits))

-- who waits once what changes touch went dark is a device
pub first_devices : (plant : PlantData) (dests : List ℕ) (old : Crosspoints) (a b : Marks) (idle one sure : Origins) → AreMarksOf plant old a → idle ≡ empty → AreLost plant dests a b idle one sure → (device : ℕ) → contains one device ≡ true → device < length plant.devices
first_devices plant dests old a b idle one sure are none lost device waits = by (lost.waits old are device waits)
  where
    by : (contains idle device ≡ true) ⊎ WaitsFor plant old dests a sure device → device < length plant.devices
    by (inl was) = absurd (none_has device (ap (λ (set : Origins). contains set device) (sym none) ∙ was))
    by (inr for) = for.below

-- the whole update: until all in doubt is dark, and then until all that is live is marked
module _ (plant : PlantData) (is : IsPlant plant) (old new : Crosspoints) (roots : List ℕ) (set : Origins) (changes : List Change) (a b c : Marks) (idle sure one two all : Origins) (move : IsMove plant old new roots set changes a) (no_wait : idle ≡ empty) (no_doubt : sure ≡ empty) (lost : AreLost plant (touched_by plant changes) a b idle one sure) (spread : HasSpread plant set b c one two all) (gone : two ≡ empty) where
  pub through : AreLosing plant old roots (touched_by plant changes) c empty all
  through =
      let touched = touched_by plant changes in
      let begun : AreLosing plant old roots touched a idle sure =
      subst (λ idle. AreLosing plant old roots touched a idle sure) (sym no_wait) (subst (λ sure. AreLosing plant old roots touched a empty sure) (sym no_doubt) (losing_none plant is old new roots set changes a move)) in
      let dark : AreLosing plant old roots touched b one sure = lost.losing old roots touched begun (λ dest has. inl has) in
      let clean : AreLosing plant old roots touched b one empty = subst (λ sure. AreLosing plant old roots touched b one sure) no_doubt dark in
      subst (λ two. AreLosing plant old roots touched c two all) gone (spread.losing old roots touched move.rooted clean)

  pub lighting_begun : AreLighting plant new roots (touched_by plant changes ++ []) c all
  lighting_begun = lighting plant is old new roots set changes a move c all through (λ dest has. stays_dark b c dest spread.fewer (lost.dark dest has)) spread.gone

  pub settled_again : (d e : Marks) (done last : Origins) → AreRelit plant new set (touched_by plant changes) c d all done → AreRelit plant new set [] d e done last → last ≡ empty → AreSettled plant new roots e
  settled_again d e done last relit waited none = all_lit plant new roots e last none (waited.lighting roots [] move.rooted (relit.lighting roots [] move.rooted lighting_begun))

-- who waits once what changes touch was looked at again is a device
pub relit_devices : (plant : PlantData) (points : Crosspoints) (set : Origins) (dests : List ℕ) (c d : Marks) (all done : Origins) → ((device : ℕ) → contains all device ≡ true → device < length plant.devices) → AreRelit plant points set dests c d all done → (device : ℕ) → contains done device ≡ true → device < length plant.devices
relit_devices plant points set dests c d all done devices relit device waits = by (relit.fed.below device waits)
  where
    by : (contains all device ≡ true) ⊎ (device < length plant.devices) → device < length plant.devices
    by (inl was) = devices device was
    by (inr within) = within
