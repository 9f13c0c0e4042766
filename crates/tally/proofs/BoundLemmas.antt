-- What an update goes through is affected.
use Rattle.std.proofs.Common.{◌≡◌, ◌⊎◌, ℕ, ◌+◌, ◌*◌, ◌<◌, ◌≤◌, ◌==◌, Bool, true, false, not, ◌&&◌, ◌||◌, List, [], length, slice_get, Option, Some, None, get_or, inl, inr, refl, sym, ap, subst, ◌∙◌, arith, eqb-true, eq-eqb}
use Rattle.std.proofs.lemmas.Bool.{or_cases, or_left, or_right, and_parts, and_from, both_ways}
use Rattle.std.proofs.lemmas.Option.{slice_get-get_or}
use Rattle.std.proofs.lemmas.Map.Keys.{any_passes_from_place}
use Rattle.std.specs.List.{Contains}
use Rattle.std.specs.Option.{option_map_or, option_and_then}
use Rattle.std.specs.Ordering.{nat_cmp}
use Rattle.std.specs.FinSet.{empty, contains}
use Rattle.plant_config.specs.declared.records.Bus.{Bus}
use Rattle.plant_config.specs.declared.records.Change.{Change}
use Rattle.plant_config.specs.Plant.{PlantData}
use Rattle.plant_config.specs.IsPlant.{IsPlant}
use Rattle.crosspoint_state.specs.Crosspoints.{Crosspoints}
use Rattle.crosspoint_state.specs.Taps.{origin_at}
use Rattle.mixer_effects.specs.Buses.{is_bus_on, bus_at, fed_device, buses_at}
use Rattle.mixer_effects.specs.Live.{is_fed_by, live, is_live, is_origin_seen}
use Rattle.mixer_effects.specs.Laws.{AreClosed, LiveIsLeast}
use Rattle.mixer_effects.proofs.LiveLemmas.{live_is_least}
use Rattle.mixer_effects.proofs.AnyLemmas.{any_place}
use Rattle.tally.specs.Tally.{Origins, is_root}
use Rattle.tally.specs.Marks.{Marks}
use Rattle.tally.specs.MarkLaws.{AreSettled}
use Rattle.tally.specs.Losing.{feeder_of}
use Rattle.tally.specs.Lost.{WaitsFor, AreLost, HasSpread, FeedsAmong, HaveMarkedBehind}
use Rattle.tally.specs.Relit.{AreRelit}
use Rattle.tally.specs.Touched.{touched_by}
use Rattle.tally.specs.Update.{IsMove}
use Rattle.tally.specs.Doubt.{is_doubtful, is_device_on, is_affected}
use Rattle.tally.specs.Moved.{lost_between}
use Rattle.tally.specs.Weight.{weigh, device_weight}
use Rattle.tally.proofs.DeviceLemmas.{fed_is, fed_found}
use Rattle.tally.proofs.LitLemmas.{lit_under}
use Rattle.tally.proofs.LiveLemmas.{bus_found}
use Rattle.tally.proofs.Searches.{any_stands}
use Rattle.tally.proofs.ListLemmas.{was_kept, bus_among}
use Rattle.tally.proofs.FedLemmas.{output_there, feeds_marked, is_fed}
use Rattle.tally.proofs.KeptLemmas.{marks_say}
use Rattle.tally.proofs.MovedLemmas.{lost_lost}
use Rattle.tally.proofs.SettleLemmas.{none_has, through}
use Rattle.tally.proofs.WeightLemmas.{weigh_parts, weigh_within}

not_true : (b : Bool) → not b ≡ true → b ≡ false
not_true true e = cc
not_true false e = refl

-- what a device feeds
feeder_feeds : (plant : PlantData) (old : Crosspoints) (device dest : ℕ) → feeder_of plant old dest ≡ Some device → is_fed_by plant old device dest ≡ true
feeder_feeds plant old device dest = by (origin_at plant old dest) refl
  where
    by : (found : Option ℕ) → origin_at plant old dest ≡ found → option_and_then (fed_device plant) found ≡ Some device → is_fed_by plant old device dest ≡ true
    by None at feeder = cc
    by (Some origin) at feeder = is_fed plant old device origin dest (fed_is plant origin device feeder) at

-- a bus that is live and no root is on
on_live : (plant : PlantData) → IsPlant plant → (old : Crosspoints) (roots : List ℕ) (place : ℕ) (bus : Bus) → slice_get plant.buses place ≡ Some bus → is_live plant old roots bus.dest ≡ true → is_root roots bus.dest ≡ false → is_bus_on plant old bus ≡ true
on_live plant is old roots place bus at lived no_root =
    let is_on : ℕ → Bool = λ dest. option_map_or (is_bus_on plant old) (bus_at plant dest) false in
    let may_live : ℕ → Bool = λ dest. is_root roots dest || is_on dest in
    let are_closed : AreClosed plant old roots may_live = record {
      has_roots = λ spot root here. or_left (is_root roots root) (is_on root) (any_stands (λ other. other == root) roots spot root here (eq-eqb root root refl));
      has_buses = λ spot dest other here on among fed. or_right (is_root roots other.dest) (is_on other.dest) (ap (λ found. option_map_or (is_bus_on plant old) found false) (bus_found plant spot other is here) ∙ on);
    } in
    sym (ap (λ found. option_map_or (is_bus_on plant old) found false) (bus_found plant place bus is at))
    ∙ ap (λ b. b || is_on bus.dest) (sym no_root)
    ∙ (live_is_least plant old roots).least may_live are_closed bus.dest lived

module _ (plant : PlantData) (is : IsPlant plant) (old new : Crosspoints) (roots : List ℕ) (set : Origins) (changes : List Change) (a b c : Marks) (idle sure one two all : Origins) (move : IsMove plant old new roots set changes a) (no_wait : idle ≡ empty) (no_doubt : sure ≡ empty) (lost : AreLost plant (touched_by plant changes) a b idle one sure) (spread : HasSpread plant set b c one two all) (gone : two ≡ empty) where
  abbrev among : ℕ → Bool
  among = is_live plant old (lost_between plant old new roots)

  reached : LiveIsLeast plant old (lost_between plant old new roots)
  reached = live_is_least plant old (lost_between plant old new roots)

  lost_lives : (dest : ℕ) → Contains (touched_by plant changes) dest → contains a.live dest ≡ true → among dest ≡ true
  lost_lives dest touched marked =
      let list = lost_between plant old new roots in
      let has = lost_lost plant old new roots changes move.moved dest touched (move.settled.sound dest marked) in
      subst (λ d. is_live plant old list d ≡ true) has.2 (reached.closed.has_roots has.0 (get_or list has.0 dest) (slice_get-get_or list has.0 dest has.1))

  first_feeds : (device : ℕ) → contains one device ≡ true → FeedsAmong plant old among device
  first_feeds device has = by (lost.waits old move.settled.kept device has)
    where
      by : (contains idle device ≡ true) ⊎ WaitsFor plant old (touched_by plant changes) a sure device → FeedsAmong plant old among device
      by (inl was) = absurd (none_has device (ap (λ (set : Origins). contains set device) (sym no_wait) ∙ was))
      by (inr for) = record { dest = for.dest; among = lost_lives for.dest for.among for.marked; fed = for.fed }

  behind : HaveMarkedBehind plant old set b among
  behind device dest feeds none marked =
      let kept = was_kept (λ dest. not (contains set dest)) (buses_at plant device) dest none in
      let found = bus_among (λ (bus : Bus). bus.device == device) plant.buses dest kept.0 in
      let lived : is_live plant old roots found.bus.dest ≡ true = subst (λ d. is_live plant old roots d ≡ true) (sym found.is) (move.settled.sound dest (lost.fewer dest marked)) in
      let no_root : is_root roots found.bus.dest ≡ false = subst (λ d. is_root roots d ≡ false) (sym found.is) (sym (move.rooted dest) ∙ not_true (contains set dest) kept.1) in
      subst (λ d. among d ≡ true) found.is
      (reached.closed.has_buses found.place feeds.dest found.bus found.at (on_live plant is old roots found.place found.bus found.at lived no_root) feeds.among
      (subst (λ d. is_fed_by plant old d feeds.dest ≡ true) (sym (eqb-true found.bus.device device found.passes)) (feeder_feeds plant old device feeds.dest feeds.fed)))

  doubtful : (device : ℕ) → contains all device ≡ true → is_doubtful plant old (lost_between plant old new roots) device ≡ true
  doubtful device doubt =
      let list = live plant old (lost_between plant old new roots) in
      let feeds = spread.come old among (lost.kept old move.settled.kept) behind first_feeds device (or_right (contains two device) (contains all device) doubt) in
      let found = any_place (λ other. other == feeds.dest) list feeds.among in
      any_passes_from_place (is_fed_by plant old device) list found.0 found.1 found.2
      (subst (λ d. is_fed_by plant old device d ≡ true) (sym (eqb-true found.1 feeds.dest found.3)) (feeder_feeds plant old device feeds.dest feeds.fed))

  affected_doubt : (device : ℕ) → contains all device ≡ true → is_affected plant old new roots device ≡ true
  affected_doubt device doubt =
      or_left (is_doubtful plant old (lost_between plant old new roots) device) (is_device_on plant new roots device && not (is_device_on plant old roots device)) (doubtful device doubt)

  -- a device that was fed and isn't is in doubt
  once_fed : (device : ℕ) → device < length plant.devices → contains a.fed device ≡ true → contains c.fed device ≡ false → contains all device ≡ true
  once_fed device below fed unfed =
      let losing = through plant is old new roots set changes a b c idle sure one two all move no_wait no_doubt lost spread gone in
      let feeds = feeds_marked plant old a device move.settled.kept below fed in
      let feeder : feeder_of plant old feeds.dest ≡ Some device = ap (option_and_then (fed_device plant)) feeds.carried ∙ fed_found plant is feeds.output device feeds.puts in
      let lit : contains c.live feeds.dest ≡ true → contains c.fed device ≡ true = λ marked. losing.kept.fed device feeds.output feeds.puts ∙ lit_under c.lit feeds.output feeds.dest ((losing.kept.lit feeds.output feeds.dest).1 (marked, feeds.carried)) in
      by feeds.dest (move.settled.sound feeds.dest feeds.marked) feeder lit (contains c.live feeds.dest) refl
    where
      by : (dest : ℕ) → is_live plant old roots dest ≡ true → feeder_of plant old dest ≡ Some device → (contains c.live dest ≡ true → contains c.fed device ≡ true) → (b : Bool) → contains c.live dest ≡ b → contains all device ≡ true
      by dest lived feeder lit true marked = absurd (both_ways (contains c.fed device) unfed (lit marked))
      by dest lived feeder lit false dark =
          let losing = through plant is old new roots set changes a b c idle sure one two all move no_wait no_doubt lost spread gone in
          elim (or_cases (contains {R = nat_cmp} empty device) (contains all device) (losing.followed dest device (record { lived = lived; dark = dark }) feeder)) [
            | inl none ↦ absurd (none_has device none)
            | inr here ↦ here
          ]

  affected_fed : (e : Marks) → AreSettled plant new roots e → (device : ℕ) → device < length plant.devices → contains e.fed device ≡ true → contains c.fed device ≡ false → is_affected plant old new roots device ≡ true
  affected_fed e settled device below fed unfed =
      let out = output_there plant device below in
      let now : is_device_on plant new roots device ≡ true = ap (λ (found : Option ℕ). option_map_or (is_origin_seen plant new roots) found false) out.is ∙ sym ((marks_say plant new roots e settled).seen out.output) ∙ sym (settled.kept.fed device out.output out.is) ∙ fed in
      let was : contains a.fed device ≡ is_device_on plant old roots device = move.settled.kept.fed device out.output out.is ∙ (marks_say plant old roots a move.settled).seen out.output ∙ sym (ap (λ (found : Option ℕ). option_map_or (is_origin_seen plant old roots) found false) out.is) in
      by now was (is_device_on plant old roots device) refl
    where
      by : is_device_on plant new roots device ≡ true → contains a.fed device ≡ is_device_on plant old roots device → (b : Bool) → is_device_on plant old roots device ≡ b → is_affected plant old new roots device ≡ true
      by now was true on = affected_doubt device (once_fed device below (was ∙ on) unfed)
      by now was false off =
          or_right (is_doubtful plant old (lost_between plant old new roots) device) (is_device_on plant new roots device && not (is_device_on plant old roots device))
          (and_from (is_device_on plant new roots device) (not (is_device_on plant old roots device)) now (ap not off))

  module _ (d e : Marks) (done last : Origins) (relit : AreRelit plant new set (touched_by plant changes) c d all done) (waited : AreRelit plant new set [] d e done last) (settled : AreSettled plant new roots e) where
    newly : (device : ℕ) → (contains e.fed device && not (contains c.fed device)) ≡ true → is_affected plant old new roots device ≡ true
    newly device fed = by (waited.fed.within device parts.0)
      where
        parts : (contains e.fed device ≡ true) × (not (contains c.fed device) ≡ true)
        parts = and_parts (contains e.fed device) (not (contains c.fed device)) fed

        unfed : contains c.fed device ≡ false
        unfed = not_true (contains c.fed device) parts.1

        first : (contains c.fed device ≡ true) ⊎ (device < length plant.devices) → is_affected plant old new roots device ≡ true
        first (inl was) = absurd (both_ways (contains c.fed device) unfed was)
        first (inr below) = affected_fed e settled device below parts.0 unfed

        by : (contains d.fed device ≡ true) ⊎ (device < length plant.devices) → is_affected plant old new roots device ≡ true
        by (inl was) = first (relit.fed.within device was)
        by (inr below) = affected_fed e settled device below parts.0 unfed

    pub doubt_weighs : weigh (device_weight plant) (contains all) ≤ weigh (device_weight plant) (is_affected plant old new roots)
    doubt_weighs = weigh_within (device_weight plant) (contains all) (is_affected plant old new roots) affected_doubt

    pub relit_weighs : weigh (device_weight plant) (contains done) + weigh (device_weight plant) (contains e.fed) ≤ 2 * weigh (device_weight plant) (is_affected plant old new roots) + weigh (device_weight plant) (contains d.fed)
    relit_weighs =
        let w = device_weight plant in
        let parts = weigh_parts w (contains c.fed) (contains e.fed) (λ device was. waited.fed.more device (relit.fed.more device was)) in
        let few = weigh_within w (λ device. contains e.fed device && not (contains c.fed device)) (is_affected plant old new roots) newly in
        omega (arith, parts, few, relit.fed.work w, doubt_weighs)
