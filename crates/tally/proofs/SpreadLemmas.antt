-- Doubt that has spread to one device more.
use Rattle.std.proofs.Common.{◌≡◌, ◌≢◌, ◌⊎◌, ℕ, ◌<◌, ◌==◌, Bool, true, false, not, ◌&&◌, ◌||◌, List, length, inl, inr, refl, sym, ap, subst, ◌∙◌, arith, eq-eqb, eqb-true}
use Rattle.std.proofs.lemmas.Bool.{cases_eq, or_cases, or_left, or_right, and_parts, ne_eqb, both_ways}
use Rattle.std.specs.List.{Contains}
use Rattle.std.specs.Ordering.{nat_cmp}
use Rattle.std.specs.FinSet.{empty, contains, insert, remove, contains-empty}
use Rattle.number_tables.proofs.Members.{contains_inserted, contains_removed}
use Rattle.plant_config.specs.Plant.{PlantData}
use Rattle.plant_config.specs.IsPlant.{IsPlant}
use Rattle.crosspoint_state.specs.Crosspoints.{Crosspoints}
use Rattle.mixer_effects.specs.Buses.{buses_at}
use Rattle.tally.specs.Tally.{Origins}
use Rattle.tally.specs.Marks.{Marks, AreMarksOf}
use Rattle.tally.specs.Losing.{in_doubt, IsBehindDoubt, MayGoDark, AreLosing}
use Rattle.tally.specs.Lost.{WaitsFor, AreLost, no_roots, AreRoots, FeedsAmong, HaveMarkedBehind, AreDevices, HasSpread}
use Rattle.tally.proofs.ListLemmas.{was_kept}
use Rattle.tally.proofs.LostLemmas.{stays_dark}
use Rattle.tally.proofs.BusLemmas.{device_is}

none_has : (device : ℕ) → contains {R = nat_cmp} empty device ≡ true → ⊥
none_has device has = both_ways (contains {R = nat_cmp} empty device) (contains-empty nat_cmp device) has

-- before any device is gone through
pub spread_none : (plant : PlantData) (set : Origins) (marks : Marks) (waiting doubted : Origins) → AreDevices plant waiting → doubted ≡ empty → HasSpread plant set marks marks waiting waiting doubted
spread_none plant set marks waiting doubted devices none =
    subst (λ doubted. HasSpread plant set marks marks waiting waiting doubted) (sym none)
    (record {
      losing = λ old roots touched same losing. losing;
      gone = λ device dest has among. absurd (none_has device has);
      kept = λ points are. are;
      fewer = λ dest marked. marked;
      turned = λ was are. are;
      devices = devices;
      within = λ device has. absurd (none_has device has);
      apart = λ device has. contains-empty nat_cmp device;
      come = λ old is_among are behind first device doubt. by old is_among first device (or_cases (contains waiting device) (contains {R = nat_cmp} empty device) doubt);
    })
  where
    by : (old : Crosspoints) (is_among : ℕ → Bool) → ((device : ℕ) → contains waiting device ≡ true → FeedsAmong plant old is_among device) → (device : ℕ) → (contains waiting device ≡ true) ⊎ (contains {R = nat_cmp} empty device ≡ true) → FeedsAmong plant old is_among device
    by old is_among first device (inl waits) = first device waits
    by old is_among first device (inr none) = absurd (none_has device none)

-- a device is taken from those that wait to those that were gone through
module _ (plant : PlantData) (is : IsPlant plant) (waiting doubted : Origins) (v : ℕ) (has : contains waiting v ≡ true) where
  still : (device : ℕ) → in_doubt waiting doubted device ≡ true → in_doubt (remove waiting v) (insert doubted v) device ≡ true
  still device doubt = by (cases_eq device v) (or_cases (contains waiting device) (contains doubted device) doubt)
    where
      by : (device ≡ v) ⊎ (device ≢ v) → (contains waiting device ≡ true) ⊎ (contains doubted device ≡ true) → in_doubt (remove waiting v) (insert doubted v) device ≡ true
      by (inl same) which =
          or_right (contains (remove waiting v) device) (contains (insert doubted v) device)
          (contains_inserted doubted v device ∙ or_left (device == v) (contains doubted device) (eq-eqb device v same))
      by (inr apart) (inl waits) =
          or_left (contains (remove waiting v) device) (contains (insert doubted v) device)
          (contains_removed waiting v device ∙ ap (λ b. not b && contains waiting device) (ne_eqb device v apart) ∙ waits)
      by (inr apart) (inr was) =
          or_right (contains (remove waiting v) device) (contains (insert doubted v) device)
          (contains_inserted doubted v device ∙ or_right (device == v) (contains doubted device) was)

  doubted_more : (device : ℕ) → contains doubted device ≡ true → contains (insert doubted v) device ≡ true
  doubted_more device was = contains_inserted doubted v device ∙ or_right (device == v) (contains doubted device) was

  doubted_here : contains (insert doubted v) v ≡ true
  doubted_here = contains_inserted doubted v v ∙ or_left (v == v) (contains doubted v) (eq-eqb v v refl)

  doubted_which : (device : ℕ) → contains (insert doubted v) device ≡ true → (device ≡ v) ⊎ (contains doubted device ≡ true)
  doubted_which device doubt = by (or_cases (device == v) (contains doubted device) (sym (contains_inserted doubted v device) ∙ doubt))
    where
      by : ((device == v) ≡ true) ⊎ (contains doubted device ≡ true) → (device ≡ v) ⊎ (contains doubted device ≡ true)
      by (inl same) = inl (eqb-true device v same)
      by (inr was) = inr was

  not_true : (b : Bool) → not b ≡ true → b ≡ false
  not_true true e = cc
  not_true false e = refl

  left_waiting : (device : ℕ) → contains (remove waiting v) device ≡ true → ((device == v) ≡ false) × (contains waiting device ≡ true)
  left_waiting device waits =
      let parts = and_parts (not (device == v)) (contains waiting device) (sym (contains_removed waiting v device) ∙ waits) in
      (not_true (device == v) parts.0, parts.1)

  moved : (old : Crosspoints) (roots touched : List ℕ) (marks : Marks) → AreLosing plant old roots touched marks waiting doubted → AreLosing plant old roots touched marks (remove waiting v) (insert doubted v)
  moved old roots touched marks losing = record {
    kept = losing.kept;
    sound = losing.sound;
    followed = λ dest device dark fed. still device (losing.followed dest device dark fed);
    caused = λ dest dark. by dest (losing.caused dest dark);
  }
    where
      by : (dest : ℕ) → MayGoDark plant roots touched doubted dest → MayGoDark plant roots touched (insert doubted v) dest
      by dest (inl here) = inl here
      by dest (inr behind) = inr (record {
        device = behind.device;
        bus = behind.bus;
        doubted_one = doubted_more behind.device behind.doubted_one;
        no_root = behind.no_root;
      })

  -- and its buses go dark
  module _ (set : Origins) (first marks new : Marks) (begun more : Origins) (points : Crosspoints) (are : AreMarksOf plant points first) (spread : HasSpread plant set first marks begun waiting doubted) (lost : AreLost plant (no_roots set (buses_at plant v)) marks new (remove waiting v) more (insert doubted v)) where
    behind_v : (roots : List ℕ) → AreRoots roots set → (dest : ℕ) → Contains (no_roots set (buses_at plant v)) dest → IsBehindDoubt plant roots (insert doubted v) dest
    behind_v roots same dest among =
        let kept = was_kept (λ dest. not (contains set dest)) (buses_at plant v) dest among in
        record {
          device = v;
          bus = device_is plant v dest is kept.0;
          doubted_one = doubted_here;
          no_root = sym (same dest) ∙ not_true (contains set dest) kept.1;
        }

    more_devices : AreDevices plant more
    more_devices device waits = by (lost.waits points (spread.kept points are) device waits)
      where
        by : (contains (remove waiting v) device ≡ true) ⊎ WaitsFor plant points (no_roots set (buses_at plant v)) marks (insert doubted v) device → device < length plant.devices
        by (inl was) = spread.devices device (left_waiting device was).1
        by (inr for) = for.below

    more_within : (device : ℕ) → (device ≡ v) ⊎ (contains doubted device ≡ true) → device < length plant.devices
    more_within device (inl same) = omega (arith, same, spread.devices v has)
    more_within device (inr was) = spread.within device was

    more_apart : (device : ℕ) → contains more device ≡ true → contains (insert doubted v) device ≡ false
    more_apart device waits = by (lost.waits points (spread.kept points are) device waits)
      where
        by : (contains (remove waiting v) device ≡ true) ⊎ WaitsFor plant points (no_roots set (buses_at plant v)) marks (insert doubted v) device → contains (insert doubted v) device ≡ false
        by (inl was) =
            let left = left_waiting device was in
            contains_inserted doubted v device ∙ ap (λ b. b || contains doubted device) left.0 ∙ spread.apart device left.1
        by (inr for) = for.fresh

    more_gone : (device dest : ℕ) → contains (insert doubted v) device ≡ true → Contains (no_roots set (buses_at plant device)) dest → contains new.live dest ≡ false
    more_gone device dest doubt among = by (doubted_which device doubt)
      where
        by : (device ≡ v) ⊎ (contains doubted device ≡ true) → contains new.live dest ≡ false
        by (inl same) = lost.dark dest (subst (λ d. Contains (no_roots set (buses_at plant d)) dest) same among)
        by (inr was) = stays_dark marks new dest lost.fewer (spread.gone device dest was among)

    more_come : (old : Crosspoints) (is_among : ℕ → Bool) → AreMarksOf plant old first → HaveMarkedBehind plant old set first is_among → ((device : ℕ) → contains begun device ≡ true → FeedsAmong plant old is_among device) → (device : ℕ) → in_doubt more (insert doubted v) device ≡ true → FeedsAmong plant old is_among device
    more_come old is_among kept behind begins device doubt = by (or_cases (contains more device) (contains (insert doubted v) device) doubt)
      where
        before : (x : ℕ) → in_doubt waiting doubted x ≡ true → FeedsAmong plant old is_among x
        before = spread.come old is_among kept behind begins

        v_feeds : FeedsAmong plant old is_among v
        v_feeds = before v (or_left (contains waiting v) (contains doubted v) has)

        waits : (contains (remove waiting v) device ≡ true) ⊎ WaitsFor plant old (no_roots set (buses_at plant v)) marks (insert doubted v) device → FeedsAmong plant old is_among device
        waits (inl was) = before device (or_left (contains waiting device) (contains doubted device) (left_waiting device was).1)
        waits (inr for) = record {
          dest = for.dest;
          among = behind v for.dest v_feeds for.among (spread.fewer for.dest for.marked);
          fed = for.fed;
        }

        gone : (device ≡ v) ⊎ (contains doubted device ≡ true) → FeedsAmong plant old is_among device
        gone (inl same) = subst (FeedsAmong plant old is_among) (sym same) v_feeds
        gone (inr was) = before device (or_right (contains waiting device) (contains doubted device) was)

        by : (contains more device ≡ true) ⊎ (contains (insert doubted v) device ≡ true) → FeedsAmong plant old is_among device
        by (inl here) = waits (lost.waits old (spread.kept old kept) device here)
        by (inr there) = gone (doubted_which device there)

    pub spread_more : HasSpread plant set first new begun more (insert doubted v)
    spread_more = record {
      losing = λ old roots touched same losing.
          lost.losing old roots touched (moved old roots touched marks (spread.losing old roots touched same losing))
          (λ dest among. inr (behind_v roots same dest among));
      gone = more_gone;
      kept = λ points are. lost.kept points (spread.kept points are);
      fewer = λ dest marked. spread.fewer dest (lost.fewer dest marked);
      turned = λ was are. lost.turned was (spread.turned was are);
      devices = more_devices;
      within = λ device has. more_within device (doubted_which device has);
      apart = more_apart;
      come = more_come;
    }
