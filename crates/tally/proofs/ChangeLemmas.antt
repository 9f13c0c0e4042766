-- Marks with one destination more, or one less, go with what the destinations carry.
use Rattle.std.proofs.Common.{◌≡◌, ◌≢◌, ◌⊎◌, ℕ, ◌<◌, ◌==◌, nat_eq, Bool, true, false, not, ◌&&◌, ◌||◌, length, Option, Some, None, inl, inr, refl, sym, ap, subst, ◌∙◌, arith, eq-eqb, eqb-true}
use Rattle.std.proofs.lemmas.Bool.{cases_eq, both_ways, or_cases, or_left, or_right, and_parts, ne_eqb}
use Rattle.std.specs.FinSet.{contains, insert, remove}
use Rattle.number_tables.proofs.Members.{contains_inserted, contains_removed}
use Rattle.tap_lists.specs.Lists.{Lists, IsUnder, IsHeadOf}
use Rattle.tap_lists.specs.Laws.{PutsFirst, TakesOut}
use Rattle.plant_config.specs.Plant.{PlantData, destinations_of, sources_of}
use Rattle.plant_config.specs.IsPlant.{IsPlant}
use Rattle.crosspoint_state.specs.Crosspoints.{Crosspoints}
use Rattle.crosspoint_state.specs.Taps.{origin_at, AreTapsOf}
use Rattle.mixer_effects.specs.Buses.{output_of, fed_device}
use Rattle.tally.specs.Tally.{Origins}
use Rattle.tally.specs.Marks.{Marks, is_lit, AreMarksOf}
use Rattle.tally.proofs.DeviceLemmas.{fed_is, none_fed, outputs_differ}
use Rattle.tally.proofs.LitLemmas.{lit_linked, head_is, under_below}

-- what the tap lists say of a destination is what it carries, and the head is one of a source of the plant
pub head_carried : (plant : PlantData) (points : Crosspoints) (taps lists : Lists) (dest : ℕ) (found : Option ℕ) → AreTapsOf plant points taps → lists ≡ taps → IsHeadOf lists dest found → found ≡ origin_at plant points dest
head_carried plant points taps lists dest found are same head =
    head_is taps dest found (origin_at plant points dest) (subst (λ (lists : Lists). IsHeadOf lists dest found) same head) (are.each dest)

pub head_below : (plant : PlantData) (points : Crosspoints) (taps lists : Lists) (dest origin : ℕ) → AreTapsOf plant points taps → lists ≡ taps → IsHeadOf lists dest (Some origin) → origin < sources_of plant
head_below plant points taps lists dest origin are same head =
    let under : IsUnder taps origin dest = subst (λ (lists : Lists). IsUnder lists origin dest) same ((head origin).0 refl) in
    omega (arith, under_below taps origin dest under, are.heads)

-- Which devices are fed once an origin more is lit.
pub record FedWith (plant : PlantData) (lit : Lists) (origin : ℕ) (fed : Origins) : Type 0 where
  pub each : (device output : ℕ) → output_of plant device ≡ Some output → contains fed device ≡ ((output == origin) || is_lit lit output)

module _ (plant : PlantData) (points : Crosspoints) (is : IsPlant plant) (old : Marks) (are : AreMarksOf plant points old) where
  inserted : (dest d : ℕ) → contains old.live d ≡ true → contains (insert old.live dest) d ≡ true
  inserted dest d has = contains_inserted old.live dest d ∙ or_right (d == dest) (contains old.live d) has

  one_more : (dest d : ℕ) → contains (insert old.live dest) d ≡ true → (d ≡ dest) ⊎ (contains old.live d ≡ true)
  one_more dest d has = by (or_cases (d == dest) (contains old.live d) (sym (contains_inserted old.live dest d) ∙ has))
    where
      by : ((d == dest) ≡ true) ⊎ (contains old.live d ≡ true) → (d ≡ dest) ⊎ (contains old.live d ≡ true)
      by (inl same) = inl (eqb-true d dest same)
      by (inr before) = inr before

  below_more : (dest : ℕ) → dest < destinations_of plant → (d : ℕ) → contains (insert old.live dest) d ≡ true → d < destinations_of plant
  below_more dest within d has = by (one_more dest d has)
    where
      by : (d ≡ dest) ⊎ (contains old.live d ≡ true) → d < destinations_of plant
      by (inl same) = omega (arith, same, within)
      by (inr before) = are.below d before

  -- a destination that is parked
  pub marked_parked : (dest : ℕ) (turned : Origins) → dest < destinations_of plant → origin_at plant points dest ≡ None → AreMarksOf plant points (record { live = insert old.live dest; lit = old.lit; fed = old.fed; turned = turned })
  marked_parked dest turned within parked = record {
    heads = are.heads;
    members = are.members;
    below = below_more dest within;
    lit = λ origin d. (
      λ under. (inserted dest d ((are.lit origin d).0 under).0, ((are.lit origin d).0 under).1),
      λ both. back origin d both.1 (one_more dest d both.0),
    );
    fed = are.fed;
  }
    where
      back : (origin d : ℕ) → origin_at plant points d ≡ Some origin → (d ≡ dest) ⊎ (contains old.live d ≡ true) → IsUnder old.lit origin d
      back origin d carried (inl same) =
          let none : origin_at plant points d ≡ None = ap (origin_at plant points) same ∙ parked in
          cc
      back origin d carried (inr before) = (are.lit origin d).1 (before, carried)

  -- a destination that carries a picture
  pub marked_lit : (dest origin : ℕ) (lit : Lists) (fed turned : Origins) → dest < destinations_of plant → origin_at plant points dest ≡ Some origin → PutsFirst old.lit lit origin dest → length lit.by_head ≡ length old.lit.by_head → lit.members ≡ old.lit.members → FedWith plant old.lit origin fed →
      AreMarksOf plant points (record { live = insert old.live dest; lit = lit; fed = fed; turned = turned })
  marked_lit dest origin lit fed turned within carried puts heads members feeds = record {
    heads = heads ∙ are.heads;
    members = members ∙ are.members;
    below = below_more dest within;
    lit = λ other d. (λ under. into other d ((puts.under other d).0 under), λ both. back other d both.1 (one_more dest d both.0));
    fed = λ device output has. feeds.each device output has ∙ sym (lit_linked old.lit lit origin dest output puts);
  }
    where
      into : (other d : ℕ) → ((other ≡ origin) × (d ≡ dest)) ⊎ IsUnder old.lit other d → (contains (insert old.live dest) d ≡ true) × (origin_at plant points d ≡ Some other)
      into other d (inl here) =
          (contains_inserted old.live dest d ∙ or_left (d == dest) (contains old.live d) (eq-eqb d dest here.1), ap (origin_at plant points) here.1 ∙ carried ∙ ap Some (sym here.0))
      into other d (inr before) = (inserted dest d ((are.lit other d).0 before).0, ((are.lit other d).0 before).1)

      back : (other d : ℕ) → origin_at plant points d ≡ Some other → (d ≡ dest) ⊎ (contains old.live d ≡ true) → IsUnder lit other d
      back other d stands (inl same) =
          let both : Some other ≡ Some origin = sym stands ∙ ap (origin_at plant points) same ∙ carried in
          let it : other ≡ origin = cc in
          (puts.under other d).1 (inl (it, same))
      back other d stands (inr before) = (puts.under other d).1 (inr ((are.lit other d).1 (before, stands)))

  -- the devices that are fed, where the origin was lit, where it is no output, and where it is one
  pub fed_lit : (origin : ℕ) → is_lit old.lit origin ≡ true → FedWith plant old.lit origin old.fed
  fed_lit origin was = record { each = λ device output has. are.fed device output has ∙ by output (cases_eq output origin) }
    where
      by : (output : ℕ) → (output ≡ origin) ⊎ (output ≢ origin) → is_lit old.lit output ≡ ((output == origin) || is_lit old.lit output)
      by output (inl same) = ap (is_lit old.lit) same ∙ was ∙ sym (or_left (output == origin) (is_lit old.lit output) (eq-eqb output origin same))
      by output (inr apart) = sym (ap (λ b. b || is_lit old.lit output) (ne_eqb output origin apart))

  pub fed_none : (origin : ℕ) → fed_device plant origin ≡ None → FedWith plant old.lit origin old.fed
  fed_none origin none = record {
    each = λ device output has.
        are.fed device output has
        ∙ sym (ap (λ b. b || is_lit old.lit output) (ne_eqb output origin (λ same. none_fed plant origin device none (has ∙ ap Some same))));
  }

  pub fed_one : (origin device : ℕ) → fed_device plant origin ≡ Some device → FedWith plant old.lit origin (insert old.fed device)
  fed_one origin device found = record {
    each = λ other output has.
        contains_inserted old.fed device other
        ∙ ap (λ b. (other == device) || b) (are.fed other output has)
        ∙ ap (λ b. b || is_lit old.lit output) (by other output has (cases_eq output origin));
  }
    where
      puts : output_of plant device ≡ Some origin
      puts = fed_is plant origin device found

      by : (other output : ℕ) → output_of plant other ≡ Some output → (output ≡ origin) ⊎ (output ≢ origin) → (other == device) ≡ (output == origin)
      by other output has (inl same) =
          eq-eqb other device (outputs_differ plant is other device origin (has ∙ ap Some same) puts) ∙ sym (eq-eqb output origin same)
      by other output has (inr apart) =
          ne_eqb other device (λ same. other_output apart (sym has ∙ ap (output_of plant) same ∙ puts)) ∙ sym (ne_eqb output origin apart)
        where
          other_output : (output ≢ origin) → Some output ≡ Some origin → ⊥
          other_output apart both = let same : output ≡ origin = cc in apart same

-- Which devices are fed once a destination has gone dark.
pub record FedBy (plant : PlantData) (lit : Lists) (fed : Origins) : Type 0 where
  pub each : (device output : ℕ) → output_of plant device ≡ Some output → contains fed device ≡ is_lit lit output

module _ (plant : PlantData) (points : Crosspoints) (is : IsPlant plant) (old : Marks) (are : AreMarksOf plant points old) where
  one_less : (dest d : ℕ) → contains (remove old.live dest) d ≡ true → (d ≢ dest) × (contains old.live d ≡ true)
  one_less dest d has =
      let parts = and_parts (not (d == dest)) (contains old.live d) (sym (contains_removed old.live dest d) ∙ has) in
      ((λ same. both_ways (d == dest) (not_true (d == dest) parts.0) (eq-eqb d dest same)), parts.1)
    where
      not_true : (b : Bool) → not b ≡ true → b ≡ false
      not_true true e = cc
      not_true false e = refl

  kept : (dest d : ℕ) → d ≢ dest → contains old.live d ≡ true → contains (remove old.live dest) d ≡ true
  kept dest d apart has = contains_removed old.live dest d ∙ ap (λ b. not b && contains old.live d) (ne_eqb d dest apart) ∙ has

  -- a marked destination without a head is parked
  pub none_carried : (dest : ℕ) → contains old.live dest ≡ true → IsHeadOf old.lit dest None → origin_at plant points dest ≡ None
  none_carried dest marked none = by (origin_at plant points dest) refl
    where
      by : (found : Option ℕ) → origin_at plant points dest ≡ found → found ≡ None
      by None carried = refl
      by (Some origin) carried = sym ((none origin).1 ((are.lit origin dest).1 (marked, carried)))

  -- and one with a head carries that
  pub head_is_carried : (dest origin : ℕ) → IsUnder old.lit origin dest → origin_at plant points dest ≡ Some origin
  head_is_carried dest origin under = ((are.lit origin dest).0 under).1

  -- a destination that is parked
  pub taken_parked : (dest : ℕ) (turned : Origins) → IsHeadOf old.lit dest None → AreMarksOf plant points (record { live = remove old.live dest; lit = old.lit; fed = old.fed; turned = turned })
  taken_parked dest turned none = record {
    heads = are.heads;
    members = are.members;
    below = λ d has. are.below d (one_less dest d has).1;
    lit = λ origin d. (
      λ under. (kept dest d (apart origin d under) ((are.lit origin d).0 under).0, ((are.lit origin d).0 under).1),
      λ both. (are.lit origin d).1 ((one_less dest d both.0).1, both.1),
    );
    fed = are.fed;
  }
    where
      apart : (origin d : ℕ) → IsUnder old.lit origin d → d ≢ dest
      apart origin d under same =
          let e : None ≡ Some origin = (none origin).1 (subst (λ d. IsUnder old.lit origin d) same under) in
          cc

  -- a destination that carries a picture
  pub taken_lit : (dest : ℕ) (lit : Lists) (fed turned : Origins) → TakesOut old.lit lit dest → length lit.by_head ≡ length old.lit.by_head → lit.members ≡ old.lit.members → FedBy plant lit fed →
      AreMarksOf plant points (record { live = remove old.live dest; lit = lit; fed = fed; turned = turned })
  taken_lit dest lit fed turned takes heads members feeds = record {
    heads = heads ∙ are.heads;
    members = members ∙ are.members;
    below = λ d has. are.below d (one_less dest d has).1;
    lit = λ origin d. (
      λ under.
          let was = (are.lit origin d).0 ((takes.under origin d (apart origin d under)).0 under) in
          (kept dest d (apart origin d under) was.0, was.1),
      λ both.
          let before = one_less dest d both.0 in
          (takes.under origin d before.0).1 ((are.lit origin d).1 (before.1, both.1)),
    );
    fed = feeds.each;
  }
    where
      apart : (origin d : ℕ) → IsUnder lit origin d → d ≢ dest
      apart origin d under same = takes.loose origin (subst (λ d. IsUnder lit origin d) same under)

  -- the devices that are fed then, where the origin is no output, where it is lit still, and where it is dark
  module _ (lit : Lists) (origin : ℕ) (others : (other : ℕ) → other ≢ origin → is_lit lit other ≡ is_lit old.lit other) where
    pub left_none : fed_device plant origin ≡ None → FedBy plant lit old.fed
    left_none none = record { each = λ device output has. are.fed device output has ∙ sym (others output (λ same. none_fed plant origin device none (has ∙ ap Some same))) }

    pub left_lit : is_lit old.lit origin ≡ true → is_lit lit origin ≡ true → FedBy plant lit old.fed
    left_lit was still = record { each = λ device output has. are.fed device output has ∙ by output (cases_eq output origin) }
      where
        by : (output : ℕ) → (output ≡ origin) ⊎ (output ≢ origin) → is_lit old.lit output ≡ is_lit lit output
        by output (inl same) = ap (is_lit old.lit) same ∙ was ∙ sym still ∙ ap (is_lit lit) (sym same)
        by output (inr apart) = sym (others output apart)

    pub left_dark : (device : ℕ) → fed_device plant origin ≡ Some device → is_lit lit origin ≡ false → FedBy plant lit (remove old.fed device)
    left_dark device found dark = record { each = λ other output has. contains_removed old.fed device other ∙ by other output has (cases_eq output origin) }
      where
        puts : output_of plant device ≡ Some origin
        puts = fed_is plant origin device found

        by : (other output : ℕ) → output_of plant other ≡ Some output → (output ≡ origin) ⊎ (output ≢ origin) → (not (other == device) && contains old.fed other) ≡ is_lit lit output
        by other output has (inl same) =
            ap (λ b. not b && contains old.fed other) (eq-eqb other device (outputs_differ plant is other device origin (has ∙ ap Some same) puts))
            ∙ sym dark ∙ ap (is_lit lit) (sym same)
        by other output has (inr apart) =
            ap (λ b. not b && contains old.fed other) (ne_eqb other device (λ same. other_output apart (sym has ∙ ap (output_of plant) same ∙ puts)))
            ∙ are.fed other output has ∙ sym (others output apart)
          where
            other_output : (output ≢ origin) → Some output ≡ Some origin → ⊥
            other_output apart both = let same : output ≡ origin = cc in apart same

-- a set with one number more, said the other way round
pub either_way : (other number device : ℕ) (has : Bool) → number ≡ device → ((other == number) || has) ≡ (has || nat_eq device other)
either_way other number device has same = by (cases_eq other device)
  where
    or_true : (b : Bool) → true ≡ (b || true)
    or_true true = refl
    or_true false = refl

    or_false : (b : Bool) → b ≡ (b || false)
    or_false true = refl
    or_false false = refl

    by : (other ≡ device) ⊎ (other ≢ device) → ((other == number) || has) ≡ (has || nat_eq device other)
    by (inl is) =
        ap (λ b. b || has) (eq-eqb other number (is ∙ sym same)) ∙ or_true has ∙ ap (λ b. has || b) (sym (eq-eqb device other (sym is)))
    by (inr apart) =
        ap (λ b. b || has) (ne_eqb other number (λ is. apart (is ∙ same))) ∙ or_false has ∙ ap (λ b. has || b) (sym (ne_eqb device other (λ is. apart (sym is))))
