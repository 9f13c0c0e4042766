-- One device more is fed, and waits.
use Rattle.std.proofs.Common.{◌≡◌, ◌⊎◌, ℕ, ◌+◌, ◌<◌, ◌≤◌, ◌==◌, nat_eq, Bool, true, false, ◌||◌, length, Some, inl, inr, refl, sym, ap, ◌∙◌, arith, eq-eqb, eqb-true}
use Rattle.std.proofs.lemmas.Bool.{or_cases, or_left, or_right, ne_eqb}
use Rattle.std.specs.FinSet.{contains, insert}
use Rattle.number_tables.proofs.Members.{contains_inserted}
use Rattle.plant_config.specs.Limits.{device_limit}
use Rattle.plant_config.specs.Plant.{PlantData}
use Rattle.plant_config.specs.IsPlant.{IsPlant}
use Rattle.tally.specs.Tally.{Origins}
use Rattle.tally.specs.MarksInside.{FeedsMore, IsFedNow}
use Rattle.tally.specs.Relit.{AreFedMore, WaitOnceFed}
use Rattle.tally.specs.Weight.{weigh}
use Rattle.tally.proofs.WeightLemmas.{weigh_one, weigh_inserted, weigh_kept}

module _ (plant : PlantData) (is : IsPlant plant) (fed new waiting more : Origins) (number device : ℕ) (feeds : FeedsMore fed new (Some device)) (now : IsFedNow plant fed device) (put : more ≡ insert waiting number) (same : number ≡ device) where
  waits : (other : ℕ) → contains more other ≡ ((other == number) || contains waiting other)
  waits other = ap (λ set. contains set other) put ∙ contains_inserted waiting number other

  here_waits : (other : ℕ) → other ≡ device → contains more other ≡ true
  here_waits other it = waits other ∙ or_left (other == number) (contains waiting other) (eq-eqb other number (it ∙ sym same))

  limit : device < device_limit
  limit = omega (arith, now.below, is.linked.devices)

  no_other : (b : Bool) → (b || false) ≡ b
  no_other true = refl
  no_other false = refl

  fed_weighs : (w : ℕ → ℕ) → weigh w (contains new) ≡ weigh w (contains fed) + w device
  fed_weighs w =
      weigh_one w (contains new) (contains fed) device limit
      (feeds device ∙ or_right (contains fed device) (nat_eq device device) (eq-eqb device device refl)) now.fresh
      (λ k apart. feeds k ∙ ap (λ b. contains fed k || b) (ne_eqb device k (λ it. apart (sym it))) ∙ no_other (contains fed k))

  more_weighs : (w : ℕ → ℕ) → weigh w (contains more) ≤ weigh w (contains waiting) + w device
  more_weighs w = by (contains waiting device) refl
    where
      all : weigh w (contains more) ≡ weigh w (contains (insert waiting device))
      all = ap (λ set. weigh w (contains set)) (put ∙ ap (insert waiting) same)

      by : (b : Bool) → contains waiting device ≡ b → weigh w (contains more) ≤ weigh w (contains waiting) + w device
      by true has = omega (arith, all, weigh_kept w waiting device has)
      by false lacks = omega (arith, all, weigh_inserted w waiting device limit lacks)

  pub light_fed : AreFedMore plant fed new waiting more
  light_fed = record {
    more = λ other has. feeds other ∙ or_left (contains fed other) (nat_eq device other) has;
    below = λ other has. by other (or_cases (other == number) (contains waiting other) (sym (waits other) ∙ has));
    within = λ other has. there other (or_cases (contains fed other) (nat_eq device other) (sym (feeds other) ∙ has));
    work = λ w. omega (arith, fed_weighs w, more_weighs w);
  }
    where
      by : (other : ℕ) → ((other == number) ≡ true) ⊎ (contains waiting other ≡ true) → (contains waiting other ≡ true) ⊎ (other < length plant.devices)
      by other (inl here) = let it : other ≡ device = eqb-true other number here ∙ same in inr (omega (arith, it, now.below))
      by other (inr was) = inl was

      there : (other : ℕ) → (contains fed other ≡ true) ⊎ (nat_eq device other ≡ true) → (contains fed other ≡ true) ⊎ (other < length plant.devices)
      there other (inl was) = inl was
      there other (inr here) = let it : device ≡ other = eqb-true device other here in inr (omega (arith, it, now.below))

  pub light_news : WaitOnceFed fed new waiting more
  light_news = record {
    wait = λ other has. waits other ∙ or_right (other == number) (contains waiting other) has;
    news = λ other has. by other (or_cases (contains fed other) (nat_eq device other) (sym (feeds other) ∙ has));
  }
    where
      by : (other : ℕ) → (contains fed other ≡ true) ⊎ (nat_eq device other ≡ true) → (contains fed other ≡ true) ⊎ (contains more other ≡ true)
      by other (inl was) = inl was
      by other (inr here) = inr (here_waits other (sym (eqb-true device other here)))
