-- Weights of sets that differ in one device, and of sets of which one is in the other.
use Rattle.std.proofs.Common.{◌≡◌, ◌≢◌, ◌⊎◌, ℕ, ◌+◌, ◌<◌, ◌≤◌, ◌==◌, Bool, true, false, cond, not, ◌&&◌, ◌||◌, zero, suc, inl, inr, refl, sym, ap, ◌∙◌, arith, eq-eqb}
use Rattle.std.proofs.lemmas.Bool.{cases_eq, ne_eqb, both_ways}
use Rattle.std.specs.FinSet.{contains, insert, remove}
use Rattle.number_tables.proofs.Members.{contains_inserted, contains_removed}
use Rattle.plant_config.specs.Limits.{device_limit}
use Rattle.tally.specs.Tally.{Origins}
use Rattle.tally.specs.Weight.{weights, weigh}

weights_same : (w : ℕ → ℕ) (f g : ℕ → Bool) (n : ℕ) → ((k : ℕ) → k < n → f k ≡ g k) → weights w f n ≡ weights w g n
unfolding weights
weights_same w f g zero same = refl
weights_same w f g (suc n) same =
    let here : cond (f n) (w n) 0 ≡ cond (g n) (w n) 0 = ap (λ b. cond b (w n) 0) (same n (omega arith)) in
    let rest : weights w f n ≡ weights w g n = weights_same w f g n (λ k below. same k (omega arith)) in
    omega (arith, here, rest)

pub weights_one : (w : ℕ → ℕ) (f g : ℕ → Bool) (v n : ℕ) → v < n → f v ≡ true → g v ≡ false → ((k : ℕ) → k ≢ v → f k ≡ g k) → weights w f n ≡ weights w g n + w v
unfolding weights
weights_one w f g v zero below has lacks others = absurd (omega arith)
weights_one w f g v (suc n) below has lacks others = by (weights_one w f g v n) (cases_eq n v)
  where
    by : (v < n → f v ≡ true → g v ≡ false → ((k : ℕ) → k ≢ v → f k ≡ g k) → weights w f n ≡ weights w g n + w v) → (n ≡ v) ⊎ (n ≢ v) → weights w f (suc n) ≡ weights w g (suc n) + w v
    by rest (inl same) =
        let one : cond (f n) (w n) 0 ≡ w n = ap (λ b. cond b (w n) 0) (ap f same ∙ has) in
        let none : cond (g n) (w n) 0 ≡ 0 = ap (λ b. cond b (w n) 0) (ap g same ∙ lacks) in
        let it : w n ≡ w v = ap w same in
        let behind : weights w f n ≡ weights w g n = weights_same w f g n (λ k less. others k (λ is. omega (arith, is, same, less))) in
        omega (arith, one, none, it, behind)
    by rest (inr apart) =
        let here : cond (f n) (w n) 0 ≡ cond (g n) (w n) 0 = ap (λ b. cond b (w n) 0) (others n apart) in
        let before : weights w f n ≡ weights w g n + w v = rest (omega (arith, below, apart)) has lacks others in
        omega (arith, here, before)

weights_most : (f : ℕ → Bool) (n : ℕ) → weights (λ _. 1) f n ≤ n
unfolding weights
weights_most f zero = omega arith
weights_most f (suc n) = by (f n) (weights_most f n)
  where
    by : (b : Bool) → weights (λ _. 1) f n ≤ n → cond b 1 0 + weights (λ _. 1) f n ≤ suc n
    by true rest = omega arith
    by false rest = omega arith

weights_parts : (w : ℕ → ℕ) (f g : ℕ → Bool) (n : ℕ) → ((k : ℕ) → f k ≡ true → g k ≡ true) → weights w g n ≡ weights w f n + weights w (λ k. g k && not (f k)) n
unfolding weights
weights_parts w f g zero within = refl
weights_parts w f g (suc n) within =
    let rest = weights_parts w f g n within in
    let here : cond (g n) (w n) 0 ≡ cond (f n) (w n) 0 + cond (g n && not (f n)) (w n) 0 = by (f n) (g n) (w n) (within n) in
    omega (arith, here, rest)
  where
    by : (a b : Bool) (x : ℕ) → (a ≡ true → b ≡ true) → cond b x 0 ≡ cond a x 0 + cond (b && not a) x 0
    by true true x both = omega arith
    by true false x both = absurd (both_ways false refl (both refl))
    by false true x both = omega arith
    by false false x both = refl

weights_plus : (w : ℕ → ℕ) (f : ℕ → Bool) (n : ℕ) → weights (λ k. suc (w k)) f n ≡ weights (λ _. 1) f n + weights w f n
unfolding weights
weights_plus w f zero = refl
weights_plus w f (suc n) =
    let rest = weights_plus w f n in
    let here : cond (f n) (suc (w n)) 0 ≡ cond (f n) 1 0 + cond (f n) (w n) 0 = by (f n) (w n) in
    omega (arith, here, rest)
  where
    by : (b : Bool) (x : ℕ) → cond b (suc x) 0 ≡ cond b 1 0 + cond b x 0
    by true x = omega arith
    by false x = refl

-- the same of sets
pub weigh_plus : (w : ℕ → ℕ) (f : ℕ → Bool) → weigh (λ k. suc (w k)) f ≡ weigh (λ _. 1) f + weigh w f
unfolding weigh
weigh_plus w f = weights_plus w f device_limit

pub weigh_one : (w : ℕ → ℕ) (f g : ℕ → Bool) (v : ℕ) → v < device_limit → f v ≡ true → g v ≡ false → ((k : ℕ) → k ≢ v → f k ≡ g k) → weigh w f ≡ weigh w g + w v
unfolding weigh
weigh_one w f g v = weights_one w f g v device_limit

pub weigh_most : (f : ℕ → Bool) → weigh (λ _. 1) f ≤ device_limit
unfolding weigh
weigh_most f = weights_most f device_limit

pub weigh_same : (w : ℕ → ℕ) (f g : ℕ → Bool) → ((k : ℕ) → f k ≡ g k) → weigh w f ≡ weigh w g
unfolding weigh
weigh_same w f g same = weights_same w f g device_limit (λ k _. same k)

pub weigh_parts : (w : ℕ → ℕ) (f g : ℕ → Bool) → ((k : ℕ) → f k ≡ true → g k ≡ true) → weigh w g ≡ weigh w f + weigh w (λ k. g k && not (f k))
unfolding weigh
weigh_parts w f g = weights_parts w f g device_limit

pub weigh_within : (w : ℕ → ℕ) (f g : ℕ → Bool) → ((k : ℕ) → f k ≡ true → g k ≡ true) → weigh w f ≤ weigh w g
weigh_within w f g within = omega (arith, weigh_parts w f g within)

-- one device more, or one less
pub weigh_inserted : (w : ℕ → ℕ) (set : Origins) (v : ℕ) → v < device_limit → contains set v ≡ false → weigh w (contains (insert set v)) ≡ weigh w (contains set) + w v
weigh_inserted w set v below lacks =
    weigh_one w (contains (insert set v)) (contains set) v below
    (contains_inserted set v v ∙ ap (λ b. b || contains set v) (eq-eqb v v refl)) lacks
    (λ k apart. contains_inserted set v k ∙ ap (λ b. b || contains set k) (ne_eqb k v apart))

pub weigh_removed : (w : ℕ → ℕ) (set : Origins) (v : ℕ) → v < device_limit → contains set v ≡ true → weigh w (contains set) ≡ weigh w (contains (remove set v)) + w v
weigh_removed w set v below has =
    weigh_one w (contains set) (contains (remove set v)) v below has
    (contains_removed set v v ∙ ap (λ b. not b && contains set v) (eq-eqb v v refl))
    (λ k apart. sym (contains_removed set v k ∙ ap (λ b. not b && contains set k) (ne_eqb k v apart)))

pub weigh_kept : (w : ℕ → ℕ) (set : Origins) (v : ℕ) → contains set v ≡ true → weigh w (contains (insert set v)) ≡ weigh w (contains set)
weigh_kept w set v has = weigh_same w (contains (insert set v)) (contains set) (λ k. contains_inserted set v k ∙ by k (cases_eq k v))
  where
    by : (k : ℕ) → (k ≡ v) ⊎ (k ≢ v) → ((k == v) || contains set k) ≡ contains set k
    by k (inl same) = ap (λ b. b || contains set k) (eq-eqb k v same) ∙ sym (ap (contains set) same ∙ has)
    by k (inr apart) = ap (λ b. b || contains set k) (ne_eqb k v apart)
