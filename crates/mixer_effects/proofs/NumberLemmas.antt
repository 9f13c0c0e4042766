-- The numbers of sources in their levels, source by source.
use Rattle.std.proofs.Common.{◌≡◌, ◌≢◌, ◌⊎◌, ℕ, ◌+◌, ◌<◌, ◌≤◌, Some, inl, inr, sym, ap, ◌∙◌, arith}
use Rattle.std.proofs.lemmas.Bool.{cases_eq, cases_lt}
use Rattle.std.specs.Ordering.{nat_cmp}
use Rattle.std.specs.FinMap.{FinMap, empty, get, get-empty}
use Rattle.number_tables.specs.Table.{put}
use Rattle.number_tables.proofs.PutLemmas.{get-put_same, get-put_other}
use Rattle.plant_config.specs.Plant.{PlantData, sources_of}
use Rattle.plant_config.specs.IsPlant.{IsPlant}
use Rattle.plant_config.specs.Sites.{source_number_of}
use Rattle.mixer_effects.specs.WiringInside.{HaveNumbersBelow}
use Rattle.mixer_effects.proofs.PlantLemmas.{no_source}

pub numbers_none : (plant : PlantData) (by_source : FinMap nat_cmp ℕ) → by_source ≡ empty → HaveNumbersBelow plant 0 by_source
numbers_none plant by_source none = record {
  below = λ source below. absurd (omega (arith, below));
  past = λ source past. ap (λ (by_source : FinMap nat_cmp ℕ). get by_source source) none ∙ get-empty nat_cmp source;
}

-- one more source
pub numbers_more : (plant : PlantData) (number found : ℕ) (old new : FinMap nat_cmp ℕ) → HaveNumbersBelow plant number old → source_number_of plant number ≡ Some found → new ≡ put old number (Some found) → HaveNumbersBelow plant (number + 1) new
numbers_more plant number found old new have here put_in = record {
  below = λ source below. by source below (cases_eq source number);
  past = λ source past.
      let apart : source ≢ number = λ e. omega (arith, e, past) in
      ap (λ (by_source : FinMap nat_cmp ℕ). get by_source source) put_in
      ∙ get-put_other old number (Some found) source apart
      ∙ have.past source (omega (arith, past));
}
  where
    by : (source : ℕ) → source < number + 1 → (source ≡ number) ⊎ (source ≢ number) → get new source ≡ source_number_of plant source
    by source below (inl same) =
        ap (λ (by_source : FinMap nat_cmp ℕ). get by_source source) put_in
        ∙ ap (get (put old number (Some found))) same
        ∙ get-put_same old number (Some found)
        ∙ sym here
        ∙ ap (source_number_of plant) (sym same)
    by source below (inr apart) =
        ap (λ (by_source : FinMap nat_cmp ℕ). get by_source source) put_in
        ∙ get-put_other old number (Some found) source apart
        ∙ have.below source (omega (arith, below, apart))

-- all sources
pub numbers_all : (plant : PlantData) (by_source : FinMap nat_cmp ℕ) → IsPlant plant → HaveNumbersBelow plant (sources_of plant) by_source → (source : ℕ) → get by_source source ≡ source_number_of plant source
numbers_all plant by_source is have source = by (cases_lt source (sources_of plant))
  where
    by : (source < sources_of plant) ⊎ (sources_of plant ≤ source) → get by_source source ≡ source_number_of plant source
    by (inl below) = have.below source below
    by (inr past) = have.past source past ∙ sym (no_source plant is source past)
