-- What a dump tells of each number.
use Rattle.std.proofs.Common.{◌≡◌, ℕ, ◌+◌, ◌<◌, ◌≤◌, Bool, true, false, cond, nat_lt, List, [], ◌∷◌, ◌++◌, map, Option, Some, None, IsSome, IsNone, refl, sym, ap, subst, ◌∙◌, arith}
use Rattle.std.proofs.lemmas.Bool.Decides.{nat_tests}
use Rattle.std.specs.List.{range_with_len}
use Rattle.std.specs.Option.{option_and_then, option_map_or}
use Rattle.std.proofs.lemmas.Option.{slice_get_past, slice_get-get_or}
use Rattle.std.proofs.lemmas.List.FromFn.{length-map-range_with_len, get_or-map-range_with_len, map-range_with_len_more}
use Rattle.swp08_messages.specs.declared.message.Message.TheVariants.{DumpAsk}
use Rattle.plant_config.specs.declared.records.Level.{Level}
use Rattle.plant_config.specs.Plant.{PlantData}
use Rattle.plant_config.specs.Sites.{level_at, dest_at}
use Rattle.plant_core.specs.declared.answer.Answer.{Answer}
use Rattle.plant_core.specs.declared.answer.Answer.TheVariants.{Dumped}
use Rattle.plant_core.specs.declared.request.Request.TheVariants.{Told}
use Rattle.plant_core.specs.State.{State}
use Rattle.plant_core.specs.Wide.{is_wide, is_wide_at}
use Rattle.plant_core.specs.Step.{step, dest_count, dumped_at}
use Rattle.plant_core.specs.Answer.{room_of}
use Rattle.plant_core.specs.Laws.{IsDumped}
use Rattle.plant_core.proofs.CountLemmas.{dest_count_within}
use Rattle.plant_core.proofs.Steps.{answers-stands}

-- as many destinations as are dumped
counted : Option Level → ℕ
counted found = option_map_or (λ (at : Level). cond (is_wide at) 0 at.destinations) found 0

-- a level that is found and isn't wide has no more destinations than there is room for
pub level_within : (plant : PlantData) (matrix level : ℕ) (found : Level) → is_wide found ≡ false → Some found ≡ level_at plant matrix level → found.destinations ≤ room_of plant
unfolding counted
level_within plant matrix level found narrow is =
    let count : found.destinations ≡ dest_count plant matrix level = sym (ap (λ b. cond b 0 found.destinations) narrow) ∙ ap counted is in
    omega (arith, count, dest_count_within plant matrix level)

-- one destination more
pub dumped_more : (told : ℕ → Answer) (items : List Answer) (dest : ℕ) → items ≡ map told (range_with_len 0 dest)
    → items ++ told dest ∷ [] ≡ map told (range_with_len 0 (dest + 1))
dumped_more told items dest are =
    ap (λ (items : List Answer). items ++ told dest ∷ []) are ∙ sym (map-range_with_len_more told 0 dest dest (omega arith))

-- a place is in the plant where its number is below its level's count
within : (plant : PlantData) (matrix level dest : ℕ) → is_wide_at plant matrix level ≡ false → IsSome (dest_at plant matrix level dest) → dest < dest_count plant matrix level
within plant matrix level dest = go (level_at plant matrix level)
  where
    go : (found : Option Level) → option_map_or is_wide found false ≡ false → IsSome (option_and_then (λ (at : Level). cond (nat_lt dest at.destinations) (Some (at.first_dest + dest)) None) found)
        → dest < option_map_or (λ (at : Level). cond (is_wide at) 0 at.destinations) found 0
    go None narrow some = cc
    go (Some at) narrow some =
        subst (λ b. dest < cond b 0 at.destinations) (sym narrow) (
        elim (nat_lt dest at.destinations) as (λ b. nat_lt dest at.destinations ≡ b → IsSome (cond b (Some (at.first_dest + dest)) None) → dest < at.destinations) [
          | true ↦ λ below some. grind (arith, nat_tests)
          | false ↦ λ past some. cc
        ] refl some)

past : (plant : PlantData) (matrix level dest : ℕ) → IsNone (dest_at plant matrix level dest) → dest_count plant matrix level ≤ dest
past plant matrix level dest = go (level_at plant matrix level)
  where
    less : (at : Level) (b : Bool) → at.destinations ≤ dest → cond b 0 at.destinations ≤ dest
    less at true most = omega arith
    less at false most = most

    go : (found : Option Level) → IsNone (option_and_then (λ (at : Level). cond (nat_lt dest at.destinations) (Some (at.first_dest + dest)) None) found)
        → option_map_or (λ (at : Level). cond (is_wide at) 0 at.destinations) found 0 ≤ dest
    go None none = omega arith
    go (Some at) none =
        less at (is_wide at) (
        elim (nat_lt dest at.destinations) as (λ b. nat_lt dest at.destinations ≡ b → IsNone (cond b (Some (at.first_dest + dest)) None) → at.destinations ≤ dest) [
          | true ↦ λ below none. cc
          | false ↦ λ past none. grind (arith, nat_tests)
        ] refl none)

-- none of a wide level is dumped
wide-none : (plant : PlantData) (matrix level : ℕ) → is_wide_at plant matrix level ≡ true → dest_count plant matrix level ≡ 0
wide-none plant matrix level = go (level_at plant matrix level)
  where
    go : (found : Option Level) → option_map_or is_wide found false ≡ true → option_map_or (λ (at : Level). cond (is_wide at) 0 at.destinations) found 0 ≡ 0
    go None wide = refl
    go (Some at) wide = ap (λ b. cond b 0 at.destinations) wide

pub dump-IsDumped : (state : State) (panel item matrix level : ℕ) → IsDumped state matrix level (step state (Told panel item (DumpAsk matrix level)))
dump-IsDumped state panel item matrix level =
    let told : ℕ → Answer = λ dest. dumped_at state (record { matrix = matrix; level = level; dest = dest }) in
    let count : ℕ = dest_count state.plant matrix level in
    let many = length-map-range_with_len told 0 count in
    record {
      tells = λ narrow dest source some answers.
          let below : dest < count = within state.plant matrix level dest narrow some in
          slice_get-get_or (map told (range_with_len 0 count)) dest (told dest) (omega (arith, below, many))
          ∙ ap Some (get_or-map-range_with_len told 0 count dest dest (told dest) below (omega arith))
          ∙ ap (λ (source : Option ℕ). Some (Dumped matrix level dest source)) (answers-stands state (record { matrix = matrix; level = level; dest = dest }) source answers);
      no_more = λ dest none. slice_get_past (map told (range_with_len 0 count)) dest (omega (arith, many, past state.plant matrix level dest none));
      wide = λ wide. ap (λ count. map told (range_with_len 0 count)) (wide-none state.plant matrix level wide);
      state = refl;
    }
