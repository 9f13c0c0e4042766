-- The ties computed by hand, on a plant with a pool of one tie: sources 0 and 1 are local, and 2 and 3 stand for them in
-- another matrix, whose destinations are 0 and 1.
use Rattle.std.proofs.Common.{◌≡◌, ℕ, ◌==◌, cond, [], ◌∷◌, codes, true, false, Some, None, ap, ◌∙◌}
use Rattle.std.specs.Ordering.{nat_cmp}
use Rattle.std.specs.FinMap as finite
use Rattle.std.specs.FinMap.{empty, insert}
use Rattle.number_tables.proofs.PutLemmas.{get-put}
use Rattle.plant_config.specs.Plant.{PlantData}
use Rattle.plant_config.specs.Bench.{bench}
use Rattle.crosspoint_state.specs.Crosspoints.{Crosspoints}
use Rattle.crosspoint_state.specs.Ties.{occupied, wanted, chosen_tie}
use Rattle.crosspoint_state.specs.Applied.{put_all, are_enough, exhausted}

abbrev one_tie : PlantData
one_tie = record bench {
  levels =
      record { matrix = 0; level = 0; first_source = 0; sources = 2; first_dest = 0; destinations = 1 }
      ∷ record { matrix = 1; level = 0; first_source = 2; sources = 2; first_dest = 1; destinations = 2 }
      ∷ [];
  sources =
      record { name = codes "A"; origin = 0; pool = None }
      ∷ record { name = codes "B"; origin = 1; pool = None }
      ∷ record { name = codes "A1"; origin = 0; pool = Some 0 }
      ∷ record { name = codes "B1"; origin = 1; pool = Some 0 }
      ∷ [];
  dest_names = codes "X" ∷ codes "Y" ∷ codes "Z" ∷ [];
  pools = record { from = 0; to = 1; level = 0; ties = 1; reserve = 0 } ∷ [];
}

-- the first destination has taken the one tie
abbrev first : Crosspoints
first = insert empty 1 (record { source = 2; tie = Some 0 })

at : (dest : ℕ) → finite.get first dest ≡ cond (dest == 1) (Some (record { source = 2; tie = Some 0 })) None
at dest = get-put empty 1 (Some (record { source = 2; tie = Some 0 })) dest ∙ ap (cond (dest == 1) (Some (record { source = 2; tie = Some 0 }))) (finite.get-empty nat_cmp dest)

-- with the second destination on another source, or on the same
abbrev with_second : ℕ → Crosspoints
with_second source = put_all first (record { dest = 2; source = Some source } ∷ [])

at_too : (source dest : ℕ) → finite.get (with_second source) dest ≡ cond (dest == 2) (Some (record { source = source; tie = None })) (finite.get first dest)
at_too source dest = get-put first 2 (Some (record { source = source; tie = None })) dest

held : occupied one_tie first 0 ≡ record { tie = Some 0; origin = 0 } ∷ []
unfolding occupied
held = simp at

-- the second can't have another source by it
both_wanted : wanted one_tie (with_second 3) 0 ≡ 2
unfolding occupied
both_wanted = simp (at_too, at)

-- it shares the tie where it wants the same source
one_wanted : wanted one_tie (with_second 2) 0 ≡ 1
unfolding occupied
one_wanted = simp (at_too, at)

shared : chosen_tie one_tie first 2 ≡ Some 0
unfolding chosen_tie occupied
shared = simp at

-- no tie is free for another source
none_free : chosen_tie one_tie first 3 ≡ None
unfolding chosen_tie occupied
none_free = simp at

not_enough : are_enough one_tie first (record { dest = 2; source = Some 3 } ∷ []) ≡ false
unfolding are_enough occupied
not_enough = simp (at_too 3, at)

enough : are_enough one_tie first (record { dest = 2; source = Some 2 } ∷ []) ≡ true
unfolding are_enough occupied
enough = simp (at_too 2, at)

the_pool : exhausted one_tie first (record { dest = 2; source = Some 3 } ∷ []) ≡ Some 0
unfolding exhausted occupied
the_pool = simp (at_too 3, at)
