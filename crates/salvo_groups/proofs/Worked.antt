-- The definitions computed on a few stores, by hand.
use Rattle.std.proofs.Common.{◌≡◌, ℕ, List, [], ◌∷◌, true, false, Option, Some, None, slice_get, replicate, refl}
use Rattle.plant_config.specs.declared.records.Change.{Change}
use Rattle.salvo_groups.specs.declared.store.Store.TheVariants.{Stored, GroupFull}
use Rattle.salvo_groups.specs.Groups.{Group, may_store, stored, start_groups, group_of, with_clear}
use Rattle.salvo_groups.specs.Answers.{store_answer}
use Rattle.salvo_groups.specs.Laws.{with_stores, first_dests, last_store, entry_of}

-- a destination with its source
abbrev to : ℕ → Option ℕ → Change
to dest source = record { dest = dest; source = source }

-- destinations 4, 5 and 6 with source 3
abbrev three : Group
three = to 4 (Some 3) ∷ to 5 (Some 3) ∷ to 6 (Some 3) ∷ []

three_in_group_7 : group_of (with_stores start_groups 7 three) 7 ≡ three
three_in_group_7 = refl

the_last_is_at_2 : slice_get three 2 ≡ Some (to 6 (Some 3))
the_last_is_at_2 = refl

behind_the_last : slice_get three 3 ≡ None
behind_the_last = refl

others_are_empty : group_of (with_stores start_groups 7 three) 8 ≡ []
others_are_empty = refl

cleared : group_of (with_clear (with_stores start_groups 7 three) 7) 7 ≡ []
cleared = refl

in_its_place : stored three (to 5 None) ≡ to 4 (Some 3) ∷ to 5 None ∷ to 6 (Some 3) ∷ []
in_its_place = refl

behind_all : stored three (to 1 (Some 2)) ≡ to 4 (Some 3) ∷ to 5 (Some 3) ∷ to 6 (Some 3) ∷ to 1 (Some 2) ∷ []
behind_all = refl

-- groups of 255 and of 256 entries, all of destination 0
room_for_one : store_answer (replicate 255 (to 0 None)) (to 1 None) ≡ Stored
room_for_one = refl

no_room : store_answer (replicate 256 (to 0 None)) (to 1 None) ≡ GroupFull
no_room = refl

known_at_256 : store_answer (replicate 256 (to 0 None)) (to 0 (Some 1)) ≡ Stored
known_at_256 = refl

-- stores of two destinations, each twice
abbrev twice : List Change
twice = to 9 (Some 1) ∷ to 2 None ∷ to 9 None ∷ to 2 (Some 8) ∷ []

order_of_first_stores : first_dests twice ≡ 9 ∷ 2 ∷ []
order_of_first_stores = refl

last_of_9 : last_store twice 9 ≡ Some (to 9 None)
last_of_9 = refl

collected : group_of (with_stores start_groups 127 twice) 127 ≡ to 9 None ∷ to 2 (Some 8) ∷ []
collected = refl

past_the_last_group : group_of (with_stores start_groups 128 twice) 128 ≡ []
past_the_last_group = refl
