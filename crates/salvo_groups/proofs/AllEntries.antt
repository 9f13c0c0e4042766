-- What is so of all entries stays so, if it is so of each change that is stored.
use Rattle.std.proofs.Common.{◌≡◌, ℕ, ◌==◌, Bool, true, false, List, [], ◌∷◌, cond, length, set, All, inl, inr, refl, sym, subst, ap, ◌∙◌, arith}
use Rattle.std.proofs.lemmas.Bool.{cases_eq, cases_lt}
use Rattle.std.proofs.lemmas.List.{get_or_past, get_or-replicate, length-replicate}
use Rattle.std.proofs.lemmas.List.Elements.{All-nil, All-map, All-push, All-weaker}
use Rattle.std.proofs.Math.ListN.{length-set}
use Rattle.plant_config.specs.declared.records.Change.{Change}
use Rattle.salvo_groups.specs.Limits.{salvo_limit}
use Rattle.salvo_groups.specs.Groups.{Group, has_entry, may_store, stored, start_groups, group_of, with_store, with_clear}
use Rattle.salvo_groups.specs.Laws.{EntriesPass, GoOnPassing}
use Rattle.salvo_groups.proofs.OneGroup.{stored_known, stored_new}
use Rattle.salvo_groups.proofs.AllGroups.{with_store_made, with_store_refused, group_same, group_other}

All-stored : (P : Change → Type 0) (group : Group) (change : Change) → All P group → P change → All P (stored group change)
All-stored P group change all is = go (has_entry group change.dest) refl
  where
    either : (entry : Change) → P entry → P (cond (entry.dest == change.dest) change entry)
    either entry holds = elim (entry.dest == change.dest) as (λ b. P (cond b change entry)) [ true ↦ is | false ↦ holds ]

    go : (known : Bool) → has_entry group change.dest ≡ known → All P (stored group change)
    go true known = rw (stored_known group change known) (All-map P (λ (entry : Change). cond (entry.dest == change.dest) change entry) group (All-weaker P (λ (entry : Change). P (cond (entry.dest == change.dest) change entry)) either group all))
    go false new = rw (stored_new group change new) (All-push P group change all is)

All-set : (P : Change → Type 0) (groups : List Group) (number : ℕ) (group : Group) → ((n : ℕ) → All P (group_of groups n)) → All P group → (n : ℕ) → All P (group_of (set groups number group) n)
All-set P groups number group all is n =
    let Is : Group → Type 0 = λ (g : Group). All P g in
    elim (cases_eq n number) [
      | inl here ↦ elim (cases_lt number (length groups)) [
        | inl within ↦ subst Is (sym (ap (group_of (set groups number group)) here ∙ group_same groups number group within)) is
        | inr past ↦
            let none : group_of (set groups number group) n ≡ [] = get_or_past (set groups number group) n [] (omega (arith, length-set groups number group, here, past)) in
            subst Is (sym none) (All-nil P)
      ]
      | inr there ↦ subst Is (sym (group_other groups number group n there)) (all n)
    ]

pub All-with_store : (P : Change → Type 0) (groups : List Group) (number : ℕ) (change : Change) → ((n : ℕ) → All P (group_of groups n)) → P change → (n : ℕ) → All P (group_of (with_store groups number change) n)
All-with_store P groups number change all is n = go (may_store (group_of groups number) change) refl
  where
    go : (may : Bool) → may_store (group_of groups number) change ≡ may → All P (group_of (with_store groups number change) n)
    go true may = rw (with_store_made groups number change may) (All-set P groups number _ all (All-stored P (group_of groups number) change (all number) is) n)
    go false full = rw (with_store_refused groups number change full) (all n)

pub All-with_clear : (P : Change → Type 0) (groups : List Group) (number : ℕ) → ((n : ℕ) → All P (group_of groups n)) → (n : ℕ) → All P (group_of (with_clear groups number) n)
All-with_clear P groups number all n = All-set P groups number [] all (All-nil P) n

pub All-start : (P : Change → Type 0) (n : ℕ) → All P (group_of start_groups n)
All-start P n =
    let Is : Group → Type 0 = λ (g : Group). All P g in
    elim (cases_lt n salvo_limit) [
      | inl within ↦ subst Is (sym (get_or-replicate salvo_limit n [] [] within)) (All-nil P)
      | inr past ↦ subst Is (sym (get_or_past start_groups n [] (omega (arith, past, length-replicate {A = Group} salvo_limit [])))) (All-nil P)
    ]
