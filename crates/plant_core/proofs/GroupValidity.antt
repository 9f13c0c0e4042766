-- A store and a clear leave a valid state.
use Rattle.std.proofs.Common.{ℕ, true, false, cond, List, [], ◌∷◌, ◌++◌, length, set, get_or, All, inl, inr, sym, ap, subst, ◌∙◌, arith}
use Rattle.std.specs.Prelude.{◌==◌}
use Rattle.std.proofs.lemmas.Bool.{cases_eq, cases_lt}
use Rattle.std.proofs.lemmas.List.{get_or-set_same, get_or-set_other, get_or_past, length-set}
use Rattle.std.proofs.lemmas.List.Elements.{All-nil, All-push, All-map}
use Rattle.plant_config.specs.declared.records.Change.{Change}
use Rattle.salvo_groups.specs.Groups.{Group, group_of, has_entry, may_store, with_changed, stored, with_store, with_clear}
use Rattle.salvo_groups.proofs.AllGroups.{AreGroups-store, AreGroups-clear}
use Rattle.plant_core.specs.State.{State, IsChangeOf, IsValid}
use Rattle.plant_core.proofs.Validity.{IsValid-groups}

-- a group is replaced: what holds of each group, and of the new one, holds of each
pub each_group : (P : Group → Type 0) (groups : List Group) (number : ℕ) (group : Group) → P [] → ((n : ℕ) → P (group_of groups n)) → P group → (n : ℕ) → P (group_of (set groups number group) n)
each_group P groups number group none all new n = elim (cases_eq n number) [
  | inl here ↦ elim (cases_lt number (length groups)) [
    | inl within ↦ subst P (sym (ap (group_of (set groups number group)) here ∙ get_or-set_same groups number group [] within)) new
    | inr past ↦ subst P (sym (get_or_past (set groups number group) n [] (omega (arith, here, past, length-set groups number group)))) none
  ]
  | inr other ↦ subst P (sym (get_or-set_other groups number n group [] other)) (all n)
]

-- a stored change is of the plant as the others are
pub All-stored : (P : Change → Type 0) (group : Group) (change : Change) → All P group → P change → All P (stored group change)
All-stored P group change all new =
    elim (has_entry group change.dest) as (λ b. All P (cond b (with_changed group change) (group ++ change ∷ []))) [
      | true ↦ All-map P (λ (entry : Change). cond (entry.dest == change.dest) change entry) group (λ k d below. one (get_or group k d) (all k d below))
      | false ↦ All-push P group change all new
    ]
  where
    one : (entry : Change) → P entry → P (cond (entry.dest == change.dest) change entry)
    one entry is = elim (entry.dest == change.dest) as (λ b. P (cond b change entry)) [ true ↦ new | false ↦ is ]

pub IsValid-store : (state : State) (salvo : ℕ) (change : Change) → IsValid state → IsChangeOf state.plant change → IsValid (record state { groups = with_store state.groups salvo change })
IsValid-store state salvo change valid is =
    IsValid-groups state (with_store state.groups salvo change) valid (AreGroups-store state.groups salvo change valid.groups)
    (elim (may_store (group_of state.groups salvo) change) as (λ b. (n : ℕ) → All (IsChangeOf state.plant) (group_of (cond b (set state.groups salvo (stored (group_of state.groups salvo) change)) state.groups) n)) [
      | true ↦
          each_group (All (IsChangeOf state.plant)) state.groups salvo (stored (group_of state.groups salvo) change) (All-nil (IsChangeOf state.plant)) valid.changes
          (All-stored (IsChangeOf state.plant) (group_of state.groups salvo) change (valid.changes salvo) is)
      | false ↦ valid.changes
    ])

pub IsValid-clear : (state : State) (salvo : ℕ) → IsValid state → IsValid (record state { groups = with_clear state.groups salvo })
IsValid-clear state salvo valid =
    IsValid-groups state (with_clear state.groups salvo) valid (AreGroups-clear state.groups salvo valid.groups)
    (each_group (All (IsChangeOf state.plant)) state.groups salvo [] (All-nil (IsChangeOf state.plant)) valid.changes (All-nil (IsChangeOf state.plant)))
