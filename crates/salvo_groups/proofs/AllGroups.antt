-- A store or a clear is of one group, and groups stay groups.
use Rattle.std.proofs.Common.{◌≡◌, ℕ, ◌<◌, Bool, true, false, List, [], length, set, inl, inr, refl, sym, subst, ap, ◌∙◌, arith, get_or-set_same, get_or-set_other}
use Rattle.std.specs.List.{IsDistinct}
use Rattle.std.proofs.lemmas.Bool.{cases_eq, cases_lt}
use Rattle.std.proofs.lemmas.List.{set-get_or, get_or_past, get_or-replicate, length-replicate}
use Rattle.std.proofs.Math.ListN.{length-set}
use Rattle.plant_config.specs.declared.records.Change.{Change}
use Rattle.salvo_groups.specs.Limits.{salvo_limit}
use Rattle.salvo_groups.specs.Groups.{Group, may_store, stored, start_groups, group_of, with_store, with_clear, IsGroup, AreGroups}
use Rattle.salvo_groups.specs.EntriesInside.{asked}
use Rattle.salvo_groups.specs.Laws.{SameGroupsBut, Clears, StayGroups, StoresAreRead}
use Rattle.salvo_groups.proofs.OneGroup.{IsGroup-stored, Stores-stored}

-- a store in its two cases
pub with_store_made : (groups : List Group) (number : ℕ) (change : Change) → may_store (group_of groups number) change ≡ true →
    with_store groups number change ≡ set groups number (stored (group_of groups number) change)
with_store_made groups number change may = rw may refl

pub with_store_refused : (groups : List Group) (number : ℕ) (change : Change) → may_store (group_of groups number) change ≡ false → with_store groups number change ≡ groups
with_store_refused groups number change full = rw full refl

-- a store leaves the group that was asked in its place
pub set-asked : (groups : List Group) (number : ℕ) (change : Change) → set groups number (asked (group_of groups number) change) ≡ with_store groups number change
set-asked groups number change = go (may_store (group_of groups number) change) refl
  where
    go : (may : Bool) → may_store (group_of groups number) change ≡ may → set groups number (asked (group_of groups number) change) ≡ with_store groups number change
    go true may = rw may refl
    go false full = rw full (set-get_or groups number [])

-- the group that was written, and the others
pub group_same : (groups : List Group) (number : ℕ) (group : Group) → number < length groups → group_of (set groups number group) number ≡ group
group_same groups number group within = get_or-set_same groups number group [] within

pub group_other : (groups : List Group) (number : ℕ) (group : Group) → SameGroupsBut groups (set groups number group) number
group_other groups number group other apart = get_or-set_other groups number other group [] apart

pub IsGroup-nil : IsGroup []
unfolding IsDistinct
IsGroup-nil = record { few = omega arith; distinct = tt }

AreGroups-set : (groups : List Group) (number : ℕ) (group : Group) → AreGroups groups → IsGroup group → AreGroups (set groups number group)
AreGroups-set groups number group are is = record {
  count = length-set groups number group ∙ are.count;
  each = λ other.
      let Is : Group → Type 0 = λ g. IsGroup g in
      elim (cases_eq other number) [
        | inl here ↦ elim (cases_lt number (length groups)) [
          | inl within ↦ subst Is (sym (ap (group_of (set groups number group)) here ∙ group_same groups number group within)) is
          | inr past ↦
              let none : group_of (set groups number group) other ≡ [] = get_or_past (set groups number group) other [] (omega (arith, length-set groups number group, here, past)) in
              subst Is (sym none) IsGroup-nil
        ]
        | inr there ↦ subst Is (sym (group_other groups number group other there)) (are.each other)
      ];
}

pub AreGroups-start : AreGroups start_groups
AreGroups-start = record {
  count = length-replicate {A = Group} salvo_limit [];
  each = λ number.
      let Is : Group → Type 0 = λ g. IsGroup g in
      elim (cases_lt number salvo_limit) [
        | inl within ↦ subst Is (sym (get_or-replicate salvo_limit number [] [] within)) IsGroup-nil
        | inr past ↦ subst Is (sym (get_or_past start_groups number [] (omega (arith, past, length-replicate {A = Group} salvo_limit [])))) IsGroup-nil
      ];
}

pub AreGroups-store : (groups : List Group) (number : ℕ) (change : Change) → AreGroups groups → AreGroups (with_store groups number change)
AreGroups-store groups number change are = go (may_store (group_of groups number) change) refl
  where
    go : (may : Bool) → may_store (group_of groups number) change ≡ may → AreGroups (with_store groups number change)
    go true may = rw (with_store_made groups number change may) (AreGroups-set groups number _ are (IsGroup-stored (group_of groups number) change (are.each number) may))
    go false full = rw (with_store_refused groups number change full) are

pub AreGroups-clear : (groups : List Group) (number : ℕ) → AreGroups groups → AreGroups (with_clear groups number)
AreGroups-clear groups number are = AreGroups-set groups number [] are IsGroup-nil

pub stay_groups : (groups : List Group) → AreGroups groups → StayGroups groups
stay_groups groups are = record {
  store = λ number change. AreGroups-store groups number change are;
  clear = λ number. AreGroups-clear groups number are;
}

pub store_others : (groups : List Group) (number : ℕ) (change : Change) → SameGroupsBut groups (with_store groups number change) number
store_others groups number change other apart = go (may_store (group_of groups number) change) refl
  where
    go : (may : Bool) → may_store (group_of groups number) change ≡ may → group_of (with_store groups number change) other ≡ group_of groups other
    go true may = rw (with_store_made groups number change may) (group_other groups number _ other apart)
    go false full = rw (with_store_refused groups number change full) refl

-- the group after a store that may be made
pub group_stored : (groups : List Group) (number : ℕ) (change : Change) → number < length groups → may_store (group_of groups number) change ≡ true →
    group_of (with_store groups number change) number ≡ stored (group_of groups number) change
group_stored groups number change within may = rw (with_store_made groups number change may) (group_same groups number _ within)

pub stores_are_read : (groups : List Group) → AreGroups groups → StoresAreRead groups
stores_are_read groups are = record {
  made = λ number change within may.
      rw (group_stored groups number change (omega (arith, within, are.count)) may) (Stores-stored (group_of groups number) change (are.each number));
  refused = with_store_refused groups;
  others = store_others groups;
}

pub clears : (groups : List Group) (number : ℕ) → Clears groups (with_clear groups number) number
clears groups number = record {
  empty = elim (cases_lt number (length groups)) [
    | inl within ↦ group_same groups number [] within
    | inr past ↦ get_or_past (set groups number []) number [] (omega (arith, past, length-set {A = Group} groups number []))
  ];
  others = group_other groups number [];
}
