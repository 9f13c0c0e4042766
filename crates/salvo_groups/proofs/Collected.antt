-- Stores into an empty group, one after the other.
use Rattle.std.proofs.Common.{◌≡◌, ◌≢◌, ℕ, ◌<◌, ◌≤◌, ◌==◌, nat_eq, Bool, true, false, not, cond, List, [], ◌∷◌, ◌++◌, length, filter, find, Some, refl, sym, ap, subst, ◌∙◌, arith}
use Rattle.std.specs.List.{list_any, slice_get}
use Rattle.std.proofs.lemmas.Bool.{eq-eqb, eqb-true, lt-ltb, or_left, or_right, both_ways}
use Rattle.std.proofs.lemmas.List.{append-nil, append_assoc, length-map, length_push, reverse-append}
use Rattle.std.proofs.lemmas.List.Elements.{filter-append}
use Rattle.std.proofs.lemmas.Map.Views.{any-filter_same}
use Rattle.plant_config.specs.declared.records.Change.{Change}
use Rattle.salvo_groups.specs.Limits.{salvo_limit, group_limit}
use Rattle.salvo_groups.specs.Groups.{Group, entry_dests, has_entry, may_store, stored, group_of, with_store, AreGroups}
use Rattle.salvo_groups.specs.Laws.{changes_of, with_dest, with_stores, first_dests, last_store, entry_of, SameGroupsBut, Stores, Collects, StoresCollect}
use Rattle.salvo_groups.proofs.OneGroup.{is_of, has_entry-dests, Stores-stored}
use Rattle.salvo_groups.proofs.AllGroups.{IsGroup-nil, AreGroups-store, store_others, group_stored}

-- what holds of no changes, and of some with one more behind them, holds of all
from_front : (P : List Change → Type 0) → P [] → ((changes : List Change) (change : Change) → P changes → P (changes ++ change ∷ [])) → (changes : List Change) → P changes
from_front P none more changes = go [] changes none
  where
    go : (front rest : List Change) → P front → P (front ++ rest)
    go front [] holds = subst P (sym (append-nil front)) holds
    go front (change ∷ rest) holds = subst P (append_assoc front (change ∷ []) rest) (go (front ++ change ∷ []) rest (more front change holds))

with_stores_push : (groups : List Group) (number : ℕ) (changes : List Change) (change : Change) → with_stores groups number (changes ++ change ∷ []) ≡ with_store (with_stores groups number changes) number change
with_stores_push groups number [] change = refl
with_stores_push groups number (first ∷ changes) change = with_stores_push (with_store groups number first) number changes change

AreGroups-stores : (groups : List Group) (number : ℕ) (changes : List Change) → AreGroups groups → AreGroups (with_stores groups number changes)
AreGroups-stores groups number [] are = are
AreGroups-stores groups number (change ∷ changes) are = AreGroups-stores (with_store groups number change) number changes (AreGroups-store groups number change are)

stores_others : (groups : List Group) (number : ℕ) (changes : List Change) → SameGroupsBut groups (with_stores groups number changes) number
stores_others groups number [] other apart = refl
stores_others groups number (change ∷ changes) other apart = stores_others (with_store groups number change) number changes other apart ∙ store_others groups number change other apart

-- a destination behind others, those of a first one left out
with_dest_behind : (first : ℕ) (dests : List ℕ) (dest : ℕ) → first ∷ filter (λ n. not (n == first)) (with_dest dests dest) ≡ with_dest (first ∷ filter (λ n. not (n == first)) dests) dest
with_dest_behind first dests dest = go (dest == first) (list_any (nat_eq dest) dests) refl refl
  where
    -- what isn't the first one stays
    kept : (dest == first) ≡ false → (n : ℕ) → nat_eq dest n ≡ true → not (n == first) ≡ true
    kept other n same = rw (sym (ap (λ m. m == first) (eqb-true dest n same)) ∙ other) refl

    stays : (dest == first) ≡ false → list_any (nat_eq dest) (filter (λ n. not (n == first)) dests) ≡ list_any (nat_eq dest) dests
    stays other = any-filter_same (nat_eq dest) (λ n. not (n == first)) true (kept other) dests

    go : (same among : Bool) → (dest == first) ≡ same → list_any (nat_eq dest) dests ≡ among → first ∷ filter (λ n. not (n == first)) (with_dest dests dest) ≡ with_dest (first ∷ filter (λ n. not (n == first)) dests) dest
    go true true same among = rw (same, among) refl
    go true false same among = rw (same, among, filter-append (λ n. not (n == first)) dests (dest ∷ []), same, append-nil) refl
    go false true other among = rw (other, among, stays other, among) refl
    go false false other among = rw (other, among, stays other, among, filter-append (λ n. not (n == first)) dests (dest ∷ []), other) refl

first_dests_push : (changes : List Change) (change : Change) → first_dests (changes ++ change ∷ []) ≡ with_dest (first_dests changes) change.dest
first_dests_push [] change = refl
first_dests_push (first ∷ changes) change =
    ap (λ dests. first.dest ∷ filter (λ dest. not (dest == first.dest)) dests) (first_dests_push changes change)
    ∙ with_dest_behind first.dest (first_dests changes) change.dest

last_store_push : (changes : List Change) (change : Change) (dest : ℕ) → last_store (changes ++ change ∷ []) dest ≡ cond (change.dest == dest) (Some change) (last_store changes dest)
last_store_push changes change dest = ap (find (is_of dest)) (reverse-append changes (change ∷ []))

-- what a group has for a destination is the first of its changes of it
entry_of-changes : (group : Group) (dest : ℕ) → entry_of group dest ≡ slice_get (changes_of group dest) 0
entry_of-changes [] dest = refl
entry_of-changes (entry ∷ group) dest = elim (entry.dest == dest) as (λ b. cond b (Some entry) (entry_of group dest) ≡ slice_get (cond b (entry ∷ changes_of group dest) (changes_of group dest)) 0) [
  | true ↦ refl
  | false ↦ entry_of-changes group dest
]

entry_of-stored : (old new : Group) (change : Change) (dest : ℕ) → Stores old new change → entry_of new dest ≡ cond (change.dest == dest) (Some change) (entry_of old dest)
entry_of-stored old new change dest stores = go (change.dest == dest) refl
  where
    go : (b : Bool) → (change.dest == dest) ≡ b → entry_of new dest ≡ cond (change.dest == dest) (Some change) (entry_of old dest)
    go true here =
        let same : change.dest ≡ dest = eqb-true change.dest dest here in
        entry_of-changes new dest ∙ ap (λ changes. slice_get changes 0) (ap (changes_of new) (sym same) ∙ stores.given) ∙ rw here refl
    go false there =
        let apart : dest ≢ change.dest = λ same. both_ways (change.dest == dest) there (eq-eqb change.dest dest (sym same)) in
        entry_of-changes new dest ∙ ap (λ changes. slice_get changes 0) (stores.others dest apart) ∙ sym (entry_of-changes old dest) ∙ rw there refl

length-with_dest : (dests : List ℕ) (dest : ℕ) → length dests ≤ length (with_dest dests dest)
length-with_dest dests dest = elim (list_any (nat_eq dest) dests) as (λ b. length dests ≤ length (cond b dests (dests ++ dest ∷ []))) [
  | true ↦ omega arith
  | false ↦ omega (arith, length_push dests dest)
]

-- where there is room for the destinations of some stores, each of them is made
may_store_more : (group : Group) (change : Change) → length (with_dest (entry_dests group) change.dest) ≤ group_limit → may_store group change ≡ true
may_store_more group change room = go (has_entry group change.dest) refl
  where
    go : (known : Bool) → has_entry group change.dest ≡ known → may_store group change ≡ true
    go true known = or_left (has_entry group change.dest) _ known
    go false new =
        let among : list_any (nat_eq change.dest) (entry_dests group) ≡ false = sym (has_entry-dests group change.dest) ∙ new in
        let wide : length (entry_dests group ++ change.dest ∷ []) ≤ group_limit = rw among at room in
        or_right (has_entry group change.dest) _ (lt-ltb (length group) group_limit (omega (arith, wide, length_push (entry_dests group) change.dest, length-map group (λ (entry : Change). entry.dest))))

pub stores_collect : (groups : List Group) (number : ℕ) (changes : List Change) → AreGroups groups → number < salvo_limit → group_of groups number ≡ [] → length (first_dests changes) ≤ group_limit → StoresCollect groups number changes
stores_collect groups number changes are within empty room = record {
  collected = from_front Collected none more changes room;
  others = stores_others groups number changes;
}
  where
    Collected : List Change → Type 0
    Collected changes = length (first_dests changes) ≤ group_limit → Collects changes (group_of (with_stores groups number changes) number)

    none : Collected []
    none room = rw empty (record { order = refl; once = IsGroup-nil.distinct; last = λ dest. refl })

    more : (changes : List Change) (change : Change) → Collected changes → Collected (changes ++ change ∷ [])
    more changes change collected room =
        let before = with_stores groups number changes in
        let group = group_of before number in
        let are_before = AreGroups-stores groups number changes are in
        let order = first_dests_push changes change in
        let wide : length (with_dest (first_dests changes) change.dest) ≤ group_limit = rw order at room in
        let collects : Collects changes group = collected (omega (arith, wide, length-with_dest (first_dests changes) change.dest)) in
        let wider : length (with_dest (entry_dests group) change.dest) ≤ group_limit = rw collects.order wide in
        let may = may_store_more group change wider in
        let same : group_of (with_stores groups number (changes ++ change ∷ [])) number ≡ stored group change =
        ap (λ gs. group_of gs number) (with_stores_push groups number changes change) ∙ group_stored before number change (omega (arith, within, are_before.count)) may in
        let stores : Stores group (stored group change) change = Stores-stored group change (are_before.each number) in
        let is = (AreGroups-stores groups number (changes ++ change ∷ []) are).each number in
        record {
          order = ap entry_dests same ∙ stores.order ∙ ap (λ dests. with_dest dests change.dest) collects.order ∙ sym order;
          once = is.distinct;
          last = λ dest.
              ap (λ g. entry_of g dest) same ∙ entry_of-stored group (stored group change) change dest stores
              ∙ ap (cond (change.dest == dest) (Some change)) (collects.last dest) ∙ sym (last_store_push changes change dest);
        }
