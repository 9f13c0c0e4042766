-- What a store makes of the entries of one group.
use Rattle.std.proofs.Common.{◌≡◌, ◌≢◌, ℕ, ◌<◌, ◌==◌, nat_eq, nat_lt, Bool, true, false, cond, [], ◌∷◌, ◌++◌, length, set, get_or, zero, suc, refl, sym, ap, ◌∙◌, arith}
use Rattle.std.specs.List.{list_any, IsDistinct}
use Rattle.std.proofs.lemmas.Bool.{eq-eqb, eqb-true, ne_eqb, ltb-true, or_parts}
use Rattle.std.proofs.lemmas.List.{append-nil, length-map, map-append, length_push}
use Rattle.std.proofs.lemmas.List.Folds.{list_any_none}
use Rattle.std.proofs.lemmas.List.Elements.{All-from_recursion, filter-append}
use Rattle.std.proofs.lemmas.Map.Keys.{IsDistinct-head, IsDistinct-tail, IsDistinct-push}
use Rattle.std.proofs.lemmas.Cmp.{nat_eq_equiv}
use Rattle.plant_config.specs.declared.records.Change.{Change}
use Rattle.salvo_groups.specs.Limits.{group_limit}
use Rattle.salvo_groups.specs.Groups.{Group, entry_dests, has_entry, may_store, with_changed, stored, IsGroup}
use Rattle.salvo_groups.specs.Laws.{changes_of, Stores}

-- whether an entry is of a destination
abbrev pub is_of : ℕ → Change → Bool
is_of dest entry = entry.dest == dest

-- a group has an entry of the destinations of its entries
pub has_entry-dests : (group : Group) (dest : ℕ) → has_entry group dest ≡ list_any (nat_eq dest) (entry_dests group)
has_entry-dests [] dest = refl
has_entry-dests (entry ∷ group) dest = rw (nat_eq_equiv.symm entry.dest dest, has_entry-dests group dest) refl

-- no entry behind the first one is of its destination
absent_behind : (entry : Change) (group : Group) → IsDistinct nat_eq (entry_dests (entry ∷ group)) → has_entry group entry.dest ≡ false
absent_behind entry group distinct =
    has_entry-dests group entry.dest
    ∙ list_any_none (nat_eq entry.dest) (entry_dests group) (All-from_recursion (λ dest. nat_eq entry.dest dest ≡ false) (entry_dests group) (IsDistinct-head nat_eq entry.dest (entry_dests group) distinct))

-- a change in its place leaves the destinations
pub entry_dests-changed : (group : Group) (change : Change) → entry_dests (with_changed group change) ≡ entry_dests group
entry_dests-changed [] change = refl
entry_dests-changed (entry ∷ group) change = rw (same_dest entry, entry_dests-changed group change) refl
  where
    same_dest : (entry : Change) → (cond (entry.dest == change.dest) change entry).dest ≡ entry.dest
    same_dest entry = elim (entry.dest == change.dest) as (λ b. (entry.dest == change.dest) ≡ b → (cond b change entry).dest ≡ entry.dest) [
      | true ↦ λ same. sym (eqb-true entry.dest change.dest same)
      | false ↦ λ other. refl
    ] refl

-- where a group has no entry of the destination, nothing changes
with_changed-absent : (group : Group) (change : Change) → has_entry group change.dest ≡ false → with_changed group change ≡ group
with_changed-absent [] change absent = refl
with_changed-absent (entry ∷ group) change absent =
    let parts = or_parts (entry.dest == change.dest) (has_entry group change.dest) absent in
    rw (parts.0, with_changed-absent group change parts.1) refl

-- a write at the place of the one entry of the destination
pub set-changed : (group : Group) (at : ℕ) (change : Change) → IsDistinct nat_eq (entry_dests group) → at < length group → is_of change.dest (get_or group at change) ≡ true →
    ((k : ℕ) → k < at → is_of change.dest (get_or group k change) ≡ false) → set group at change ≡ with_changed group change
set-changed [] at change distinct within here before = absurd (omega (arith, within))
set-changed (entry ∷ group) zero change distinct within here before =
    let same : entry.dest ≡ change.dest = eqb-true entry.dest change.dest here in
    let absent : has_entry group change.dest ≡ false = ap (has_entry group) (sym same) ∙ absent_behind entry group distinct in
    rw (here, with_changed-absent group change absent) refl
set-changed (entry ∷ group) (suc at) change distinct within here before =
    let other : is_of change.dest entry ≡ false = before zero (omega arith) in
    rw other (ap (λ rest. entry ∷ rest) (set-changed group at change (IsDistinct-tail nat_eq entry.dest (entry_dests group) distinct) (omega arith) here (λ k below. before (suc k) (omega arith))))

-- what a store is in its two cases
pub stored_known : (group : Group) (change : Change) → has_entry group change.dest ≡ true → stored group change ≡ with_changed group change
stored_known group change known = rw known refl

pub stored_new : (group : Group) (change : Change) → has_entry group change.dest ≡ false → stored group change ≡ group ++ change ∷ []
stored_new group change new = rw new refl

-- a group of which there was room for the change is a group after the store
pub IsGroup-stored : (group : Group) (change : Change) → IsGroup group → may_store group change ≡ true → IsGroup (stored group change)
IsGroup-stored group change is may = go (has_entry group change.dest) refl
  where
    go : (known : Bool) → has_entry group change.dest ≡ known → IsGroup (stored group change)
    go true known = rw (stored_known group change known) (record {
      few = rw (length-map group _) is.few;
      distinct = rw (entry_dests-changed group change) is.distinct;
    })
    go false new =
        let room : nat_lt (length group) group_limit ≡ true = rw new at may in
        let below = ltb-true (length group) group_limit room in
        rw (stored_new group change new) (record {
          few = omega (arith, below, length_push group change);
          distinct = rw map-append (IsDistinct-push nat_eq_equiv (entry_dests group) change.dest is.distinct (sym (has_entry-dests group change.dest) ∙ new));
        })

-- the changes of a destination that isn't there
changes_of-absent : (group : Group) (dest : ℕ) → has_entry group dest ≡ false → changes_of group dest ≡ []
changes_of-absent [] dest absent = refl
changes_of-absent (entry ∷ group) dest absent =
    let parts = or_parts (entry.dest == dest) (has_entry group dest) absent in
    rw parts.0 (changes_of-absent group dest parts.1)

changes_of-changed_same : (group : Group) (change : Change) → IsDistinct nat_eq (entry_dests group) → has_entry group change.dest ≡ true → changes_of (with_changed group change) change.dest ≡ change ∷ []
changes_of-changed_same [] change distinct known = cc
changes_of-changed_same (entry ∷ group) change distinct known =
    elim (entry.dest == change.dest) as (λ b. (entry.dest == change.dest) ≡ b → changes_of (with_changed (entry ∷ group) change) change.dest ≡ change ∷ []) [
      | true ↦ λ here.
          let same : entry.dest ≡ change.dest = eqb-true entry.dest change.dest here in
          let absent : has_entry group change.dest ≡ false = ap (has_entry group) (sym same) ∙ absent_behind entry group distinct in
          rw (here, eq-eqb change.dest change.dest refl, with_changed-absent group change absent, changes_of-absent group change.dest absent) refl
      | false ↦ λ there.
          let behind : has_entry group change.dest ≡ true = rw there at known in
          rw (there, there) (changes_of-changed_same group change (IsDistinct-tail nat_eq entry.dest (entry_dests group) distinct) behind)
    ] refl

changes_of-changed_other : (group : Group) (change : Change) (dest : ℕ) → dest ≢ change.dest → changes_of (with_changed group change) dest ≡ changes_of group dest
changes_of-changed_other [] change dest other = refl
changes_of-changed_other (entry ∷ group) change dest other =
    let apart : (change.dest == dest) ≡ false = ne_eqb change.dest dest (λ same. other (sym same)) in
    elim (entry.dest == change.dest) as (λ b. (entry.dest == change.dest) ≡ b → changes_of (with_changed (entry ∷ group) change) dest ≡ changes_of (entry ∷ group) dest) [
      | true ↦ λ here.
          let same : entry.dest ≡ change.dest = eqb-true entry.dest change.dest here in
          let gone : (entry.dest == dest) ≡ false = ap (λ n. n == dest) same ∙ apart in
          rw (here, apart, gone) (changes_of-changed_other group change dest other)
      | false ↦ λ there. rw (there, changes_of-changed_other group change dest other) refl
    ] refl

-- What is stored is read back.
pub Stores-stored : (group : Group) (change : Change) → IsGroup group → Stores group (stored group change) change
Stores-stored group change is = go (has_entry group change.dest) refl
  where
    among : list_any (nat_eq change.dest) (entry_dests group) ≡ has_entry group change.dest
    among = sym (has_entry-dests group change.dest)

    go : (known : Bool) → has_entry group change.dest ≡ known → Stores group (stored group change) change
    go true known = rw (stored_known group change known) (record {
      given = changes_of-changed_same group change is.distinct known;
      others = λ dest other. changes_of-changed_other group change dest other;
      order = rw (among, known) (entry_dests-changed group change);
    })
    go false new = rw (stored_new group change new) (record {
      given = rw (filter-append (is_of change.dest) group (change ∷ []), changes_of-absent group change.dest new, eq-eqb change.dest change.dest refl) refl;
      others = λ dest other. filter-append (is_of dest) group (change ∷ []) ∙ rw (ne_eqb change.dest dest (λ same. other (sym same))) (append-nil (changes_of group dest));
      order = rw (among, new) (map-append (λ (entry : Change). entry.dest) group (change ∷ []));
    })
