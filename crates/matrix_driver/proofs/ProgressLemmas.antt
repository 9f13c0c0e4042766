-- The set of the destinations that are wanted and not settled, as wants and settled sources change.
use Rattle.std.proofs.Common.{◌≡◌, ◌≢◌, ◌⊎◌, ℕ, ◌<◌, ◌≤◌, nat_lt, nat_eq, Bool, true, false, not, ◌&&◌, ◌||◌, Option, Some, None, inl, inr, refl, sym, ap, ◌∙◌, arith, eq-eqb}
use Rattle.std.proofs.lemmas.Bool.{cases_eq, ne_eqb, lt-ltb}
use Rattle.std.proofs.Math.Bool.{and-false}
use Rattle.std.specs.Ordering.{nat_cmp}
use Rattle.std.specs.Option.{option_map, option_map_or, option_and_then, option_eq}
use Rattle.std.specs.FinMap as finite
use Rattle.std.specs.FinSet.{empty, contains, insert, remove, contains-empty}
use Rattle.number_tables.specs.Table.{Entries, Table, put}
use Rattle.number_tables.specs.Numbers.{Numbers, lowest, number_limit}
use Rattle.number_tables.proofs.Members.{contains_inserted, contains_removed}
use Rattle.number_tables.proofs.PutLemmas.{get-put_same, get-put_other}
use Rattle.matrix_driver.specs.declared.crosspoint.Crosspoint.{Crosspoint}
use Rattle.matrix_driver.specs.Progress.{has, is_due, crosspoint_of, next}
use Rattle.matrix_driver.specs.ProgressInside.{progress_of, KeepsDue}
use Rattle.matrix_driver.proofs.LowestDue.{lowest_below}
use Rattle.matrix_driver.proofs.Sources.{source_back}

-- whether a destination is due, by what is wanted of it and at what it is settled
abbrev pub due_of : Option (Option ℕ) → Option (Option ℕ) → Bool
due_of wanted settled =
    option_map_or (λ source. not (option_map_or (λ at. option_eq nat_eq at source) settled false)) wanted false

-- what is so of the destination that changes, and of each other one, is so of all
module _ (wants settled new_wants new_settled : Table (Option ℕ)) (kept after : Numbers) (dest : ℕ) where
  pub kept_by :
      KeepsDue wants settled kept → dest < wants.room → new_wants.room ≡ wants.room → new_settled.room ≡ settled.room
      → ((other : ℕ) → other ≢ dest → finite.get new_wants.entries other ≡ finite.get wants.entries other)
      → ((other : ℕ) → other ≢ dest → finite.get new_settled.entries other ≡ finite.get settled.entries other)
      → contains after dest ≡ is_due (progress_of new_wants new_settled) dest
      → ((other : ℕ) → other ≢ dest → contains after other ≡ contains kept other)
      → KeepsDue new_wants new_settled after
  kept_by is within room settled_room wanted_there settled_there here there = record {
    alike = settled_room ∙ is.alike ∙ sym room;
    few = omega (arith, is.few, room);
    due = λ other. by other (cases_eq other dest);
  }
    where
      by : (other : ℕ) → (other ≡ dest) ⊎ (other ≢ dest) → contains after other ≡ (nat_lt other new_wants.room && is_due (progress_of new_wants new_settled) other)
      by other (inl same) =
          let below : other < new_wants.room = omega (arith, same, within, room) in
          ap (contains after) same ∙ here ∙ ap (is_due (progress_of new_wants new_settled)) (sym same)
          ∙ ap (λ b. b && is_due (progress_of new_wants new_settled) other) (sym (lt-ltb other new_wants.room below))
      by other (inr apart) =
          there other apart ∙ is.due other
          ∙ ap (λ room. nat_lt other room && is_due (progress_of wants settled) other) (sym room)
          ∙ ap (λ wanted. nat_lt other new_wants.room && due_of wanted (finite.get settled.entries other)) (sym (wanted_there other apart))
          ∙ ap (λ at. nat_lt other new_wants.room && due_of (finite.get new_wants.entries other) at) (sym (settled_there other apart))

-- a member of the set is due
pub kept_due : (wants settled : Table (Option ℕ)) (kept : Numbers) (dest : ℕ) → KeepsDue wants settled kept → dest < wants.room → contains kept dest ≡ is_due (progress_of wants settled) dest
kept_due wants settled kept dest is within = is.due dest ∙ ap (λ b. b && is_due (progress_of wants settled) dest) (lt-ltb dest wants.room within)

removed_there : (kept : Numbers) (dest other : ℕ) → other ≢ dest → contains (remove kept dest) other ≡ contains kept other
removed_there kept dest other apart = contains_removed kept dest other ∙ ap (λ b. not b && contains kept other) (ne_eqb other dest apart)

removed_here : (kept : Numbers) (dest : ℕ) → contains (remove kept dest) dest ≡ false
removed_here kept dest = contains_removed kept dest dest ∙ ap (λ b. not b && contains kept dest) (eq-eqb dest dest refl)

inserted_there : (kept : Numbers) (dest other : ℕ) → other ≢ dest → contains (insert kept dest) other ≡ contains kept other
inserted_there kept dest other apart = contains_inserted kept dest other ∙ ap (λ b. b || contains kept other) (ne_eqb other dest apart)

inserted_here : (kept : Numbers) (dest : ℕ) → contains (insert kept dest) dest ≡ true
inserted_here kept dest = contains_inserted kept dest dest ∙ ap (λ b. b || contains kept dest) (eq-eqb dest dest refl)

-- a source is wanted
module _ (wants new settled : Table (Option ℕ)) (kept : Numbers) (crosspoint : Crosspoint) (is : KeepsDue wants settled kept) (within : crosspoint.dest < wants.room) (room : new.room ≡ wants.room) (entries : new.entries ≡ put wants.entries crosspoint.dest (Some crosspoint.source)) where
  dest : ℕ
  dest = crosspoint.dest

  here : is_due (progress_of new settled) crosspoint.dest ≡ not (has settled.entries crosspoint)
  here =
      ap (λ (entries : Entries (Option ℕ)). due_of (finite.get entries crosspoint.dest) (finite.get settled.entries crosspoint.dest)) entries
      ∙ ap (λ wanted. due_of wanted (finite.get settled.entries crosspoint.dest)) (get-put_same wants.entries crosspoint.dest (Some crosspoint.source))

  there : (other : ℕ) → other ≢ crosspoint.dest → finite.get new.entries other ≡ finite.get wants.entries other
  there other apart = ap (λ (entries : Entries (Option ℕ)). finite.get entries other) entries ∙ get-put_other wants.entries crosspoint.dest (Some crosspoint.source) other apart

  pub noted_settled : has settled.entries crosspoint ≡ true → KeepsDue new settled (remove kept crosspoint.dest)
  noted_settled e =
      kept_by wants settled new settled kept (remove kept crosspoint.dest) crosspoint.dest is within room refl there (λ other apart. refl)
      (removed_here kept crosspoint.dest ∙ sym (here ∙ ap not e)) (removed_there kept crosspoint.dest)

  pub noted_due : has settled.entries crosspoint ≡ false → KeepsDue new settled (insert kept crosspoint.dest)
  noted_due e =
      kept_by wants settled new settled kept (insert kept crosspoint.dest) crosspoint.dest is within room refl there (λ other apart. refl)
      (inserted_here kept crosspoint.dest ∙ sym (here ∙ ap not e)) (inserted_there kept crosspoint.dest)

-- of a destination that is due something is wanted
pub due_wanted : (wanted settled : Option (Option ℕ)) → due_of wanted settled ≡ true → due_of wanted None ≡ true
due_wanted None settled e = e
due_wanted (Some source) settled e = refl

pub settled_due : (wanted settled : Option (Option ℕ)) (source : Option ℕ) → due_of wanted settled ≡ true → due_of wanted (Some source) ≡ not (option_map_or (λ at. option_eq nat_eq at source) wanted false)
settled_due None settled source e = cc
settled_due (Some want) settled source e = ap not (source_back source want)

-- a destination that is due is settled at a source, or isn't settled
module _ (wants settled new : Table (Option ℕ)) (kept : Numbers) (dest : ℕ) (is : KeepsDue wants settled kept) (within : dest < wants.room) (due : is_due (progress_of wants settled) dest ≡ true) (room : new.room ≡ settled.room) where
  was : contains kept dest ≡ true
  was = kept_due wants settled kept dest is within ∙ due

  module _ (at : Option (Option ℕ)) (entries : new.entries ≡ put settled.entries dest at) where
    now : is_due (progress_of wants new) dest ≡ due_of (finite.get wants.entries dest) at
    now =
        ap (λ (entries : Entries (Option ℕ)). due_of (finite.get wants.entries dest) (finite.get entries dest)) entries
        ∙ ap (due_of (finite.get wants.entries dest)) (get-put_same settled.entries dest at)

    others : (other : ℕ) → other ≢ dest → finite.get new.entries other ≡ finite.get settled.entries other
    others other apart = ap (λ (entries : Entries (Option ℕ)). finite.get entries other) entries ∙ get-put_other settled.entries dest at other apart

  pub opened_kept : new.entries ≡ put settled.entries dest None → KeepsDue wants new kept
  opened_kept entries =
      kept_by wants settled wants new kept kept dest is within refl room (λ other apart. refl) (others None entries)
      (was ∙ sym (now None entries ∙ due_wanted (finite.get wants.entries dest) (finite.get settled.entries dest) due)) (λ other apart. refl)

  module _ (source : Option ℕ) (entries : new.entries ≡ put settled.entries dest (Some source)) where
    here_now : is_due (progress_of wants new) dest ≡ not (has wants.entries (crosspoint_of dest source))
    here_now = now (Some source) entries ∙ settled_due (finite.get wants.entries dest) (finite.get settled.entries dest) source due

    pub settled_done : has wants.entries (crosspoint_of dest source) ≡ true → KeepsDue wants new (remove kept dest)
    settled_done e =
        kept_by wants settled wants new kept (remove kept dest) dest is within refl room (λ other apart. refl) (others (Some source) entries)
        (removed_here kept dest ∙ sym (here_now ∙ ap not e)) (removed_there kept dest)

    pub settled_still_due : has wants.entries (crosspoint_of dest source) ≡ false → KeepsDue wants new kept
    settled_still_due e =
        kept_by wants settled wants new kept kept dest is within refl room (λ other apart. refl) (others (Some source) entries)
        (was ∙ sym (here_now ∙ ap not e)) (λ other apart. refl)

-- at the start nothing is due
pub none_due : (wants settled : Table (Option ℕ)) (kept : Numbers) → wants.entries ≡ finite.empty → wants.room ≤ number_limit → settled.room ≡ wants.room → kept ≡ empty → KeepsDue wants settled kept
none_due wants settled kept none few alike nobody = record {
  alike = alike;
  few = few;
  due = λ dest.
      ap (λ kept. contains kept dest) nobody
      ∙ contains-empty nat_cmp dest
      ∙ sym (ap (λ (entries : Entries (Option ℕ)). nat_lt dest wants.room && due_of (finite.get entries dest) (finite.get settled.entries dest)) none
      ∙ ap (λ wanted. nat_lt dest wants.room && due_of wanted (finite.get settled.entries dest)) (finite.get-empty nat_cmp dest)
      ∙ and-false (nat_lt dest wants.room));
}

-- the lowest member of the set is the lowest destination that is due
pub next_is : (wants settled : Table (Option ℕ)) (kept : Numbers) (found : Option ℕ) → KeepsDue wants settled kept → found ≡ lowest kept → option_and_then (λ dest. option_map (crosspoint_of dest) (finite.get wants.entries dest)) found ≡ next (progress_of wants settled)
next_is wants settled kept found is e =
    ap (option_and_then (λ dest. option_map (crosspoint_of dest) (finite.get wants.entries dest))) (e ∙ lowest_below kept (is_due (progress_of wants settled)) wants.room is.due)
