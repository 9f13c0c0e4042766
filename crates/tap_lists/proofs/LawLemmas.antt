-- The laws of all lists.
use Rattle.std.proofs.Common.{◌≡◌, ◌≢◌, ◌⊎◌, ℕ, ◌+◌, ◌≤◌, ◌==◌, Bool, true, false, not, ◌&&◌, cond, List, ◌∷◌, ◌++◌, length, get_or, Some, zero, suc, inl, inr, refl, sym, ap, subst, ◌∙◌, arith, eq-eqb, eqb-true}
use Rattle.std.proofs.lemmas.Bool.{or_right, both_ways, ne_eqb, cases_eq, or_cases, false_from_ne_true}
use Rattle.std.proofs.lemmas.Bool.Decides.{nat_tests}
use Rattle.std.proofs.lemmas.List.Elements.{filter-append}
use Rattle.std.proofs.lemmas.Option.{slice_get-get_or, slice_get_past}
use Rattle.std.specs.List.{slice_get, Contains}
use Rattle.tap_lists.specs.Lists.{Lists, list_of, linked, unlinked, without, IsUnder}
use Rattle.tap_lists.specs.ListsInside.{has}
use Rattle.tap_lists.specs.Laws.{LinksInsertFirst, UnlinksRemove, WalksAnswerAll}
use Rattle.tap_lists.proofs.ListLemmas.{true_or, has-without, without-absent}
use Rattle.tap_lists.proofs.ColumnLemmas.{list_at-set, list_at-map}
use Rattle.tap_lists.proofs.PlaceLemmas.{has-Contains, Contains-has}

pub LinksInsertFirst-all : (lists : Lists) → LinksInsertFirst lists
LinksInsertFirst-all lists head member is_head = record {
  here = list head ∙ cond_here (head == head) (eq-eqb head head refl);
  others = λ other apart. list other ∙ cond_other other (head == other) (ne_eqb head other (λ e. apart (sym e)));
  under = λ other x. (λ u. into other x (cases_eq head other) u, λ u. back other x (cases_eq head other) u);
}
  where
    list : (k : ℕ) → list_of (linked lists head member) k ≡ cond (head == k) (member ∷ list_of lists head) (list_of lists k)
    list k = list_at-set lists.by_head head k (member ∷ list_of lists head) is_head

    cond_here : (b : Bool) → b ≡ true → cond b (member ∷ list_of lists head) (list_of lists head) ≡ member ∷ list_of lists head
    cond_here b e = rw e refl

    cond_other : (other : ℕ) (b : Bool) → b ≡ false → cond b (member ∷ list_of lists head) (list_of lists other) ≡ list_of lists other
    cond_other other b e = rw e refl

    here : (other : ℕ) → head ≡ other → list_of (linked lists head member) other ≡ member ∷ list_of lists other
    here other same = subst (λ k. list_of (linked lists head member) k ≡ member ∷ list_of lists k) same (list head ∙ cond_here (head == head) (eq-eqb head head refl))

    into : (other x : ℕ) → (head ≡ other) ⊎ (head ≢ other) → IsUnder (linked lists head member) other x → ((other ≡ head) × (x ≡ member)) ⊎ IsUnder lists other x
    into other x (inl same) u = cases (or_cases (member == x) (has (list_of lists other) x) (has-Contains (member ∷ list_of lists other) x (subst (λ xs. Contains xs x) (here other same) u)))
      where
        cases : ((member == x) ≡ true) ⊎ (has (list_of lists other) x ≡ true) → ((other ≡ head) × (x ≡ member)) ⊎ IsUnder lists other x
        cases (inl e) = inl (sym same, sym (eqb-true member x e))
        cases (inr h) = inr (Contains-has (list_of lists other) x h)
    into other x (inr apart) u = inr (subst (λ xs. Contains xs x) (list other ∙ cond_other other (head == other) (ne_eqb head other apart)) u)

    back : (other x : ℕ) → (head ≡ other) ⊎ (head ≢ other) → ((other ≡ head) × (x ≡ member)) ⊎ IsUnder lists other x → IsUnder (linked lists head member) other x
    back other x (inl same) (inl e) = subst (λ xs. Contains xs x) (sym (here other same)) (Contains-has (member ∷ list_of lists other) x (true_or member x (has (list_of lists other) x) (sym e.1)))
    back other x (inl same) (inr u) = subst (λ xs. Contains xs x) (sym (here other same)) (Contains-has (member ∷ list_of lists other) x (or_right (member == x) (has (list_of lists other) x) (has-Contains (list_of lists other) x u)))
    back other x (inr apart) (inl e) = absurd (apart (sym e.0))
    back other x (inr apart) (inr u) = subst (λ xs. Contains xs x) (sym (list other ∙ cond_other other (head == other) (ne_eqb head other apart))) u

pub UnlinksRemove-all : (lists : Lists) → UnlinksRemove lists
UnlinksRemove-all lists member = record {
  loose = λ head u. both_ways _ (gone head) (has-Contains _ member u);
  closes = λ head front behind is no_front no_behind.
      list head ∙ ap (without member) is ∙ closed front behind no_front no_behind;
  others = λ head apart. list head ∙ without-absent member (list_of lists head) (absent (list_of lists head) apart);
  under = λ head x apart. (
    λ u. Contains-has _ x (kept head x apart ∙ has-Contains _ x u),
    λ u. Contains-has _ x (sym (kept head x apart) ∙ has-Contains _ x u),
  );
}
  where
    list : (k : ℕ) → list_of (unlinked lists member) k ≡ without member (list_of lists k)
    list k = list_at-map (without member) lists.by_head k refl

    absent : (xs : List ℕ) → ¬ Contains xs member → has xs member ≡ false
    absent xs without_it = false_from_ne_true (has xs member) (λ h. without_it (Contains-has xs member h))

    out_step : (b : Bool) → (not (member == member) && b) ≡ false
    out_step b = grind (arith, nat_tests)

    gone : (head : ℕ) → has (list_of (unlinked lists member) head) member ≡ false
    gone head = ap (λ xs. has xs member) (list head) ∙ has-without member (list_of lists head) member ∙ out_step (has (list_of lists head) member)

    kept_step : (x : ℕ) (b : Bool) → x ≢ member → (not (x == member) && b) ≡ b
    kept_step x b apart = grind (arith, nat_tests)

    kept : (head x : ℕ) → x ≢ member → has (list_of lists head) x ≡ has (list_of (unlinked lists member) head) x
    kept head x apart = sym (ap (λ xs. has xs x) (list head) ∙ has-without member (list_of lists head) x ∙ kept_step x (has (list_of lists head) x) apart)

    cond_out : (xs : List ℕ) (b : Bool) → b ≡ true → cond (not b) (member ∷ xs) xs ≡ xs
    cond_out xs b e = rw e refl

    closed : (front behind : List ℕ) → ¬ Contains front member → ¬ Contains behind member → without member (front ++ member ∷ behind) ≡ front ++ behind
    closed front behind no_front no_behind =
        filter-append (λ other. not (other == member)) front (member ∷ behind)
        ∙ ap (λ xs. xs ++ without member (member ∷ behind)) (without-absent member front (absent front no_front))
        ∙ ap (λ xs. front ++ xs) (cond_out (without member behind) (member == member) (eq-eqb member member refl) ∙ without-absent member behind (absent behind no_behind))

pub WalksAnswerAll-all : (lists : Lists) → WalksAnswerAll lists
WalksAnswerAll-all lists head answers walk = record {
  members = λ place within. at place (omega arith);
  end = at (length (list_of lists head)) (omega arith) ∙ slice_get_past (list_of lists head) (length (list_of lists head)) (omega arith);
}
  where
    at : (read : ℕ) → read ≤ length (list_of lists head) → answers read ≡ slice_get (list_of lists head) read
    at zero within = walk.first
    at (suc read) within =
        let more : suc read ≡ read + 1 = omega arith in
        let there : slice_get (list_of lists head) read ≡ Some (get_or (list_of lists head) read 0) = slice_get-get_or (list_of lists head) read 0 (omega arith) in
        rw more ((walk.next read (get_or (list_of lists head) read 0) (at read (omega arith) ∙ there)).behind head read there)
