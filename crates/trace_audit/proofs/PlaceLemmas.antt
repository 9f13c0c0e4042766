-- Lists of entries that have positions: which stand at one, and in what order.
use Rattle.std.proofs.Common.{◌≡◌, ◌≢◌, ◌⊎◌, ℕ, zero, suc, ◌+◌, ◌<◌, ◌≤◌, ◌==◌, ltb, max, Bool, true, false, cond, List, [], ◌∷◌, ◌++◌, length, All, refl, sym, ap, ◌∙◌, subst, inl, inr, ⊎_elim, eq-eqb, eqb-true, ltb-true, ltb-false, lt-ltb, le-ltb, ne_eqb, append-nil, append_assoc, length-append, arith}
use Rattle.std.specs.List.{fold, filter, flat_map, range_with_len}
use Rattle.std.specs.List.Sorted.{IsPermutation}
use Rattle.std.proofs.lemmas.Bool.{false≢true}
use Rattle.std.proofs.lemmas.Grind.{flat_map-append}
use Rattle.std.proofs.lemmas.List.Elements.{All-nil, All-cons, All-head, All-tail, All-weaker, All-append, All-filter, filter_passes, filter-append}
use Rattle.std.proofs.lemmas.List.Sums.{length-filter}
use Rattle.std.proofs.lemmas.List.Sorted.{sum_by-IsPermutation, IsPermutation-refl, IsPermutation-cons, IsPermutation-middle, IsPermutation-append_left, IsPermutation-trans, All-permutation}

-- two numbers are the same, or not
same_or_not : (a b : ℕ) → (a ≡ b) ⊎ (a ≢ b)
same_or_not a b =
    elim (a == b) as (λ test. (a == b) ≡ test → (a ≡ b) ⊎ (a ≢ b)) [
      | true ↦ λ is. inl (eqb-true a b is)
      | false ↦ λ is. inr (λ same. false≢true (sym is ∙ eq-eqb a b same))
    ] refl

pub under_or_not : (a b : ℕ) → (a < b) ⊎ (b ≤ a)
under_or_not a b =
    elim (ltb a b) as (λ test. ltb a b ≡ test → (a < b) ⊎ (b ≤ a)) [
      | true ↦ λ is. inl (ltb-true a b is)
      | false ↦ λ is. inr (ltb-false a b is)
    ] refl

-- one number more, at the end
range-more : (from count : ℕ) → range_with_len from (count + 1) ≡ range_with_len from count ++ (from + count) ∷ []
range-more from zero = let same : from ≡ from + 0 = omega arith in ap (λ (number : ℕ). number ∷ []) same
range-more from (suc count) =
    let next : suc count + 1 ≡ suc (count + 1) = omega arith in
    let same : from + 1 + count ≡ from + suc count = omega arith in
    ap (range_with_len from) next
    ∙ ap (λ (numbers : List ℕ). from ∷ numbers) (range-more (from + 1) count ∙ ap (λ (last : ℕ). range_with_len (from + 1) count ++ last ∷ []) same)

module _ {E : Type 0} (place : E → ℕ) where
  -- those at a position,
  abbrev pub at : ℕ → List E → List E
  at position entries = filter (λ entry. place entry == position) entries

  -- those below it,
  abbrev pub below : ℕ → List E → List E
  below position entries = flat_map (λ earlier. at earlier entries) (range_with_len 0 position)

  -- and how many positions there are.
  abbrev pub count : List E → ℕ
  count entries = fold (λ count entry. max count (place entry + 1)) 0 entries

  -- The positions of a list are the numbers from this one on.
  abbrev pub AreFrom : ℕ → List E → Type 0
  AreFrom position [] = Unit {0}
  AreFrom position (entry ∷ entries) = (place entry ≡ position) × AreFrom (position + 1) entries

  pub below-more : (position : ℕ) (entries : List E) → below (position + 1) entries ≡ below position entries ++ at position entries
  below-more position entries =
      ap (flat_map (λ earlier. at earlier entries)) (range-more 0 position)
      ∙ flat_map-append (λ earlier. at earlier entries) (range_with_len 0 position) ((0 + position) ∷ [])
      ∙ ap (λ (list : List E). below position entries ++ list) (append-nil (at (0 + position) entries))
      ∙ ap (λ (number : ℕ). below position entries ++ at number entries) same
    where
      same : 0 + position ≡ position
      same = omega arith

  pub at-here : (position : ℕ) (entry : E) (entries : List E) → place entry ≡ position → at position (entry ∷ entries) ≡ entry ∷ at position entries
  at-here position entry entries is =
      ap (λ (test : Bool). cond test (entry ∷ at position entries) (at position entries)) (eq-eqb (place entry) position is)

  at-other : (position : ℕ) (entry : E) (entries : List E) → place entry ≢ position → at position (entry ∷ entries) ≡ at position entries
  at-other position entry entries other =
      ap (λ (test : Bool). cond test (entry ∷ at position entries) (at position entries)) (ne_eqb (place entry) position other)

  -- Below a position nothing changes where one more stands at it or behind.
  below-other : (position : ℕ) (entry : E) (entries : List E) → position ≤ place entry → below position (entry ∷ entries) ≡ below position entries
  below-other zero entry entries behind = refl
  below-other (suc position) entry entries behind =
      let next : suc position ≡ position + 1 = omega arith in
      let first = below-other position entry entries (omega arith) in
      let last = at-other position entry entries (omega arith) in
      ap (λ (number : ℕ). below number (entry ∷ entries)) next ∙ below-more position (entry ∷ entries)
      ∙ cc (first, last) ∙ sym (below-more position entries) ∙ ap (λ (number : ℕ). below number entries) (sym next)

  below-one : (position : ℕ) (entry : E) (entries : List E) → place entry < position → IsPermutation (below position (entry ∷ entries)) (entry ∷ below position entries)
  below-one zero entry entries within = absurd (omega arith)
  below-one (suc position) entry entries within =
      let next : position + 1 ≡ suc position = omega arith in
      subst (λ (number : ℕ). IsPermutation (below number (entry ∷ entries)) (entry ∷ below number entries)) next
      (subst (λ (list : List E). IsPermutation list (entry ∷ below (position + 1) entries)) (sym (below-more position (entry ∷ entries)))
      (subst (λ (list : List E). IsPermutation (below position (entry ∷ entries) ++ at position (entry ∷ entries)) (entry ∷ list)) (sym (below-more position entries))
      (⊎_elim
      (λ here.
      let first = below-other position entry entries (omega arith) in
      let last = at-here position entry entries here in
      subst (λ (list : List E). IsPermutation (list ++ at position (entry ∷ entries)) (entry ∷ (below position entries ++ at position entries))) (sym first)
      (subst (λ (list : List E). IsPermutation (below position entries ++ list) (entry ∷ (below position entries ++ at position entries))) (sym last)
      (IsPermutation-middle (below position entries) entry (at position entries))))
      (λ other.
      let last = at-other position entry entries other in
      subst (λ (list : List E). IsPermutation (below position (entry ∷ entries) ++ list) (entry ∷ (below position entries ++ at position entries))) (sym last)
      (IsPermutation-append_left (at position entries) (below position (entry ∷ entries)) (entry ∷ below position entries) (below-one position entry entries (omega arith))))
      (same_or_not (place entry) position))))

  below-none : (position : ℕ) → below position [] ≡ []
  below-none zero = refl
  below-none (suc position) =
      let next : suc position ≡ position + 1 = omega arith in
      ap (λ (number : ℕ). below number []) next ∙ below-more position [] ∙ ap (λ (list : List E). list ++ []) (below-none position)

  -- All that stand below a position are there, each once.
  pub below-all : (position : ℕ) (entries : List E) → All (λ entry. place entry < position) entries → IsPermutation (below position entries) entries
  below-all position [] all = subst (λ (list : List E). IsPermutation list []) (sym (below-none position)) (IsPermutation-refl [])
  below-all position (entry ∷ entries) all =
      IsPermutation-trans (below position (entry ∷ entries)) (entry ∷ below position entries) (entry ∷ entries)
      (below-one position entry entries (All-head (λ entry. place entry < position) entry entries all))
      (IsPermutation-cons entry (below position entries) entries (below-all position entries (All-tail (λ entry. place entry < position) entry entries all)))

  -- Each position is below their count, and the count isn't more than it has to be.
  fold-grows : (start : ℕ) (entries : List E) → start ≤ fold (λ count entry. max count (place entry + 1)) start entries
  fold-grows start [] = omega arith
  fold-grows start (entry ∷ entries) = omega (arith, fold-grows (max start (place entry + 1)) entries)

  fold-above : (start : ℕ) (entries : List E) → All (λ entry. place entry < fold (λ count entry. max count (place entry + 1)) start entries) entries
  fold-above start [] = All-nil (λ (entry : E). place entry < start)
  fold-above start (entry ∷ entries) =
      let next : ℕ = max start (place entry + 1) in
      let whole : ℕ = fold (λ count entry. max count (place entry + 1)) next entries in
      let grown : next ≤ whole = fold-grows next entries in
      All-cons (λ other. place other < whole) entry entries (omega arith) (fold-above next entries)

  fold-most : (most start : ℕ) (entries : List E) → start ≤ most → All (λ entry. place entry < most) entries → fold (λ count entry. max count (place entry + 1)) start entries ≤ most
  fold-most most start [] within all = within
  fold-most most start (entry ∷ entries) within all =
      let here : place entry < most = All-head (λ entry. place entry < most) entry entries all in
      fold-most most (max start (place entry + 1)) entries (omega arith) (All-tail (λ entry. place entry < most) entry entries all)

  pub count-above : (entries : List E) → All (λ entry. place entry < count entries) entries
  count-above entries = fold-above 0 entries

  pub count-most : (most : ℕ) (entries : List E) → All (λ entry. place entry < most) entries → count entries ≤ most
  count-most most entries all = fold-most most 0 entries (omega arith) all

  -- What is so of those at a position is so of each that is there.
  unfiltered : (test : E → Bool) (P : E → Type 0) (entries : List E) → All P (filter test entries) → All (λ entry. test entry ≡ true → P entry) entries
  unfiltered test P [] all = All-nil (λ entry. test entry ≡ true → P entry)
  unfiltered test P (entry ∷ entries) all =
      elim (test entry) as (λ answer. test entry ≡ answer → All P (cond answer (entry ∷ filter test entries) (filter test entries)) → All (λ entry. test entry ≡ true → P entry) (entry ∷ entries)) [
        | true ↦ λ is all. All-cons (λ entry. test entry ≡ true → P entry) entry entries (λ yes. All-head P entry (filter test entries) all) (unfiltered test P entries (All-tail P entry (filter test entries) all))
        | false ↦ λ is all. All-cons (λ entry. test entry ≡ true → P entry) entry entries (λ yes. absurd (false≢true (sym is ∙ yes))) (unfiltered test P entries all)
      ] refl all

  -- Where one alone stands at a position, it does in every order of the list.
  alone : (list : List E) (entry : E) → length list ≡ 1 → All (λ other. other ≡ entry) list → list ≡ entry ∷ []
  alone [] entry one all = absurd (omega arith)
  alone (other ∷ []) entry one all = ap (λ (only : E). only ∷ []) (All-head (λ other. other ≡ entry) other [] all)
  alone (other ∷ more ∷ others) entry one all = absurd (omega arith)

  pub length-at : (position : ℕ) (entries others : List E) → IsPermutation entries others → length (at position others) ≡ length (at position entries)
  length-at position entries others moved =
      let test : E → Bool = λ other. place other == position in
      length-filter test others ∙ sum_by-IsPermutation (λ entry. cond (test entry) 1 0) entries others moved ∙ sym (length-filter test entries)

  pub at-moved : (position : ℕ) (entry : E) (entries others : List E) → IsPermutation entries others → at position entries ≡ entry ∷ [] → at position others ≡ entry ∷ []
  at-moved position entry entries others moved is =
      let test : E → Bool = λ other. place other == position in
      let Is : E → Type 0 = λ other. other ≡ entry in
      let here : All Is (filter test entries) = subst (All Is) (sym is) (All-cons Is entry [] refl (All-nil Is)) in
      let each : All (λ other. test other ≡ true → Is other) others = All-permutation (λ other. test other ≡ true → Is other) entries others moved (unfiltered test Is entries here) in
      let left : All (λ other. test other ≡ true → Is other) (filter test others) = All-filter test (λ other. test other ≡ true → Is other) others each in
      let pass : All (λ other. test other ≡ true) (filter test others) = filter_passes test others in
      alone (filter test others) entry (length-at position entries others moved ∙ ap (length {A = E}) is) (λ k d within. left k d within (pass k d within))

  -- Of a list whose positions are numbers in order, the one at a number,
  from-none : (position start : ℕ) (entries : List E) → position < start → AreFrom start entries → at position entries ≡ []
  from-none position start [] before are = refl
  from-none position start (entry ∷ entries) before are =
      at-other position entry entries (omega (arith, are.0)) ∙ from-none position (start + 1) entries (omega arith) are.1

  pub at-from : (start : ℕ) (front : List E) (entry : E) (behind : List E) → AreFrom start (front ++ entry ∷ behind) → at (start + length front) (front ++ entry ∷ behind) ≡ entry ∷ []
  at-from start [] entry behind are =
      let same : start + 0 ≡ start = omega arith in
      ap (λ (number : ℕ). at number (entry ∷ behind)) same ∙ at-here start entry behind are.0
      ∙ ap (λ (list : List E). entry ∷ list) (from-none start (start + 1) behind (omega arith) are.1)
  at-from start (other ∷ front) entry behind are =
      let same : start + length (other ∷ front) ≡ start + 1 + length front = omega arith in
      ap (λ (number : ℕ). at number (other ∷ front ++ entry ∷ behind)) same
      ∙ at-other (start + 1 + length front) other (front ++ entry ∷ behind) (omega (arith, are.0))
      ∙ at-from (start + 1) front entry behind are.1

  -- and how many there are.
  pub below-from : (start most : ℕ) (entries : List E) → AreFrom start entries → start + length entries ≤ most → All (λ entry. place entry < most) entries
  below-from start most [] are within = All-nil (λ entry. place entry < most)
  below-from start most (entry ∷ entries) are within =
      All-cons (λ entry. place entry < most) entry entries (omega (arith, are.0)) (below-from (start + 1) most entries are.1 (omega arith))

  -- Those behind a position.
  abbrev pub above : ℕ → List E → List E
  above position entries = filter (λ entry. ltb position (place entry)) entries

  above-here : (position : ℕ) (entry : E) (entries : List E) → position < place entry → above position (entry ∷ entries) ≡ entry ∷ above position entries
  above-here position entry entries is =
      ap (λ (test : Bool). cond test (entry ∷ above position entries) (above position entries)) (lt-ltb position (place entry) is)

  above-other : (position : ℕ) (entry : E) (entries : List E) → place entry ≤ position → above position (entry ∷ entries) ≡ above position entries
  above-other position entry entries other =
      ap (λ (test : Bool). cond test (entry ∷ above position entries) (above position entries)) (le-ltb position (place entry) other)

  -- A list is those below a position, those at it and those behind it.
  pub all-parts : (position : ℕ) (entries : List E) → IsPermutation (below position entries ++ (at position entries ++ above position entries)) entries
  all-parts position [] = subst (λ (list : List E). IsPermutation (list ++ []) []) (sym (below-none position)) (IsPermutation-refl [])
  all-parts position (entry ∷ entries) =
      let low : List E = below position entries in
      let here : List E = at position entries in
      let high : List E = above position entries in
      let more : IsPermutation (entry ∷ (low ++ (here ++ high))) (entry ∷ entries) = IsPermutation-cons entry (low ++ (here ++ high)) entries (all-parts position entries) in
      let Parts : List E → List E → List E → Type 0 = λ a b c. IsPermutation (a ++ (b ++ c)) (entry ∷ entries) in
      ⊎_elim
      (λ under.
      let b : at position (entry ∷ entries) ≡ here = at-other position entry entries (omega arith) in
      let c : above position (entry ∷ entries) ≡ high = above-other position entry entries (omega arith) in
      subst (λ (list : List E). Parts (below position (entry ∷ entries)) list (above position (entry ∷ entries))) (sym b)
      (subst (Parts (below position (entry ∷ entries)) here) (sym c)
      (IsPermutation-trans (below position (entry ∷ entries) ++ (here ++ high)) (entry ∷ (low ++ (here ++ high))) (entry ∷ entries)
      (IsPermutation-append_left (here ++ high) (below position (entry ∷ entries)) (entry ∷ low) (below-one position entry entries under)) more)))
      (λ over.
      let a : below position (entry ∷ entries) ≡ low = below-other position entry entries over in
      subst (λ (list : List E). Parts list (at position (entry ∷ entries)) (above position (entry ∷ entries))) (sym a)
      (⊎_elim
      (λ (is : place entry ≡ position).
      let b : at position (entry ∷ entries) ≡ entry ∷ here = at-here position entry entries is in
      let c : above position (entry ∷ entries) ≡ high = above-other position entry entries (omega arith) in
      subst (λ (list : List E). Parts low list (above position (entry ∷ entries))) (sym b)
      (subst (Parts low (entry ∷ here)) (sym c)
      (IsPermutation-trans (low ++ entry ∷ (here ++ high)) (entry ∷ (low ++ (here ++ high))) (entry ∷ entries) (IsPermutation-middle low entry (here ++ high)) more)))
      (λ (other : place entry ≢ position).
      let b : at position (entry ∷ entries) ≡ here = at-other position entry entries other in
      let c : above position (entry ∷ entries) ≡ entry ∷ high = above-here position entry entries (omega arith) in
      subst (λ (list : List E). Parts low list (above position (entry ∷ entries))) (sym b)
      (subst (Parts low here) (sym c)
      (subst (λ (list : List E). IsPermutation list (entry ∷ entries)) (append_assoc low here (entry ∷ high))
      (IsPermutation-trans ((low ++ here) ++ entry ∷ high) (entry ∷ ((low ++ here) ++ high)) (entry ∷ entries) (IsPermutation-middle (low ++ here) entry high)
      (subst (λ (list : List E). IsPermutation (entry ∷ list) (entry ∷ entries)) (sym (append_assoc low here high)) more)))))
      (same_or_not (place entry) position)))
      (under_or_not (place entry) position)

  pub at-place : (position : ℕ) (entries : List E) → All (λ entry. place entry ≡ position) (at position entries)
  at-place position entries =
      All-weaker (λ entry. (place entry == position) ≡ true) (λ entry. place entry ≡ position) (λ entry test. eqb-true (place entry) position test) (at position entries) (filter_passes (λ entry. place entry == position) entries)

  pub above-place : (position : ℕ) (entries : List E) → All (λ entry. position < place entry) (above position entries)
  above-place position entries =
      All-weaker (λ entry. ltb position (place entry) ≡ true) (λ entry. position < place entry) (λ entry test. ltb-true position (place entry) test) (above position entries) (filter_passes (λ entry. ltb position (place entry)) entries)

  -- Those below it are below it.
  pub below-place : (position : ℕ) (entries : List E) → All (λ entry. place entry < position) (below position entries)
  below-place zero entries = All-nil (λ entry. place entry < 0)
  below-place (suc position) entries =
      let next : position + 1 ≡ suc position = omega arith in
      let grown : below (suc position) entries ≡ below position entries ++ at position entries = ap (λ (number : ℕ). below number entries) (sym next) ∙ below-more position entries in
      subst (All (λ entry. place entry < suc position)) (sym grown)
      (All-append (λ entry. place entry < suc position) (below position entries) (at position entries)
      (All-weaker (λ entry. place entry < position) (λ entry. place entry < suc position) (λ entry under. omega (arith, under)) (below position entries) (below-place position entries))
      (All-weaker (λ entry. place entry ≡ position) (λ entry. place entry < suc position) (λ entry is. omega (arith, is)) (at position entries) (at-place position entries)))

  -- Where none stands, none is found.
  pub at-none : (position : ℕ) (entries : List E) → All (λ entry. place entry ≢ position) entries → at position entries ≡ []
  at-none position [] others = refl
  at-none position (entry ∷ entries) others =
      at-other position entry entries (All-head (λ entry. place entry ≢ position) entry entries others) ∙ at-none position entries (All-tail (λ entry. place entry ≢ position) entry entries others)

  pub at-append : (position : ℕ) (front rest : List E) → at position (front ++ rest) ≡ at position front ++ at position rest
  at-append position front rest = filter-append (λ entry. place entry == position) front rest

  -- Where each entry of a list with positions in order stands alone among others too, those below its length are the list.
  below-behind : (all entries front rest : List E) → all ≡ front ++ rest → AreFrom 0 all
      → ((position : ℕ) (entry : E) → position < length all → at position all ≡ entry ∷ [] → at position entries ≡ entry ∷ [])
      → below (length front) entries ≡ front → below (length all) entries ≡ all
  below-behind all entries front [] is from only under =
      let whole : all ≡ front = is ∙ append-nil front in
      ap (λ (list : List E). below (length list) entries) whole ∙ under ∙ sym whole
  below-behind all entries front (entry ∷ rest) is from only under =
      let numbered : AreFrom 0 (front ++ entry ∷ rest) = subst (AreFrom 0) is from in
      let count : 0 + length front ≡ length front = omega arith in
      let within : length front < length all = omega (arith, ap (length {A = E}) is, length-append front (entry ∷ rest)) in
      let one : at (length front) all ≡ entry ∷ [] =
      ap (at (length front)) is ∙ subst (λ (number : ℕ). at number (front ++ entry ∷ rest) ≡ entry ∷ []) count (at-from 0 front entry rest numbered) in
      let here : at (length front) entries ≡ entry ∷ [] = only (length front) entry within one in
      let grown : length (front ++ entry ∷ []) ≡ length front + 1 = length-append front (entry ∷ []) in
      let whole : all ≡ (front ++ entry ∷ []) ++ rest = is ∙ sym (append_assoc front (entry ∷ []) rest) in
      let more : below (length (front ++ entry ∷ [])) entries ≡ front ++ entry ∷ [] =
      ap (λ (number : ℕ). below number entries) grown ∙ below-more (length front) entries ∙ cc (under, here) in
      below-behind all entries (front ++ entry ∷ []) rest whole from only more

  pub below-are : (all entries : List E) → AreFrom 0 all
      → ((position : ℕ) (entry : E) → position < length all → at position all ≡ entry ∷ [] → at position entries ≡ entry ∷ [])
      → below (length all) entries ≡ all
  below-are all entries from only = below-behind all entries [] all refl from only refl
