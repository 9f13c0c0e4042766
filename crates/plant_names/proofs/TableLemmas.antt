-- Tables grow by one entry at a time.
use Rattle.std.proofs.Common.{◌≡◌, ℕ, ◌+◌, List, [], ◌∷◌, ◌++◌, length, get_or, inl, inr, sym, ◌∙◌, arith}
use Rattle.std.proofs.lemmas.Bool.{cases_lt}
use Rattle.std.proofs.lemmas.Grind.{common_steps}
use Rattle.std.proofs.lemmas.Option.{slice_get_read, get_or_from_slice_get}
use Rattle.plant_names.specs.NamesInside.{IsTable}

pub IsTable-push : {X : Type 0} (entry : ℕ → X) (count : ℕ) (entries : List X) (next : X) → IsTable entry count entries → next ≡ entry count → IsTable entry (count + 1) (entries ++ next ∷ [])
IsTable-push entry count entries next table is =
    let long : length (entries ++ next ∷ []) ≡ count + 1 = grind (arith, common_steps, table.size) in
    record {
      size = long;
      each = λ place below. slice_get_read (entries ++ next ∷ []) (count + 1) place (entry place) (sym long) below
          (elim (cases_lt place count) [
            | inl before ↦
                let low : get_or (entries ++ next ∷ []) place (entry place) ≡ get_or entries place (entry place) = grind (arith, common_steps, table.size) in
                sym (low ∙ get_or_from_slice_get entries place (entry place) (entry place) (table.each place before))
            | inr past ↦
                let same : place ≡ count = omega arith in
                let last : get_or (entries ++ next ∷ []) place (entry place) ≡ next = grind (arith, common_steps, table.size) in
                let entry_is : entry place ≡ entry count = cc in
                sym (last ∙ is ∙ sym entry_is)
          ]);
    }
