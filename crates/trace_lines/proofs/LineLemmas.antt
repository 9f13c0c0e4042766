-- How the parts of a line are appended.
use Rattle.std.proofs.Common.{◌≡◌, ℕ, List, ◌++◌, ap, ◌∙◌}
use Rattle.std.proofs.lemmas.List.{append_assoc}

-- two parts, one behind the other
pub then : (out first second middle last : List ℕ) → middle ≡ out ++ first → last ≡ middle ++ second → last ≡ out ++ (first ++ second)
then out first second middle last is goes_on =
    goes_on ∙ ap (λ (bytes : List ℕ). bytes ++ second) is ∙ append_assoc out first second

-- the parts in front of a reply
pub head-appended : (out position space request equals o p q r : List ℕ) → o ≡ out ++ position → p ≡ o ++ space → q ≡ p ++ request → r ≡ q ++ equals
    → r ≡ out ++ (position ++ space ++ request ++ equals)
head-appended out position space request equals o p q r at_o at_p at_q at_r =
    let so_p = then out position space o p at_o at_p in
    let so_q = then out (position ++ space) request p q so_p at_q in
    then out (position ++ space ++ request) equals q r so_q at_r
