-- The line of what is out of its range, grouped from the front and from behind.
use Rattle.std.proofs.Common.{◌≡◌, ℕ, List, ◌++◌, append_assoc, codes, sym, ◌∙◌}

pub range-line : (place value low high : List ℕ)
    → codes "OutOfRange" ++ (place ++ (codes ": " ++ (value ++ (codes " not in " ++ (low ++ (codes " to " ++ high))))))
    ≡ codes "OutOfRange" ++ place ++ codes ": " ++ value ++ codes " not in " ++ low ++ codes " to " ++ high
range-line place value low high =
    sym (append_assoc (codes "OutOfRange" ++ place ++ codes ": " ++ value ++ codes " not in " ++ low) (codes " to ") high
    ∙ append_assoc (codes "OutOfRange" ++ place ++ codes ": " ++ value ++ codes " not in ") low (codes " to " ++ high)
    ∙ append_assoc (codes "OutOfRange" ++ place ++ codes ": " ++ value) (codes " not in ") (low ++ (codes " to " ++ high))
    ∙ append_assoc (codes "OutOfRange" ++ place ++ codes ": ") value (codes " not in " ++ (low ++ (codes " to " ++ high)))
    ∙ append_assoc (codes "OutOfRange" ++ place) (codes ": ") (value ++ (codes " not in " ++ (low ++ (codes " to " ++ high))))
    ∙ append_assoc (codes "OutOfRange") place (codes ": " ++ (value ++ (codes " not in " ++ (low ++ (codes " to " ++ high))))))
