-- What a link over a connection has been given, where it sends first, and where it keeps more.
use Rattle.std.proofs.Common.{◌≡◌, ℕ, List, [], ◌++◌, None, Some, Option, sym, ap, ◌∙◌, append_assoc, append-nil}
use Rattle.std.specs.Io.KnownBytes.{append_known, Keeps, Appends}

-- all that was unsent has left, and the connection took more
pub given_behind : (before between now : Option (List ℕ)) (old unsent kept bytes : List ℕ) → Keeps (append_known before old) (append_known between unsent) → unsent ≡ [] → kept ≡ unsent
    → Appends between now bytes → Appends (append_known before old) (append_known now kept) bytes
given_behind None between now old unsent kept bytes keeps none same more = tt
given_behind (Some x) None now old unsent kept bytes keeps none same more = absurd keeps
given_behind (Some x) (Some y) None old unsent kept bytes keeps none same more = absurd more
given_behind (Some x) (Some y) (Some z) old unsent kept bytes keeps none same more =
    ap (λ u. z ++ u) (same ∙ none) ∙ append-nil z ∙ more
    ∙ ap (λ l. l ++ bytes) (sym (append-nil y) ∙ ap (λ u. y ++ u) (sym none) ∙ keeps)

-- more is kept
pub given_more : (before between : Option (List ℕ)) (old unsent kept bytes : List ℕ) → Keeps (append_known before old) (append_known between unsent) → kept ≡ unsent ++ bytes
    → Appends (append_known before old) (append_known between kept) bytes
given_more None between old unsent kept bytes keeps more = tt
given_more (Some x) None old unsent kept bytes keeps more = absurd keeps
given_more (Some x) (Some y) old unsent kept bytes keeps more =
    ap (λ u. y ++ u) more ∙ sym (append_assoc y unsent bytes) ∙ ap (λ l. l ++ bytes) keeps
