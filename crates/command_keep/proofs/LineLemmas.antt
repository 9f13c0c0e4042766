-- A line of two numbers, by its parts.
use Rattle.std.proofs.Common.{Bool, List, ℕ, [], ◌∷◌, ◌++◌, Option, ◌≡◌, sym, subst, append_assoc}
use Rattle.std.specs.Bool.{OnFalse}
use Rattle.ctl_io.specs.Sink.{appended, AppendsPart}
use Rattle.command_rows.specs.Lines.{line}
use Rattle.command_rows.proofs.WrittenLemmas.{both-front}

-- a shorter front of the end of a line, behind the rest of it
pub ended-front : (done : Bool) (front last : List ℕ) (before mid now : Option (List ℕ)) → mid ≡ appended before front → OnFalse done (AppendsPart (last ++ 10 ∷ []) mid now)
    → OnFalse done (AppendsPart (line (front ++ last)) before now)
ended-front done front last before mid now wrote part =
    subst (λ (t : List ℕ). OnFalse done (AppendsPart t before now)) (sym (append_assoc front last (10 ∷ []))) (both-front done front (last ++ 10 ∷ []) before mid now wrote part)
