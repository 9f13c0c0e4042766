-- Bytes that are written to a sink piece by piece.
use Rattle.std.proofs.Common.{◌≡◌, ℕ, ◌<◌, List, [], ◌++◌, length, take, drop, Option, Some, None, refl, sym, ◌∙◌, ap, append_assoc, arith, length-append, take-append-drop}
use Rattle.std.proofs.lemmas.List.{append-nil, take_at}
use Rattle.ctl_io.specs.Sink.{appended, AppendsPart}
use Rattle.ctl_io.specs.SinkInside.{Given}

-- no bytes change nothing
pub appended-nil : (written : Option (List ℕ)) → appended written [] ≡ written
appended-nil None = refl
appended-nil (Some all) = ap (λ (xs : List ℕ). Some xs) (append-nil all)

-- one append after another
pub appended-appended : (written : Option (List ℕ)) (a b : List ℕ) → appended (appended written a) b ≡ appended written (a ++ b)
appended-appended None a b = refl
appended-appended (Some all) a b = ap (λ (xs : List ℕ). Some xs) (append_assoc all a b)

pub given_more : (bytes rest left : List ℕ) (n : ℕ) (before mid now : Option (List ℕ)) → Given bytes rest before mid → left ≡ drop n rest → now ≡ appended mid (take n rest) → Given bytes left before now
given_more bytes rest left n before mid now so_far is_left more = record {
  given = so_far.given ++ take n rest;
  split = append_assoc so_far.given (take n rest) left ∙ ap (λ (xs : List ℕ). so_far.given ++ xs) (ap (λ (xs : List ℕ). take n rest ++ xs) is_left ∙ take-append-drop n rest) ∙ so_far.split;
  appends = more ∙ ap (λ w. appended w (take n rest)) so_far.appends ∙ appended-appended before so_far.given (take n rest);
}

pub given_part : (bytes rest : List ℕ) (before mid now : Option (List ℕ)) → Given bytes rest before mid → 0 < length rest → now ≡ appended mid [] → AppendsPart bytes before now
given_part bytes rest before mid now part more same = record {
  count = length part.given;
  shorter = omega (arith, length-append part.given rest, ap length part.split);
  appends = same ∙ appended-nil mid ∙ part.appends ∙ ap (appended before) (sym (ap (take (length part.given)) (sym part.split) ∙ take_at part.given rest (length part.given) refl));
}
