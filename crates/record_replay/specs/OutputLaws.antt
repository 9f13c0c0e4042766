-- What is put into an output in two parts is put as a whole.
use Rattle.std.specs.Prelude.{◌≡◌, ℕ, ◌/◌, ◌%◌, slice_index, Bool, true, false, ◌||◌, List, [], ◌∷◌, ◌++◌, Option, refl}
use Rattle.std.proofs.Common.{sym, ◌∙◌, ap, subst, append_assoc}
use Rattle.std.proofs.lemmas.List.{append-nil}
use Rattle.hex.specs.Hex.{encode_with, upper_digits}
use Rattle.record_replay.specs.declared.output.Output.{Output}
use Rattle.record_replay.specs.OutputInside.{HasPut, Puts, Gives, are_some}

-- no bytes are put into an output that stays as it is
pub Puts-none : {K : Type 0} (written : K → Option (List ℕ)) (faults : K → ℕ) (output : Output K)
    → Puts written faults [] output output
Puts-none written faults output = record {
  same_sink = refl;
  puts = λ before count begun text h. subst
      (λ (all : List ℕ). HasPut written faults before count begun all output)
      (sym (append-nil text)) h;
}

-- bytes that are put one after the other
pub Puts-more : {K : Type 0} (written : K → Option (List ℕ)) (faults : K → ℕ) (a b : List ℕ)
    (first next last : Output K) → Puts written faults a first next
    → Puts written faults b next last → Puts written faults (a ++ b) first last
Puts-more written faults a b first next last h k = record {
  same_sink = k.same_sink ∙ h.same_sink;
  puts = λ before count begun text p. subst
      (λ (all : List ℕ). HasPut written faults before count begun all last) (append_assoc text a b)
      (k.puts before count begun (text ++ a) (h.puts before count begun text p));
}

-- the hexadecimal of bytes one after the other
pub encode_with-append : (t xs ys : List ℕ)
    → encode_with t (xs ++ ys) ≡ encode_with t xs ++ encode_with t ys
unfolding encode_with
encode_with-append t [] ys = refl
encode_with-append t (x ∷ xs) ys =
    ap (λ (zs : List ℕ). slice_index t (x / 16) ∷ slice_index t (x % 16) ∷ zs)
    (encode_with-append t xs ys)

-- whether a line has bytes, after two parts
or-are_some : (some : Bool) (xs ys : List ℕ)
    → ((some || are_some xs) || are_some ys) ≡ (some || are_some (xs ++ ys))
or-are_some true xs ys = refl
or-are_some false [] ys = refl
or-are_some false (x ∷ xs) ys = refl

or-false : (some : Bool) → some ≡ (some || false)
or-false true = refl
or-false false = refl

-- the laws of an outlet
pub gives_none : {K : Type 0} (written : K → Option (List ℕ)) (faults : K → ℕ) (output : Output K)
    → Gives written faults [] output output
unfolding encode_with
gives_none written faults output =
    record { puts = Puts-none written faults output; some = or-false output.some }

pub gives_more : {K : Type 0} (written : K → Option (List ℕ)) (faults : K → ℕ)
    (first next last : Output K) (bytes more : List ℕ) → Gives written faults bytes first next
    → Gives written faults more next last → Gives written faults (bytes ++ more) first last
gives_more written faults first next last bytes more h k = record {
  puts = subst (λ (all : List ℕ). Puts written faults all first last)
      (sym (encode_with-append upper_digits bytes more))
      (Puts-more written faults _ _ first next last h.puts k.puts);
  some = k.some ∙ ap (λ (s : Bool). s || are_some more) h.some ∙ or-are_some first.some bytes more;
}
