-- The status and the line of a verdict.
use Rattle.std.proofs.Common.{◌≡◌, ◌≢◌, ℕ, Bool, true, false, List, [], ◌∷◌, ◌++◌, Option, sym, ◌∙◌, ap, subst, append_assoc, arith}
use Rattle.std.specs.Prelude.{codes}
use Rattle.std.specs.Fmt.{decimal}
use Rattle.std.specs.Bool.{OnTrue, OnFalse}
use Rattle.std.proofs.lemmas.List.{length-append, take-append-le}
use Rattle.ctl_io.specs.Sink.{appended, AppendsPart}
use Rattle.trace_audit.specs.declared.verdict.Verdict.{Verdict}
use Rattle.trace_audit.specs.declared.verdict.Verdict.TheVariants.{Confirmed, BadLine, Gap, Repeat, Differs}
use Rattle.command_audit.specs.Verdict.{differs_at, verdict_status}
use Rattle.command_audit.specs.VerdictInside.{replies_text}
use Rattle.command_rows.proofs.WrittenLemmas.{both-all, both-front}

-- a verdict has no status but 0, 5 and 6
pub not_2 : (verdict : Verdict) → verdict_status verdict ≢ 2
not_2 (Confirmed count) is = omega (arith, is)
not_2 (BadLine number) is = omega (arith, is)
not_2 (Gap position) is = omega (arith, is)
not_2 (Repeat position) is = omega (arith, is)
not_2 (Differs position kept wanted) is = omega (arith, is)

pub not_4 : (verdict : Verdict) → verdict_status verdict ≢ 4
not_4 (Confirmed count) is = omega (arith, is)
not_4 (BadLine number) is = omega (arith, is)
not_4 (Gap position) is = omega (arith, is)
not_4 (Repeat position) is = omega (arith, is)
not_4 (Differs position kept wanted) is = omega (arith, is)

-- the line of a difference, by its parts
abbrev front_of : ℕ → List ℕ
front_of position = codes "differs at " ++ decimal position ++ codes ": kept "

regrouped : (a b c d e : List ℕ) → a ++ (b ++ c ++ d ++ e) ≡ a ++ b ++ c ++ d ++ e
regrouped a b c d e = sym (append_assoc a (b ++ c ++ d) e) ∙ ap (λ (t : List ℕ). t ++ e) (sym (append_assoc a (b ++ c) d) ∙ ap (λ (t : List ℕ). t ++ d) (sym (append_assoc a b c)))

difference-text : (position : ℕ) (kept wanted : List ℕ) → front_of position ++ replies_text kept wanted ≡ differs_at position kept wanted
difference-text position kept wanted = regrouped (front_of position) kept (codes " wanted ") wanted (10 ∷ [])

pub difference-all : (done : Bool) (position : ℕ) (kept wanted : List ℕ) (before mid now : Option (List ℕ)) → mid ≡ appended before (front_of position) → OnTrue done (now ≡ appended mid (replies_text kept wanted))
    → OnTrue done (now ≡ appended before (differs_at position kept wanted))
difference-all done position kept wanted before mid now wrote all =
    subst (λ (t : List ℕ). OnTrue done (now ≡ appended before t)) (difference-text position kept wanted) (both-all done (front_of position) (replies_text kept wanted) before mid now wrote all)

pub difference-front : (done : Bool) (position : ℕ) (kept wanted : List ℕ) (before mid now : Option (List ℕ)) → mid ≡ appended before (front_of position) → OnFalse done (AppendsPart (replies_text kept wanted) mid now)
    → OnFalse done (AppendsPart (differs_at position kept wanted) before now)
difference-front done position kept wanted before mid now wrote part =
    subst (λ (t : List ℕ). OnFalse done (AppendsPart t before now)) (difference-text position kept wanted) (both-front done (front_of position) (replies_text kept wanted) before mid now wrote part)

-- a shorter front of a text is one of a longer text
longer : (text more : List ℕ) (before now : Option (List ℕ)) → AppendsPart text before now → AppendsPart (text ++ more) before now
longer text more before now part = record {
  count = part.count;
  shorter = omega (arith, part.shorter, length-append text more);
  appends = part.appends ∙ ap (appended before) (sym (take-append-le part.count text more (omega (arith, part.shorter))));
}

pub difference-cut : (done : Bool) (position : ℕ) (kept wanted : List ℕ) (before now : Option (List ℕ)) → OnFalse done (AppendsPart (front_of position) before now)
    → OnFalse done (AppendsPart (differs_at position kept wanted) before now)
difference-cut true position kept wanted before now part = part
difference-cut false position kept wanted before now part =
    subst (λ (t : List ℕ). AppendsPart t before now) (difference-text position kept wanted) (longer (front_of position) (replies_text kept wanted) before now part)

-- the replies' texts are these
pub same-difference : (done : Bool) (position : ℕ) (kept wanted kept' wanted' : List ℕ) (before now : Option (List ℕ)) → kept' ≡ kept → wanted' ≡ wanted
    → OnTrue done (now ≡ appended before (differs_at position kept' wanted')) → OnTrue done (now ≡ appended before (differs_at position kept wanted))
same-difference done position kept wanted kept' wanted' before now keeps wants all =
    subst (λ (w : List ℕ). OnTrue done (now ≡ appended before (differs_at position kept w))) wants (subst (λ (k : List ℕ). OnTrue done (now ≡ appended before (differs_at position k wanted'))) keeps all)
