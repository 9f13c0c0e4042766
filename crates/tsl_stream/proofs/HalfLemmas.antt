-- Bytes that a sink takes piece by piece, and half of a pair at their end.
use Rattle.std.proofs.Common.{◌≡◌, ℕ, ◌+◌, ◌==◌, ◌&&◌, Bool, true, false, not, List, [], ◌∷◌, ◌++◌, take, drop, Option, Some, None, refl, sym, ap, ◌∙◌, subst}
use Rattle.std.specs.Prelude.{IfSome}
use Rattle.ctl_io.specs.Sink.{appended}
use Rattle.ctl_io.proofs.SinkLemmas.{appended-appended}
use Rattle.tsl_stream.specs.Numbers.{tsl_dle}
use Rattle.tsl_stream.specs.Stream.{stuffed}
use Rattle.tsl_stream.specs.WritingInside.{half_after}
use Rattle.tsl_stream.proofs.FeedLemmas.{take-add}
use Rattle.doubled_bytes.proofs.Runs.{at_byte, doubled-byte}

-- bytes of which a front was appended, and then more of them
pub front_more : (bytes part : List ℕ) (taken n : ℕ) (before mid now : Option (List ℕ)) → mid ≡ appended before (take taken bytes) → part ≡ drop taken bytes → now ≡ appended mid (take n part) → now ≡ appended before (take (taken + n) bytes)
front_more bytes part taken n before mid now so_far is more =
    more
    ∙ ap (λ (mid : Option (List ℕ)). appended mid (take n part)) so_far
    ∙ appended-appended before (take taken bytes) (take n part)
    ∙ ap (appended before) (ap (λ (part : List ℕ). take taken bytes ++ take n part) is ∙ sym (take-add taken n bytes))

-- what a sink shows, with more bytes behind it
pub if_appended : (P Q : List ℕ → Type 0) (before now : Option (List ℕ)) (bytes : List ℕ) → now ≡ appended before bytes → ((text : List ℕ) → P text → Q (text ++ bytes)) → IfSome before P → IfSome now Q
if_appended P Q None now bytes is goes holds = let R : Option (List ℕ) → Type 0 = λ now. IfSome now Q in subst R (sym is) tt
if_appended P Q (Some text) now bytes is goes holds = let R : Option (List ℕ) → Type 0 = λ now. IfSome now Q in subst R (sym is) (goes text holds)

pub half_after-append : (half : Bool) (first second : List ℕ) → half_after half (first ++ second) ≡ half_after (half_after half first) second
half_after-append half [] second = refl
half_after-append half (a ∷ first) second = half_after-append (a == tsl_dle && not half) first second

pub half_after-push : (half : Bool) (bytes : List ℕ) (byte : ℕ) → half_after half (bytes ++ byte ∷ []) ≡ (byte == tsl_dle && not (half_after half bytes))
half_after-push half bytes byte = half_after-append half bytes (byte ∷ [])

-- pairs leave no half
pub half_after-doubled : (bytes : List ℕ) → half_after false (stuffed bytes) ≡ false
half_after-doubled [] = refl
half_after-doubled (a ∷ bytes) =
    at_byte tsl_dle (λ a. half_after false (stuffed (a ∷ bytes)) ≡ false) a
    (half_after-doubled bytes)
    (λ other. ap (half_after false) (doubled-byte tsl_dle a bytes other) ∙ ap (λ (is : Bool). half_after (is && true) (stuffed bytes)) other ∙ half_after-doubled bytes)
