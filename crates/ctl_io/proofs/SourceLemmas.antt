-- Bytes that are taken from a source piece by piece.
use Rattle.std.proofs.Common.{◌≡◌, ℕ, ◌+◌, ◌≤◌, List, ◌++◌, length, take, drop, Option, Some, None, IfSome, refl, sym, subst, ◌∙◌, ap, arith, length-append, length-take-le, take-append-drop}
use Rattle.std.proofs.lemmas.List.{drop-drop, drop_at}
use Rattle.std.specs.Option.{option_map}
use Rattle.std.proofs.Math.Seq.{take-append-add}
use Rattle.ctl_io.specs.Source.{got, behind, IsWithin, AreNext, TakesAtMost, TakesJust}
use Rattle.ctl_io.specs.SourceInside.{Takes, TakesPiece}
use Rattle.ctl_io.specs.declared.source.Read.{Read}
use Rattle.ctl_io.specs.declared.source.Read.TheVariants.{Got, End, Failed}

-- what is left is behind what was taken
behind_taken : (taken : List ℕ) (before now : Option (List ℕ)) → Takes taken before now → now ≡ behind (length taken) before
behind_taken taken before None is = sym (ap (behind (length taken)) is)
behind_taken taken before (Some rest) is =
    sym (ap (behind (length taken)) is ∙ ap (λ (xs : List ℕ). Some xs) (drop_at taken rest (length taken) refl))

behind-behind : (m n : ℕ) (left : Option (List ℕ)) → behind n (behind m left) ≡ behind (m + n) left
behind-behind m n None = refl
behind-behind m n (Some all) = ap (λ (xs : List ℕ). Some xs) (drop-drop n m all)

-- bytes that are taken behind others
pub takes_further : (most more : ℕ) (taken : List ℕ) (before mid now : Option (List ℕ)) → Takes taken before mid → TakesAtMost more mid now → length taken + more ≤ most → TakesAtMost most before now
takes_further most more taken before mid now first second few = record {
  count = length taken + second.count;
  within = omega (arith, second.within);
  takes = second.takes ∙ ap (behind second.count) (behind_taken taken before mid first) ∙ behind-behind (length taken) second.count before;
}

-- one byte more that is taken behind others
behind_further : (n : ℕ) (taken : List ℕ) (before mid now : Option (List ℕ)) → Takes taken before mid → now ≡ behind 1 mid → length taken ≡ n → now ≡ behind (n + 1) before
behind_further n taken before mid now first second long = second ∙ ap (behind 1) (behind_taken taken before mid first) ∙ behind-behind (length taken) 1 before ∙ ap (λ k. behind (k + 1) before) long

pub just_further : (n : ℕ) (taken : List ℕ) (before mid now : Option (List ℕ)) → Takes taken before mid → TakesJust 1 mid now → length taken ≡ n → TakesJust (n + 1) before now
just_further n taken before None now first second long = record {
  had = subst (λ (left : Option (List ℕ)). IfSome left (λ all. n + 1 ≤ length all)) (sym first) tt;
  takes = behind_further n taken before None now first second.takes long;
}
just_further n taken before (Some rest) now first second long = record {
  had = subst (λ (left : Option (List ℕ)). IfSome left (λ all. n + 1 ≤ length all)) (sym first) (omega (arith, second.had, long, length-append taken rest));
  takes = behind_further n taken before (Some rest) now first second.takes long;
}

-- bytes that were taken are at most as many
pub takes_all : (most : ℕ) (taken : List ℕ) (before now : Option (List ℕ)) → Takes taken before now → length taken ≤ most → TakesAtMost most before now
takes_all most taken before now is few = record { count = length taken; within = few; takes = behind_taken taken before now is }

-- a read gives no more bytes than there is room for
got_within : (read : Read) (room : ℕ) → IsWithin read room → got read ≤ room
got_within (Got n) room within = within.1
got_within End room within = omega arith
got_within Failed room within = omega arith

-- the next bytes were taken
takes_next : (n : ℕ) (bytes : List ℕ) (before now : Option (List ℕ)) → AreNext n bytes before → now ≡ behind n before → Takes (take n bytes) before now
takes_next n bytes None now next is = sym (ap (λ left. option_map (λ rest. take n bytes ++ rest) left) is)
takes_next n bytes (Some all) now next is =
    sym (ap (λ left. option_map (λ rest. take n bytes ++ rest) left) is ∙ ap (λ (xs : List ℕ). Some (xs ++ drop n all)) next ∙ ap (λ (xs : List ℕ). Some xs) (take-append-drop n all))

-- a read into the room behind bytes that were read before
pub reads_behind : (read : Read) (count : ℕ) (old front room : List ℕ) (before now : Option (List ℕ)) → front ≡ old → length front ≡ count → IsWithin read (length room) → AreNext (got read) room before → now ≡ behind (got read) before → TakesPiece (got read) old (take (count + got read) (front ++ room)) before now
reads_behind read count old front room before now same long within next is = record {
  piece = take (got read) room;
  counted = length-take-le (got read) room (got_within read (length room) within);
  appended = ap (λ n. take (n + got read) (front ++ room)) (sym long) ∙ take-append-add front room (got read) ∙ ap (λ (xs : List ℕ). xs ++ take (got read) room) same;
  taken = takes_next (got read) room before now next is;
}
