-- Contents that are written to and torn, and how a run of a disk's calls goes on.
use Rattle.std.proofs.Common.{◌≡◌, inl, inr, ⊎_elim, ℕ, ◌+◌, ◌≤◌, List, ◌++◌, length, take, drop, refl, sym, ◌∙◌, ap, append_assoc, arith, length-append, length-take-le, length-drop}
use Rattle.std.proofs.lemmas.List.{take_at, drop_at}
use Rattle.ctl_io.specs.Disk.{overlaid, Torn}
use Rattle.ctl_io.specs.Crash.{Elapses, LeavesOnly}

-- bytes that are written leave the contents as long
pub length-overlaid : (at : ℕ) (bytes all : List ℕ) → at + length bytes ≤ length all → length (overlaid at bytes all) ≡ length all
length-overlaid at bytes all within =
    omega (arith, length-append (take at all) (bytes ++ drop (at + length bytes) all), length-append bytes (drop (at + length bytes) all), length-take-le at all (omega arith), length-drop (at + length bytes) all)

-- and tear no more than their range
pub torn_overlaid : (at : ℕ) (bytes all : List ℕ) → at + length bytes ≤ length all → Torn at (length bytes) all (overlaid at bytes all)
torn_overlaid at bytes all within =
    let front : length (take at all) ≡ at = length-take-le at all (omega arith) in
    let both : length (take at all ++ bytes) ≡ at + length bytes = omega (arith, front, length-append (take at all) bytes) in
    record {
      before = take_at (take at all) (bytes ++ drop (at + length bytes) all) at front;
      after = ap (drop (at + length bytes)) (sym (append_assoc (take at all) bytes (drop (at + length bytes) all))) ∙ drop_at (take at all ++ bytes) (drop (at + length bytes) all) (at + length bytes) both;
      as_long = length-overlaid at bytes all within;
    }

-- the same contents are torn nowhere
pub torn_same : (at n : ℕ) (all : List ℕ) → Torn at n all all
torn_same at n all = record { before = refl; after = refl; as_long = refl }

module _ {D : Type 0} (moment : D → ℕ) (left_since : D → ℕ → List ℕ → Type 0) where
  -- before the first call of a run
  pub started : (old : D) (P : List ℕ → Type 0) → ((c : List ℕ) → left_since old (moment old) c → P c) → LeavesOnly moment left_since old old P
  started old P here = record { later = omega arith; each = here; before = λ t c le left. inl left }

  -- after one call more, at whose end a crash leaves what has P
  pub goes_on : (old mid new : D) (P may_leave : List ℕ → Type 0) → LeavesOnly moment left_since old mid P → Elapses (moment mid) (moment new) (left_since mid) (left_since new) may_leave
      → ((c : List ℕ) → may_leave c → P c) → LeavesOnly moment left_since old new P
  goes_on old mid new P may_leave so_far time here = record {
    later = omega (arith, so_far.later, time.later);
    each = λ c left. ⊎_elim (so_far.each c) (here c) (time.nothing_else (moment old) c so_far.later left);
    before = λ t c le left. ⊎_elim (so_far.before t c le) (λ now. inr (here c now)) (time.nothing_else t c (omega (arith, le, so_far.later)) left);
  }
