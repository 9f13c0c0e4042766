-- How what a crash leaves of a run of calls goes on.
use Rattle.std.proofs.Common.{inl, inr, ⊎_elim, ℕ, List, Option, arith}
use Rattle.ctl_io.specs.Crash.{LeavesOnly, LeavesShown, Follows, Elapses}
use Rattle.ctl_io.specs.Disk.{Torn}
use Rattle.ctl_io.proofs.DiskLemmas.{torn_same, started, goes_on}
use Rattle.state_store.specs.Steps.{IsFrom}

module _ {D : Type 0} (moment : D → ℕ) (left_since : D → ℕ → List ℕ → Type 0) where
  -- two runs, one behind the other
  pub both : (old mid new : D) (P Q : List ℕ → Type 0) → LeavesOnly moment left_since old mid P → LeavesOnly moment left_since mid new Q
      → ((c : List ℕ) → Q c → P c) → LeavesOnly moment left_since old new P
  both old mid new P Q first second so = record {
    later = omega (arith, first.later, second.later);
    each = λ c left. ⊎_elim (first.each c) (so c) (second.before (moment old) c first.later left);
    before = λ t c le left. ⊎_elim (first.before t c le) (λ now. inr (so c now)) (second.before t c (omega (arith, le, first.later)) left);
  }

  -- less is said of what is left
  pub widened : (old new : D) (P Q : List ℕ → Type 0) → LeavesOnly moment left_since old new P → ((c : List ℕ) → P c → Q c) → LeavesOnly moment left_since old new Q
  widened old new P Q run so = record {
    later = run.later;
    each = λ c left. so c (run.each c left);
    before = λ t c le left. ⊎_elim (λ past. inl past) (λ now. inr (so c now)) (run.before t c le left);
  }

  -- a write, before which a crash leaves just what is shown
  pub wrote : (at n : ℕ) (old new : D) (shown : Option (List ℕ)) (before now : List ℕ → Type 0) → LeavesShown shown before → ((c : List ℕ) → left_since old (moment old) c → before c) → Follows (Torn at n) before now
      → Elapses (moment old) (moment new) (left_since old) (left_since new) now → LeavesOnly moment left_since old new (IsFrom (Torn at n) shown)
  wrote at n old new shown before now lasts alone follows time =
      goes_on moment left_since old old new (IsFrom (Torn at n) shown) now (started moment left_since old (IsFrom (Torn at n) shown) (λ c since. (c, lasts c (alone c since), torn_same at n c))) time
      (λ c left. let from = follows c left in (from.0, lasts from.0 from.1, from.2))

  -- and the sync behind it
  pub synced : (at n : ℕ) (old mid new : D) (shown : Option (List ℕ)) (before now then : List ℕ → Type 0) → LeavesShown shown before → Follows (Torn at n) before now → ((c : List ℕ) → then c → now c)
      → LeavesOnly moment left_since old mid (IsFrom (Torn at n) shown) → Elapses (moment mid) (moment new) (left_since mid) (left_since new) then → LeavesOnly moment left_since old new (IsFrom (Torn at n) shown)
  synced at n old mid new shown before now then lasts follows less so_far time =
      goes_on moment left_since old mid new (IsFrom (Torn at n) shown) then so_far time
      (λ c left. let from = follows c (less c left) in (from.0, lasts from.0 from.1, from.2))
