-- How many destinations are due, as one is settled and another one is opened.
use Rattle.std.proofs.Common.{◌≡◌, ◌≢◌, ◌⊎◌, ℕ, ◌+◌, ◌<◌, ◌≤◌, nat_eq, Bool, true, false, not, cond, Some, None, inl, inr, refl, sym, ap, ◌∙◌, arith, eq-eqb}
use Rattle.std.proofs.lemmas.Bool.{cases_eq, ne_eqb}
use Rattle.std.specs.Option.{option_map_or, option_eq}
use Rattle.std.specs.FinMap as finite
use Rattle.number_tables.proofs.PutLemmas.{get-put_same, get-put_other}
use Rattle.matrix_driver.specs.declared.crosspoint.Crosspoint.{Crosspoint}
use Rattle.matrix_driver.specs.Progress.{Progress, has, is_due, settled_at, opened}
use Rattle.matrix_driver.specs.Turns.{due_count}
use Rattle.matrix_driver.proofs.Sources.{source_itself}
use Rattle.matrix_driver.proofs.ProgressLemmas.{due_of, settled_due}
use Rattle.matrix_driver.proofs.DriverLemmas.{opened_due_here}
use Rattle.matrix_driver.proofs.Counts.{count_alike, count_fewer}

-- how many are due, once a crosspoint was made, and once the next connect was sent
module _ (progress : Progress) (crosspoint : Crosspoint) (due : is_due progress crosspoint.dest ≡ true) where
  apart_due : (dest : ℕ) → dest ≢ crosspoint.dest → is_due (settled_at progress crosspoint) dest ≡ is_due progress dest
  apart_due dest apart = ap (due_of (finite.get progress.wants dest)) (get-put_other progress.settled crosspoint.dest (Some crosspoint.source) dest apart)

  here_due : is_due (settled_at progress crosspoint) crosspoint.dest ≡ not (has progress.wants crosspoint)
  here_due =
      ap (due_of (finite.get progress.wants crosspoint.dest)) (get-put_same progress.settled crosspoint.dest (Some crosspoint.source))
      ∙ settled_due (finite.get progress.wants crosspoint.dest) (finite.get progress.settled crosspoint.dest) crosspoint.source due

  pub due_made : crosspoint.dest < progress.room → due_count (settled_at progress crosspoint) + cond (has progress.wants crosspoint) 1 0 ≡ due_count progress
  due_made within = by (has progress.wants crosspoint) refl
    where
      by : (b : Bool) → has progress.wants crosspoint ≡ b → due_count (settled_at progress crosspoint) + cond b 1 0 ≡ due_count progress
      by true e =
          count_fewer (is_due progress) (is_due (settled_at progress crosspoint)) 0 progress.room crosspoint.dest (omega arith) (omega (arith, within)) due (here_due ∙ ap not e) apart_due
      by false e =
          let same = count_alike (is_due progress) (is_due (settled_at progress crosspoint)) 0 progress.room (λ n _ _. each n (cases_eq n crosspoint.dest)) in
          omega (arith, same)
        where
          each : (n : ℕ) → (n ≡ crosspoint.dest) ⊎ (n ≢ crosspoint.dest) → is_due (settled_at progress crosspoint) n ≡ is_due progress n
          each n (inl equal) = ap (is_due (settled_at progress crosspoint)) equal ∙ here_due ∙ ap not e ∙ sym due ∙ ap (is_due progress) (sym equal)
          each n (inr apart) = apart_due n apart

  pub due_opened : due_count (opened progress crosspoint.dest) ≡ due_count progress
  due_opened = count_alike (is_due progress) (is_due (opened progress crosspoint.dest)) 0 progress.room (λ n _ _. each n (cases_eq n crosspoint.dest))
    where
      each : (n : ℕ) → (n ≡ crosspoint.dest) ⊎ (n ≢ crosspoint.dest) → is_due (opened progress crosspoint.dest) n ≡ is_due progress n
      each n (inl equal) = ap (is_due (opened progress crosspoint.dest)) equal ∙ opened_due_here progress crosspoint.dest due ∙ sym due ∙ ap (is_due progress) (sym equal)
      each n (inr apart) = ap (due_of (finite.get progress.wants n)) (get-put_other progress.settled crosspoint.dest None n apart)

  pub some_due : crosspoint.dest < progress.room → 1 ≤ due_count progress
  some_due within =
      let fewer = count_fewer (is_due progress) (λ n. cond (nat_eq n crosspoint.dest) false (is_due progress n)) 0 progress.room crosspoint.dest (omega arith) (omega (arith, within)) due
      (ap (λ b. cond b false (is_due progress crosspoint.dest)) (eq-eqb crosspoint.dest crosspoint.dest refl)) others in
      omega (arith, fewer)
    where
      others : (n : ℕ) → n ≢ crosspoint.dest → cond (nat_eq n crosspoint.dest) false (is_due progress n) ≡ is_due progress n
      others n apart = ap (λ b. cond b false (is_due progress n)) (ne_eqb n crosspoint.dest apart)

-- a wanted source is what is wanted
pub has_wanted : (progress : Progress) (crosspoint : Crosspoint) → finite.get progress.wants crosspoint.dest ≡ Some crosspoint.source → has progress.wants crosspoint ≡ true
has_wanted progress crosspoint e =
    ap (λ found. option_map_or (λ source. option_eq nat_eq source crosspoint.source) found false) e ∙ source_itself crosspoint.source
