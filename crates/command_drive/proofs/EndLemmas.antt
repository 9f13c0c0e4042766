-- The end of a drive is one, and what turns make of it.
use Rattle.std.proofs.Common.{◌≡◌, ℕ, inl, inr, zero, suc, refl, sym, ap, ◌∙◌, arith}
use Rattle.std.proofs.lemmas.Bool.{cases_lt, both_ways}
use Rattle.command_drive.specs.Drive.{Drive, turn, turns, wanted, is_over, IsEnd}
use Rattle.command_drive.specs.DriveLaws.{EndsAreOne}

-- one turn more
pub turns_more : (count : ℕ) (drive : Drive) → turns (suc count) drive ≡ turn (turns count drive)
turns_more zero drive = refl
turns_more (suc count) drive = turns_more count (turn drive)

same_count : (number wants : ℕ) (one other : Drive) (a : IsEnd number wants one) (b : IsEnd number wants other) → a.count ≡ b.count
same_count number wants one other a b = elim (cases_lt a.count b.count) [
  | inl less ↦ absurd (both_ways (is_over (turns a.count (wanted number wants))) (b.before a.count less) (sym (ap is_over a.is) ∙ a.over))
  | inr more ↦ elim (cases_lt b.count a.count) [
    | inl less ↦ absurd (both_ways (is_over (turns b.count (wanted number wants))) (a.before b.count less) (sym (ap is_over b.is) ∙ b.over))
    | inr same ↦ omega (arith, more, same)
  ]
]

pub ends_are : EndsAreOne
ends_are number wants one other a b =
    a.is ∙ ap (λ count. turns count (wanted number wants)) (same_count number wants one other a b) ∙ sym b.is
