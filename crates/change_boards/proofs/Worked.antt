-- The definitions computed on boards of a few notices, by hand.
use Rattle.std.proofs.Common.{◌≡◌, [], ◌∷◌, false, Some, None, refl}
use Rattle.change_boards.specs.declared.sort.Sort.TheVariants.{Source, Protect}
use Rattle.change_boards.specs.Board.{sooner, blank, abandoned, marked, without}
use Rattle.change_boards.specs.Notices.{start_boards, with_leave, has_left}

lower_first : sooner (Some 5) (Some 3) ≡ Some (3, Protect)
lower_first = refl

higher_later : sooner (Some 3) (Some 5) ≡ Some (3, Source)
higher_later = refl

source_first : sooner (Some 4) (Some 4) ≡ Some (4, Source)
source_first = refl

protect_alone : sooner None (Some 4) ≡ Some (4, Protect)
protect_alone = refl

none_at_all : sooner None None ≡ None
none_at_all = refl

nothing_is_taken : without blank None ≡ blank
nothing_is_taken = refl

no_mark_after_leaving : marked abandoned 4 Protect ≡ abandoned
no_mark_after_leaving = refl

one_panel_leaves : with_leave (start_boards 3) 1 ≡ blank ∷ abandoned ∷ blank ∷ []
one_panel_leaves = refl

others_stay : has_left (with_leave (start_boards 3) 1) 2 ≡ false
others_stay = refl
