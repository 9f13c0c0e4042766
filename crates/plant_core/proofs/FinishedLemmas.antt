-- When a display poll is answered that all is finished.
use Rattle.std.proofs.Common.{◌≡◌, ℕ, ◌+◌, ◌<◌, zero, suc, Bool, true, false, cond, not, List, [], ◌∷◌, length, take, get_or, refl, sym, ap, ◌∙◌, arith}
use Rattle.std.specs.Prelude.{◌&&◌}
use Rattle.std.specs.List.{Contains, list_any, list_all, range_with_len}
use Rattle.std.proofs.lemmas.Bool.{both_ways, and_parts}
use Rattle.std.proofs.lemmas.List.{get_or_default}
use Rattle.std.proofs.lemmas.List.Elements.{All-weaker}
use Rattle.std.proofs.lemmas.List.Sums.{AllPass-from_list_all, list_all-from_AllPass}
use Rattle.change_boards.specs.Board.{Board, blank}
use Rattle.change_boards.specs.Screens.{displays_of}
use Rattle.plant_core.specs.declared.answer.Answer.TheVariants.{Finished}
use Rattle.plant_core.specs.State.{State, IsValid}
use Rattle.plant_core.specs.Displays as displays
use Rattle.plant_core.specs.Displays.{lamp_limit, differing, is_finished, told_displays, taken_first}
use Rattle.plant_core.specs.DisplayLaws.{AllIsFinished, lamps_for}
use Rattle.plant_core.proofs.DisplayLemmas.{none_more, some_at}
use Rattle.plant_core.proofs.ScreenLemmas.{displays-below}
use Rattle.plant_core.proofs.LampLemmas.{none-pass}

-- no number below a count passes a test exactly where each fails it
none-any : (test : ℕ → Bool) (count : ℕ) → ((n : ℕ) → n < count → test n ≡ false) → list_any test (range_with_len 0 count) ≡ false
none-any test zero none = refl
none-any test (suc count) none =
    let more : count + 1 ≡ suc count = omega arith in
    ap (λ n. list_any test (range_with_len 0 n)) (sym more)
    ∙ none_more test count (none-any test count (λ n below. none n (omega (arith, below)))) (none count (omega arith))

any-none : (test : ℕ → Bool) (count number : ℕ) → list_any test (range_with_len 0 count) ≡ false → number < count → test number ≡ false
any-none test count number none below = elim (test number) as (λ b. test number ≡ b → b ≡ false) [
  | true ↦ λ is. absurd (both_ways (list_any test (range_with_len 0 count)) none (some_at test number count below is))
  | false ↦ λ is. refl
] refl

-- all is finished where the test of it says so
finished-is : (state : State) → IsValid state → is_finished state ≡ true → AllIsFinished state
finished-is state valid is =
    let some : Bool = list_any (displays.differs state) (range_with_len 0 (length state.plant.displays)) in
    let parts = and_parts (list_all (λ (board : Board). board.left) state.boards) (not some) is in
    record {
      shown = λ display below. any-none (displays.differs state) (length state.plant.displays) display (is_false some parts.1) below;
      left = λ panel below. AllPass-from_list_all (λ (board : Board). board.left) state.boards parts.0 panel blank (omega (arith, below, valid.boards.count));
    }
  where
    is_false : (b : Bool) → not b ≡ true → b ≡ false
    is_false true wrong = cc
    is_false false _ = refl

is-finished : (state : State) → IsValid state → AllIsFinished state → is_finished state ≡ true
is-finished state valid all =
    let none : list_any (displays.differs state) (range_with_len 0 (length state.plant.displays)) ≡ false =
    none-any (displays.differs state) (length state.plant.displays) all.shown in
    let gone : list_all (λ (board : Board). board.left) state.boards ≡ true =
    list_all-from_AllPass (λ (board : Board). board.left) state.boards (λ panel d below. ap (λ (board : Board). board.left) (same panel d below) ∙ all.left panel (omega (arith, below, valid.boards.count))) in
    ap (λ b. b && not (list_any (displays.differs state) (range_with_len 0 (length state.plant.displays)))) gone ∙ ap not none
  where
    same : (panel : ℕ) (d : Board) → panel < length state.boards → get_or state.boards panel d ≡ get_or state.boards panel blank
    same panel d below = get_or_default state.boards panel d blank below

-- so that it is told
pub finished-told : (state : State) (screen : ℕ) → IsValid state → AllIsFinished state → (taken_first state screen).answers ≡ Finished ∷ []
finished-told state screen valid all =
    let none : differing state screen ≡ [] =
    none-pass (displays.differs state) (displays_of state.plant screen)
    (All-weaker (λ display. display < length state.plant.displays) (λ display. displays.differs state display ≡ false) (λ display below. all.shown display below) (displays_of state.plant screen) (displays-below state.plant screen)) in
    ap (λ list. (told_displays state (take lamp_limit list)).answers) none ∙ ap (λ b. cond b (Finished ∷ []) []) (is-finished state valid all)

-- and is told nowhere else
no_lamp : (state : State) (list : List ℕ) (k : ℕ) → k < length (lamps_for state list) → get_or (lamps_for state list) k Finished ≡ Finished → ⊥
no_lamp state [] k below is = absurd (omega (arith, below))
no_lamp state (display ∷ list) zero below is = cc
no_lamp state (display ∷ list) (suc k) below is = no_lamp state list k (omega (arith, below)) is

pub finished-true : (state : State) (screen : ℕ) → IsValid state → Contains (taken_first state screen).answers Finished → AllIsFinished state × ((taken_first state screen).answers ≡ Finished ∷ [])
finished-true state screen valid among = told (take lamp_limit (differing state screen)) among
  where
    quiet : (b : Bool) → is_finished state ≡ b → Contains (cond b (Finished ∷ []) []) Finished → AllIsFinished state × (cond b (Finished ∷ []) [] ≡ Finished ∷ [])
    quiet true is among = (finished-is state valid is, refl)
    quiet false is among = absurd (omega (arith, among.1))

    told : (list : List ℕ) → Contains (told_displays state list).answers Finished → AllIsFinished state × ((told_displays state list).answers ≡ Finished ∷ [])
    told [] among = quiet (is_finished state) refl among
    told (display ∷ list) among = absurd (no_lamp state (display ∷ list) among.0 among.1 among.2)
