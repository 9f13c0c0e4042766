-- How many frames are good, and how many bad.
use Rattle.std.proofs.Common.{◌≡◌, ℕ, zero, suc, ◌+◌, ◌-◌, ◌/◌, ◌%◌, Bool, true, false, if◌then◌else◌, not, List, [], ◌∷◌, map, refl, sym, ap, ◌∙◌, arith, eqb-true}
use Rattle.std.specs.List.{count_by, range_with_len}
use Rattle.std.proofs.lemmas.Bool.{eqb-false}
use Rattle.std.proofs.lemmas.List.Sums.{sum_by-cons, sum_by_push}
use Rattle.dle_framing.specs.declared.item.Item.{Item}
use Rattle.dle_framing.specs.declared.item.Item.TheVariants.{Good, Bad}
use Rattle.swp08_messages.specs.Text.{text}
use Rattle.panel_session.specs.Counted.{bads_of, goods_of, is_bad_item, is_good_item}
use Rattle.drill.specs.Messages.{message_at}
use Rattle.drill.specs.Stream.{is_bad, bad_among, good_among, item_at, items_of}
use Rattle.drill.proofs.StreamLemmas.{range_push}

count_more : (p : ℕ → Bool) (count : ℕ) → count_by p (range_with_len 0 (suc count)) ≡ count_by p (range_with_len 0 count) + (if p (0 + count) then 1 else 0)
count_more p count = ap (count_by p) (range_push 0 count) ∙ sum_by_push (λ (at : ℕ). if p at then 1 else 0) (range_with_len 0 count) (0 + count)

pub bad_counted : (count : ℕ) → bad_among count ≡ count / 100
bad_counted zero = refl
bad_counted (suc count) = count_more is_bad count ∙
    elim (is_bad (0 + count)) as (λ b. is_bad (0 + count) ≡ b → bad_among count + (if b then 1 else 0) ≡ suc count / 100) [
      | true ↦ λ is. omega (arith, bad_counted count, eqb-true ((0 + count) % 100) 99 is)
      | false ↦ λ is. omega (arith, bad_counted count, eqb-false ((0 + count) % 100) 99 is)
    ] refl

pub good_counted : (count : ℕ) → good_among count ≡ count - count / 100
good_counted zero = refl
good_counted (suc count) = count_more (λ at. not (is_bad at)) count ∙
    elim (is_bad (0 + count)) as (λ b. is_bad (0 + count) ≡ b → good_among count + (if not b then 1 else 0) ≡ suc count - suc count / 100) [
      | true ↦ λ is. omega (arith, good_counted count, eqb-true ((0 + count) % 100) 99 is)
      | false ↦ λ is. omega (arith, good_counted count, eqb-false ((0 + count) % 100) 99 is)
    ] refl

pub frames_are_counted : (count : ℕ) → (bad_among count ≡ count / 100) × (good_among count ≡ count - count / 100)
frames_are_counted count = (bad_counted count, good_counted count)

-- The items of a panel have as many good and bad frames as were sent.
goods_at : (number panel : ℕ) (ats : List ℕ) → goods_of (map (item_at number panel) ats) ≡ count_by (λ at. not (is_bad at)) ats
goods_at number panel [] = refl
goods_at number panel (at ∷ ats) =
    let message = text (message_at number panel at) in
    let one : is_good_item (item_at number panel at) ≡ not (is_bad at) =
    elim (is_bad at) as (λ b. is_good_item (if b then Bad else Good message) ≡ not b) [ true ↦ refl | false ↦ refl ] in
    sum_by-cons (λ (item : Item (List ℕ)). if is_good_item item then 1 else 0) (item_at number panel at) (map (item_at number panel) ats)
    ∙ ap (λ (b : Bool). (if b then 1 else 0) + goods_of (map (item_at number panel) ats)) one
    ∙ ap (λ (n : ℕ). (if not (is_bad at) then 1 else 0) + n) (goods_at number panel ats)
    ∙ sym (sum_by-cons (λ (at : ℕ). if not (is_bad at) then 1 else 0) at ats)

bads_at : (number panel : ℕ) (ats : List ℕ) → bads_of (map (item_at number panel) ats) ≡ count_by is_bad ats
bads_at number panel [] = refl
bads_at number panel (at ∷ ats) =
    let message = text (message_at number panel at) in
    let one : is_bad_item (item_at number panel at) ≡ is_bad at =
    elim (is_bad at) as (λ b. is_bad_item (if b then Bad else Good message) ≡ b) [ true ↦ refl | false ↦ refl ] in
    sum_by-cons (λ (item : Item (List ℕ)). if is_bad_item item then 1 else 0) (item_at number panel at) (map (item_at number panel) ats)
    ∙ ap (λ (b : Bool). (if b then 1 else 0) + bads_of (map (item_at number panel) ats)) one
    ∙ ap (λ (n : ℕ). (if is_bad at then 1 else 0) + n) (bads_at number panel ats)
    ∙ sym (sum_by-cons (λ (at : ℕ). if is_bad at then 1 else 0) at ats)

pub goods_sent : (number panel count : ℕ) → goods_of (items_of number panel count) ≡ good_among count
goods_sent number panel count = goods_at number panel (range_with_len 0 count)

pub bads_sent : (number panel count : ℕ) → bads_of (items_of number panel count) ≡ bad_among count
bads_sent number panel count = bads_at number panel (range_with_len 0 count)
