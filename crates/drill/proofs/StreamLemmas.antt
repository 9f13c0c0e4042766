-- The bytes of a panel, one message after another, and what they are read as.
use Rattle.std.proofs.Common.{◌≡◌, ℕ, zero, suc, ◌+◌, ◌%◌, ◌==◌, ◌*◌, ◌&&◌, Bool, true, false, if◌then◌else◌, List, [], ◌∷◌, ◌++◌, map, flat_map, sum, refl, ap, ◌∙◌, arith}
use Rattle.std.specs.List.{range_with_len}
use Rattle.std.proofs.lemmas.List.{append-nil}
use Rattle.std.proofs.lemmas.List.Concat.{flat_map-append}
use Rattle.std.proofs.lemmas.List.Sums.{sum_by_push}
use Rattle.std.proofs.lemmas.Bool.{cond-false}
use Rattle.dle_framing.specs.declared.item.Item.{Item}
use Rattle.dle_framing.specs.declared.item.Item.TheVariants.{Good, Bad}
use Rattle.dle_framing.specs.Frame.{check_byte, counted, enclosed, frame}
use Rattle.dle_framing.specs.Items.{TextReading, is_good, item_of, items, reading, rest, with_item}
use Rattle.dle_framing.specs.Laws.{IsReadAs}
use Rattle.dle_framing.proofs.Readings.{reading-by_start}
use Rattle.dle_framing.proofs.LawLemmas.{reading-enclosed, reads_on_lem, reads_one}
use Rattle.swp08_messages.specs.Text.{text}
use Rattle.drill.specs.Draws.{next_seed, seed_after}
use Rattle.drill.specs.Messages.{draws_each, message_at}
use Rattle.drill.specs.Stream.{is_bad, bad_frame, sent_at, stream, item_at, items_of}
use Rattle.drill.proofs.RoomLemmas.{text_most}

pub range_push : (a n : ℕ) → range_with_len a (suc n) ≡ range_with_len a n ++ (a + n) ∷ []
range_push a zero = ap (λ (k : ℕ). k ∷ []) (omega arith)
range_push a (suc n) = ap (λ (more : List ℕ). a ∷ more) (range_push (a + 1) n ∙ ap (λ (k : ℕ). range_with_len (a + 1) n ++ k ∷ []) (omega arith))

-- one message more
more_of : (sent : ℕ → List ℕ) (count : ℕ) → flat_map sent (range_with_len 0 (suc count)) ≡ flat_map sent (range_with_len 0 count) ++ sent count
more_of sent count =
    let last : 0 + count ≡ count = omega arith in
    ap (flat_map sent) (range_push 0 count)
    ∙ (flat_map-append sent (range_with_len 0 count) ((0 + count) ∷ []) ∙ ap (λ (more : List ℕ). flat_map sent (range_with_len 0 count) ++ more) (append-nil (sent (0 + count)) ∙ ap sent last))

pub stream_more : (number panel count : ℕ) → stream number panel (count + 1) ≡ stream number panel count ++ sent_at number panel count
stream_more number panel count =
    let next : count + 1 ≡ suc count = omega arith in
    ap (stream number panel) next ∙ more_of (sent_at number panel) count

pub seed_more : (number panel at : ℕ) → seed_after number panel (draws_each * (at + 1)) ≡ next_seed (next_seed (next_seed (seed_after number panel (draws_each * at))))
seed_more number panel at =
    let next : draws_each * (at + 1) ≡ suc (suc (suc (draws_each * at))) = omega arith in
    ap (seed_after number panel) next

and_fails : (a b : Bool) → b ≡ false → (a && b) ≡ false
and_fails true b fails = fails
and_fails false b fails = refl

-- A frame with a wrong check byte is bad.
wrong_sum : (bytes : List ℕ) → sum (counted bytes ++ (check_byte (counted bytes) + 1) % 256 ∷ []) % 256 ≡ 1
wrong_sum bytes = omega (arith, sum_by_push (λ (x : ℕ). x) (counted bytes) ((check_byte (counted bytes) + 1) % 256))

bad_is_bad : (bytes : List ℕ) → item_of (counted bytes ++ (check_byte (counted bytes) + 1) % 256 ∷ []) ≡ Bad
bad_is_bad bytes =
    let spelled = counted bytes ++ (check_byte (counted bytes) + 1) % 256 ∷ [] in
    cond-false (is_good spelled) _ _ (and_fails _ _ (ap (λ (rest : ℕ). rest == 0) (wrong_sum bytes)))

reads_bad : (bytes : List ℕ) → reading (bad_frame bytes) ≡ record { items = Bad ∷ []; rest = [] }
reads_bad bytes =
    let spelled = counted bytes ++ (check_byte (counted bytes) + 1) % 256 ∷ [] in
    reading-enclosed spelled ∙ (ap (with_item (item_of spelled)) (reading-by_start []) ∙ ap (λ (item : Item (List ℕ)). record { items = item ∷ []; rest = [] }) (bad_is_bad bytes))

reads_at : (number panel at : ℕ) → IsReadAs (sent_at number panel at) (item_at number panel at ∷ [])
reads_at number panel at =
    let bytes = text (message_at number panel at) in
    elim (is_bad at) as (λ b. IsReadAs (if b then bad_frame bytes else frame bytes) ((if b then Bad else Good bytes) ∷ [])) [
      | true ↦ record {
        all_items = ap (λ (r : TextReading). r.items) (reads_bad bytes);
        no_rest = ap (λ (r : TextReading). r.rest) (reads_bad bytes);
      }
      | false ↦ reads_one bytes (omega arith, omega (arith, text_most (message_at number panel at)))
    ]

reads_both : (one more : List ℕ) (given next : List (Item (List ℕ))) → IsReadAs one given → IsReadAs more next → IsReadAs (one ++ more) (given ++ next)
reads_both one more given next first second =
    let on = reads_on_lem one more in
    let joins : rest one ++ more ≡ more = ap (λ (left : List ℕ). left ++ more) first.no_rest in
    record {
      all_items = on.items_go_on ∙ (ap (λ (known : List (Item (List ℕ))). known ++ items (rest one ++ more)) first.all_items ∙ ap (λ (known : List (Item (List ℕ))). given ++ known) (ap items joins ∙ second.all_items));
      no_rest = on.rest_goes_on ∙ (ap rest joins ∙ second.no_rest);
    }

read_each : (number panel : ℕ) (ats : List ℕ) → IsReadAs (flat_map (sent_at number panel) ats) (map (item_at number panel) ats)
read_each number panel [] = record {
  all_items = ap (λ (r : TextReading). r.items) (reading-by_start []);
  no_rest = ap (λ (r : TextReading). r.rest) (reading-by_start []);
}
read_each number panel (at ∷ ats) =
    reads_both (sent_at number panel at) (flat_map (sent_at number panel) ats) (item_at number panel at ∷ []) (map (item_at number panel) ats) (reads_at number panel at) (read_each number panel ats)

pub streams_are_read : (number panel count : ℕ) → IsReadAs (stream number panel count) (items_of number panel count)
streams_are_read number panel count = read_each number panel (range_with_len 0 count)
