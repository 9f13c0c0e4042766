use Rattle.std.proofs.Common.{◌≡◌, ◌+◌, ◌*◌, ℕ, List, [], length, ap, ◌∙◌, arith}
use Rattle.std.proofs.lemmas.List.FromFn.{length-map-range_with_len}
use Rattle.ctl_net.specs.MemLink.{new_link}
use Rattle.ctl_net.specs.declared.link_event.LinkEvent.{LinkEvent}
use Rattle.ctl_net.specs.declared.link_event.LinkEvent.TheVariants.{Piece}
use Rattle.drill.specs.Pieces.{in_pieces, piece_at, piece_count}
use Rattle.drill.specs.TapeInside.{new_tape}
use Rattle.drill.specs.WorkerInside.{bytes_of_panel}
use Rattle.drill.proofs.RoomLemmas.{events_few}
use Rattle.drill.proofs.worker.link_and_trace.Goals as goal

pub overflow_mul-written-2 : goal.overflow_mul-written-2
overflow_mul-written-2 c =
    omega (arith, events_few _ _ _ _ _ _ c.as_slice-pieces.ensures.value c.in_ok-events.ensures (c.as_slice.ensures.value ∙ c.in_ok-bytes.ensures) c.requires.each)

pub overflow_add-written : goal.overflow_add-written
overflow_add-written c =
    omega (arith, events_few _ _ _ _ _ _ c.as_slice-pieces.ensures.value c.in_ok-events.ensures (c.as_slice.ensures.value ∙ c.in_ok-bytes.ensures) c.requires.each, c.requires.each)

pub overflow_mul-traced-2 : goal.overflow_mul-traced-2
overflow_mul-traced-2 c =
    omega (arith, events_few _ _ _ _ _ _ c.as_slice-pieces.ensures.value c.in_ok-events.ensures (c.as_slice.ensures.value ∙ c.in_ok-bytes.ensures) c.requires.each)

pub overflow_add-traced : goal.overflow_add-traced
overflow_add-traced c =
    omega (arith, events_few _ _ _ _ _ _ c.as_slice-pieces.ensures.value c.in_ok-events.ensures (c.as_slice.ensures.value ∙ c.in_ok-bytes.ensures) c.requires.each, c.requires.each)

-- The pieces are as many as those of the bytes.
counted : (now events : List LinkEvent) (bytes : List ℕ) → now ≡ events → events ≡ in_pieces bytes → length now ≡ piece_count bytes
counted now events bytes same are =
    ap (length {A = LinkEvent}) (same ∙ are) ∙ length-map-range_with_len (λ (at : ℕ). Piece (piece_at bytes at)) 0 (piece_count bytes)

pub returns-clause-link : goal.returns-clause-link
returns-clause-link c =
    let bytes : List ℕ = bytes_of_panel c.args.load.now c.args.panel in
    let events : c.in_ok-events.events.items ≡ in_pieces bytes = c.in_ok-events.ensures ∙ ap in_pieces (c.as_slice.ensures.value ∙ c.in_ok-bytes.ensures) in
    let each : ℕ = c.args.load.now.each in
    c.in_ok-link.ensures
    ∙ ap (λ (events : List LinkEvent). new_link events (64 * each + 1024 * length c.as_slice-pieces.result.now) [] []) events
    ∙ ap (λ (n : ℕ). new_link (in_pieces bytes) (64 * each + 1024 * n) [] []) (counted _ _ bytes c.as_slice-pieces.ensures.value events)

pub returns-clause-trace : goal.returns-clause-trace
returns-clause-trace c =
    let bytes : List ℕ = bytes_of_panel c.args.load.now c.args.panel in
    let events : c.in_ok-events.events.items ≡ in_pieces bytes = c.in_ok-events.ensures ∙ ap in_pieces (c.as_slice.ensures.value ∙ c.in_ok-bytes.ensures) in
    let each : ℕ = c.args.load.now.each in
    c.in_ok-trace.ensures ∙ ap (λ (n : ℕ). new_tape (256 * each + 8192 * n)) (counted _ _ bytes c.as_slice-pieces.ensures.value events)
