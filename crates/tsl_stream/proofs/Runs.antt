-- The first pieces of the longest run of a text, and what is behind them.
use Rattle.std.proofs.Common.{◌≡◌, ℕ, ◌≤◌, List, ◌++◌, length, take, drop, refl, sym, ap, ◌∙◌, arith}
use Rattle.std.proofs.lemmas.List.{append_assoc, length-append, take-append-drop, drop_at}
use Rattle.std.proofs.lemmas.List.Concat.{flat_map-append}
use Rattle.doubled_bytes.proofs.Runs.{continued, doubled-longest_run}
use Rattle.tsl_stream.specs.Stream.{stuffed}
use Rattle.tsl_stream.specs.Items.{packet_run, behind_pieces}
use Rattle.tsl_stream.specs.Numbers.{tsl_dle}

-- the first pieces of a run, and those behind them
pub stuffed-split : (n : ℕ) (bytes : List ℕ) → stuffed (take n bytes) ++ stuffed (drop n bytes) ≡ stuffed bytes
stuffed-split n bytes = sym (flat_map-append _ (take n bytes) (drop n bytes)) ∙ ap stuffed (take-append-drop n bytes)

-- A text is the first pieces of its longest run as they are spelled, and what is behind them.
pub behind_pieces-split : (n : ℕ) (text : List ℕ) → stuffed (take n (packet_run text).spelled) ++ behind_pieces n (packet_run text) ≡ text
behind_pieces-split n text =
    let run = packet_run text in
    sym (append_assoc (stuffed (take n run.spelled)) (stuffed (drop n run.spelled)) run.behind)
    ∙ ap (λ (front : List ℕ). front ++ run.behind) (stuffed-split n run.spelled)
    ∙ doubled-longest_run tsl_dle text

-- what is behind pieces of a run, or behind all of it, is no longer than the text
pub length-behind_pieces : (n : ℕ) (text : List ℕ) → length (behind_pieces n (packet_run text)) ≤ length text
length-behind_pieces n text =
    let run = packet_run text in
    omega (arith, length-append (stuffed (take n run.spelled)) (behind_pieces n run), ap (length {A = ℕ}) (behind_pieces-split n text))

-- what is behind the pieces of a body
pub behind_pieces-body : (body tail : List ℕ) → behind_pieces (length body) (continued body (packet_run tail)) ≡ tail
behind_pieces-body body tail =
    ap (λ (spelled : List ℕ). stuffed spelled ++ (packet_run tail).behind) (drop_at body (packet_run tail).spelled (length body) refl)
    ∙ doubled-longest_run tsl_dle tail
