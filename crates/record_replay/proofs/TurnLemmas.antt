-- The line of a turn, put in its parts.
use Rattle.std.proofs.Common.{◌≡◌, ℕ, Bool, false, ◌||◌, List, [], ◌∷◌, ◌++◌, Option, refl, sym, ◌∙◌, ap, subst, append_assoc}
use Rattle.hex.specs.Hex.{encode_with, encode_upper}
use Rattle.record_replay.specs.declared.output.Output.{Output}
use Rattle.record_replay.specs.Script.{line_feed}
use Rattle.record_replay.specs.Replay.{turn_line, hex_or_dash}
use Rattle.record_replay.specs.OutputInside.{Puts, Gives, are_some, turn_head, turn_end}
use Rattle.record_replay.specs.OutputLaws.{Puts-more}

-- what is behind the head
shown-parts : (bytes : List ℕ) → encode_upper bytes ++ turn_end (are_some bytes) ≡ hex_or_dash bytes ++ line_feed ∷ []
unfolding encode_with
shown-parts [] = refl
shown-parts (byte ∷ bytes) = refl

-- the line of a turn is what its three calls put
turn_line-parts : (panel : ℕ) (bytes : List ℕ) → (turn_head panel ++ encode_upper bytes) ++ turn_end (are_some bytes) ≡ turn_line panel bytes
turn_line-parts panel bytes =
    append_assoc (turn_head panel) (encode_upper bytes) (turn_end (are_some bytes)) ∙ ap (λ xs. turn_head panel ++ xs) (shown-parts bytes) ∙ sym (append_assoc (turn_head panel) (hex_or_dash bytes) (line_feed ∷ []))

-- the three calls of a turn put its line
pub Puts-turn : {K : Type 0} (written : K → Option (List ℕ)) (faults : K → ℕ) (panel : ℕ) (bytes : List ℕ) (first begun given last : Output K) → Puts written faults (turn_head panel) first begun → begun.some ≡ false → Gives written faults bytes begun given → Puts written faults (turn_end given.some) given last → Puts written faults (turn_line panel bytes) first last
Puts-turn written faults panel bytes first begun given last head none gives end =
    let ended = subst (λ (some : Bool). Puts written faults (turn_end some) given last) (gives.some ∙ ap (λ some. some || are_some bytes) none) end in
    subst (λ (line : List ℕ). Puts written faults line first last) (turn_line-parts panel bytes) (Puts-more written faults _ _ first given last (Puts-more written faults _ _ first begun given head gives.puts) ended)
