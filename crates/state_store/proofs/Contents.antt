-- What a torn write leaves as it was, and what a whole one leaves.
use Rattle.std.proofs.Common.{◌≡◌, ℕ, ◌+◌, ◌-◌, ◌≤◌, List, ◌++◌, length, take, drop, refl, sym, ◌∙◌, ap, arith, length-take-le}
use Rattle.std.proofs.lemmas.List.{take-take, take_at, drop_at, drop-drop, drop-take}
use Rattle.ctl_io.specs.Disk.{overlaid, Torn}
use Rattle.state_store.specs.Slots.{bytes_at}

-- the bytes before the range
pub torn_before : (at n j k : ℕ) (all c : List ℕ) → Torn at n all c → j + k ≤ at → bytes_at j k c ≡ bytes_at j k all
torn_before at n j k all c torn before =
    sym (drop-take j k c) ∙ ap (drop j) (sym (take-take (j + k) at c before) ∙ ap (take (j + k)) torn.before ∙ take-take (j + k) at all before) ∙ drop-take j k all

-- those behind it
pub torn_behind : (at n j k : ℕ) (all c : List ℕ) → Torn at n all c → at + n ≤ j → bytes_at j k c ≡ bytes_at j k all
torn_behind at n j k all c torn behind =
    let is : at + n + (j - (at + n)) ≡ j = omega arith in
    let same : drop j c ≡ drop j all = ap (λ i. drop i c) (sym is) ∙ sym (drop-drop (j - (at + n)) (at + n) c) ∙ ap (drop (j - (at + n))) torn.after ∙ drop-drop (j - (at + n)) (at + n) all ∙ ap (λ i. drop i all) is in
    ap (take k) same

-- and those in it after a whole write
pub written_here : (at : ℕ) (bytes all : List ℕ) → at + length bytes ≤ length all → bytes_at at (length bytes) (overlaid at bytes all) ≡ bytes
written_here at bytes all within =
    ap (take (length bytes)) (drop_at (take at all) (bytes ++ drop (at + length bytes) all) at (length-take-le at all (omega arith))) ∙ take_at bytes (drop (at + length bytes) all) (length bytes) refl
