-- The reading of a frame, as the plain reader comes to it.
use Rattle.std.proofs.Common.{◌≡◌, ℕ, ◌<◌, nat_eq, false, List, [], ◌∷◌, length, sym, ap, ◌∙◌, arith}
use Rattle.std.proofs.lemmas.Bool.{cond-false}
use Rattle.dle_framing.specs.Numbers.{dle, stx, etx}
use Rattle.dle_framing.specs.Items.{longest_run, only_rest, with_item, item_of, in_frame, reading}
use Rattle.doubled_bytes.proofs.Runs.{length-behind}
use Rattle.dle_framing.proofs.Readings.{reading-by_start}

-- a frame by what is behind its run
framed : (text behind : List ℕ) → (longest_run text).behind ≡ behind → reading (dle ∷ stx ∷ text) ≡ in_frame reading text (record { spelled = (longest_run text).spelled; behind = behind })
framed text behind stops = reading-by_start (dle ∷ stx ∷ text) ∙ ap (λ (behind : List ℕ). in_frame reading text (record { spelled = (longest_run text).spelled; behind = behind })) stops

pub frame-nothing : (text : List ℕ) → (longest_run text).behind ≡ [] → reading (dle ∷ stx ∷ text) ≡ only_rest (dle ∷ stx ∷ text)
frame-nothing text stops = framed text [] stops

pub frame-one : (text : List ℕ) (a : ℕ) → (longest_run text).behind ≡ a ∷ [] → reading (dle ∷ stx ∷ text) ≡ only_rest (dle ∷ stx ∷ text)
frame-one text a stops = framed text (a ∷ []) stops

pub frame-ended : (text : List ℕ) (a : ℕ) (more : List ℕ) → (longest_run text).behind ≡ a ∷ etx ∷ more → reading (dle ∷ stx ∷ text) ≡ with_item (item_of (longest_run text).spelled) (reading more)
frame-ended text a more stops = framed text (a ∷ etx ∷ more) stops

pub frame-again : (text : List ℕ) (a : ℕ) (more : List ℕ) → (longest_run text).behind ≡ a ∷ stx ∷ more → reading (dle ∷ stx ∷ text) ≡ reading (a ∷ stx ∷ more)
frame-again text a more stops = framed text (a ∷ stx ∷ more) stops

pub frame-left : (text : List ℕ) (a b : ℕ) (more : List ℕ) → (longest_run text).behind ≡ a ∷ b ∷ more → nat_eq b etx ≡ false → nat_eq b stx ≡ false → reading (dle ∷ stx ∷ text) ≡ reading more
frame-left text a b more stops no_etx no_stx = framed text (a ∷ b ∷ more) stops ∙ cond-false _ _ _ no_etx ∙ cond-false _ _ _ no_stx

-- what is behind a run, by its two first bytes
pub stopped_at : (behind stopped after both : List ℕ) (a b k : ℕ) → stopped ≡ behind → stopped ≡ a ∷ after → after ≡ b ∷ both → b ≡ k → behind ≡ a ∷ k ∷ both
stopped_at behind stopped after both a b k same first second is = sym same ∙ first ∙ ap (λ (after : List ℕ). a ∷ after) (second ∙ ap (λ (b : ℕ). b ∷ both) is)

-- a text that is behind a run's end is shorter than the frame
pub shorter_frame : (text both : List ℕ) (a b : ℕ) → (longest_run text).behind ≡ a ∷ b ∷ both → length both < length {A = ℕ} (dle ∷ stx ∷ text)
shorter_frame text both a b stops = omega (arith, length-behind dle text, ap (length {A = ℕ}) stops)

-- the text behind the first bytes
pub shorter : (text is behind : List ℕ) → text ≡ is → length behind < length is → length behind < length text
shorter text is behind same less = omega (arith, ap (length {A = ℕ}) same)
