-- The longest run of pieces of a text, and the text that spells it.
use Rattle.std.proofs.Common.{◌≡◌, ℕ, ◌+◌, ◌*◌, ◌≤◌, ◌<◌, true, false, nat_eq, List, [], ◌∷◌, ◌++◌, length, take, drop, get_or, refl, sym, ap, ◌∙◌, subst, arith}
use Rattle.std.proofs.lemmas.Bool.{cond-false, cond-true, eq-eqb, eqb-true}
use Rattle.std.proofs.lemmas.List.{append-nil, length-append, take_more, take-append-drop}
use Rattle.std.proofs.lemmas.List.Concat.{flat_map-append}
use Rattle.doubled_bytes.specs.Doubled.{doubled, Run, longest_run, with_piece}

-- what holds of a byte k, and of every other byte
pub at_byte : (k : ℕ) (P : ℕ → Type 0) (a : ℕ) → P k → (nat_eq a k ≡ false → P a) → P a
at_byte k P a here other = elim (nat_eq a k) as (λ v. nat_eq a k ≡ v → P a) [
  | true ↦ λ h. subst P (sym (eqb-true a k h)) here
  | false ↦ λ h. other h
] refl

same_byte : (dle : ℕ) → nat_eq dle dle ≡ true
same_byte dle = eq-eqb dle dle refl

-- a byte other than DLE is a piece
longest_run-byte : (dle a : ℕ) (text : List ℕ) → nat_eq a dle ≡ false → longest_run dle (a ∷ text) ≡ with_piece a (longest_run dle text)
longest_run-byte dle a [] other = cond-false _ _ _ other
longest_run-byte dle a (b ∷ text) other = cond-false _ _ _ other

-- So is a pair of DLE.
longest_run-pair : (dle : ℕ) (text : List ℕ) → longest_run dle (dle ∷ dle ∷ text) ≡ with_piece dle (longest_run dle text)
longest_run-pair dle text = cond-true _ _ _ (same_byte dle) ∙ cond-true _ _ _ (same_byte dle)

-- a DLE alone ends the run
longest_run-lone : (dle : ℕ) → longest_run dle (dle ∷ []) ≡ record { spelled = []; behind = dle ∷ [] }
longest_run-lone dle = cond-true _ _ _ (same_byte dle)

-- So does a DLE with another byte.
pub longest_run-stop : (dle b : ℕ) (text : List ℕ) → nat_eq b dle ≡ false → longest_run dle (dle ∷ b ∷ text) ≡ record { spelled = []; behind = dle ∷ b ∷ text }
longest_run-stop dle b text other = cond-true _ _ _ (same_byte dle) ∙ cond-false _ _ _ other

pub doubled-byte : (dle a : ℕ) (body : List ℕ) → nat_eq a dle ≡ false → doubled dle (a ∷ body) ≡ a ∷ doubled dle body
doubled-byte dle a body other = ap (λ (piece : List ℕ). piece ++ doubled dle body) (cond-false _ _ _ other)

doubled-dle : (dle : ℕ) (body : List ℕ) → doubled dle (dle ∷ body) ≡ dle ∷ dle ∷ doubled dle body
doubled-dle dle body = ap (λ (piece : List ℕ). piece ++ doubled dle body) (cond-true _ _ _ (same_byte dle))

-- A doubled body goes on by a byte.
pub doubled-push : (dle : ℕ) (body : List ℕ) (byte : ℕ) → nat_eq byte dle ≡ false → doubled dle body ++ byte ∷ [] ≡ doubled dle (body ++ byte ∷ [])
doubled-push dle body byte other = ap (λ (piece : List ℕ). doubled dle body ++ piece) (sym (doubled-byte dle byte [] other)) ∙ sym (flat_map-append _ body (byte ∷ []))

pub doubled-push_dle : (dle : ℕ) (body : List ℕ) → doubled dle body ++ dle ∷ dle ∷ [] ≡ doubled dle (body ++ dle ∷ [])
doubled-push_dle dle body = ap (λ (piece : List ℕ). doubled dle body ++ piece) (sym (doubled-dle dle [])) ∙ sym (flat_map-append _ body (dle ∷ []))

-- bytes that are their own spelling, and one more
pub single_more : (dle : ℕ) (text : List ℕ) (byte : ℕ) → doubled dle text ≡ text → nat_eq byte dle ≡ false → doubled dle (text ++ byte ∷ []) ≡ text ++ byte ∷ []
single_more dle text byte single other = sym (doubled-push dle text byte other) ∙ ap (λ (text : List ℕ). text ++ byte ∷ []) single

-- doubling makes bytes twice as many at most
pub length-doubled : (dle : ℕ) (bytes : List ℕ) → length (doubled dle bytes) ≤ 2 * length bytes
length-doubled dle [] = omega arith
length-doubled dle (a ∷ bytes) =
    at_byte dle (λ a. length (doubled dle (a ∷ bytes)) ≤ 2 * length {A = ℕ} (a ∷ bytes)) a
    (omega (arith, length-doubled dle bytes, ap (length {A = ℕ}) (doubled-dle dle bytes)))
    (λ other. omega (arith, length-doubled dle bytes, ap (length {A = ℕ}) (doubled-byte dle a bytes other)))

-- the part of a text that is doubled so far leaves room for the next byte
pub doubled-room : (dle : ℕ) (bytes : List ℕ) (i : ℕ) → i < length bytes → length (doubled dle (take i bytes)) + length (doubled dle (get_or bytes i 0 ∷ [])) ≤ length (doubled dle bytes)
doubled-room dle bytes i within =
    let next = get_or bytes i 0 ∷ [] in
    let split : doubled dle (take i bytes ++ next) ≡ doubled dle (take i bytes) ++ doubled dle next = flat_map-append _ (take i bytes) next in
    let whole : (take i bytes ++ next) ++ drop (i + 1) bytes ≡ bytes = ap (λ (front : List ℕ). front ++ drop (i + 1) bytes) (sym (take_more bytes i 0 within)) ∙ take-append-drop (i + 1) bytes in
    omega (
      arith,
      ap (length {A = ℕ}) (sym (flat_map-append _ (take i bytes ++ next) (drop (i + 1) bytes)) ∙ ap (doubled dle) whole),
      length-append (doubled dle (take i bytes ++ next)) (doubled dle (drop (i + 1) bytes)),
      ap (length {A = ℕ}) split,
      length-append (doubled dle (take i bytes)) (doubled dle next),
    )

abbrev pub continued : List ℕ → Run → Run
continued body run = record { spelled = body ++ run.spelled; behind = run.behind }

-- A run that a doubled body spells goes on as what is behind that body.
pub longest_run-doubled : (dle : ℕ) (body tail : List ℕ) → longest_run dle (doubled dle body ++ tail) ≡ continued body (longest_run dle tail)
longest_run-doubled dle [] tail = refl
longest_run-doubled dle (a ∷ body) tail =
    at_byte dle (λ a. longest_run dle (doubled dle (a ∷ body) ++ tail) ≡ continued (a ∷ body) (longest_run dle tail)) a
    (ap (λ (text : List ℕ). longest_run dle (text ++ tail)) (doubled-dle dle body) ∙ longest_run-pair dle (doubled dle body ++ tail) ∙ ap (with_piece dle) (longest_run-doubled dle body tail))
    (λ other. ap (λ (text : List ℕ). longest_run dle (text ++ tail)) (doubled-byte dle a body other) ∙ longest_run-byte dle a (doubled dle body ++ tail) other ∙ ap (with_piece a) (longest_run-doubled dle body tail))

-- a run as it is spelled, and the text behind it
abbrev spelling : ℕ → Run → List ℕ
spelling dle run = doubled dle run.spelled ++ run.behind

-- A text is its longest run as it is spelled, and what is behind it.
pub doubled-longest_run : (dle : ℕ) (text : List ℕ) → doubled dle (longest_run dle text).spelled ++ (longest_run dle text).behind ≡ text
doubled-longest_run dle [] = refl
doubled-longest_run dle (a ∷ []) =
    at_byte dle (λ a. spelling dle (longest_run dle (a ∷ [])) ≡ a ∷ []) a
    (ap (spelling dle) (longest_run-lone dle))
    (λ other. ap (spelling dle) (longest_run-byte dle a [] other) ∙ ap (λ (spelled : List ℕ). spelled ++ []) (doubled-byte dle a [] other))
doubled-longest_run dle (a ∷ b ∷ text) =
    at_byte dle (λ a. spelling dle (longest_run dle (a ∷ b ∷ text)) ≡ a ∷ b ∷ text) a
    (at_byte dle (λ b. spelling dle (longest_run dle (dle ∷ b ∷ text)) ≡ dle ∷ b ∷ text) b
    (ap (spelling dle) (longest_run-pair dle text)
    ∙ ap (λ (spelled : List ℕ). spelled ++ (longest_run dle text).behind) (doubled-dle dle (longest_run dle text).spelled)
    ∙ ap (λ (rest : List ℕ). dle ∷ dle ∷ rest) (doubled-longest_run dle text))
    (λ other. ap (spelling dle) (longest_run-stop dle b text other)))
    (λ other. ap (spelling dle) (longest_run-byte dle a (b ∷ text) other)
    ∙ ap (λ (spelled : List ℕ). spelled ++ (longest_run dle (b ∷ text)).behind) (doubled-byte dle a (longest_run dle (b ∷ text)).spelled other)
    ∙ ap (λ (rest : List ℕ). a ∷ rest) (doubled-longest_run dle (b ∷ text)))

-- What is behind a longest run: nothing, a DLE alone, or a DLE with another byte.
abbrev pub Stops : ℕ → List ℕ → Type 0
Stops dle [] = Unit {0}
Stops dle (a ∷ []) = a ≡ dle
Stops dle (a ∷ b ∷ more) = (a ≡ dle) × (nat_eq b dle ≡ false)

abbrev StopsBehind : ℕ → Run → Type 0
StopsBehind dle run = Stops dle run.behind

pub longest_run-stops : (dle : ℕ) (text : List ℕ) → Stops dle (longest_run dle text).behind
longest_run-stops dle [] = tt
longest_run-stops dle (a ∷ []) =
    at_byte dle (λ a. StopsBehind dle (longest_run dle (a ∷ []))) a
    (subst (StopsBehind dle) (sym (longest_run-lone dle)) refl)
    (λ other. subst (StopsBehind dle) (sym (longest_run-byte dle a [] other)) tt)
longest_run-stops dle (a ∷ b ∷ text) =
    at_byte dle (λ a. StopsBehind dle (longest_run dle (a ∷ b ∷ text))) a
    (at_byte dle (λ b. StopsBehind dle (longest_run dle (dle ∷ b ∷ text))) b
    (subst (StopsBehind dle) (sym (longest_run-pair dle text)) (longest_run-stops dle text))
    (λ other. subst (StopsBehind dle) (sym (longest_run-stop dle b text other)) (refl, other)))
    (λ other. subst (StopsBehind dle) (sym (longest_run-byte dle a (b ∷ text) other)) (longest_run-stops dle (b ∷ text)))

-- a run ends where a text begins with no piece
pub longest_run-ended : (dle : ℕ) (body tail : List ℕ) → longest_run dle tail ≡ record { spelled = []; behind = tail } → longest_run dle (doubled dle body ++ tail) ≡ record { spelled = body; behind = tail }
longest_run-ended dle body tail ends =
    longest_run-doubled dle body tail ∙ ap (continued body) ends ∙ ap (λ (spelled : List ℕ). record { spelled = spelled; behind = tail }) (append-nil body)

-- what is behind a run is no longer than the text
pub length-behind : (dle : ℕ) (text : List ℕ) → length (longest_run dle text).behind ≤ length text
length-behind dle text =
    let run = longest_run dle text in
    omega (arith, length-append (doubled dle run.spelled) run.behind, ap (length {A = ℕ}) (doubled-longest_run dle text))
