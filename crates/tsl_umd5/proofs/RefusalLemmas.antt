-- Each refusal is the first rule that the bytes break, and the other way round.
use Rattle.std.proofs.Common.{◌≡◌, ℕ, suc, ◌+◌, ◌^◌, ◌<◌, ◌≤◌, inl, inr, cond, not, eqb, ltb, List, [], ◌∷◌, ◌++◌, length, Result, Ok, Err, refl, sym, ap, subst, ◌∙◌, eq-eqb, arith}
use Rattle.std.proofs.lemmas.Bool.{not-true, not-false, eqb-true, eqb-false, ne_eqb, ltb-true, ltb-false, lt-ltb, le-ltb}
use Rattle.std.proofs.lemmas.List.{get_or-append-add, length-append}
use Rattle.tsl_umd5.specs.declared.fault.TslFault.{TslFault}
use Rattle.tsl_umd5.specs.declared.fault.TslFault.TheVariants.{TooLong, Short, WrongCount, Version, Flags}
use Rattle.tsl_umd5.specs.Layout.{version, plain_flags, max_packet, packet_head}
use Rattle.tsl_umd5.specs.Packet.{Display, Contents, word, messages_text, with_count, counted_text}
use Rattle.tsl_umd5.specs.Reading.{◌>>=◌, field_number, all_at, contents, packet_reading}
use Rattle.tsl_umd5.specs.Refusal.{HasBadMessage, IsSized, IsRefused}
use Rattle.tsl_umd5.proofs.MessageLemmas.{IsBytes, number-word, word-number, number_below}
use Rattle.tsl_umd5.proofs.ReadingLemmas.{with_screen, contents_counted}
use Rattle.tsl_umd5.proofs.AllAtLemmas.{all_at-append, with_displays}
use Rattle.tsl_umd5.proofs.BadMessageLemmas.{err_by_test, bind_err, messages_err, all_at-bad}

IsBytes-behind : (xs ys : List ℕ) → IsBytes (xs ++ ys) → IsBytes ys
IsBytes-behind xs ys fits i = rw (← get_or-append-add xs ys i 0) (fits (length xs + i))

contents_short : (bytes : List ℕ) → length bytes < packet_head → contents bytes ≡ Err (Short (length bytes))
unfolding contents
contents_short (p₀ ∷ p₁ ∷ ver ∷ flags ∷ s₀ ∷ s₁ ∷ bytes) lt = absurd (omega arith)
contents_short bytes lt = refl

sized : (bytes : List ℕ) → length bytes ≤ max_packet → packet_reading bytes ≡ contents bytes
unfolding packet_reading
sized bytes le = rw (le-ltb max_packet (length bytes) le) refl

contents_wrong : (behind : List ℕ) (wanted : ℕ) → 4 ≤ length behind → wanted < 2 ^ 16 → (length behind ≡ wanted → ⊥) → contents (word wanted ++ behind) ≡ Err (WrongCount (length behind) wanted)
unfolding contents
contents_wrong (ver ∷ flags ∷ s₀ ∷ s₁ ∷ bytes) wanted le lt differ = rw (number-word wanted lt, ne_eqb (length (ver ∷ flags ∷ s₀ ∷ s₁ ∷ bytes)) wanted differ) refl
contents_wrong behind wanted le lt differ = absurd (omega arith)

contents_version : (v : ℕ) (behind : List ℕ) → 3 ≤ length behind → length (v ∷ behind) < 2 ^ 16 → (v ≡ version → ⊥) → contents (with_count (v ∷ behind)) ≡ Err (Version v)
unfolding contents
contents_version v (flags ∷ s₀ ∷ s₁ ∷ bytes) le lt differ =
    let n = length (v ∷ flags ∷ s₀ ∷ s₁ ∷ bytes) in
    rw (number-word n lt, eq-eqb n n refl, ne_eqb v version differ) refl
contents_version v behind le lt differ = absurd (omega arith)

contents_flags : (f : ℕ) (behind : List ℕ) → 2 ≤ length behind → length (version ∷ f ∷ behind) < 2 ^ 16 → (f ≡ plain_flags → ⊥) → contents (with_count (version ∷ f ∷ behind)) ≡ Err (Flags f)
unfolding contents
contents_flags f (s₀ ∷ s₁ ∷ bytes) le lt differ =
    let n = length (version ∷ f ∷ s₀ ∷ s₁ ∷ bytes) in
    rw (number-word n lt, eq-eqb n n refl, ne_eqb f plain_flags differ) refl
contents_flags f behind le lt differ = absurd (omega arith)

reading_bad : (bytes : List ℕ) (f : TslFault) → IsBytes bytes → HasBadMessage bytes f → packet_reading bytes ≡ Err f
reading_bad bytes f fits bad =
    let messages = messages_text bad.displays in
    let screen = bad.screen in
    let size : length (with_count (counted_text screen (messages ++ bad.rest))) ≤ max_packet = subst (λ (x : List ℕ). length x ≤ max_packet) bad.parts bad.size in
    let whole : IsBytes (with_count (counted_text screen (messages ++ bad.rest))) = subst IsBytes bad.parts fits in
    let rest_fits : IsBytes bad.rest = IsBytes-behind messages bad.rest (λ i. whole (suc (suc (suc (suc (suc (suc i))))))) in
    let long = length-append messages bad.rest in
    let read : all_at packet_head (messages ++ bad.rest) ≡ Err f = all_at-append packet_head bad.displays bad.rest bad.displays_fit (omega arith) ∙ ap (with_displays bad.displays) (all_at-bad (packet_head + length messages) bad.rest f rest_fits bad.bad) in
    sized bytes bad.size ∙ ap contents bad.parts ∙ contents_counted screen (messages ++ bad.rest) bad.screen_fits (omega arith)
    ∙ ap (λ (r : Result (List Display) TslFault). r >>= with_screen screen) read

pub is_reading : (bytes : List ℕ) (f : TslFault) → IsBytes bytes → IsRefused bytes f → packet_reading bytes ≡ Err f
unfolding packet_reading
is_reading bytes (TooLong n) fits is = rw (lt-ltb max_packet (length bytes) (omega (arith, is.0, is.1))) (ap (λ (m : ℕ). Err (TooLong m)) (sym is.0))
is_reading bytes (Short n) fits (inl few) = sized bytes (omega (arith, few.0, few.1)) ∙ contents_short bytes (omega (arith, few.0, few.1)) ∙ ap (λ (m : ℕ). Err (Short m)) (sym few.0)
is_reading bytes (Short n) fits (inr bad) = reading_bad bytes (Short n) fits bad
is_reading bytes (WrongCount found wanted) fits is =
    let long = length-append (word wanted) is.1 in
    sized bytes is.0.1 ∙ ap contents is.3 ∙ contents_wrong is.1 wanted (omega (arith, is.0.0, ap length is.3)) is.2 (λ e. is.5 (is.4 ∙ e)) ∙ ap (λ (m : ℕ). Err (WrongCount m wanted)) (sym is.4)
is_reading bytes (Version v) fits is =
    sized bytes is.0.1 ∙ ap contents is.2 ∙ contents_version v is.1 (omega (arith, is.0.0, ap length is.2)) (omega (arith, is.0.1, ap length is.2)) is.3
is_reading bytes (Flags g) fits is =
    sized bytes is.0.1 ∙ ap contents is.2 ∙ contents_flags g is.1 (omega (arith, is.0.0, ap length is.2)) (omega (arith, is.0.1, ap length is.2)) is.3
is_reading bytes f fits bad = reading_bad bytes f fits bad

by_message : (bytes : List ℕ) (f : TslFault) → HasBadMessage bytes f → IsRefused bytes f
by_message bytes (TooLong n) bad = absurd bad.bad.2
by_message bytes (Short n) bad = inr bad
by_message bytes (WrongCount found wanted) bad = absurd bad.bad.2
by_message bytes (Version v) bad = absurd bad.bad.2
by_message bytes (Flags f) bad = absurd bad.bad.2
by_message bytes f bad = bad

abbrev failed : TslFault → Result Contents TslFault
failed f = Err f

err_is : (f g : TslFault) → failed f ≡ failed g → f ≡ g
err_is f g e = cc

ok_then_err : (p : Contents) (f : TslFault) → Ok p ≡ Err f → ⊥
ok_then_err p f e = cc

-- the messages behind a good head
behind_head : (screen : ℕ) (bytes : List ℕ) (f : TslFault) → screen < 2 ^ 16 → IsBytes bytes → length (with_count (counted_text screen bytes)) ≤ max_packet
    → (all_at packet_head bytes >>= with_screen screen) ≡ Err f → HasBadMessage (with_count (counted_text screen bytes)) f
unfolding all_at
behind_head screen bytes f lt fits le e =
    elim (bind_err (all_at packet_head bytes) (with_screen screen) f e) [
      | inl read ↦
          let wrong = messages_err (length bytes) packet_head bytes f fits (omega arith) read in
          record { screen = screen; displays = wrong.displays; rest = wrong.rest; screen_fits = lt; displays_fit = wrong.fit; size = le; parts = ap (λ (x : List ℕ). with_count (counted_text screen x)) wrong.parts; bad = wrong.bad }
      | inr ok ↦ absurd (ok_then_err (record { screen = screen; displays = ok.0 }) f ok.2)
    ]

contents_err : (bytes : List ℕ) (f : TslFault) → IsBytes bytes → length bytes ≤ max_packet → contents bytes ≡ Err f → IsRefused bytes f
unfolding contents
contents_err (p₀ ∷ p₁ ∷ ver ∷ flags ∷ s₀ ∷ s₁ ∷ bytes) f fits le e =
    let whole : List ℕ = p₀ ∷ p₁ ∷ ver ∷ flags ∷ s₀ ∷ s₁ ∷ bytes in
    let behind : List ℕ = ver ∷ flags ∷ s₀ ∷ s₁ ∷ bytes in
    let found = length behind in
    let wanted = field_number p₀ p₁ in
    let screen = field_number s₀ s₁ in
    let sizes : IsSized whole = (omega arith, le) in
    let is_count : word wanted ≡ p₀ ∷ p₁ ∷ [] = word-number p₀ p₁ (fits 0) (fits 1) in
    let read : Result Contents TslFault = all_at packet_head bytes >>= with_screen screen in
    elim (err_by_test (not (eqb found wanted)) (WrongCount found wanted) (cond (not (eqb ver version)) (Err (Version ver)) (cond (not (eqb flags plain_flags)) (Err (Flags flags)) read)) f e) [
      | inl wrong ↦
          let parts : whole ≡ word wanted ++ behind = ap (λ (x : List ℕ). x ++ behind) (sym is_count) in
          subst (IsRefused whole) wrong.1 (sizes, behind, number_below p₀ p₁ (fits 0) (fits 1), parts, refl, eqb-false found wanted (not-true (eqb found wanted) wrong.0))
      | inr counted ↦
          let same : found ≡ wanted = eqb-true found wanted (not-false (eqb found wanted) counted.0) in
          let parts : whole ≡ with_count behind = ap (λ (x : List ℕ). x ++ behind) (sym is_count ∙ ap word (sym same)) in
          elim (err_by_test (not (eqb ver version)) (Version ver) (cond (not (eqb flags plain_flags)) (Err (Flags flags)) read) f counted.1) [
            | inl wrong ↦ subst (IsRefused whole) wrong.1 (sizes, flags ∷ s₀ ∷ s₁ ∷ bytes, parts, eqb-false ver version (not-true (eqb ver version) wrong.0))
            | inr good ↦
                let is_ver : ver ≡ version = eqb-true ver version (not-false (eqb ver version) good.0) in
                elim (err_by_test (not (eqb flags plain_flags)) (Flags flags) read f good.1) [
                  | inl wrong ↦ subst (IsRefused whole) wrong.1 (sizes, s₀ ∷ s₁ ∷ bytes, parts ∙ ap (λ (v : ℕ). with_count (v ∷ flags ∷ s₀ ∷ s₁ ∷ bytes)) is_ver, eqb-false flags plain_flags (not-true (eqb flags plain_flags) wrong.0))
                  | inr head ↦
                      let is_flags : flags ≡ plain_flags = eqb-true flags plain_flags (not-false (eqb flags plain_flags) head.0) in
                      let is_screen : word screen ≡ s₀ ∷ s₁ ∷ [] = word-number s₀ s₁ (fits 4) (fits 5) in
                      let head_is : behind ≡ counted_text screen bytes = cc (is_ver, is_flags, is_screen) in
                      let text : whole ≡ with_count (counted_text screen bytes) = parts ∙ ap with_count head_is in
                      let bad = behind_head screen bytes f (number_below s₀ s₁ (fits 4) (fits 5)) (λ i. fits (suc (suc (suc (suc (suc (suc i))))))) (subst (λ (x : List ℕ). length x ≤ max_packet) text le) head.1 in
                      by_message whole f (subst (λ (x : List ℕ). HasBadMessage x f) (sym text) bad)
                ]
          ]
    ]
contents_err bytes f fits le e = subst (IsRefused bytes) (err_is (Short (length bytes)) f e) (inl (refl, omega arith))

pub is_refused : (bytes : List ℕ) (f : TslFault) → IsBytes bytes → packet_reading bytes ≡ Err f → IsRefused bytes f
unfolding packet_reading
is_refused bytes f fits e =
    elim (err_by_test (ltb max_packet (length bytes)) (TooLong (length bytes)) (contents bytes) f e) [
      | inl long ↦ subst (IsRefused bytes) long.1 (refl, ltb-true _ _ long.0)
      | inr short ↦ contents_err bytes f fits (ltb-false _ _ short.0) short.1
    ]
