-- The two laws of whole packets: what is read is the text of what it is read as, and a packet's text is read as it.
use Rattle.std.proofs.Common.{◌≡◌, ℕ, suc, ◌^◌, ◌<◌, ◌≤◌, false, cond, not, eqb, ltb, List, [], ◌∷◌, length, Result, Ok, Err, refl, sym, ap, subst, ◌∙◌, eq-eqb, arith}
use Rattle.std.specs.Prelude.{IfOk}
use Rattle.std.proofs.lemmas.Bool.{not-false, eqb-true, ltb-false, le-ltb}
use Rattle.tsl_umd5.specs.declared.fault.TslFault.{TslFault}
use Rattle.tsl_umd5.specs.declared.fault.TslFault.TheVariants.{TooLong, WrongCount, Version, Flags}
use Rattle.tsl_umd5.specs.Layout.{version, plain_flags, max_packet, packet_head}
use Rattle.tsl_umd5.specs.Packet.{Display, Contents, word, messages_text, with_count, counted_text, packet_text, IsPacket, IsTextOf, OneText}
use Rattle.tsl_umd5.specs.Reading.{◌>>=◌, field_number, all_at, contents, packet_reading}
use Rattle.tsl_umd5.proofs.MessageLemmas.{IsBytes, number-word, word-number, number_below, ok_by_test}
use Rattle.tsl_umd5.proofs.AllAtLemmas.{bind_ok, all_at-again, all_at-takes}

-- the contents of a packet whose head is read
abbrev pub with_screen : ℕ → List Display → Result Contents TslFault
with_screen screen displays = Ok (record { screen = screen; displays = displays })

same_by_test : (a b : ℕ) → not (eqb a b) ≡ false → a ≡ b
same_by_test a b e = eqb-true a b (not-false (eqb a b) e)

abbrev done : Contents → Result Contents TslFault
done p = Ok p

ok_is : (p q : Contents) → done p ≡ done q → p ≡ q
ok_is p q e = cc

contents_take : (bytes : List ℕ) (p : Contents) → IsBytes bytes → length bytes ≤ max_packet → contents bytes ≡ Ok p → IsTextOf bytes p
unfolding contents packet_text
contents_take (p₀ ∷ p₁ ∷ ver ∷ flags ∷ s₀ ∷ s₁ ∷ bytes) p fits le e =
    let found = length (ver ∷ flags ∷ s₀ ∷ s₁ ∷ bytes) in
    let wanted = field_number p₀ p₁ in
    let screen = field_number s₀ s₁ in
    let read : Result Contents TslFault = all_at packet_head bytes >>= with_screen screen in
    let a = ok_by_test (not (eqb found wanted)) (WrongCount found wanted) (cond (not (eqb ver version)) (Err (Version ver)) (cond (not (eqb flags plain_flags)) (Err (Flags flags)) read)) p e in
    let b = ok_by_test (not (eqb ver version)) (Version ver) (cond (not (eqb flags plain_flags)) (Err (Flags flags)) read) p a.1 in
    let c = ok_by_test (not (eqb flags plain_flags)) (Flags flags) read p b.1 in
    let d = bind_ok (all_at packet_head bytes) (with_screen screen) p c.1 in
    let ds = d.0 in
    let taken = all_at-takes packet_head bytes ds (λ i. fits (suc (suc (suc (suc (suc (suc i))))))) d.1 in
    let is_ver : ver ≡ version = same_by_test ver version b.0 in
    let is_flags : flags ≡ plain_flags = same_by_test flags plain_flags c.0 in
    let is_screen : word screen ≡ s₀ ∷ s₁ ∷ [] = word-number s₀ s₁ (fits 4) (fits 5) in
    let counted : ver ∷ flags ∷ s₀ ∷ s₁ ∷ bytes ≡ counted_text screen (messages_text ds) = cc (is_ver, is_flags, is_screen, taken.0) in
    let count : word (length (counted_text screen (messages_text ds))) ≡ p₀ ∷ p₁ ∷ [] = ap (λ (x : List ℕ). word (length x)) (sym counted) ∙ ap word (same_by_test found wanted a.0) ∙ word-number p₀ p₁ (fits 0) (fits 1) in
    let whole : p₀ ∷ p₁ ∷ ver ∷ flags ∷ s₀ ∷ s₁ ∷ bytes ≡ packet_text screen ds = cc (count, counted) in
    let is_packet : IsPacket screen ds = record { screen = number_below s₀ s₁ (fits 4) (fits 5); displays = taken.1; size = subst (λ (x : List ℕ). length x ≤ max_packet) whole le } in
    subst (IsTextOf (p₀ ∷ p₁ ∷ ver ∷ flags ∷ s₀ ∷ s₁ ∷ bytes)) (ok_is (record { screen = screen; displays = ds }) p d.2) (record { is_packet = is_packet; is_text = whole })
contents_take bytes p fits le e = absurd cc

pub reading_takes : (bytes : List ℕ) (p : Contents) → IsBytes bytes → packet_reading bytes ≡ Ok p → IsTextOf bytes p
unfolding packet_reading
reading_takes bytes p fits e =
    let a = ok_by_test (ltb max_packet (length bytes)) (TooLong (length bytes)) (contents bytes) p e in
    contents_take bytes p fits (ltb-false _ _ a.0) a.1

-- a packet's head comes to its screen and what its messages come to
pub contents_counted : (screen : ℕ) (messages : List ℕ) → screen < 2 ^ 16 → length (counted_text screen messages) < 2 ^ 16
    → contents (with_count (counted_text screen messages)) ≡ (all_at packet_head messages >>= with_screen screen)
unfolding contents
contents_counted screen messages is_screen lt =
    let n = length (counted_text screen messages) in
    rw (number-word n lt, eq-eqb n n refl, number-word screen is_screen) refl

pub reading_again : (p : Contents) → IsPacket p.screen p.displays → packet_reading (packet_text p.screen p.displays) ≡ Ok p
unfolding packet_reading packet_text
reading_again p is_packet =
    let short : ltb max_packet (length (packet_text p.screen p.displays)) ≡ false = le-ltb _ _ is_packet.size in
    let again = all_at-again packet_head p.displays is_packet.displays (omega (arith, is_packet.size)) in
    rw (short, contents_counted p.screen (messages_text p.displays) is_packet.screen (omega (arith, is_packet.size)), again) refl

pub is_found : (bytes : List ℕ) (r : Result Contents TslFault) → IsBytes bytes → r ≡ packet_reading bytes → IfOk r (IsTextOf bytes)
is_found bytes (Ok p) fits e = reading_takes bytes p fits (sym e)
is_found bytes (Err fault) fits e = tt

pub one_text : OneText
one_text bytes p q is_p is_q =
    ok_is p q (sym (reading_again p is_p.is_packet) ∙ ap packet_reading (sym is_p.is_text ∙ is_q.is_text) ∙ reading_again q is_q.is_packet)
