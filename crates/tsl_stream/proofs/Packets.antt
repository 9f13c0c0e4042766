-- The front of a packet: how many bytes it wants, and the three ways in which a text behind a start goes on.
use Rattle.std.proofs.Common.{◌≡◌, ℕ, ◌+◌, ◌≤◌, ◌<◌, ⊎_elim, List, [], ◌∷◌, ◌++◌, length, take, drop, refl, sym, ap, ◌∙◌, subst, arith}
use Rattle.std.proofs.lemmas.Bool.{cases_lt}
use Rattle.std.proofs.lemmas.List.{length-append, length-take-le, take-append-drop}
use Rattle.tsl_umd5.specs.Layout.{max_packet}
use Rattle.tsl_stream.specs.Numbers.{tsl_dle}
use Rattle.tsl_stream.specs.Stream.{stuffed}
use Rattle.tsl_stream.specs.Items.{packet_run, behind_pieces, packet_size}
use Rattle.tsl_stream.specs.Kept.{IsOpen}
use Rattle.tsl_stream.specs.StepsInside.{IsReached}
use Rattle.doubled_bytes.proofs.Runs.{doubled-longest_run, Stops, longest_run-stops}
use Rattle.tsl_stream.proofs.Runs.{behind_pieces-split}

-- a packet that has all the bytes that it wants
pub record IsWhole (front : List ℕ) : Type 0 where
  pub all : length front ≡ packet_size front
  pub fits : packet_size front ≤ max_packet

-- PBC, which makes the packet too long
pub record IsTooLong (front : List ℕ) : Type 0 where
  pub counted : length front ≡ 2
  pub more : max_packet < packet_size front

pub packet_size-least : (front : List ℕ) → 2 ≤ packet_size front
packet_size-least [] = omega arith
packet_size-least (low ∷ []) = omega arith
packet_size-least (low ∷ high ∷ front) = omega arith

pub packet_size-short : (front : List ℕ) → length front < 2 → packet_size front ≡ 2
packet_size-short [] short = refl
packet_size-short (low ∷ []) short = refl
packet_size-short (low ∷ high ∷ front) short = absurd (omega arith)

-- once PBC has come, nothing behind it changes what is wanted
pub packet_size-append : (front more : List ℕ) → 2 ≤ length front → packet_size (front ++ more) ≡ packet_size front
packet_size-append [] more two = absurd (omega arith)
packet_size-append (low ∷ []) more two = absurd (omega arith)
packet_size-append (low ∷ high ∷ front) more two = refl

pub packet_size-take : (n : ℕ) (bytes : List ℕ) → 2 ≤ n → n ≤ length bytes → packet_size (take n bytes) ≡ packet_size bytes
packet_size-take n bytes two within =
    sym (packet_size-append (take n bytes) (drop n bytes) (omega (arith, length-take-le n bytes within)))
    ∙ ap packet_size (take-append-drop n bytes)

-- an open front goes on by fewer bytes than it wants
pub open-append : (front more : List ℕ) → IsOpen front → length front + length more < packet_size front → IsOpen (front ++ more)
open-append front more is_open few = ⊎_elim
    (λ (short : length front < 2).
    let two = packet_size-short front short in
    let still = packet_size-short (front ++ more) (omega (arith, length-append front more)) in
    record { more = omega (arith, length-append front more); fits = omega (arith, is_open.fits) })
    (λ (counted : 2 ≤ length front).
    let same = packet_size-append front more counted in
    record { more = omega (arith, length-append front more); fits = omega (arith, is_open.fits) })
    (cases_lt (length front) 2)

-- an open front and one byte more
pub open-reached : (front : List ℕ) (byte : ℕ) → IsOpen front → IsReached (front ++ byte ∷ [])
open-reached front byte is_open = ⊎_elim
    (λ (short : length front < 2).
    let two = packet_size-short front short in
    record {
      within = omega (arith, is_open.more, length-append front (byte ∷ []), packet_size-least (front ++ byte ∷ []));
      counted = λ more. ⊎_elim
          (λ (none : length front < 1). absurd (omega (arith, packet_size-short (front ++ byte ∷ []) (omega (arith, length-append front (byte ∷ []))))))
          (λ (one : 1 ≤ length front). omega (arith, length-append front (byte ∷ [])))
          (cases_lt (length front) 1);
    })
    (λ (counted : 2 ≤ length front).
    let same = packet_size-append front (byte ∷ []) counted in
    record {
      within = omega (arith, is_open.more, length-append front (byte ∷ []));
      counted = λ more. absurd (omega (arith, is_open.fits));
    })
    (cases_lt (length front) 2)

-- What stands behind a start: a packet that is too long, or a whole one, and a text behind it; or less than a packet.
pub packet_cases : (P : List ℕ → Type 0)
    → ((body tail : List ℕ) → IsTooLong body → P (stuffed body ++ tail))
    → ((body tail : List ℕ) → IsWhole body → P (stuffed body ++ tail))
    → ((body behind : List ℕ) → IsOpen body → Stops tsl_dle behind → P (stuffed body ++ behind))
    → (text : List ℕ) → P text
packet_cases P too_long whole is_open text =
    let run = packet_run text in
    let n = packet_size run.spelled in ⊎_elim
    (λ (long : max_packet < n). ⊎_elim
    (λ (short : length run.spelled < 2). absurd (omega (arith, packet_size-short run.spelled short)))
    (λ (two : 2 ≤ length run.spelled).
    subst P (behind_pieces-split 2 text) (too_long (take 2 run.spelled) (behind_pieces 2 run) (record {
      counted = length-take-le 2 run.spelled two;
      more = omega (arith, long, packet_size-take 2 run.spelled (omega arith) two);
    })))
    (cases_lt (length run.spelled) 2))
    (λ (fits : n ≤ max_packet). ⊎_elim
    (λ (more : length run.spelled < n). subst P (doubled-longest_run tsl_dle text) (is_open run.spelled run.behind (record { more = more; fits = fits }) (longest_run-stops tsl_dle text)))
    (λ (all : n ≤ length run.spelled).
    let same : packet_size (take n run.spelled) ≡ n = packet_size-take n run.spelled (packet_size-least run.spelled) all in
    subst P (behind_pieces-split n text) (whole (take n run.spelled) (behind_pieces n run) (record {
      all = length-take-le n run.spelled all ∙ sym same;
      fits = omega (arith, same, fits);
    })))
    (cases_lt (length run.spelled) n))
    (cases_lt max_packet n)

-- the first bytes of a row, as many as a packet wants
pub taken_whole : (front bytes : List ℕ) (len : ℕ) → take len bytes ≡ front → len ≤ length bytes → packet_size front ≤ len → packet_size front ≤ max_packet → IsReached front → IsWhole front
taken_whole front bytes len is within enough fits reached =
    let count : length front ≡ len = ap (length {A = ℕ}) (sym is) ∙ length-take-le len bytes within in
    record { all = omega (arith, reached.within); fits = fits }
