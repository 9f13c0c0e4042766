-- What a packet holds while it is read, and the laws of whole packets.
use Rattle.std.proofs.Common.{◌≡◌, ℕ, ◌+◌, ◌-◌, ◌^◌, ◌<◌, ◌≤◌, List, [], ◌∷◌, length, get_or, drop, eq-eqb, Option, Some, None, Result, Ok, Err, refl, sym, ap, subst, ◌∙◌, arith}
use Rattle.std.specs.Prelude.{IsOk}
use Rattle.std.specs.Result.{result_unwrap_or}
use Rattle.std.specs.List.{AllByRecursion}
use Rattle.std.proofs.lemmas.List.{append-nil}
use Rattle.tsl_umd5.specs.declared.fault.TslFault.{TslFault}
use Rattle.tsl_umd5.specs.declared.fault.TslFault.TheVariants.{Short}
use Rattle.tsl_umd5.specs.Layout.{version, plain_flags, packet_head, message_head}
use Rattle.tsl_umd5.specs.Packet.{Display, Message, message_of, messages_text, IsDisplay}
use Rattle.tsl_umd5.specs.Reading.{◌>>=◌, field_number, front, display_of, judged, all_at, contents}
use Rattle.tsl_umd5.specs.ReadingInside.{displays_in, AreMessages}
use Rattle.tsl_umd5.proofs.MessageLemmas.{IsBytes, length-front, control_below, display_again}
use Rattle.tsl_umd5.proofs.AllAtLemmas.{messages_text-nil, length-messages_text, all_at-nil, all_at-front, all_at-step, all_at-again, all_at-takes, front_display}

-- ---- the displays that are left

pub displays_in-messages_text : (ds : List Display) → AllByRecursion IsDisplay ds → length (messages_text ds) < 2 ^ 16 → displays_in (messages_text ds) ≡ ds
unfolding displays_in
displays_in-messages_text ds all lt = ap (λ (read : Result (List Display) TslFault). result_unwrap_or read []) (all_at-again packet_head ds all lt)

pub are_messages : (bytes : List ℕ) (ds : List Display) → bytes ≡ messages_text ds → AllByRecursion IsDisplay ds → length bytes < 2 ^ 16 → (displays_in bytes ≡ ds) × AreMessages bytes
are_messages bytes ds is_text all le =
    let same : displays_in bytes ≡ ds = ap displays_in is_text ∙ displays_in-messages_text ds all (omega (arith, ap length is_text)) in
    (same, record { text = is_text ∙ ap messages_text (sym same); displays = subst (AllByRecursion IsDisplay) (sym same) all; size = le })

ok_read : (read : Result (List Display) TslFault) → IsOk read → read ≡ Ok (result_unwrap_or read [])
ok_read (Ok ds) e = refl
ok_read (Err fault) e = absurd cc

pub all_at-displays_in : (bytes : List ℕ) → IsOk (all_at packet_head bytes) → all_at packet_head bytes ≡ Ok (displays_in bytes)
unfolding displays_in
all_at-displays_in bytes is_ok = ok_read (all_at packet_head bytes) is_ok

pub are_read : (bytes : List ℕ) → IsBytes bytes → length bytes < 2 ^ 16 → IsOk (all_at packet_head bytes) → AreMessages bytes
are_read bytes fits le is_ok =
    let taken = all_at-takes packet_head bytes (displays_in bytes) fits (all_at-displays_in bytes is_ok) in
    record { text = taken.0; displays = taken.1; size = le }

pub none_left : (bytes : List ℕ) → length bytes ≡ 0 → displays_in bytes ≡ []
unfolding displays_in
none_left [] e = ap (λ (read : Result (List Display) TslFault). result_unwrap_or read []) (all_at-nil packet_head)
none_left (b ∷ bytes) e = absurd (omega arith)

-- the first of the displays that are left, whose message is at the front, and the others
pub record FirstOf (bytes : List ℕ) (first : Display) : Type 0 where
  pub rest : List ℕ
  pub at_front : front bytes ≡ Some (message_of first, rest)
  pub is_display : IsDisplay first
  pub displays : displays_in bytes ≡ first ∷ displays_in rest
  pub others : AreMessages rest

first_of : (bytes : List ℕ) (ds : List Display) → ds ≡ displays_in bytes → bytes ≡ messages_text ds → AllByRecursion IsDisplay ds → length bytes < 2 ^ 16 → 0 < length bytes → (d : Display) × FirstOf bytes d
first_of bytes [] same is_text all le lt = absurd (omega (arith, ap length (is_text ∙ messages_text-nil)))
first_of bytes (d ∷ ds) same is_text all le lt =
    let len : length bytes ≡ message_head + length d.text + length (messages_text ds) = ap length is_text ∙ length-messages_text d ds in
    let others = are_messages (messages_text ds) ds refl all.1 (omega arith) in
    let at_front : front bytes ≡ Some (message_of d, messages_text ds) = ap front (is_text ∙ sym (append-nil (messages_text (d ∷ ds)))) ∙ front_display d ds [] all.0 (omega arith) ∙ ap (λ (rest : List ℕ). Some (message_of d, rest)) (append-nil (messages_text ds)) in
    (d, record { rest = messages_text ds; at_front = at_front; is_display = all.0; displays = sym same ∙ ap (λ (x : List Display). d ∷ x) (sym others.0); others = others.1 })

next_of : (bytes : List ℕ) → AreMessages bytes → 0 < length bytes → (d : Display) × FirstOf bytes d
next_of bytes are lt = first_of bytes (displays_in bytes) refl are.text are.displays are.size lt

some_not_none : (bytes : List ℕ) (x : Message × List ℕ) → front bytes ≡ Some x → front bytes ≡ None → ⊥
some_not_none bytes x some none = cc

pub is_never_cut : (bytes : List ℕ) → AreMessages bytes → 0 < length bytes → front bytes ≡ None → ⊥
is_never_cut bytes are lt none =
    let next = next_of bytes are lt in
    some_not_none bytes (message_of next.0, next.1.rest) next.1.at_front none

-- the message at the front says what the first display shows, and the displays behind it are left
pub record Takes (bytes : List ℕ) (x : Message × List ℕ) : Type 0 where
  pub control : x.0.control < 256
  pub displays : displays_in bytes ≡ display_of x.0 ∷ displays_in x.1
  pub others : AreMessages x.1

some_is : (o : Option (Message × List ℕ)) (x y : Message × List ℕ) → o ≡ Some x → o ≡ Some y → x ≡ y
some_is o x y e e' = cc

pub takes : (bytes : List ℕ) (x : Message × List ℕ) → AreMessages bytes → front bytes ≡ Some x → Takes bytes x
takes bytes x are is_front =
    let next = next_of bytes are (omega (arith, length-front bytes x is_front)) in
    let d = next.0 in
    let first : displays_in bytes ≡ display_of (message_of d) ∷ displays_in next.1.rest = next.1.displays ∙ ap (λ (y : Display). y ∷ displays_in next.1.rest) (sym (display_again d)) in
    subst (Takes bytes) (some_is (front bytes) (message_of d, next.1.rest) x next.1.at_front is_front) (record { control = control_below d next.1.is_display.brightness; displays = first; others = next.1.others })

-- ---- judging messages one after another

-- what is found out of some messages decides about all
abbrev pub Decides : Result (List Display) TslFault → Result (List Display) TslFault → Type 0
Decides (Ok ds) all = IsOk all
Decides (Err fault) all = all ≡ Err fault

Decides-step : (d : Display) (read all : Result (List Display) TslFault) → Decides (read >>= λ ds. Ok (d ∷ ds)) all → Decides read all
Decides-step d (Ok ds) all h = h
Decides-step d (Err fault) all h = h

pub goes_on : (place : ℕ) (bytes : List ℕ) (x : Message × List ℕ) (all : Result (List Display) TslFault) → front bytes ≡ Some x → judged place x.0 ≡ Ok (display_of x.0)
    → Decides (all_at place bytes) all → Decides (all_at (place + (message_head + length x.0.text)) x.1) all
goes_on place bytes x all is_front is_good h = Decides-step (display_of x.0) (all_at (place + (message_head + length x.0.text)) x.1) all (subst (λ (read : Result (List Display) TslFault). Decides read all) (all_at-step place bytes x (display_of x.0) is_front is_good) h)

pub from_front_none : (place b : ℕ) (bytes : List ℕ) → front (b ∷ bytes) ≡ None → all_at place (b ∷ bytes) ≡ Err (Short place)
from_front_none place b bytes e = all_at-front place b bytes ∙ rw e refl

pub cut_off : (place : ℕ) (bytes : List ℕ) (all : Result (List Display) TslFault) → 0 < length bytes → front bytes ≡ None → Decides (all_at place bytes) all → all ≡ Err (Short place)
cut_off place [] all lt e h = absurd (omega arith)
cut_off place (b ∷ bytes) all lt e h = subst (λ (read : Result (List Display) TslFault). Decides read all) (from_front_none place b bytes e) h

pub all_at-refused : (place : ℕ) (bytes : List ℕ) (x : Message × List ℕ) (fault : TslFault) → front bytes ≡ Some x → judged place x.0 ≡ Err fault → all_at place bytes ≡ Err fault
all_at-refused place [] x fault is_front is_bad = absurd (omega (arith, length-front [] x is_front))
all_at-refused place (b ∷ bytes) x fault is_front is_bad = all_at-front place b bytes ∙ rw (is_front, is_bad) refl

pub refused : (place : ℕ) (bytes : List ℕ) (x : Message × List ℕ) (fault : TslFault) (all : Result (List Display) TslFault) → front bytes ≡ Some x → judged place x.0 ≡ Err fault → Decides (all_at place bytes) all → all ≡ Err fault
refused place bytes x fault all is_front is_bad h = subst (λ (read : Result (List Display) TslFault). Decides read all) (all_at-refused place bytes x fault is_front is_bad) h

pub all_good : (place : ℕ) (bytes : List ℕ) (all : Result (List Display) TslFault) → length bytes ≡ 0 → Decides (all_at place bytes) all → IsOk all
all_good place [] all e h = subst (λ (read : Result (List Display) TslFault). Decides read all) (all_at-nil place) h
all_good place (b ∷ bytes) all e h = absurd (omega arith)

-- a packet whose head is good comes to its screen and the displays of its messages
pub contents_read : (bytes : List ℕ) (ds : List Display) → packet_head ≤ length bytes → length bytes - 2 ≡ field_number (get_or bytes 0 0) (get_or bytes 1 0)
    → get_or bytes 2 0 ≡ version → get_or bytes 3 0 ≡ plain_flags → all_at packet_head (drop packet_head bytes) ≡ Ok ds
    → contents bytes ≡ Ok (record { screen = field_number (get_or bytes 4 0) (get_or bytes 5 0); displays = ds })
unfolding contents
contents_read (p₀ ∷ p₁ ∷ ver ∷ flags ∷ s₀ ∷ s₁ ∷ bytes) ds le count is_ver is_flags read =
    let counted : length (ver ∷ flags ∷ s₀ ∷ s₁ ∷ bytes) ≡ field_number p₀ p₁ = omega arith in
    rw (eq-eqb (length (ver ∷ flags ∷ s₀ ∷ s₁ ∷ bytes)) (field_number p₀ p₁) counted, eq-eqb ver version is_ver, eq-eqb flags plain_flags is_flags, read) refl
contents_read bytes ds le count is_ver is_flags read = absurd (omega arith)

pub contents_is : (bytes messages : List ℕ) (screen : ℕ) → packet_head ≤ length bytes → messages ≡ drop packet_head bytes → screen ≡ field_number (get_or bytes 4 0) (get_or bytes 5 0)
    → length bytes - 2 ≡ field_number (get_or bytes 0 0) (get_or bytes 1 0) → get_or bytes 2 0 ≡ version → get_or bytes 3 0 ≡ plain_flags → IsOk (all_at packet_head messages)
    → Ok (record { screen = screen; displays = displays_in messages }) ≡ contents bytes
contents_is bytes messages screen le behind is_screen count is_ver is_flags is_ok =
    let read : all_at packet_head (drop packet_head bytes) ≡ Ok (displays_in messages) = ap (all_at packet_head) (sym behind) ∙ all_at-displays_in messages is_ok in
    ap (λ (n : ℕ). Ok (record { screen = n; displays = displays_in messages })) is_screen ∙ sym (contents_read bytes (displays_in messages) le count is_ver is_flags read)
