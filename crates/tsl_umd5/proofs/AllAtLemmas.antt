-- The messages of displays, one after another: what is read is what was written, and what was written is read again.
use Rattle.std.proofs.Common.{◌≡◌, ℕ, zero, suc, ◌+◌, ◌^◌, ◌<◌, ◌≤◌, List, [], ◌∷◌, ◌++◌, length, Option, Some, None, Result, Ok, Err, refl, sym, ap, subst, ◌∙◌, append_assoc, add-zero, arith}
use Rattle.std.specs.List.{AllByRecursion}
use Rattle.std.specs.Option.{ok_or}
use Rattle.std.proofs.lemmas.List.{length-append, append-nil}
use Rattle.tsl_umd5.specs.declared.fault.TslFault.{TslFault}
use Rattle.tsl_umd5.specs.declared.fault.TslFault.TheVariants.{Short}
use Rattle.tsl_umd5.specs.Layout.{message_head}
use Rattle.tsl_umd5.specs.Packet.{Display, Message, IsMessage, message_of, message_text, messages_text, IsDisplay}
use Rattle.tsl_umd5.specs.Reading.{◌>>=◌, front, display_of, judged, messages_at, all_at}
use Rattle.tsl_umd5.proofs.MessageLemmas.{IsBytes, front_again, front_takes, length-front, control_below, display_again, message_again, judged_ok, judged_again}

abbrev done : List Display → Result (List Display) TslFault
done ds = Ok ds

-- the value of a step that did not fail
pub bind_ok : {A B : Type 0} (r : Result A TslFault) (f : A → Result B TslFault) (y : B) → (r >>= f) ≡ Ok y → (x : A) × (r ≡ Ok x) × (f x ≡ Ok y)
bind_ok (Ok x) f y e = (x, refl, e)
bind_ok (Err d) f y e = absurd cc

ok_is : (x y : List Display) → done x ≡ done y → x ≡ y
ok_is x y e = cc

pub front_of_ok : (o : Option (Message × List ℕ)) (fault : TslFault) (x : Message × List ℕ) → ok_or o fault ≡ Ok x → o ≡ Some x
front_of_ok None fault x e = absurd cc
front_of_ok (Some y) fault x e = cc

abbrev pub then_display : Display → Result (List Display) TslFault → Result (List Display) TslFault
then_display d read = read >>= λ ds. Ok (d ∷ ds)

-- what the message at the front comes to, with so many messages behind it at most
abbrev from_front : ℕ → ℕ → Option (Message × List ℕ) → Result (List Display) TslFault
from_front most place o = ok_or o (Short place) >>= λ first. judged place first.0 >>= λ display. then_display display (messages_at most (place + (message_head + length first.0.text)) first.1)

-- ---- as many messages as there are bytes are enough

same_from_front : (n m place : ℕ) (o : Option (Message × List ℕ)) → ((x : Message × List ℕ) (p : ℕ) → o ≡ Some x → messages_at n p x.1 ≡ messages_at m p x.1) → from_front n place o ≡ from_front m place o
same_from_front n m place None same = refl
same_from_front n m place (Some x) same =
    ap (λ (read : Result (List Display) TslFault). judged place x.0 >>= λ display. then_display display read) (same x (place + (message_head + length x.0.text)) refl)

pub messages_at-nil : (most place : ℕ) → messages_at most place [] ≡ Ok []
unfolding messages_at
messages_at-nil zero place = refl
messages_at-nil (suc most) place = refl

same_messages : (n m place : ℕ) (bytes : List ℕ) → length bytes ≤ n → length bytes ≤ m → messages_at n place bytes ≡ messages_at m place bytes
unfolding messages_at
same_messages n m place [] le le' = messages_at-nil n place ∙ sym (messages_at-nil m place)
same_messages zero m place (b ∷ bytes) le le' = absurd (omega arith)
same_messages (suc n) zero place (b ∷ bytes) le le' = absurd (omega arith)
same_messages (suc n) (suc m) place (b ∷ bytes) le le' =
    same_from_front n m place (front (b ∷ bytes)) (λ x p e. same_messages n m p x.1 (omega (arith, length-front (b ∷ bytes) x e)) (omega (arith, length-front (b ∷ bytes) x e)))

pub all_at-nil : (place : ℕ) → all_at place [] ≡ Ok []
unfolding all_at messages_at
all_at-nil place = refl

pub all_at-front : (place : ℕ) (b : ℕ) (bytes : List ℕ) → all_at place (b ∷ bytes) ≡ from_front (length bytes) place (front (b ∷ bytes))
unfolding all_at messages_at
all_at-front place b bytes = refl

-- a good message, and then the others
pub all_at-step : (place : ℕ) (bytes : List ℕ) (x : Message × List ℕ) (d : Display) → front bytes ≡ Some x → judged place x.0 ≡ Ok d
    → all_at place bytes ≡ (all_at (place + (message_head + length x.0.text)) x.1 >>= λ ds. Ok (d ∷ ds))
unfolding all_at
all_at-step place [] x d is_front is_good = absurd (omega (arith, length-front [] x is_front))
all_at-step place (b ∷ bytes) x d is_front is_good =
    let behind = length-front (b ∷ bytes) x is_front in
    all_at-front place b bytes ∙ rw (is_front, is_good, same_messages (length bytes) (length x.1) (place + (message_head + length x.0.text)) x.1 (omega arith) (omega arith)) refl

-- ---- what was written is read again

length-message_text : (m : Message) → length (message_text m) ≡ message_head + length m.text
unfolding message_text
length-message_text m = omega arith

pub messages_text-nil : messages_text [] ≡ []
unfolding messages_text
messages_text-nil = refl

pub messages_text-cons : (d : Display) (ds : List Display) → messages_text (d ∷ ds) ≡ message_text (message_of d) ++ messages_text ds
unfolding messages_text
messages_text-cons d ds = refl

pub length-messages_text : (d : Display) (ds : List Display) → length (messages_text (d ∷ ds)) ≡ message_head + length d.text + length (messages_text ds)
length-messages_text d ds = ap length (messages_text-cons d ds) ∙ length-append (message_text (message_of d)) (messages_text ds) ∙ omega (arith, length-message_text (message_of d))

pub fields_of : (d : Display) → IsDisplay d → length d.text < 2 ^ 16 → IsMessage (message_of d)
fields_of d is_display lt = record { index = is_display.index; control = omega (arith, control_below d is_display.brightness); text = lt }

pub good : (place : ℕ) (d : Display) → IsDisplay d → judged place (message_of d) ≡ Ok d
good place d is_display = judged_again place (message_of d) (record { control = control_below d is_display.brightness; text = is_display.text }) ∙ ap Ok (display_again d)

pub front_display : (d : Display) (ds : List Display) (rest : List ℕ) → IsDisplay d → length d.text < 2 ^ 16 → front (messages_text (d ∷ ds) ++ rest) ≡ Some (message_of d, messages_text ds ++ rest)
front_display d ds rest is_display lt =
    ap front (ap (λ (x : List ℕ). x ++ rest) (messages_text-cons d ds) ∙ append_assoc (message_text (message_of d)) (messages_text ds) rest) ∙ front_again (message_of d) (messages_text ds ++ rest) (fields_of d is_display lt)

-- displays, and then what follows them
abbrev pub with_displays : List Display → Result (List Display) TslFault → Result (List Display) TslFault
with_displays ds read = read >>= λ others. Ok (ds ++ others)

with_displays-nil : (read : Result (List Display) TslFault) → with_displays [] read ≡ read
with_displays-nil (Ok ds) = refl
with_displays-nil (Err fault) = refl

with_displays-cons : (d : Display) (ds : List Display) (read : Result (List Display) TslFault) → (with_displays ds read >>= λ others. Ok (d ∷ others)) ≡ with_displays (d ∷ ds) read
with_displays-cons d ds (Ok others) = refl
with_displays-cons d ds (Err fault) = refl

pub all_at-append : (place : ℕ) (ds : List Display) (rest : List ℕ) → AllByRecursion IsDisplay ds → length (messages_text ds) < 2 ^ 16
    → all_at place (messages_text ds ++ rest) ≡ with_displays ds (all_at (place + length (messages_text ds)) rest)
all_at-append place [] rest all lt = rw (messages_text-nil, add-zero) (sym (with_displays-nil (all_at place rest)))
all_at-append place (d ∷ ds) rest all lt =
    let len = length-messages_text d ds in
    let next = place + (message_head + length d.text) in
    let step = all_at-step place (messages_text (d ∷ ds) ++ rest) (message_of d, messages_text ds ++ rest) d (front_display d ds rest all.0 (omega arith)) (good place d all.0) in
    let others = all_at-append next ds rest all.1 (omega arith) in
    let behind : next + length (messages_text ds) ≡ place + length (messages_text (d ∷ ds)) = omega arith in
    step ∙ ap (λ (read : Result (List Display) TslFault). read >>= λ others. Ok (d ∷ others)) others ∙ with_displays-cons d ds (all_at (next + length (messages_text ds)) rest) ∙ ap (λ (p : ℕ). with_displays (d ∷ ds) (all_at p rest)) behind

pub all_at-again : (place : ℕ) (ds : List Display) → AllByRecursion IsDisplay ds → length (messages_text ds) < 2 ^ 16 → all_at place (messages_text ds) ≡ Ok ds
all_at-again place ds all lt =
    let none = all_at-nil (place + length (messages_text ds)) in
    ap (all_at place) (sym (append-nil (messages_text ds))) ∙ all_at-append place ds [] all lt ∙ ap (with_displays ds) none ∙ ap Ok (append-nil ds)

-- ---- what is read is what was written

pub message_taken : (place : ℕ) (bytes : List ℕ) (x : Message × List ℕ) (d : Display) → IsBytes bytes → front bytes ≡ Some x → judged place x.0 ≡ Ok d → (bytes ≡ message_text (message_of d) ++ x.1) × IsDisplay d × IsBytes x.1
message_taken place bytes x d fits is_front is_good =
    let taken = front_takes bytes x fits is_front in
    let said = judged_ok place x.0 d is_good in
    let same : x.0 ≡ message_of d = sym (message_again x.0) ∙ ap message_of said.1 in
    let is_display : IsDisplay (display_of x.0) = record { index = taken.1.index; brightness = omega (arith, said.0.control); text = said.0.text } in
    (taken.0 ∙ ap (λ (m : Message). message_text m ++ x.1) same, subst IsDisplay said.1 is_display, taken.2)

abbrev AreOf : List Display → List ℕ → Type 0
AreOf ds bytes = (bytes ≡ messages_text ds) × AllByRecursion IsDisplay ds

are_of_both : (bytes rest : List ℕ) (d : Display) (others ds : List Display) → bytes ≡ message_text (message_of d) ++ rest → IsDisplay d → AreOf others rest → done (d ∷ others) ≡ done ds → AreOf ds bytes
are_of_both bytes rest d others ds parts is_display are e =
    let whole : bytes ≡ messages_text (d ∷ others) = parts ∙ ap (λ (x : List ℕ). message_text (message_of d) ++ x) are.0 ∙ sym (messages_text-cons d others) in
    subst (λ (y : List Display). AreOf y bytes) (ok_is (d ∷ others) ds e) (whole, (is_display, are.1))

messages_take : (most place : ℕ) (bytes : List ℕ) (ds : List Display) → IsBytes bytes → length bytes ≤ most → messages_at most place bytes ≡ Ok ds → AreOf ds bytes
unfolding messages_at
messages_take most place [] ds fits le e =
    subst (λ (y : List Display). AreOf y []) (ok_is [] ds (sym (messages_at-nil most place) ∙ e)) (sym messages_text-nil, tt)
messages_take zero place (b ∷ bytes) ds fits le e = absurd (omega arith)
messages_take (suc most) place (b ∷ bytes) ds fits le e =
    let f = bind_ok (ok_or (front (b ∷ bytes)) (Short place)) (λ first. judged place first.0 >>= λ display. then_display display (messages_at most (place + (message_head + length first.0.text)) first.1)) ds e in
    let x = f.0 in
    let g = bind_ok (judged place x.0) (λ display. then_display display (messages_at most (place + (message_head + length x.0.text)) x.1)) ds f.2 in
    let d = g.0 in
    let o = bind_ok (messages_at most (place + (message_head + length x.0.text)) x.1) (λ others. Ok (d ∷ others)) ds g.2 in
    let is_front = front_of_ok (front (b ∷ bytes)) (Short place) x f.1 in
    let first = message_taken place (b ∷ bytes) x d fits is_front g.1 in
    let others = messages_take most (place + (message_head + length x.0.text)) x.1 o.0 first.2 (omega (arith, length-front (b ∷ bytes) x is_front)) o.1 in
    are_of_both (b ∷ bytes) x.1 d o.0 ds first.0 first.1 others o.2

pub all_at-takes : (place : ℕ) (bytes : List ℕ) (ds : List Display) → IsBytes bytes → all_at place bytes ≡ Ok ds → (bytes ≡ messages_text ds) × AllByRecursion IsDisplay ds
unfolding all_at
all_at-takes place bytes ds fits e = messages_take (length bytes) place bytes ds fits (omega arith) e
