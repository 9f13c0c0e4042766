-- What is wrong with a message, by its text and by what judging it answers.
use Rattle.std.proofs.Common.{◌≡◌, ℕ, zero, suc, ◌+◌, ◌<◌, ◌≤◌, ◌⊎◌, inl, inr, Bool, true, false, cond, leb, List, [], ◌∷◌, ◌++◌, length, Option, Some, None, Result, Ok, Err, refl, sym, ap, subst, ◌∙◌, append_assoc, arith}
use Rattle.std.specs.List.{AllByRecursion, position, position_from}
use Rattle.std.specs.Option.{option_map_or, ok_or}
use Rattle.std.proofs.lemmas.Bool.{false≢true, cases_Bool, leb-true, leb-false, le-leb, lt-leb}
use Rattle.std.proofs.lemmas.Iterator.Adapters.{position_from-zero}
use Rattle.tsl_umd5.specs.declared.fault.TslFault.{TslFault}
use Rattle.tsl_umd5.specs.declared.fault.TslFault.TheVariants.{Short, ReservedBits, NotAscii}
use Rattle.tsl_umd5.specs.Layout.{message_head}
use Rattle.tsl_umd5.specs.Packet.{Display, Message, IsDisplay, IsPrintable, message_of, message_text, messages_text}
use Rattle.tsl_umd5.specs.Reading.{◌>>=◌, front, display_of, judged, messages_at, all_at}
use Rattle.tsl_umd5.specs.Refusal.{BeginsWith, IsCutOff, FirstUnprintable, IsWrong, IsBad}
use Rattle.tsl_umd5.proofs.MessageLemmas.{IsBytes, is_unprintable, is_unprintable-false, IsPrintable-from, front_again, front_takes, length-front, judged_ok}
use Rattle.tsl_umd5.proofs.ReadingInsideLemmas.{from_front_none, all_at-refused}
use Rattle.tsl_umd5.proofs.AllAtLemmas.{message_taken, messages_at-nil, front_of_ok, then_display, length-messages_text, messages_text-nil, messages_text-cons}

-- ---- which test or step failed

pub err_by_test : {A : Type 0} (b : Bool) (fault : TslFault) (r : Result A TslFault) (f : TslFault) → cond b (Err fault) r ≡ Err f → ((b ≡ true) × (fault ≡ f)) ⊎ ((b ≡ false) × (r ≡ Err f))
err_by_test true fault r f e = inl (refl, cc)
err_by_test false fault r f e = inr (refl, e)

pub bind_err : {A B : Type 0} (r : Result A TslFault) (next : A → Result B TslFault) (f : TslFault) → (r >>= next) ≡ Err f → (r ≡ Err f) ⊎ ((x : A) × (r ≡ Ok x) × (next x ≡ Err f))
bind_err (Ok x) next f e = inr (x, refl, e)
bind_err (Err g) next f e = inl cc

-- ---- the text

never_printable : (b : ℕ) → is_unprintable b ≡ true → IsPrintable b → ⊥
never_printable b t printable = false≢true (sym (is_unprintable-false b printable) ∙ t)

is_unprintable-true : (b : ℕ) → (IsPrintable b → ⊥) → is_unprintable b ≡ true
is_unprintable-true b never =
    elim (cases_Bool (is_unprintable b)) [
      | inl t ↦ t
      | inr f ↦ absurd (never (IsPrintable-from b f))
    ]

some_is : (i n : ℕ) → Some i ≡ Some n → i ≡ n
some_is i n e = cc

found_in : (i n : ℕ) (text : List ℕ) → position_from is_unprintable i text ≡ Some n → (offset : ℕ) × FirstUnprintable text offset × (n ≡ i + offset)
found_in i n [] e = absurd cc
found_in i n (b ∷ text) e =
    elim (cases_Bool (is_unprintable b)) [
      | inl t ↦
          let here : i ≡ n = some_is i n (rw t at e) in
          (0, record { good = []; bad = b; rest = text; parts = refl; printable = tt; unprintable = never_printable b t; is_offset = refl }, omega arith)
      | inr f ↦
          let found = found_in (i + 1) n text (rw f at e) in
          let text_of = found.1 in
          (found.0 + 1, record { good = b ∷ text_of.good; bad = text_of.bad; rest = text_of.rest; parts = ap (λ (x : List ℕ). b ∷ x) text_of.parts; printable = (IsPrintable-from b f, text_of.printable); unprintable = text_of.unprintable; is_offset = omega (arith, text_of.is_offset) }, omega (arith, found.2))
    ]

first_found : (i : ℕ) (good : List ℕ) (bad : ℕ) (rest : List ℕ) → AllByRecursion IsPrintable good → (IsPrintable bad → ⊥) → position_from is_unprintable i (good ++ bad ∷ rest) ≡ Some (i + length good)
first_found i [] bad rest printable never = rw (is_unprintable-true bad never) (ap Some (omega arith))
first_found i (b ∷ good) bad rest printable never =
    rw (is_unprintable-false b printable.0) (first_found (i + 1) good bad rest printable.1 never ∙ ap Some (omega arith))

-- ---- one message

err_by_map : (o : Option ℕ) (fault : ℕ → TslFault) (d : Display) (f : TslFault) → option_map_or (λ at. Err (fault at)) o (Ok d) ≡ Err f → (at : ℕ) × (o ≡ Some at) × (fault at ≡ f)
err_by_map None fault d f e = absurd cc
err_by_map (Some at) fault d f e = (at, refl, cc)

judged_err : (place : ℕ) (m : Message) (f : TslFault) → judged place m ≡ Err f → IsWrong place m f
unfolding judged
judged_err place m f e =
    elim (err_by_test (leb 256 m.control) (ReservedBits m.index) (option_map_or (λ at. Err (NotAscii (place + message_head + at))) (position is_unprintable m.text) (Ok (display_of m))) f e) [
      | inl reserved ↦ subst (IsWrong place m) reserved.1 (leb-true _ _ reserved.0, refl)
      | inr clear ↦
          let mapped = err_by_map (position is_unprintable m.text) (λ at. NotAscii (place + message_head + at)) (display_of m) f clear.1 in
          let found = found_in 0 mapped.0 m.text (sym (position_from-zero is_unprintable m.text) ∙ mapped.1) in
          subst (IsWrong place m) mapped.2 (leb-false _ _ clear.0, found.0, found.1, omega (arith, found.2))
    ]

err_again : (place : ℕ) (m : Message) (f : TslFault) → IsWrong place m f → judged place m ≡ Err f
unfolding judged
err_again place m (ReservedBits index) wrong = rw (le-leb 256 m.control wrong.0) (ap (λ (i : ℕ). Err (ReservedBits i)) (sym wrong.1))
err_again place m (NotAscii at) wrong =
    let first = wrong.2 in
    let here : 0 + length first.good ≡ wrong.1 = omega (arith, first.is_offset) in
    let found : position is_unprintable m.text ≡ Some wrong.1 = position_from-zero is_unprintable m.text ∙ ap (position_from is_unprintable 0) first.parts ∙ first_found 0 first.good first.bad first.rest first.printable first.unprintable ∙ ap Some here in
    rw (lt-leb 256 m.control wrong.0, found) (ap (λ (i : ℕ). Err (NotAscii i)) (sym wrong.3))
err_again place m f wrong = absurd wrong

-- ---- messages one after another

bad_of : (place : ℕ) (bytes : List ℕ) (m : Message) (f : TslFault) → BeginsWith bytes m → IsWrong place m f → IsBad place bytes f
bad_of place bytes m (Short n) begins wrong = absurd wrong
bad_of place bytes m f begins wrong = (m, begins, wrong)

cut_by : (o : Option (Message × List ℕ)) (fault f : TslFault) → ok_or o fault ≡ Err f → (o ≡ None) × (fault ≡ f)
cut_by None fault f e = (refl, cc)
cut_by (Some x) fault f e = absurd cc

some_not_none : (o : Option (Message × List ℕ)) (x : Message × List ℕ) → o ≡ Some x → o ≡ None → ⊥
some_not_none o x some none = cc

front_of : (bytes : List ℕ) (m : Message) (begins : BeginsWith bytes m) → front bytes ≡ Some (m, begins.rest)
front_of bytes m begins = ap front begins.parts ∙ front_again m begins.rest begins.fits

is_cut_off : (bytes : List ℕ) → 0 < length bytes → front bytes ≡ None → IsCutOff bytes
is_cut_off bytes lt none = record { some = lt; never = λ m begins. some_not_none (front bytes) (m, begins.rest) (front_of bytes m begins) none }

begun : (bytes : List ℕ) (x : Message × List ℕ) → IsBytes bytes → front bytes ≡ Some x → BeginsWith bytes x.0
begun bytes x fits is_front =
    let taken = front_takes bytes x fits is_front in
    record { rest = x.1; fits = taken.1; parts = taken.0 }

none_of_cut : (bytes : List ℕ) (o : Option (Message × List ℕ)) → IsBytes bytes → IsCutOff bytes → front bytes ≡ o → o ≡ None
none_of_cut bytes None fits cut e = refl
none_of_cut bytes (Some x) fits cut e = absurd (cut.never x.0 (begun bytes x fits e))

-- the first message that is wrong, behind those of displays
pub record FirstWrong (place : ℕ) (bytes : List ℕ) (f : TslFault) : Type 0 where
  pub displays : List Display
  pub rest : List ℕ
  pub fit : AllByRecursion IsDisplay displays
  pub parts : bytes ≡ messages_text displays ++ rest
  pub bad : IsBad (place + length (messages_text displays)) rest f

wrong_here : (place : ℕ) (bytes : List ℕ) (f : TslFault) → IsBad place bytes f → FirstWrong place bytes f
wrong_here place bytes f bad =
    let here : place ≡ place + length (messages_text []) = rw messages_text-nil (omega arith) in
    record { displays = []; rest = bytes; fit = tt; parts = ap (λ (x : List ℕ). x ++ bytes) (sym messages_text-nil); bad = subst (λ (p : ℕ). IsBad p bytes f) here bad }

wrong_behind : (place : ℕ) (bytes rest : List ℕ) (d : Display) (f : TslFault) → bytes ≡ message_text (message_of d) ++ rest → IsDisplay d → FirstWrong (place + (message_head + length d.text)) rest f → FirstWrong place bytes f
wrong_behind place bytes rest d f parts is_display wrong =
    let ds = wrong.displays in
    let behind : place + (message_head + length d.text) + length (messages_text ds) ≡ place + length (messages_text (d ∷ ds)) = omega (arith, length-messages_text d ds) in
    let whole : bytes ≡ messages_text (d ∷ ds) ++ wrong.rest = parts ∙ ap (λ (x : List ℕ). message_text (message_of d) ++ x) wrong.parts ∙ sym (append_assoc (message_text (message_of d)) (messages_text ds) wrong.rest) ∙ ap (λ (x : List ℕ). x ++ wrong.rest) (sym (messages_text-cons d ds)) in
    record { displays = d ∷ ds; rest = wrong.rest; fit = (is_display, wrong.fit); parts = whole; bad = subst (λ (p : ℕ). IsBad p wrong.rest f) behind wrong.bad }

ok_not_err : (ds : List Display) (f : TslFault) → Ok ds ≡ Err f → ⊥
ok_not_err ds f e = cc

then_err : (d : Display) (read : Result (List Display) TslFault) (f : TslFault) → then_display d read ≡ Err f → read ≡ Err f
then_err d (Ok ds) f e = absurd cc
then_err d (Err g) f e = cc

-- a message at the front that is wrong, or a good one and a wrong one behind it
behind_front : (most place : ℕ) (bytes : List ℕ) (x : Message × List ℕ) (f : TslFault) → IsBytes bytes → front bytes ≡ Some x
    → (judged place x.0 >>= λ display. then_display display (messages_at most (place + (message_head + length x.0.text)) x.1)) ≡ Err f
    → (IsBytes x.1 → messages_at most (place + (message_head + length x.0.text)) x.1 ≡ Err f → FirstWrong (place + (message_head + length x.0.text)) x.1 f)
    → FirstWrong place bytes f
behind_front most place bytes x f fits is_front e behind =
    elim (bind_err (judged place x.0) (λ display. then_display display (messages_at most (place + (message_head + length x.0.text)) x.1)) f e) [
      | inl wrong ↦ wrong_here place bytes f (bad_of place bytes x.0 f (begun bytes x fits is_front) (judged_err place x.0 f wrong))
      | inr good ↦
          let taken = message_taken place bytes x good.0 fits is_front good.1 in
          let len : length x.0.text ≡ length good.0.text = ap (λ (d : Display). length d.text) (judged_ok place x.0 good.0 good.1).1 in
          let wrong = behind taken.2 (then_err good.0 (messages_at most (place + (message_head + length x.0.text)) x.1) f good.2) in
          wrong_behind place bytes x.1 good.0 f taken.0 taken.1 (subst (λ (n : ℕ). FirstWrong (place + (message_head + n)) x.1 f) len wrong)
    ]

pub messages_err : (most place : ℕ) (bytes : List ℕ) (f : TslFault) → IsBytes bytes → length bytes ≤ most → messages_at most place bytes ≡ Err f → FirstWrong place bytes f
unfolding messages_at
messages_err most place [] f fits le e = absurd (ok_not_err [] f (sym (messages_at-nil most place) ∙ e))
messages_err zero place (b ∷ bytes) f fits le e = absurd (omega arith)
messages_err (suc most) place (b ∷ bytes) f fits le e =
    elim (bind_err (ok_or (front (b ∷ bytes)) (Short place)) (λ first. judged place first.0 >>= λ display. then_display display (messages_at most (place + (message_head + length first.0.text)) first.1)) f e) [
      | inl cut ↦
          let short = cut_by (front (b ∷ bytes)) (Short place) f cut in
          wrong_here place (b ∷ bytes) f (subst (IsBad place (b ∷ bytes)) short.1 (refl, is_cut_off (b ∷ bytes) (omega arith) short.0))
      | inr whole ↦ behind_front most place (b ∷ bytes) whole.0 f fits (front_of_ok (front (b ∷ bytes)) (Short place) whole.0 whole.1) whole.2 (λ fits' e'. messages_err most (place + (message_head + length whole.0.0.text)) whole.0.1 f fits' (omega (arith, length-front (b ∷ bytes) whole.0 (front_of_ok (front (b ∷ bytes)) (Short place) whole.0 whole.1))) e')
    ]

-- what is wrong behind displays is what all messages come to
pub all_at-bad : (place : ℕ) (bytes : List ℕ) (f : TslFault) → IsBytes bytes → IsBad place bytes f → all_at place bytes ≡ Err f
all_at-bad place [] (Short n) fits bad = absurd (omega (arith, bad.1.some))
all_at-bad place (b ∷ bytes) (Short n) fits bad = from_front_none place b bytes (none_of_cut (b ∷ bytes) (front (b ∷ bytes)) fits bad.1 refl) ∙ ap (λ (p : ℕ). Err (Short p)) (sym bad.0)
all_at-bad place bytes f fits bad = all_at-refused place bytes (bad.0, bad.1.rest) f (front_of bytes bad.0 bad.1) (err_again place bad.0 f bad.2)
