-- A display is put behind the others.
use Rattle.std.proofs.Common.{◌≡◌, ℕ, ◌+◌, ◌-◌, ◌^◌, ◌<◌, ◌≤◌, List, [], ◌∷◌, ◌++◌, length, take, drop, sym, ap, ◌∙◌, append_assoc, arith}
use Rattle.std.specs.List.{flat_map, AllByRecursion}
use Rattle.std.proofs.lemmas.List.{append-nil, take-append-drop, take-append-le, take_at, drop_at, length-append, length-take-le, length-drop}
use Rattle.std.proofs.lemmas.List.Concat.{flat_map-append}
use Rattle.tsl_umd5.specs.Layout.{packet_head, max_packet}
use Rattle.tsl_umd5.specs.Packet.{Display, word, message_of, message_text, messages_text, counted_text, packet_text, IsDisplay, IsPacket, IsPacketText}

-- one more display is one more message at the end
messages_text-append : (ds : List Display) (d : Display) → messages_text (ds ++ d ∷ []) ≡ messages_text ds ++ message_text (message_of d)
unfolding messages_text
messages_text-append ds d =
    let f : Display → List ℕ = λ x. message_text (message_of x) in
    flat_map-append f ds (d ∷ []) ∙ ap (λ (x : List ℕ). flat_map f ds ++ x) (append-nil (f d))

pub display_added : (start len : ℕ) (old mid : List ℕ) (screen : ℕ) (ds : List Display) (d : Display)
    → len ≡ length mid → drop start old ≡ packet_text screen ds → mid ≡ old ++ message_text (message_of d)
    → take start mid ++ word (len - (start + 2)) ++ drop (start + 2) mid ≡ take start old ++ packet_text screen (ds ++ d ∷ [])
unfolding packet_text
display_added start len old mid screen ds d is_len is_packet is_mid =
    let added = message_text (message_of d) in
    let count = word (length (counted_text screen (messages_text ds))) in
    let more = counted_text screen (messages_text ds ++ added) in
    let more_is = ap (counted_text screen) (messages_text-append ds d) in
    let long : start + 2 ≤ length old = omega (arith, length-drop start old, ap length is_packet) in
    let front : length (take start old) ≡ start = length-take-le start old (omega arith) in
    let whole : mid ≡ (take start old ++ count) ++ more = is_mid ∙ ap (λ (x : List ℕ). x ++ added) (sym (take-append-drop start old) ∙ ap (λ (x : List ℕ). take start old ++ x) is_packet) ∙ simp append_assoc in
    let before : take start mid ≡ take start old = ap (take start) is_mid ∙ take-append-le start old added (omega arith) in
    let behind : drop (start + 2) mid ≡ more = ap (drop (start + 2)) whole ∙ drop_at (take start old ++ count) more (start + 2) (length-append (take start old) count ∙ omega arith) in
    let counted : len - (start + 2) ≡ length (counted_text screen (messages_text (ds ++ d ∷ []))) = ap (λ (n : ℕ). n - (start + 2)) is_len ∙ sym (length-drop (start + 2) mid) ∙ ap length (behind ∙ sym more_is) in
    append_assoc (take start mid) (word (len - (start + 2))) (drop (start + 2) mid) ∙ cc

-- the text of a packet has its head
pub packet_text_is_long : (start : ℕ) (bytes : List ℕ) → IsPacketText (drop start bytes) → start + packet_head ≤ length bytes
unfolding packet_text
packet_text_is_long start bytes (p, is) = omega (arith, length-drop start bytes, ap length is.is_text)

AllByRecursion-push : {A : Type 0} (P : A → Type 0) (xs : List A) (x : A) → AllByRecursion P xs → P x → AllByRecursion P (xs ++ x ∷ [])
AllByRecursion-push P [] x all one = (one, tt)
AllByRecursion-push P (y ∷ ys) x all one = (all.0, AllByRecursion-push P ys x all.1 one)

pub packet_begun : (len : ℕ) (old new : List ℕ) (screen : ℕ) → screen < 2 ^ 16 → len ≡ length old → new ≡ old ++ packet_text screen [] → IsPacketText (drop len new)
unfolding packet_text messages_text
packet_begun len old new screen fits is_len begun =
    let text : drop len new ≡ packet_text screen [] = ap (drop len) begun ∙ drop_at old (packet_text screen []) len (sym is_len) in
    (record { screen = screen; displays = [] }, record { is_packet = record { screen = fits; displays = tt; size = omega arith }; is_text = text })

-- a list behind the front of another one
pub take_behind : (start : ℕ) (old new text : List ℕ) → start ≤ length old → new ≡ take start old ++ text → take start new ≡ take start old
take_behind start old new text le e = ap (take start) e ∙ take_at (take start old) text start (length-take-le start old le)

pub drop_behind : (start : ℕ) (old new text : List ℕ) → start ≤ length old → new ≡ take start old ++ text → drop start new ≡ text
drop_behind start old new text le e = ap (drop start) e ∙ drop_at (take start old) text start (length-take-le start old le)

pub packet_grown : (start : ℕ) (old new : List ℕ) (d : Display) → IsPacketText (drop start old) → IsDisplay d → length new ≤ start + max_packet
    → ((screen : ℕ) (ds : List Display) → drop start old ≡ packet_text screen ds → drop start new ≡ packet_text screen (ds ++ d ∷ []))
    → IsPacketText (drop start new)
packet_grown start old new d (p, is) is_display size behind =
    let ds = p.displays in
    let text : drop start new ≡ packet_text p.screen (ds ++ d ∷ []) = behind p.screen ds is.is_text in
    let fits : length (packet_text p.screen (ds ++ d ∷ [])) ≤ max_packet = omega (arith, ap length text, length-drop start new) in
    let is_packet : IsPacket p.screen (ds ++ d ∷ []) = record { screen = is.is_packet.screen; displays = AllByRecursion-push IsDisplay ds d is.is_packet.displays is_display; size = fits } in
    (record { screen = p.screen; displays = ds ++ d ∷ [] }, record { is_packet = is_packet; is_text = text })

pub three_appended : (a b c d x y z : List ℕ) → b ≡ a ++ x → c ≡ b ++ y → d ≡ c ++ z → d ≡ a ++ (x ++ (y ++ z))
three_appended a b c d x y z ex ey ez = ez ∙ ap (λ (l : List ℕ). l ++ z) (ey ∙ ap (λ (l : List ℕ). l ++ y) ex) ∙ simp append_assoc
