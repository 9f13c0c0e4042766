-- A message by the bytes as they come: which DATA spells it, and where it has the limits of every message of its command.
use Rattle.std.proofs.Common.{◌≡◌, ◌≢◌, ℕ, suc, ◌+◌, cond, nat_eq, true, false, inl, inr, List, [], ◌∷◌, ◌++◌, length, map, slice_index, Option, Some, None, refl, sym, ap, ◌∙◌, subst, arith, eqb-true, MatchOption}
use Rattle.std.proofs.Math.Decide.{ℕ_discrete}
use Rattle.swp08_messages.specs.declared.field.Field.{Field}
use Rattle.swp08_messages.specs.declared.field.Field.TheVariants.{SpareLow}
use Rattle.swp08_messages.specs.declared.message.Message.{Message}
use Rattle.swp08_messages.specs.declared.message.Message.TheVariants.{Interrogate, Connect, Tally, Connected, ProtectAsk, ProtectTally, ProtectConnect, ProtectConnected, ProtectDisconnect, ProtectDisconnected, DumpAsk, SourceNamesAsk, SourceNameAsk, DestNamesAsk, DestNameAsk, Store, Go, Stored, GoDone, EntryAsk, Entry, ExtInterrogate, ExtConnect, ExtTally, ExtConnected}
use Rattle.swp08_messages.specs.Field.{byte_of}
use Rattle.swp08_messages.specs.Row.{destination, row}
use Rattle.swp08_messages.specs.Text.{text, InRange}
use Rattle.swp08_messages.specs.Spelled.{SpellFields, Spells}
use Rattle.swp08_messages.specs.ReadingInside.{limit_of, held_to, point_in, source_in, device_in, owned_in, told_point_in, told_device_in, matrix_in, level_in, size_in, wide_in, status_of, entry_in, ext_point_in, ext_source_in}
use Rattle.swp08_messages.specs.ReadingInside.{crosspoint_message, protect_message, dump_message, names_message, salvo_message, extended_message, first_of, message_of}
use Rattle.swp08_messages.proofs.LayoutLemmas.{Below, SpellThem, destination-in, crosspoint-in, point_in-again, crosspoint-again}
use Rattle.swp08_messages.proofs.NamesLemmas.{one_level-in, one_level-again, source_names_ask-in, source_names_ask-again, source_name_ask-in, source_name_ask-again, dest_names_ask-in, dest_names_ask-again, dest_name_ask-in, dest_name_ask-again}
use Rattle.swp08_messages.proofs.ProtectsLemmas.{protect-in, protect-again, protect_told-in, protect_told-again, spare-in, spare-again}
use Rattle.swp08_messages.proofs.SalvosLemmas.{stored_crosspoint-in, stored_crosspoint-again, entry-in, entry-again, go-in, go-again, go_done-in, go_done-again, entry_ask-in, entry_ask-again}
use Rattle.swp08_messages.proofs.ExtendedLemmas.{ext_destination-in, ext_destination-again, ext_crosspoint-in, ext_crosspoint-again}
use Rattle.swp08_messages.proofs.HeldLemmas.{held_to-fields, held_to-longer, held_to-plain}
use Rattle.swp08_messages.proofs.SpelledLemmas.{Spells-text}

-- a message's limits: one for each field, and one for each that may stand behind them
pub record Limits : Type 0 where
  pub of_fields : List ℕ
  pub of_spare : List ℕ

abbrev pub limits_of : Message → Limits
limits_of message = record { of_fields = map limit_of (row message).fields; of_spare = map limit_of (row message).spare }

-- the fields of a message that so many bytes behind its command are held to, and their limits
abbrev pub held : Message → ℕ → List Field
held message count = held_to (row message).fields (row message).spare count

abbrev pub held_limits : Message → ℕ → List ℕ
held_limits message count = map limit_of (held message count)

-- For each message, one line in each of the lemmas below.

-- what is read of a message's command is a message of the same limits
limits_of-message_of : (message : Message) (bytes : List ℕ) → MatchOption (message_of (row message).command bytes) ⊥ (λ m. limits_of m ≡ limits_of message)
limits_of-message_of (Interrogate at) bytes = refl
limits_of-message_of (Connect at source) bytes = refl
limits_of-message_of (Tally at source) bytes = refl
limits_of-message_of (Connected at source) bytes = refl
limits_of-message_of (DumpAsk matrix level) bytes = refl
limits_of-message_of (SourceNamesAsk matrix level size) bytes = refl
limits_of-message_of (SourceNameAsk matrix level size number) bytes = refl
limits_of-message_of (DestNamesAsk matrix size) bytes = refl
limits_of-message_of (DestNameAsk matrix size number) bytes = refl
limits_of-message_of (ProtectAsk at) bytes = refl
limits_of-message_of (ProtectTally at owned device) bytes = refl
limits_of-message_of (ProtectConnect at device) bytes = refl
limits_of-message_of (ProtectConnected at owned device) bytes = refl
limits_of-message_of (ProtectDisconnect at device) bytes = refl
limits_of-message_of (ProtectDisconnected at owned device) bytes = refl
limits_of-message_of (Store at source salvo) bytes = refl
limits_of-message_of (Go clear salvo) bytes = refl
limits_of-message_of (Stored at source salvo) bytes = refl
limits_of-message_of (GoDone status salvo) bytes = refl
limits_of-message_of (EntryAsk salvo index) bytes = refl
limits_of-message_of (Entry at source salvo index validity) bytes = refl
limits_of-message_of (ExtInterrogate at) bytes = refl
limits_of-message_of (ExtConnect at source) bytes = refl
limits_of-message_of (ExtTally at source) bytes = refl
limits_of-message_of (ExtConnected at source) bytes = refl

-- a message's bytes give it back
message_of-again : (message : Message) (bytes : List ℕ) → InRange message → SpellFields bytes (row message).fields → message_of (row message).command bytes ≡ Some message
message_of-again (Interrogate at) bytes room spell = ap (λ p. Some (Interrogate p)) (point_in-again at bytes room spell)
message_of-again (Connect at source) bytes room spell = let e = crosspoint-again at source bytes room spell in rw (e.point, e.source_is) refl
message_of-again (Tally at source) bytes room spell = let e = crosspoint-again at source bytes room spell in rw (e.point, e.source_is) refl
message_of-again (Connected at source) bytes room spell = let e = crosspoint-again at source bytes room spell in rw (e.point, e.source_is) refl
message_of-again (DumpAsk matrix level) bytes room spell = let e = one_level-again matrix level bytes room spell in rw (e.matrix_is, e.level_is) refl
message_of-again (SourceNamesAsk matrix level size) bytes room spell =
    let e = source_names_ask-again matrix level size bytes room spell in rw (e.0.matrix_is, e.0.level_is, e.1) refl
message_of-again (SourceNameAsk matrix level size number) bytes room spell =
    let e = source_name_ask-again matrix level size number bytes room spell in rw (e.0.matrix_is, e.0.level_is, e.1.size_is, e.1.number_is) refl
message_of-again (DestNamesAsk matrix size) bytes room spell = let e = dest_names_ask-again matrix size bytes room spell in rw (e.0, e.1) refl
message_of-again (DestNameAsk matrix size number) bytes room spell =
    let e = dest_name_ask-again matrix size number bytes room spell in rw (e.matrix_is, e.size_is, e.number_is) refl
message_of-again (ProtectAsk at) bytes room spell = ap (λ p. Some (ProtectAsk p)) (point_in-again at bytes room spell)
message_of-again (ProtectTally at owned device) bytes room spell =
    let e = protect_told-again at owned device bytes room spell in rw (e.point, e.owned_is, e.device_is) refl
message_of-again (ProtectConnect at device) bytes room spell = let e = protect-again at device bytes room spell in rw (e.point, e.device_is) refl
message_of-again (ProtectConnected at owned device) bytes room spell =
    let e = protect_told-again at owned device bytes room spell in rw (e.point, e.owned_is, e.device_is) refl
message_of-again (ProtectDisconnect at device) bytes room spell = let e = protect-again at device bytes room spell in rw (e.point, e.device_is) refl
message_of-again (ProtectDisconnected at owned device) bytes room spell =
    let e = protect_told-again at owned device bytes room spell in rw (e.point, e.owned_is, e.device_is) refl
message_of-again (Store at source salvo) bytes room spell =
    let e = stored_crosspoint-again at source salvo bytes room spell in rw (e.0.point, e.0.source_is, e.1) refl
message_of-again (Go clear salvo) bytes room spell = let e = go-again clear salvo bytes spell in rw (e.0, e.1) refl
message_of-again (Stored at source salvo) bytes room spell =
    let e = stored_crosspoint-again at source salvo bytes room spell in rw (e.0.point, e.0.source_is, e.1) refl
message_of-again (GoDone status salvo) bytes room spell = let e = go_done-again status salvo bytes spell in rw (e.0, e.1) refl
message_of-again (EntryAsk salvo index) bytes room spell = let e = entry_ask-again salvo index bytes spell in rw (e.0, e.1) refl
message_of-again (Entry at source salvo index validity) bytes room spell =
    let e = entry-again at source salvo index validity bytes room spell in
    rw (e.carried.point, e.carried.source_is, e.salvo_is, e.index_is, e.validity_is) refl
message_of-again (ExtInterrogate at) bytes room spell = ap (λ p. Some (ExtInterrogate p)) (ext_destination-again at bytes spell)
message_of-again (ExtConnect at source) bytes room spell = let e = ext_crosspoint-again at source bytes room spell in rw (e.point, e.source_is) refl
message_of-again (ExtTally at source) bytes room spell = let e = ext_crosspoint-again at source bytes room spell in rw (e.point, e.source_is) refl
message_of-again (ExtConnected at source) bytes room spell = let e = ext_crosspoint-again at source bytes room spell in rw (e.point, e.source_is) refl

-- the same with what DATA may have behind them
message_of-longer : (message : Message) (bytes : List ℕ) → InRange message → SpellFields bytes ((row message).fields ++ (row message).spare)
    → message_of (row message).command bytes ≡ Some message
message_of-longer (ProtectAsk at) bytes room spell = ap (λ p. Some (ProtectAsk p)) (spare-again at bytes room spell)
message_of-longer message bytes room spell = message_of-again message bytes room spell

-- what a message that was read by its command is
pub record IsRead (command : ℕ) (bytes : List ℕ) (message : Message) : Type 0 where
  pub command_is : (row message).command ≡ command
  pub spells : Below bytes (held_limits message (length bytes)) → Spells (command ∷ bytes) message

-- of a message with nothing to spare
reads : (command : ℕ) (bytes : List ℕ) (message : Message) → (row message).spare ≡ []
    → (Below bytes (map limit_of (row message).fields) → SpellThem bytes (row message).fields)
    → command ≡ (row message).command → IsRead command bytes message
reads command bytes message none spell is = record {
  command_is = sym is;
  spells = λ below.
      let below_fields = subst (λ fields. Below bytes (map limit_of fields)) (held_to-plain (row message).fields (row message).spare (length bytes) none) below in
      let spelled = spell below_fields in
      record { in_range = spelled.room; behind = bytes; parts = ap (λ c. c ∷ bytes) is; fields = inl spelled.spelled };
}

-- of an interrogate of a protect
reads_ask : (command : ℕ) (bytes : List ℕ) → command ≡ 10 → IsRead command bytes (ProtectAsk (point_in bytes))
reads_ask command bytes is =
    let fields = destination (point_in bytes) in
    let parts : command ∷ bytes ≡ 10 ∷ bytes = ap (λ c. c ∷ bytes) is in
    record {
      command_is = sym is;
      spells = λ below. elim (ℕ_discrete (length bytes) 3) [
        | yes same ↦
            let spelled = destination-in bytes (subst (λ fs. Below bytes (map limit_of fs)) (held_to-fields fields (SpareLow ∷ []) (length bytes) same) below) in
            record { in_range = spelled.room; behind = bytes; parts = parts; fields = inl spelled.spelled }
        | no other ↦
            let spelled = spare-in bytes (subst (λ fs. Below bytes (map limit_of fs)) (held_to-longer fields (SpareLow ∷ []) (length bytes) other) below) in
            let room = spelled.room in
            record { in_range = (room.0, (room.1.0, (room.1.1.0, tt))); behind = bytes; parts = parts; fields = inr spelled.spelled }
      ];
    }

-- by a command's number
reads_at : (command number : ℕ) (bytes : List ℕ) (message here : Message) (there : Option Message)
    → (command ≡ number → IsRead command bytes here) → (there ≡ Some message → IsRead command bytes message)
    → cond (nat_eq command number) (Some here) there ≡ Some message → IsRead command bytes message
reads_at command number bytes message here there is_here is_there =
    elim (nat_eq command number) as (λ b. nat_eq command number ≡ b → cond b (Some here) there ≡ Some message → IsRead command bytes message) [
      | true ↦ λ e is. let same : here ≡ message = cc in subst (IsRead command bytes) same (is_here (eqb-true _ _ e))
      | false ↦ λ e is. is_there is
    ] refl

-- The messages of each family in turn.

crosspoint_message-reads : (command : ℕ) (bytes : List ℕ) (message : Message) → crosspoint_message command bytes ≡ Some message → IsRead command bytes message
crosspoint_message-reads command bytes message =
    reads_at command 1 bytes message _ _ (reads command bytes (Interrogate (point_in bytes)) refl (destination-in bytes)) (
    reads_at command 2 bytes message _ _ (reads command bytes (Connect (point_in bytes) (source_in bytes)) refl (crosspoint-in bytes)) (
    reads_at command 3 bytes message _ _ (reads command bytes (Tally (point_in bytes) (source_in bytes)) refl (crosspoint-in bytes)) (
    reads_at command 4 bytes message _ _ (reads command bytes (Connected (point_in bytes) (source_in bytes)) refl (crosspoint-in bytes)) (
    λ none. absurd cc))))

protect_message-reads : (command : ℕ) (bytes : List ℕ) (message : Message) → protect_message command bytes ≡ Some message → IsRead command bytes message
protect_message-reads command bytes message =
    reads_at command 10 bytes message _ _ (reads_ask command bytes) (
    reads_at command 11 bytes message _ _ (reads command bytes (ProtectTally (told_point_in bytes) (owned_in bytes) (told_device_in bytes)) refl (protect_told-in bytes)) (
    reads_at command 12 bytes message _ _ (reads command bytes (ProtectConnect (point_in bytes) (device_in bytes)) refl (protect-in bytes)) (
    reads_at command 13 bytes message _ _ (reads command bytes (ProtectConnected (told_point_in bytes) (owned_in bytes) (told_device_in bytes)) refl (protect_told-in bytes)) (
    reads_at command 14 bytes message _ _ (reads command bytes (ProtectDisconnect (point_in bytes) (device_in bytes)) refl (protect-in bytes)) (
    reads_at command 15 bytes message _ _ (reads command bytes (ProtectDisconnected (told_point_in bytes) (owned_in bytes) (told_device_in bytes)) refl (protect_told-in bytes)) (
    λ none. absurd cc))))))

dump_message-reads : (command : ℕ) (bytes : List ℕ) (message : Message) → dump_message command bytes ≡ Some message → IsRead command bytes message
dump_message-reads command bytes message =
    reads_at command 21 bytes message _ _ (reads command bytes (DumpAsk (matrix_in bytes) (level_in bytes)) refl (one_level-in bytes)) (
    λ none. absurd cc)

names_message-reads : (command : ℕ) (bytes : List ℕ) (message : Message) → names_message command bytes ≡ Some message → IsRead command bytes message
names_message-reads command bytes message =
    reads_at command 100 bytes message _ _ (reads command bytes (SourceNamesAsk (matrix_in bytes) (level_in bytes) (size_in bytes)) refl (source_names_ask-in bytes)) (
    reads_at command 101 bytes message _ _ (reads command bytes (SourceNameAsk (matrix_in bytes) (level_in bytes) (size_in bytes) (wide_in bytes)) refl (source_name_ask-in bytes)) (
    reads_at command 102 bytes message _ _ (reads command bytes (DestNamesAsk (matrix_in bytes) (size_in bytes)) refl (dest_names_ask-in bytes)) (
    reads_at command 103 bytes message _ _ (reads command bytes (DestNameAsk (matrix_in bytes) (size_in bytes) (wide_in bytes)) refl (dest_name_ask-in bytes)) (
    λ none. absurd cc))))

salvo_message-reads : (command : ℕ) (bytes : List ℕ) (message : Message) → salvo_message command bytes ≡ Some message → IsRead command bytes message
salvo_message-reads command bytes message =
    reads_at command 120 bytes message _ _ (reads command bytes (Store (point_in bytes) (source_in bytes) (slice_index bytes 4)) refl (stored_crosspoint-in bytes)) (
    reads_at command 121 bytes message _ _ (reads command bytes (Go (nat_eq (slice_index bytes 0) 1) (slice_index bytes 1)) refl (go-in bytes)) (
    reads_at command 122 bytes message _ _ (reads command bytes (Stored (point_in bytes) (source_in bytes) (slice_index bytes 4)) refl (stored_crosspoint-in bytes)) (
    reads_at command 123 bytes message _ _ (reads command bytes (GoDone (status_of (slice_index bytes 0)) (slice_index bytes 1)) refl (go_done-in bytes)) (
    reads_at command 124 bytes message _ _ (reads command bytes (EntryAsk (slice_index bytes 0) (slice_index bytes 1)) refl (entry_ask-in bytes)) (
    reads_at command 125 bytes message _ _ (reads command bytes (entry_in bytes) refl (entry-in bytes)) (
    λ none. absurd cc))))))

extended_message-reads : (command : ℕ) (bytes : List ℕ) (message : Message) → extended_message command bytes ≡ Some message → IsRead command bytes message
extended_message-reads command bytes message =
    reads_at command 129 bytes message _ _ (reads command bytes (ExtInterrogate (ext_point_in bytes)) refl (ext_destination-in bytes)) (
    reads_at command 130 bytes message _ _ (reads command bytes (ExtConnect (ext_point_in bytes) (ext_source_in bytes)) refl (ext_crosspoint-in bytes)) (
    reads_at command 131 bytes message _ _ (reads command bytes (ExtTally (ext_point_in bytes) (ext_source_in bytes)) refl (ext_crosspoint-in bytes)) (
    reads_at command 132 bytes message _ _ (reads command bytes (ExtConnected (ext_point_in bytes) (ext_source_in bytes)) refl (ext_crosspoint-in bytes)) (
    λ none. absurd cc))))

-- by the first of two families that has the command
first_of-reads : (command : ℕ) (bytes : List ℕ) (message : Message) (first others : Option Message)
    → (first ≡ Some message → IsRead command bytes message) → (others ≡ Some message → IsRead command bytes message)
    → first_of first others ≡ Some message → IsRead command bytes message
first_of-reads command bytes message None others by_first by_others e = by_others e
first_of-reads command bytes message (Some m) others by_first by_others e = by_first e

-- What is read of a command is a message of it, which DATA below the limits spells.
pub message_of-reads : (command : ℕ) (bytes : List ℕ) (message : Message) → message_of command bytes ≡ Some message → IsRead command bytes message
message_of-reads command bytes message =
    first_of-reads command bytes message _ _ (crosspoint_message-reads command bytes message) (
    first_of-reads command bytes message _ _ (protect_message-reads command bytes message) (
    first_of-reads command bytes message _ _ (dump_message-reads command bytes message) (
    first_of-reads command bytes message _ _ (names_message-reads command bytes message) (
    first_of-reads command bytes message _ _ (salvo_message-reads command bytes message) (extended_message-reads command bytes message)))))

-- Of which nothing is read is the command of no message.
pub message_of-none : (command : ℕ) (bytes : List ℕ) → message_of command bytes ≡ None → (message : Message) → (row message).command ≢ command
message_of-none command bytes none message is =
    subst (λ o. MatchOption o ⊥ (λ m. limits_of m ≡ limits_of message)) (ap (λ c. message_of c bytes) is ∙ none) (limits_of-message_of message bytes)

-- A message that DATA spells is what is read of it.
pub message_of-Spells : (command : ℕ) (bytes : List ℕ) (message : Message) → Spells (command ∷ bytes) message → message_of command bytes ≡ Some message
message_of-Spells command bytes message spells =
    let e = spells.parts in
    let command_is : command ≡ (row message).command = cc in
    let behind_is : bytes ≡ spells.behind = cc in
    ap (λ c. message_of c bytes) command_is ∙ ap (λ bs. message_of (row message).command bs) behind_is
    ∙ elim spells.fields [
      | inl so ↦ message_of-again message spells.behind spells.in_range so
      | inr so ↦ message_of-longer message spells.behind spells.in_range so
    ]

-- No DATA spells two messages.
pub one_message : (bytes : List ℕ) (m n : Message) → Spells bytes m → Spells bytes n → m ≡ n
one_message bytes m n spells_m spells_n =
    let parts = spells_m.parts in
    let is_m = message_of-Spells (row m).command spells_m.behind m (subst (λ bs. Spells bs m) parts spells_m) in
    let is_n = message_of-Spells (row m).command spells_m.behind n (subst (λ bs. Spells bs n) parts spells_n) in
    let both : Some m ≡ Some n = sym is_m ∙ is_n in
    cc

-- Messages of one command have the same limits.
pub limits_of-command : (m n : Message) → (row m).command ≡ (row n).command → limits_of m ≡ limits_of n
limits_of-command m n same =
    elim (message_of (row m).command []) as (λ o. MatchOption o ⊥ (λ k. limits_of k ≡ limits_of m) → MatchOption o ⊥ (λ k. limits_of k ≡ limits_of n) → limits_of m ≡ limits_of n) [
      | None ↦ λ m_is n_is. absurd m_is
      | Some k ↦ λ m_is n_is. sym m_is ∙ n_is
    ] (limits_of-message_of m []) (subst (λ c. MatchOption (message_of c []) ⊥ (λ k. limits_of k ≡ limits_of n)) (sym same) (limits_of-message_of n []))

pub length-limits : (fields : List Field) → length (map limit_of fields) ≡ length fields
length-limits [] = refl
length-limits (field ∷ fields) = ap suc (length-limits fields)

-- how many of such limits so many bytes are held to
abbrev counted : Limits → ℕ → List ℕ
counted limits count = cond (nat_eq count (length limits.of_fields)) limits.of_fields (limits.of_fields ++ limits.of_spare)

map-append : (fields spare : List Field) → map limit_of (fields ++ spare) ≡ map limit_of fields ++ map limit_of spare
map-append [] spare = refl
map-append (field ∷ fields) spare = ap (λ limits. limit_of field ∷ limits) (map-append fields spare)

held_limits-counted : (message : Message) (count : ℕ) → held_limits message count ≡ counted (limits_of message) count
held_limits-counted message count =
    let fields = (row message).fields in
    let spare = (row message).spare in
    rw (length-limits fields) (
    elim (nat_eq count (length fields)) as (λ b. map limit_of (cond b fields (fields ++ spare)) ≡ cond b (map limit_of fields) (map limit_of fields ++ map limit_of spare)) [
      | true ↦ refl
      | false ↦ map-append fields spare
    ])

pub held_limits-command : (m n : Message) (count : ℕ) → (row m).command ≡ (row n).command → held_limits m count ≡ held_limits n count
held_limits-command m n count same =
    held_limits-counted m count ∙ ap (λ limits. counted limits count) (limits_of-command m n same) ∙ sym (held_limits-counted n count)

length-bytes : (fields : List Field) → length (map byte_of fields) ≡ length fields
length-bytes [] = refl
length-bytes (field ∷ fields) = ap suc (length-bytes fields)

-- Texts of one command are of one length.
pub length-text-command : (m n : Message) → (row m).command ≡ (row n).command → length (text m) ≡ length (text n)
length-text-command m n same =
    let limits = ap (λ (limits : Limits). length limits.of_fields) (limits_of-command m n same) in
    omega (arith, limits, length-limits (row m).fields, length-limits (row n).fields, length-bytes (row m).fields, length-bytes (row n).fields)

pub length-text : (message : Message) → length (text message) ≡ 1 + length (row message).fields
length-text message = omega (arith, length-bytes (row message).fields)

-- No two messages in their ranges have one text.
pub one_text : (m n : Message) → InRange m → InRange n → text m ≡ text n → m ≡ n
one_text m n in_m in_n same = one_message (text m) m n (Spells-text m in_m) (subst (λ bs. Spells bs n) (sym same) (Spells-text n in_n))
