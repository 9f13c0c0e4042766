-- The output of a session over one more item and over one more entry.
use Rattle.std.proofs.Common.{◌≡◌, ℕ, ◌+◌, ◌<◌, ◌≤◌, true, false, if◌then◌else◌, nat_lt, List, [], ◌∷◌, ◌++◌, length, Option, Some, None, refl, sym, ap, ◌∙◌, subst, arith}
use Rattle.std.specs.Prelude.{IsSome}
use Rattle.std.proofs.lemmas.Bool.{false≢true}
use Rattle.std.proofs.lemmas.List.{append-nil, append_assoc}
use Rattle.dle_framing.specs.Numbers.{ack, nak}
use Rattle.plant_config.specs.Plant.{PlantData}
use Rattle.plant_core.specs.declared.answer.Answer.{Answer}
use Rattle.panel_session.specs.declared.session.asked.Asked.{Asked}
use Rattle.panel_session.specs.declared.session.asked.Asked.TheVariants.{Nothing, Repeat, Refused, Noted, Named, Sent}
use Rattle.panel_session.specs.Entry.{PlantEntry}
use Rattle.panel_session.specs.Text.{frames_of, Output, with_control, with_frame, with_frames, repeated, polled_at, told_at, with_polls, output_from}
use Rattle.panel_session.specs.NamePages.{name_frames}
use Rattle.panel_session.specs.OutgoingInside.{emptied}
use Rattle.panel_session.specs.StandsInside.{AllTold, behind}

-- the output once an item was told behind others, with the answers of what it sent to the plant
abbrev pub told_output : ℕ → List PlantEntry → Option (List Answer) → Output → Output
told_output n entries None output = with_control ack output
told_output n entries (Some answers) output = with_polls (n + 1) entries (with_frames (frames_of answers) (with_control ack output))

-- the output once the item of this number came behind others
abbrev pub output_with : PlantData → ℕ → Asked → List PlantEntry → Output → Output
output_with plant n Nothing entries output = with_polls (n + 1) entries output
output_with plant n Repeat entries output = with_polls (n + 1) entries (repeated output)
output_with plant n Refused entries output = with_polls (n + 1) entries (with_control nak output)
output_with plant n Noted entries output = with_polls (n + 1) entries (with_control ack output)
output_with plant n (Named message) entries output = with_polls (n + 1) entries (with_frames (name_frames plant message) (with_control ack output))
output_with plant n (Sent message) entries output = told_output n entries (told_at n entries) output

-- one item alone
output_one : (plant : PlantData) (a : Asked) (item : ℕ) (entries : List PlantEntry) (output : Output) → output_from plant item (a ∷ []) entries output ≡ output_with plant item a entries (with_polls item entries output)
output_one plant Nothing item entries output = refl
output_one plant Repeat item entries output = refl
output_one plant Refused item entries output = refl
output_one plant Noted item entries output = refl
output_one plant (Named message) item entries output = refl
output_one plant (Sent message) item entries output = sent_one (told_at item entries) where
  sent_one : (told : Option (List Answer)) → (elim told [ None ↦ with_control ack (with_polls item entries output) | (Some answers) ↦ output_from plant (item + 1) [] entries (with_frames (frames_of answers) (with_control ack (with_polls item entries output))) ]) ≡ told_output item entries told (with_polls item entries output)
  sent_one None = refl
  sent_one (Some answers) = refl

-- The same where a message was sent to the plant, and has its entry.
sent_more : (plant : PlantData) (told : Option (List Answer)) → IsSome told → (xs : List Asked) (a : Asked) (item n : ℕ) (entries : List PlantEntry) (output : Output)
    → ((output : Output) → output_from plant (item + 1) (xs ++ a ∷ []) entries output ≡ output_with plant n a entries (output_from plant (item + 1) xs entries output))
    → (elim told [ None ↦ output | (Some answers) ↦ output_from plant (item + 1) (xs ++ a ∷ []) entries (with_frames (frames_of answers) output) ])
    ≡ output_with plant n a entries (elim told [ None ↦ output | (Some answers) ↦ output_from plant (item + 1) xs entries (with_frames (frames_of answers) output) ])
sent_more plant None told xs a item n entries output more = absurd (false≢true told)
sent_more plant (Some answers) told xs a item n entries output more = more (with_frames (frames_of answers) output)

-- One item more, behind items that have their entries.
pub output_more : (plant : PlantData) (xs : List Asked) (a : Asked) (item n : ℕ) (entries : List PlantEntry) (output : Output) → n ≡ item + length xs → AllTold item xs entries
    → output_from plant item (xs ++ a ∷ []) entries output ≡ output_with plant n a entries (output_from plant item xs entries output)
output_more plant [] a item n entries output is told =
    let P : ℕ → Type 0 = λ n. output_from plant item (a ∷ []) entries output ≡ output_with plant n a entries (with_polls item entries output) in
    let same : item ≡ n = omega arith in
    subst P same (output_one plant a item entries output)
output_more plant (Nothing ∷ xs) a item n entries output is told = output_more plant xs a (item + 1) n entries (with_polls item entries output) (omega arith) told.1
output_more plant (Repeat ∷ xs) a item n entries output is told = output_more plant xs a (item + 1) n entries (repeated (with_polls item entries output)) (omega arith) told.1
output_more plant (Refused ∷ xs) a item n entries output is told = output_more plant xs a (item + 1) n entries (with_control nak (with_polls item entries output)) (omega arith) told.1
output_more plant (Noted ∷ xs) a item n entries output is told = output_more plant xs a (item + 1) n entries (with_control ack (with_polls item entries output)) (omega arith) told.1
output_more plant (Named message ∷ xs) a item n entries output is told =
    output_more plant xs a (item + 1) n entries (with_frames (name_frames plant message) (with_control ack (with_polls item entries output))) (omega arith) told.1
output_more plant (Sent message ∷ xs) a item n entries output is told =
    sent_more plant (told_at item entries) told.0 xs a item n entries (with_control ack (with_polls item entries output))
    (λ output. output_more plant xs a (item + 1) n entries output (omega arith) told.1)

-- Other entries say the same of the items from one number on, before another.
pub record SayTheSame (item n : ℕ) (entries others : List PlantEntry) : Type 0 where
  pub told : (k : ℕ) → item ≤ k → k < n → told_at k others ≡ told_at k entries
  pub polled : (k : ℕ) → item ≤ k → k < n → polled_at k others ≡ polled_at k entries

same_later : (item n : ℕ) (entries others : List PlantEntry) → SayTheSame item n entries others → SayTheSame (item + 1) n entries others
same_later item n entries others same = record {
  told = λ k from below. same.told k (omega arith) below;
  polled = λ k from below. same.polled k (omega arith) below;
}

-- Frames behind others.
pub with_frames-append : (one other : List (List ℕ)) (output : Output) → with_frames (one ++ other) output ≡ with_frames other (with_frames one output)
with_frames-append [] other output = refl
with_frames-append (sent ∷ one) other output = with_frames-append one other (with_frame sent output)

-- the polls made behind an item, where others are among them
same_polls : (item : ℕ) (entries others : List PlantEntry) (output : Output) → polled_at item others ≡ polled_at item entries → with_polls item others output ≡ with_polls item entries output
same_polls item entries others output same = ap (λ (frames : List (List ℕ)). with_frames frames output) same

sent_later : (plant : PlantData) (told told_then : Option (List Answer)) → told_then ≡ told → IsSome told → (xs : List Asked) (item : ℕ) (entries others : List PlantEntry) (more : List (List ℕ)) (output : Output)
    → ((output : Output) → output_from plant (item + 1) xs others output ≡ with_frames more (output_from plant (item + 1) xs entries output))
    → (elim told_then [ None ↦ output | (Some answers) ↦ output_from plant (item + 1) xs others (with_frames (frames_of answers) output) ])
    ≡ with_frames more (elim told [ None ↦ output | (Some answers) ↦ output_from plant (item + 1) xs entries (with_frames (frames_of answers) output) ])
sent_later plant None told_then same told xs item entries others more output later = absurd (false≢true told)
sent_later plant (Some answers) told_then same told xs item entries others more output later =
    let P : Option (List Answer) → Type 0 = λ told_then.
    (elim told_then [ None ↦ output | (Some answers) ↦ output_from plant (item + 1) xs others (with_frames (frames_of answers) output) ])
    ≡ with_frames more (output_from plant (item + 1) xs entries (with_frames (frames_of answers) output)) in
    subst P (sym same) (later (with_frames (frames_of answers) output))

-- Other entries, which have these frames more of polls behind all items.
pub output_later : (plant : PlantData) (xs : List Asked) (item n : ℕ) (entries others : List PlantEntry) (more : List (List ℕ)) (output : Output) → n ≡ item + length xs → AllTold item xs entries → SayTheSame item n entries others
    → polled_at n others ≡ polled_at n entries ++ more
    → output_from plant item xs others output ≡ with_frames more (output_from plant item xs entries output)
output_later plant [] item n entries others more output is told same polls =
    let P : ℕ → Type 0 = λ k. polled_at k others ≡ polled_at k entries ++ more in
    let here : n ≡ item = omega arith in
    ap (λ (frames : List (List ℕ)). with_frames frames output) (subst P here polls) ∙ with_frames-append (polled_at item entries) more output
output_later plant (Nothing ∷ xs) item n entries others more output is told same polls =
    ap (λ (output : Output). output_from plant (item + 1) xs others output) (same_polls item entries others output (same.polled item (omega arith) (omega arith)))
    ∙ output_later plant xs (item + 1) n entries others more (with_polls item entries output) (omega arith) told.1 (same_later item n entries others same) polls
output_later plant (Repeat ∷ xs) item n entries others more output is told same polls =
    ap (λ (output : Output). output_from plant (item + 1) xs others (repeated output)) (same_polls item entries others output (same.polled item (omega arith) (omega arith)))
    ∙ output_later plant xs (item + 1) n entries others more (repeated (with_polls item entries output)) (omega arith) told.1 (same_later item n entries others same) polls
output_later plant (Refused ∷ xs) item n entries others more output is told same polls =
    ap (λ (output : Output). output_from plant (item + 1) xs others (with_control nak output)) (same_polls item entries others output (same.polled item (omega arith) (omega arith)))
    ∙ output_later plant xs (item + 1) n entries others more (with_control nak (with_polls item entries output)) (omega arith) told.1 (same_later item n entries others same) polls
output_later plant (Noted ∷ xs) item n entries others more output is told same polls =
    ap (λ (output : Output). output_from plant (item + 1) xs others (with_control ack output)) (same_polls item entries others output (same.polled item (omega arith) (omega arith)))
    ∙ output_later plant xs (item + 1) n entries others more (with_control ack (with_polls item entries output)) (omega arith) told.1 (same_later item n entries others same) polls
output_later plant (Named message ∷ xs) item n entries others more output is told same polls =
    ap (λ (output : Output). output_from plant (item + 1) xs others (with_frames (name_frames plant message) (with_control ack output)))
    (same_polls item entries others output (same.polled item (omega arith) (omega arith)))
    ∙ output_later plant xs (item + 1) n entries others more (with_frames (name_frames plant message) (with_control ack (with_polls item entries output))) (omega arith) told.1
    (same_later item n entries others same) polls
output_later plant (Sent message ∷ xs) item n entries others more output is told same polls =
    ap (λ (output : Output). elim (told_at item others) [ None ↦ with_control ack output | (Some answers) ↦ output_from plant (item + 1) xs others (with_frames (frames_of answers) (with_control ack output)) ])
    (same_polls item entries others output (same.polled item (omega arith) (omega arith)))
    ∙ sent_later plant (told_at item entries) (told_at item others) (same.told item (omega arith) (omega arith)) told.0 xs item entries others more (with_control ack (with_polls item entries output))
    (λ output. output_later plant xs (item + 1) n entries others more output (omega arith) told.1 (same_later item n entries others same) polls)

-- What comes behind bytes that were sent before.
pub control-behind : (control before : List ℕ) (output : Output) → with_control control (behind before output) ≡ behind before (with_control control output)
control-behind control before output = ap (λ (bytes : List ℕ). record output { bytes = bytes }) (append_assoc before output.bytes control)

frame-behind : (sent before : List ℕ) (output : Output) → with_frame sent (behind before output) ≡ behind before (with_frame sent output)
frame-behind sent before output = ap (λ (bytes : List ℕ). record { bytes = bytes; last = Some sent; repeats = 0 }) (append_assoc before output.bytes sent)

pub frames-behind : (frames : List (List ℕ)) (before : List ℕ) (output : Output) → with_frames frames (behind before output) ≡ behind before (with_frames frames output)
frames-behind [] before output = refl
frames-behind (sent ∷ frames) before output =
    ap (λ (output : Output). with_frames frames output) (frame-behind sent before output) ∙ frames-behind frames before (with_frame sent output)

pub repeated-behind : (before : List ℕ) (output : Output) → repeated (behind before output) ≡ behind before (repeated output)
repeated-behind before output = at output.bytes output.last output.repeats where
  at : (bytes : List ℕ) (last : Option (List ℕ)) (repeats : ℕ) → repeated (behind before (record { bytes = bytes; last = last; repeats = repeats })) ≡ behind before (repeated (record { bytes = bytes; last = last; repeats = repeats }))
  at bytes None repeats = refl
  at bytes (Some sent) repeats = elim (nat_lt repeats 5) as (λ test.
      (if test then record { bytes = (before ++ bytes) ++ sent; last = Some sent; repeats = repeats + 1 } else record { bytes = before ++ bytes; last = Some sent; repeats = repeats })
      ≡ behind before (if test then record { bytes = bytes ++ sent; last = Some sent; repeats = repeats + 1 } else record { bytes = bytes; last = Some sent; repeats = repeats })) [
        | true ↦ ap (λ (bytes : List ℕ). record { bytes = bytes; last = Some sent; repeats = repeats + 1 }) (append_assoc before bytes sent)
        | false ↦ refl
      ]

-- Once bytes that were to be sent are sent, nothing is.
pub sent-behind : (before : List ℕ) (output : Output) → behind before output ≡ behind (before ++ output.bytes) (emptied output)
sent-behind before output = ap (λ (bytes : List ℕ). record output { bytes = bytes }) (sym (append-nil (before ++ output.bytes)))

-- What is to be sent with frames behind it.
pub behind_frames : (frames : List (List ℕ)) (output : Output) → with_frames frames output ≡ behind output.bytes (with_frames frames (emptied output))
behind_frames frames output =
    let P : List ℕ → Type 0 = λ bytes. with_frames frames (record output { bytes = bytes }) ≡ behind output.bytes (with_frames frames (emptied output)) in
    subst P (append-nil output.bytes) (frames-behind frames output.bytes (emptied output))
