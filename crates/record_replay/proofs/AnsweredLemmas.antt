-- What a session sends for its items, one after the other.
use Rattle.std.proofs.Common.{◌≡◌, ℕ, ◌+◌, ◌⊎◌, inl, inr, true, false, if◌then◌else◌, nat_lt, List, [], ◌∷◌, ◌++◌, length, Option, Some, None, refl, sym, ap, ◌∙◌, subst, arith, append_assoc, append-nil}
use Rattle.std.specs.Prelude.{IsSome, ◌==◌}
use Rattle.std.specs.List.{AllByRecursion, range_with_len}
use Rattle.std.specs.Prelude.{map}
use Rattle.std.proofs.lemmas.Bool.{false≢true}
use Rattle.dle_framing.specs.Numbers.{ack, nak}
use Rattle.dle_framing.specs.declared.item.Item.{Item}
use Rattle.dle_framing.specs.declared.item.Item.TheVariants.{Good, Bad, Ack, Nak}
use Rattle.dle_framing.specs.Frame.{frame}
use Rattle.swp08_messages.specs.declared.message.Message.{Message}
use Rattle.swp08_messages.specs.Dump.{Page, page_text}
use Rattle.swp08_messages.specs.Text.{text}
use Rattle.swp08_messages.specs.declared.message.Message.TheVariants.{SourceNamesAsk, SourceNameAsk, DestNamesAsk, DestNameAsk}
use Rattle.plant_config.specs.Plant.{PlantData}
use Rattle.plant_names.specs.Pages as pages
use Rattle.plant_names.specs.Pages.{page_names, names_of_sources, names_of_dests, source_page_command, dest_page_command}
use Rattle.panel_session.specs.NamePages.{page_count, page_first, page_from, one_page, all_pages, name_frames}
use Rattle.plant_core.specs.declared.answer.Answer.{Answer}
use Rattle.plant_core.specs.declared.answer.Answer.TheVariants.{Say, Dumped, Lamp, Finished}
use Rattle.panel_session.specs.Asked.{GoodAsks, Asks, AllAsk}
use Rattle.panel_session.specs.Entry.{PlantEntry}
use Rattle.panel_session.specs.StandsInside.{IsTold, AllTold}
use Rattle.panel_session.specs.Text.{Output, nothing_sent, with_control, with_frame, with_frames, with_polls, repeated, no_page, page_at, goes_on, with_source, page_frames, frames_behind, frames_of, polled_by, polled_at, told_at, output_from}
use Rattle.panel_session.proofs.OutputLemmas.{output_with, told_output, output_more}
use Rattle.record_replay.specs.Answered.{IsTelling, in_a_row, IsAnswered}
use Rattle.record_replay.proofs.TurnEntries.{Asked}

pub frames-bytes : (frames : List (List ℕ)) (output : Output) → (with_frames frames output).bytes ≡ output.bytes ++ in_a_row frames
frames-bytes [] output = sym (append-nil output.bytes)
frames-bytes (sent ∷ others) output = frames-bytes others (with_frame sent output) ∙ append_assoc output.bytes sent (in_a_row others)

abbrev pub AllTell : List (List ℕ) → Type 0
AllTell frames = AllByRecursion IsTelling frames

all_tell-append : (one other : List (List ℕ)) → AllTell one → AllTell other → AllTell (one ++ other)
all_tell-append [] other tell later = later
all_tell-append (sent ∷ one) other tell later = (tell.0, all_tell-append one other tell.1 later)

-- The frames of answers tell something: messages, and pages.
page-tells : (page : Page) → AllTell (page_frames page)
page-tells page = elim (length page.sources == 0) as (λ test. AllTell (if test then [] else frame (page_text page) ∷ [])) [
  | true ↦ tt
  | false ↦ (inr (inl (page, refl)), tt)
]

frames_behind-tell : (page : Page) (answers : List Answer) → AllTell (frames_behind page answers)
frames_behind-tell page [] = page-tells page
frames_behind-tell page (Say message ∷ others) =
    all_tell-append (page_frames page) (frame (text message) ∷ frames_behind no_page others) (page-tells page)
    (inl (message, refl), frames_behind-tell no_page others)
frames_behind-tell page (Dumped matrix level dest source ∷ others) =
    let more = frames_behind (with_source source page) others in
    let anew = frames_behind (with_source source (page_at matrix level dest)) others in
    elim (goes_on page matrix level dest) as (λ test. AllTell (if test then more else page_frames page ++ anew)) [
      | true ↦ frames_behind-tell (with_source source page) others
      | false ↦ all_tell-append (page_frames page) anew (page-tells page) (frames_behind-tell (with_source source (page_at matrix level dest)) others)
    ]
frames_behind-tell page (Lamp display value ∷ others) = frames_behind-tell page others
frames_behind-tell page (Finished ∷ others) = frames_behind-tell page others

frames-tell : (answers : List Answer) → AllTell (frames_of answers)
frames-tell answers = frames_behind-tell no_page answers

pub polled-tell : (k : ℕ) (entries : List PlantEntry) → AllTell (polled_at k entries)
polled-tell k [] = tt
polled-tell k (entry ∷ entries) =
    let answers = polled_by k entry.request entry.answers in
    all_tell-append (frames_of answers) (polled_at k entries) (frames-tell answers) (polled-tell k entries)

-- So do those of pages of names.
page_of_names-tells : (command matrix level size first : ℕ) (names : List (List ℕ)) → IsTelling (frame (pages.names_text command matrix level size first names))
page_of_names-tells command matrix level size first names =
    inr (inr (pages.names_text command matrix level size first names, (command, matrix, level, size, first, names, refl), refl))

each-tells : (page_of : ℕ → List ℕ) → ((number : ℕ) → IsTelling (frame (page_of number))) → (numbers : List ℕ) → AllTell (map frame (map page_of numbers))
each-tells page_of tells [] = tt
each-tells page_of tells (number ∷ numbers) = (tells number, each-tells page_of tells numbers)

one_page-tells : (command matrix level size number : ℕ) (names : Option (List (List ℕ))) → AllTell (map frame (one_page command matrix level size number names))
one_page-tells command matrix level size number None = tt
one_page-tells command matrix level size number (Some names) =
    let its = page_names true size number names in
    elim (nat_lt number (length names)) as (λ test. AllTell (map frame (if test then pages.names_text command matrix level size number its ∷ [] else []))) [
      | true ↦ (page_of_names-tells command matrix level size number its, tt)
      | false ↦ tt
    ]

all_pages-tell : (command matrix level size : ℕ) (names : Option (List (List ℕ))) → AllTell (map frame (all_pages command matrix level size names))
all_pages-tell command matrix level size None = tt
all_pages-tell command matrix level size (Some names) =
    each-tells (λ page. page_from command matrix level size names (page_first size page))
    (λ page. page_of_names-tells command matrix level size (page_first size page) (page_names false size (page_first size page) names))
    (range_with_len 0 (page_count size (length names)))

names-tell : (plant : PlantData) (message : Message) → AllTell (name_frames plant message)
names-tell plant (SourceNamesAsk matrix level size) = all_pages-tell source_page_command matrix level size (names_of_sources plant matrix level)
names-tell plant (SourceNameAsk matrix level size number) = one_page-tells source_page_command matrix level size number (names_of_sources plant matrix level)
names-tell plant (DestNamesAsk matrix size) = all_pages-tell dest_page_command matrix 0 size (names_of_dests plant matrix)
names-tell plant (DestNameAsk matrix size number) = one_page-tells dest_page_command matrix 0 size number (names_of_dests plant matrix)
names-tell plant message = tt

-- What may be sent again tells something.
abbrev pub IsLast : Option (List ℕ) → Type 0
IsLast None = Unit {0}
IsLast (Some sent) = IsTelling sent

pub last-frames : (frames : List (List ℕ)) (output : Output) → AllTell frames → IsLast output.last → IsLast (with_frames frames output).last
last-frames [] output tell last = last
last-frames (sent ∷ others) output tell last = last-frames others (with_frame sent output) tell.1 tell.0

-- An item is answered behind one output, and this is the next.
pub record Answers (item : Item (List ℕ)) (before next : Output) : Type 0 where
  pub bytes : List ℕ
  pub is_answered : IsAnswered item bytes
  pub bytes_are : next.bytes ≡ before.bytes ++ bytes
  pub last : IsLast next.last

-- A NAK is answered by what is sent again.
answers-nak : (bytes : List ℕ) (last : Option (List ℕ)) (repeats : ℕ) → IsLast last
    → Answers Nak (record { bytes = bytes; last = last; repeats = repeats }) (repeated (record { bytes = bytes; last = last; repeats = repeats }))
answers-nak bytes None repeats is = record { bytes = []; is_answered = inl refl; bytes_are = sym (append-nil bytes); last = tt }
answers-nak bytes (Some sent) repeats is =
    let before : Output = record { bytes = bytes; last = Some sent; repeats = repeats } in
    elim (nat_lt repeats 5) as (λ test. Answers Nak before (if test then record before { bytes = bytes ++ sent; repeats = repeats + 1 } else before)) [
      | true ↦ record { bytes = sent; is_answered = inr is; bytes_are = refl; last = is }
      | false ↦ record { bytes = []; is_answered = inl refl; bytes_are = sym (append-nil bytes); last = is }
    ]

module _ (plant : PlantData) (entries : List PlantEntry) where
  -- A good frame is answered by ACK, and by what the plant told where it was sent something.
  good_output : (carried : List ℕ) (a : Asked) (n : ℕ) (output : Output) → GoodAsks carried a → IsTold n a entries
      → (output_with plant n a entries output ≡ with_polls (n + 1) entries (with_control ack output))
      ⊎ ((output_with plant n a entries output ≡ told_output n entries (told_at n entries) output) × IsSome (told_at n entries))
      ⊎ ((message : Message) × (output_with plant n a entries output ≡ with_polls (n + 1) entries (with_frames (name_frames plant message) (with_control ack output))))
  good_output carried a n output asks told = grind arith

  -- An item is answered, and then come the polls behind it.
  pub record AnswersFirst (item : Item (List ℕ)) (n : ℕ) (before after : Output) : Type 0 where
    pub next : Output
    pub answers : Answers item before next
    pub after_is : after ≡ with_polls (n + 1) entries next

  answers-told : (carried : List ℕ) (n : ℕ) (output after : Output) (told : Option (List Answer)) → IsLast output.last → IsSome told → after ≡ told_output n entries told output
      → AnswersFirst (Good carried) n output after
  answers-told carried n output after None last some is = absurd (false≢true some)
  answers-told carried n output after (Some answers) last some is = record {
    next = with_frames (frames_of answers) (with_control ack output);
    answers = record {
      bytes = ack ++ in_a_row (frames_of answers);
      is_answered = (frames_of answers, frames-tell answers, refl);
      bytes_are = frames-bytes (frames_of answers) (with_control ack output) ∙ append_assoc output.bytes ack (in_a_row (frames_of answers));
      last = last-frames (frames_of answers) (with_control ack output) (frames-tell answers) last;
    };
    after_is = is;
  }

  answers-good : (carried : List ℕ) (n : ℕ) (output after : Output) → IsLast output.last
      → (after ≡ with_polls (n + 1) entries (with_control ack output)) ⊎ ((after ≡ told_output n entries (told_at n entries) output) × IsSome (told_at n entries))
      ⊎ ((message : Message) × (after ≡ with_polls (n + 1) entries (with_frames (name_frames plant message) (with_control ack output))))
      → AnswersFirst (Good carried) n output after
  answers-good carried n output after last = elim [
    | (inl noted) ↦ record {
      next = with_control ack output;
      answers = record { bytes = ack; is_answered = ([], tt, sym (append-nil ack)); bytes_are = refl; last = last };
      after_is = noted;
    }
    | (inr (inl told)) ↦ answers-told carried n output after (told_at n entries) last told.1 told.0
    | (inr (inr named)) ↦ (let frames = name_frames plant named.0 in record {
      next = with_frames frames (with_control ack output);
      answers = record {
        bytes = ack ++ in_a_row frames;
        is_answered = (frames, names-tell plant named.0, refl);
        bytes_are = frames-bytes frames (with_control ack output) ∙ append_assoc output.bytes ack (in_a_row frames);
        last = last-frames frames (with_control ack output) (names-tell plant named.0) last;
      };
      after_is = named.1;
    })
  ]

  answers-first : (item : Item (List ℕ)) (a : Asked) (n : ℕ) (output : Output) → Asks item a → IsTold n a entries → IsLast output.last
      → AnswersFirst item n output (output_with plant n a entries output)
  answers-first (Good carried) a n output asks told last = answers-good carried n output (output_with plant n a entries output) last (good_output carried a n output asks told)
  answers-first Bad a n output asks told last = record {
    next = with_control nak output;
    answers = record { bytes = nak; is_answered = refl; bytes_are = refl; last = last };
    after_is = ap (λ (a : Asked). output_with plant n a entries output) asks;
  }
  answers-first Ack a n output asks told last = record {
    next = output;
    answers = record { bytes = []; is_answered = refl; bytes_are = sym (append-nil output.bytes); last = last };
    after_is = ap (λ (a : Asked). output_with plant n a entries output) asks;
  }
  answers-first Nak a n output asks told last = record {
    next = repeated output;
    answers = answers-nak output.bytes output.last output.repeats last;
    after_is = ap (λ (a : Asked). output_with plant n a entries output) asks;
  }

  -- what was told of items in front, and of those behind
  told_parts : (front later : List Asked) (item n : ℕ) → n ≡ item + length front → AllTold item (front ++ later) entries → AllTold item front entries × AllTold n later entries
  told_parts [] later item n is told = let P : ℕ → Type 0 = λ n. AllTold n later entries in let here : item ≡ n = omega arith in (tt, subst P here told)
  told_parts (a ∷ front) later item n is told = let parts = told_parts front later (item + 1) n (omega arith) told.1 in ((told.0, parts.0), parts.1)

  pub told_front : (front later : List Asked) → AllTold 0 (front ++ later) entries → AllTold 0 front entries
  told_front front later told = (told_parts front later 0 (length front) (omega arith) told).0

  abbrev pub output_of : List Asked → Output
  output_of asked = output_from plant 0 asked entries nothing_sent

  -- One item more is answered,
  pub answers-next : (front others : List Asked) (item : Item (List ℕ)) (a : Asked) (n : ℕ) → n ≡ 0 + length front → Asks item a → AllTold 0 (front ++ a ∷ others) entries
      → IsLast (output_of front).last → AnswersFirst item n (output_of front) (output_of (front ++ a ∷ []))
  answers-next front others item a n is asks told last =
      let parts = told_parts front (a ∷ others) 0 n is told in
      let First : Output → Type 0 = λ after. AnswersFirst item n (output_of front) after in
      subst First (sym (output_more plant front a 0 n entries nothing_sent is parts.0)) (answers-first item a n (output_of front) asks parts.1.0 last)

  -- behind which what may be sent again tells something,
  pub last-next : (item : Item (List ℕ)) (n : ℕ) (before after : Output) → AnswersFirst item n before after → IsLast after.last
  last-next item n before after first =
      let LastOf : Output → Type 0 = λ output. IsLast output.last in
      subst LastOf (sym first.after_is) (last-frames (polled_at (n + 1) entries) first.next (polled-tell (n + 1) entries) first.answers.last)

  pub last-items : (asked front : List Asked) (its : List (Item (List ℕ))) → AllAsk its asked → AllTold 0 (front ++ asked) entries → IsLast (output_of front).last
      → IsLast (output_of (front ++ asked)).last
  last-items [] front [] ask told last = let LastOf : List Asked → Type 0 = λ asked. IsLast (output_of asked).last in subst LastOf (sym (append-nil front)) last
  last-items [] front (item ∷ its) ask told last = absurd ask
  last-items (a ∷ asked) front [] ask told last = absurd ask
  last-items (a ∷ asked) front (item ∷ its) ask told last =
      let LastOf : List Asked → Type 0 = λ asked. IsLast (output_of asked).last in
      let ToldOf : List Asked → Type 0 = λ asked. AllTold 0 asked entries in
      let same = append_assoc front (a ∷ []) asked in
      let first = answers-next front asked item a (length front) (omega arith) ask.0 told last in
      subst LastOf same (last-items asked (front ++ a ∷ []) its ask.1 (subst ToldOf (sym same) told) (last-next item (length front) (output_of front) (output_of (front ++ a ∷ [])) first))
