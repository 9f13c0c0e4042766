-- What lists of entries say, with one entry more.
use Rattle.std.proofs.Common.{◌≡◌, ℕ, suc, ◌+◌, true, false, Bool, cond, List, [], ◌∷◌, ◌++◌, length, Option, Some, None, refl, sym, ap, ◌∙◌, subst, arith, eq-eqb}
use Rattle.std.specs.Prelude.{IsSome, find}
use Rattle.std.specs.Option.{option_map}
use Rattle.std.proofs.lemmas.Grind.{flat_map-append}
use Rattle.std.proofs.lemmas.Bool.{ne_eqb}
use Rattle.std.proofs.lemmas.List.{append-nil}
use Rattle.dle_framing.specs.declared.item.Item.{Item}
use Rattle.swp08_messages.specs.declared.message.Message.{Message}
use Rattle.plant_core.specs.declared.answer.Answer.{Answer}
use Rattle.plant_core.specs.declared.request.Request.{Request}
use Rattle.plant_core.specs.declared.request.Request.TheVariants.{Told, Poll}
use Rattle.panel_session.specs.declared.session.asked.Asked.{Asked}
use Rattle.panel_session.specs.declared.session.asked.Asked.TheVariants.{Nothing, Repeat, Refused, Noted, Named, Sent}
use Rattle.panel_session.specs.Entry.{PlantEntry}
use Rattle.panel_session.specs.Asked.{AllAsk, sent_to_plant}
use Rattle.panel_session.specs.Text.{frames_of, polled_by, polled_at, is_told_at, told_at}
use Rattle.panel_session.specs.StandsInside.{IsTold, AllTold, NoneFrom}
use Rattle.panel_session.proofs.OutputLemmas.{SayTheSame}

-- An entry of something else changes nothing of what an item was told.
pub told_at-other : (k : ℕ) (entries : List PlantEntry) (entry : PlantEntry) → is_told_at k entry.request ≡ false → told_at k (entries ++ entry ∷ []) ≡ told_at k entries
told_at-other k [] entry other = ap (λ (test : Bool). option_map (λ (entry : PlantEntry). entry.answers) (cond test (Some entry) None)) other
told_at-other k (first ∷ entries) entry other =
    elim (is_told_at k first.request) as (λ test.
    option_map (λ (entry : PlantEntry). entry.answers) (cond test (Some first) (find (λ (entry : PlantEntry). is_told_at k entry.request) (entries ++ entry ∷ [])))
    ≡ option_map (λ (entry : PlantEntry). entry.answers) (cond test (Some first) (find (λ (entry : PlantEntry). is_told_at k entry.request) entries))) [
      | true ↦ refl
      | false ↦ told_at-other k entries entry other
    ]

-- The entry of an item that had none.
pub told_at-new : (k : ℕ) (entries : List PlantEntry) (entry : PlantEntry) → is_told_at k entry.request ≡ true → told_at k entries ≡ None → told_at k (entries ++ entry ∷ []) ≡ Some entry.answers
told_at-new k [] entry told none = ap (λ (test : Bool). option_map (λ (entry : PlantEntry). entry.answers) (cond test (Some entry) None)) told
told_at-new k (first ∷ entries) entry told none =
    (elim (is_told_at k first.request) as (λ test.
    option_map (λ (entry : PlantEntry). entry.answers) (cond test (Some first) (find (λ (entry : PlantEntry). is_told_at k entry.request) entries)) ≡ None
    → option_map (λ (entry : PlantEntry). entry.answers) (cond test (Some first) (find (λ (entry : PlantEntry). is_told_at k entry.request) (entries ++ entry ∷ [])))
    ≡ Some entry.answers) [
      | true ↦ λ some. cc
      | false ↦ λ none. told_at-new k entries entry told none
    ]) none

-- The polls behind an item, with one entry more.
pub polled_at-more : (k : ℕ) (entries : List PlantEntry) (entry : PlantEntry) → polled_at k (entries ++ entry ∷ []) ≡ polled_at k entries ++ frames_of (polled_by k entry.request entry.answers)
polled_at-more k entries entry =
    flat_map-append (λ (entry : PlantEntry). frames_of (polled_by k entry.request entry.answers)) entries (entry ∷ [])
    ∙ ap (λ (more : List (List ℕ)). polled_at k entries ++ more) (append-nil (frames_of (polled_by k entry.request entry.answers)))

pub polled_at-same : (k : ℕ) (entries : List PlantEntry) (entry : PlantEntry) → polled_by k entry.request entry.answers ≡ [] → polled_at k (entries ++ entry ∷ []) ≡ polled_at k entries
polled_at-same k entries entry none =
    polled_at-more k entries entry ∙ ap (λ (more : List Answer). polled_at k entries ++ frames_of more) none ∙ append-nil (polled_at k entries)

-- items ask as many things as they are
pub length-ask : (xs : List (Item (List ℕ))) (asked : List Asked) → AllAsk xs asked → length asked ≡ length xs
length-ask [] [] ask = refl
length-ask [] (a ∷ asked) ask = absurd ask
length-ask (x ∷ xs) [] ask = absurd ask
length-ask (x ∷ xs) (a ∷ asked) ask = ap suc (length-ask xs asked ask.1)

pub all_ask-append : (xs ys : List (Item (List ℕ))) (asked others : List Asked) → AllAsk xs asked → AllAsk ys others → AllAsk (xs ++ ys) (asked ++ others)
all_ask-append [] ys [] others ask ask_others = ask_others
all_ask-append [] ys (a ∷ asked) others ask ask_others = absurd ask
all_ask-append (x ∷ xs) ys [] others ask ask_others = absurd ask
all_ask-append (x ∷ xs) ys (a ∷ asked) others ask ask_others = (ask.0, all_ask-append xs ys asked others ask.1 ask_others)

pub all_told-append : (xs : List Asked) (a : Asked) (item n : ℕ) (entries : List PlantEntry) → n ≡ item + length xs → AllTold item xs entries → IsTold n a entries → AllTold item (xs ++ a ∷ []) entries
all_told-append [] a item n entries is told one =
    let P : ℕ → Type 0 = λ n. IsTold n a entries in
    let here : n ≡ item = omega arith in
    (subst P here one, tt)
all_told-append (x ∷ xs) a item n entries is told one = (told.0, all_told-append xs a (item + 1) n entries (omega arith) told.1 one)

is_told-same : (a : Asked) (item : ℕ) (entries others : List PlantEntry) → told_at item others ≡ told_at item entries → IsTold item a entries → IsTold item a others
is_told-same Nothing item entries others same told = told
is_told-same Repeat item entries others same told = told
is_told-same Refused item entries others same told = told
is_told-same Noted item entries others same told = told
is_told-same (Named message) item entries others same told = told
is_told-same (Sent message) item entries others same told = let P : Option (List Answer) → Type 0 = λ answers. IsSome answers in subst P (sym same) told

pub all_told-same : (xs : List Asked) (item n : ℕ) (entries others : List PlantEntry) → n ≡ item + length xs → SayTheSame item n entries others → AllTold item xs entries → AllTold item xs others
all_told-same [] item n entries others is same told = told
all_told-same (x ∷ xs) item n entries others is same told = (
  is_told-same x item entries others (same.told item (omega arith) (omega arith)) told.0,
  all_told-same xs (item + 1) n entries others (omega arith)
      (record { told = λ k from below. same.told k (omega arith) below; polled = λ k from below. same.polled k (omega arith) below }) told.1,
)

pub sent-append : (xs : List Asked) (a : Asked) (panel item n : ℕ) → n ≡ item + length xs → sent_to_plant panel item (xs ++ a ∷ []) ≡ sent_to_plant panel item xs ++ sent_to_plant panel n (a ∷ [])
sent-append [] a panel item n is = let here : item ≡ n = omega arith in ap (λ (item : ℕ). sent_to_plant panel item (a ∷ [])) here
sent-append (Nothing ∷ xs) a panel item n is = sent-append xs a panel (item + 1) n (omega arith)
sent-append (Repeat ∷ xs) a panel item n is = sent-append xs a panel (item + 1) n (omega arith)
sent-append (Refused ∷ xs) a panel item n is = sent-append xs a panel (item + 1) n (omega arith)
sent-append (Noted ∷ xs) a panel item n is = sent-append xs a panel (item + 1) n (omega arith)
sent-append (Named message ∷ xs) a panel item n is = sent-append xs a panel (item + 1) n (omega arith)
sent-append (Sent message ∷ xs) a panel item n is = ap (λ (sent : List Request). Told panel item message ∷ sent) (sent-append xs a panel (item + 1) n (omega arith))

-- A told entry is of its own item alone, and of no poll.
pub says_told : (n : ℕ) (panel : ℕ) (message : Message) (entries : List PlantEntry) (entry : PlantEntry) → entry.request ≡ Told panel n message → SayTheSame 0 n entries (entries ++ entry ∷ [])
says_told n panel message entries entry is = record {
  told = λ k from below. told_at-other k entries entry (ap (is_told_at k) is ∙ ne_eqb n k (omega arith));
  polled = λ k from below. polled_at-same k entries entry (ap (λ (request : Request). polled_by k request entry.answers) is);
}

-- A poll's entry is of the polls behind as many items, and of no told item.
pub says_poll : (n : ℕ) (panel turn : ℕ) (entries : List PlantEntry) (entry : PlantEntry) → entry.request ≡ Poll panel n turn → SayTheSame 0 n entries (entries ++ entry ∷ [])
says_poll n panel turn entries entry is = record {
  told = λ k from below. told_at-other k entries entry (ap (is_told_at k) is);
  polled = λ k from below. polled_at-same k entries entry
      (ap (λ (request : Request). polled_by k request entry.answers) is ∙ ap (λ (test : Bool). cond test entry.answers []) (ne_eqb n k (omega arith)));
}

pub polled_at-poll : (n : ℕ) (panel turn : ℕ) (entries : List PlantEntry) (entry : PlantEntry) → entry.request ≡ Poll panel n turn → polled_at n (entries ++ entry ∷ []) ≡ polled_at n entries ++ frames_of entry.answers
polled_at-poll n panel turn entries entry is =
    polled_at-more n entries entry
    ∙ ap (λ (more : List Answer). polled_at n entries ++ frames_of more)
    (ap (λ (request : Request). polled_by n request entry.answers) is ∙ ap (λ (test : Bool). cond test entry.answers []) (eq-eqb n n refl))

pub told_at-told : (n : ℕ) (panel : ℕ) (message : Message) (entries : List PlantEntry) (entry : PlantEntry) → entry.request ≡ Told panel n message → told_at n entries ≡ None → told_at n (entries ++ entry ∷ []) ≡ Some entry.answers
told_at-told n panel message entries entry is none = told_at-new n entries entry (ap (is_told_at n) is ∙ eq-eqb n n refl) none

-- No later entry, with a told one or a poll more.
pub none_from-told : (n panel : ℕ) (message : Message) (entries : List PlantEntry) (entry : PlantEntry) → entry.request ≡ Told panel n message → NoneFrom n entries → NoneFrom (n + 1) (entries ++ entry ∷ [])
none_from-told n panel message entries entry is none = record {
  told = λ k from. told_at-other k entries entry (ap (is_told_at k) is ∙ ne_eqb n k (omega arith)) ∙ none.told k (omega arith);
  polled = λ k from. polled_at-same k entries entry (ap (λ (request : Request). polled_by k request entry.answers) is) ∙ none.polled k (omega arith);
}

pub none_from-poll : (n panel turn : ℕ) (entries : List PlantEntry) (entry : PlantEntry) → entry.request ≡ Poll panel n turn → NoneFrom n entries → NoneFrom n (entries ++ entry ∷ [])
none_from-poll n panel turn entries entry is none = record {
  told = λ k from. told_at-other k entries entry (ap (is_told_at k) is) ∙ none.told k from;
  polled = λ k from. polled_at-same k entries entry
      (ap (λ (request : Request). polled_by k request entry.answers) is ∙ ap (λ (test : Bool). cond test entry.answers []) (ne_eqb n k (omega arith))) ∙ none.polled k from;
}

pub none_from-more : (n : ℕ) (entries : List PlantEntry) → NoneFrom n entries → NoneFrom (n + 1) entries
none_from-more n entries none = record { told = λ k from. none.told k (omega arith); polled = λ k from. none.polled k (omega arith) }
