-- The lines of the traces of all seats are those of the history, each once.
use Rattle.std.proofs.Common.{◌≡◌, ◌≢◌, ℕ, suc, zero, ◌+◌, ◌<◌, ◌≤◌, ◌==◌, ◌^◌, true, false, if◌then◌else◌, cond, List, [], ◌∷◌, ◌++◌, All, map, flat_map, filter, length, refl, sym, ap, ◌∙◌, subst, arith, IsPermutation, eq-eqb}
use Rattle.std.specs.List.{enumerate_from}
use Rattle.std.proofs.lemmas.List.{map-append}
use Rattle.std.proofs.lemmas.List.Concat.{flat_map-append}
use Rattle.std.proofs.lemmas.List.Elements.{All-nil, All-cons, All-head, All-tail}
use Rattle.std.proofs.lemmas.List.Sorted.{IsPermutation-map, All-permutation}
use Rattle.line_text.specs.Laws.{IsLine, text_of}
use Rattle.line_text.specs.Lines.{lines}
use Rattle.line_text.proofs.JoinLemmas.{lines-read}
use Rattle.history_lock.specs.History.{entries_of}
use Rattle.history_lock.specs.Shares.{own_entries}
use Rattle.plant_config.specs.Plant.{PlantData}
use Rattle.panel_session.specs.Entry.{PlantEntry}
use Rattle.panel_session.specs.Served.{PlantSeat, own_lines}
use Rattle.trace_lines.specs.TraceLine.{trace_limit, entry_text, MayTrace}
use Rattle.panel_session.specs.Reply.{reply_text}
use Rattle.panel_session.proofs.TraceEnds.{lines_end_once}
use Rattle.trace_audit.specs.Laws.{AreLinesOf, lines_from}

-- the line of an entry at its position
abbrev pub line_at : PlantData → ℕ × PlantEntry → List ℕ
line_at plant one = entry_text one.0 one.1.request (reply_text plant one.1.request one.1.answers)

lines_placed : (plant : PlantData) (position : ℕ) (history : List PlantEntry) → lines_from plant position history ≡ map (line_at plant) (enumerate_from position history)
lines_placed plant position [] = refl
lines_placed plant position (entry ∷ later) = ap (λ (more : List (List ℕ)). line_at plant (position, entry) ∷ more) (lines_placed plant (position + 1) later)

-- what one seat traced
own_text : (plant : PlantData) (seat position : ℕ) (seen : List PlantEntry) → own_lines plant seat position seen ≡ text_of (map (line_at plant) (filter (λ one. one.1.seat == seat) (enumerate_from position seen)))
own_text plant seat position [] = refl
own_text plant seat position (entry ∷ later) =
    let more = own_text plant seat (position + 1) later in
    let own = filter (λ (one : ℕ × PlantEntry). one.1.seat == seat) (enumerate_from (position + 1) later) in
    let line = line_at plant (position, entry) in
    elim (entry.seat == seat) as (λ b. (if b then line ++ 10 ∷ [] else []) ++ own_lines plant seat (position + 1) later ≡ text_of (map (line_at plant) (cond b ((position, entry) ∷ own) own))) [
      | true ↦ ap (λ (text : List ℕ). (line ++ 10 ∷ []) ++ text) more
      | false ↦ more
    ]

-- and what all did, one seat after another
all_text : (plant : PlantData) (seats : List PlantSeat) → flat_map (λ seat. own_lines plant seat.number 0 seat.seen) seats ≡ text_of (map (line_at plant) (flat_map own_entries seats))
all_text plant [] = refl
all_text plant (seat ∷ seats) =
    let others = flat_map own_entries seats in
    ap (λ (text : List ℕ). text ++ flat_map (λ (seat : PlantSeat). own_lines plant seat.number 0 seat.seen) seats) (own_text plant seat.number 0 seat.seen)
    ∙ ap (λ (text : List ℕ). text_of (map (line_at plant) (own_entries seat)) ++ text) (all_text plant seats)
    ∙ sym (flat_map-append (λ (line : List ℕ). line ++ 10 ∷ []) (map (line_at plant) (own_entries seat)) (map (line_at plant) others))
    ∙ ap text_of (sym (map-append (line_at plant) (own_entries seat) others))

-- an entry's request may be traced
abbrev pub EntryMayTrace : PlantEntry → Type 0
EntryMayTrace entry = MayTrace entry.request

whole_lines : (plant : PlantData) (position : ℕ) (history : List PlantEntry) → position + length history ≤ trace_limit + 1 → All EntryMayTrace history → All IsLine (map (line_at plant) (enumerate_from position history))
whole_lines plant position [] few may = All-nil IsLine
whole_lines plant position (entry ∷ later) few may =
    All-cons IsLine (line_at plant (position, entry)) (map (line_at plant) (enumerate_from (position + 1) later))
    (lines_end_once plant position entry.request entry.answers (omega arith) (All-head EntryMayTrace entry later may))
    (whole_lines plant (position + 1) later (omega arith) (All-tail EntryMayTrace entry later may))

pub lines_of_all : (plant : PlantData) (past : List PlantEntry) (seats : List PlantSeat) (trace : List ℕ) → length past ≤ trace_limit + 1 → All EntryMayTrace past → IsPermutation (enumerate_from 0 past) (flat_map own_entries seats)
    → trace ≡ flat_map (λ seat. own_lines plant seat.number 0 seat.seen) seats → AreLinesOf plant past (lines trace)
lines_of_all plant past seats trace few may shared is =
    let own = map (line_at plant) (flat_map own_entries seats) in
    let moved : IsPermutation (map (line_at plant) (enumerate_from 0 past)) own = IsPermutation-map (line_at plant) (enumerate_from 0 past) (flat_map own_entries seats) shared in
    let whole : All IsLine own = All-permutation IsLine (map (line_at plant) (enumerate_from 0 past)) own moved (whole_lines plant 0 past (omega arith) may) in
    let read : lines trace ≡ own = ap lines (is ∙ all_text plant seats) ∙ lines-read own whole in
    let From : List (List ℕ) → Type 0 = λ front. IsPermutation front own in
    let To : List (List ℕ) → Type 0 = λ read. IsPermutation (lines_from plant 0 past) read in
    subst To (sym read) (subst From (sym (lines_placed plant 0 past)) moved)

-- What is true of the entries of each seat is true of all entries.
pub all_of_seats : (P : PlantEntry → Type 0) (count : ℕ) (past : List PlantEntry) → All (λ entry. entry.seat < count) past → ((seat : ℕ) → seat < count → All P (entries_of seat past)) → All P past
all_of_seats P count [] below each = All-nil P
all_of_seats P count (entry ∷ later) below each =
    let Below : PlantEntry → Type 0 = λ entry. entry.seat < count in
    let mine : All P (cond (entry.seat == entry.seat) (entry ∷ entries_of entry.seat later) (entries_of entry.seat later)) = each entry.seat (All-head Below entry later below) in
    let Chosen : List PlantEntry → Type 0 = λ chosen. All P chosen in
    let here = subst Chosen (ap (λ b. cond b (entry ∷ entries_of entry.seat later) (entries_of entry.seat later)) (eq-eqb entry.seat entry.seat refl)) mine in
    All-cons P entry later (All-head P entry (entries_of entry.seat later) here)
    (all_of_seats P count later (All-tail Below entry later below) (λ seat within. behind seat (each seat within)))
  where
    behind : (seat : ℕ) → All P (entries_of seat (entry ∷ later)) → All P (entries_of seat later)
    behind seat all =
        elim (entry.seat == seat) as (λ b. All P (cond b (entry ∷ entries_of seat later) (entries_of seat later)) → All P (entries_of seat later)) [
          | true ↦ λ all. All-tail P entry (entries_of seat later) all
          | false ↦ λ all. all
        ] all
