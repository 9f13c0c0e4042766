-- The traces of a plant that was served share the lines of its history.
use Rattle.std.proofs.Common.{◌≡◌, ℕ, zero, suc, ◌+◌, ◌==◌, Bool, true, false, cond, if◌then◌else◌, List, [], ◌∷◌, ◌++◌, map, filter, slice_get, Option, Some, IfSome, refl, sym, ap, ◌∙◌, subst}
use Rattle.std.specs.List.{enumerate_from, flat_map}
use Rattle.std.specs.List.Sorted.{IsPermutation}
use Rattle.std.proofs.lemmas.List.{length-map, map-append}
use Rattle.std.proofs.lemmas.List.Concat.{flat_map-cons}
use Rattle.std.proofs.lemmas.List.Folds.{flat_map-map}
use Rattle.std.proofs.lemmas.List.Sorted.{IsPermutation-map}
use Rattle.ctl_io.specs.Sink.{appended}
use Rattle.history_lock.specs.Shares.{own_entries}
use Rattle.plant_config.specs.Plant.{PlantData}
use Rattle.panel_session.specs.Entry.{PlantEntry}
use Rattle.panel_session.specs.Served.{PlantSeat, TraceData, own_lines}
use Rattle.panel_session.specs.Reply.{trace_line}
use Rattle.panel_server.specs.PlantServed.{ShareLines, lines_of, with_lines}

abbrev pub line_at : PlantData → ℕ × PlantEntry → List ℕ
line_at plant at = trace_line plant at.0 at.1.request at.1.answers

history_lines : (plant : PlantData) (position : ℕ) (past : List PlantEntry) → lines_of plant position past ≡ map (line_at plant) (enumerate_from position past)
history_lines plant position [] = refl
history_lines plant position (entry ∷ later) =
    ap (λ (lines : List (List ℕ)). trace_line plant position entry.request entry.answers ∷ lines) (history_lines plant (position + 1) later)

first_line : (so : Bool) (plant : PlantData) (at : ℕ × PlantEntry) (rest : List (ℕ × PlantEntry))
    → (if so then line_at plant at else []) ++ flat_map (λ (line : List ℕ). line) (map (line_at plant) rest) ≡ flat_map (λ (line : List ℕ). line) (map (line_at plant) (cond so (at ∷ rest) rest))
first_line true plant at rest = sym (flat_map-cons (λ (line : List ℕ). line) (line_at plant at) (map (line_at plant) rest))
first_line false plant at rest = refl

-- the lines of a seat are those of its own entries at their positions
pub seat_lines : (plant : PlantData) (number position : ℕ) (seen : List PlantEntry)
    → own_lines plant number position seen ≡ flat_map (λ (line : List ℕ). line) (map (line_at plant) (filter (λ (at : ℕ × PlantEntry). at.1.seat == number) (enumerate_from position seen)))
seat_lines plant number position [] = refl
seat_lines plant number position (entry ∷ later) =
    ap (λ (lines : List ℕ). (if entry.seat == number then trace_line plant position entry.request entry.answers else []) ++ lines) (seat_lines plant number (position + 1) later)
    ∙ first_line (entry.seat == number) plant (position, entry) (filter (λ (at : ℕ × PlantEntry). at.1.seat == number) (enumerate_from (position + 1) later))

map_flat : {X A B : Type 0} (f : A → B) (g : X → List A) (xs : List X) → map f (flat_map g xs) ≡ flat_map (λ x. map f (g x)) xs
map_flat f g [] = refl
map_flat {X} {A} {B} f g (x ∷ xs) =
    ap (λ (all : List A). map f all) (flat_map-cons g x xs) ∙ map-append f (g x) (flat_map g xs)
    ∙ ap (λ (all : List B). map f (g x) ++ all) (map_flat f g xs) ∙ sym (flat_map-cons (λ (x : X). map f (g x)) x xs)

-- a seat, and its trace before and after
abbrev pub Traced : Type 0
Traced = PlantSeat × TraceData × TraceData

abbrev pub IsWhole : PlantData → Traced → Type 0
IsWhole plant one = one.2.written ≡ appended one.1.written (own_lines plant one.0.number 0 one.0.seen)

abbrev lines_for : PlantData → Traced → List (List ℕ)
lines_for plant one = map (line_at plant) (own_entries one.0)

-- All of them, as a recursion on the list.
abbrev pub AreWhole : PlantData → List Traced → Type 0
AreWhole plant [] = Unit {0}
AreWhole plant (one ∷ later) = IsWhole plant one × AreWhole plant later

first_is : {X : Type 0} (one other : X) → Some one ≡ Some other → one ≡ other
first_is {X} one other is =
    let Is : Option X → Type 0 = λ first. IfSome first (λ z. one ≡ z) in
    subst Is is refl

each_has : (plant : PlantData) (all : List Traced) → AreWhole plant all → (k : ℕ) (trace trace_then : TraceData) (some : List (List ℕ))
    → slice_get (map (λ (one : Traced). one.1) all) k ≡ Some trace → slice_get (map (λ (one : Traced). one.2) all) k ≡ Some trace_then
    → slice_get (map (λ (one : Traced). lines_for plant one) all) k ≡ Some some → trace_then.written ≡ with_lines trace some
each_has plant [] whole k trace trace_then some a b c = absurd cc
each_has plant (one ∷ later) whole zero trace trace_then some a b c =
    let was : one.1 ≡ trace = first_is one.1 trace a in
    let is : one.2 ≡ trace_then = first_is one.2 trace_then b in
    let lines : lines_for plant one ≡ some = first_is (lines_for plant one) some c in
    ap (λ (t : TraceData). t.written) (sym is) ∙ whole.0 ∙ ap (λ (bytes : List ℕ). appended one.1.written bytes) (seat_lines plant one.0.number 0 one.0.seen)
    ∙ ap (λ (t : TraceData). with_lines t (lines_for plant one)) was ∙ ap (λ (all : List (List ℕ)). with_lines trace all) lines
each_has plant (one ∷ later) whole (suc k) trace trace_then some a b c = each_has plant later whole.1 k trace trace_then some a b c

-- So they share the lines.
pub share_of : (plant : PlantData) (past : List PlantEntry) (all : List Traced) → AreWhole plant all
    → IsPermutation (enumerate_from 0 past) (flat_map (λ (seat : PlantSeat). own_entries seat) (map (λ (one : Traced). one.0) all))
    → ShareLines plant past (map (λ (one : Traced). one.1) all) (map (λ (one : Traced). one.2) all)
share_of plant past all whole permuted =
    let lines = map (λ (one : Traced). lines_for plant one) all in
    let Lines = List (List ℕ) in
    record {
      lines = lines;
      counted = length-map all (λ (one : Traced). lines_for plant one) ∙ sym (length-map all (λ (one : Traced). one.1));
      each = each_has plant all whole;
      once = subst (λ (x : Lines). IsPermutation x (flat_map (λ (some : Lines). some) lines)) (sym (history_lines plant 0 past))
          (subst (λ (x : Lines). IsPermutation (map (line_at plant) (enumerate_from 0 past)) x)
          (map_flat (line_at plant) (λ (seat : PlantSeat). own_entries seat) (map (λ (one : Traced). one.0) all)
          ∙ flat_map-map (λ (seat : PlantSeat). map (line_at plant) (own_entries seat)) (λ (one : Traced). one.0) all
          ∙ sym (flat_map-map (λ (some : Lines). some) (λ (one : Traced). lines_for plant one) all))
          (IsPermutation-map (line_at plant) (enumerate_from 0 past) (flat_map (λ (seat : PlantSeat). own_entries seat) (map (λ (one : Traced). one.0) all)) permuted));
    }
