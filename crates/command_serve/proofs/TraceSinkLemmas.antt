-- Files of traces that are made and given back, one after the other.
use Rattle.std.proofs.Common.{◌≡◌, ℕ, ◌<◌, ◌≤◌, List, [], ◌∷◌, ◌++◌, length, map, take, suc, refl, sym, ◌∙◌, ap, subst, append_assoc, arith}
use Rattle.std.proofs.lemmas.List.{append-nil, length-append, map-append}
use Rattle.std.proofs.lemmas.Option.{slice_get_within}
use Rattle.ctl_io.specs.Custody.{FilesCustody, SinkEnd, lent}
use Rattle.ctl_io.specs.Faults.{count_after, is_faulty, one_more}
use Rattle.command_rows.specs.Moment.{Snapshot}
use Rattle.command_rows.specs.MadeFile.{MakesFile, IsAsMade, TakesBack}
use Rattle.command_serve.specs.Traces.{MakesFiles, AreAsMade, TakesAllBack, FailsAt}

-- one file more
made_behind : (names : List (List ℕ)) (name : List ℕ) (before between now : Snapshot) → MakesFiles names before between → MakesFile name between now → MakesFiles (names ++ name ∷ []) before now
made_behind [] name before between now makes make = (now, subst (λ (s : Snapshot). MakesFile name s now) makes make, refl)
made_behind (first ∷ names) name before between now makes make = (makes.0, makes.1, made_behind names name makes.0 between now makes.2 make)

pub makes-more : (all names : List (List ℕ)) (name : List ℕ) (before between now : Snapshot) → all ≡ names ++ name ∷ [] → MakesFiles names before between → MakesFile name between now → MakesFiles all before now
makes-more all names name before between now are makes make = subst (λ (ns : List (List ℕ)). MakesFiles ns before now) (sym are) (made_behind names name before between now makes make)

-- one sink more
shown_behind : (names : List (List ℕ)) (shown : List SinkEnd) (name : List ℕ) (last : SinkEnd) → AreAsMade names shown → IsAsMade name last → AreAsMade (names ++ name ∷ []) (shown ++ last ∷ [])
shown_behind [] [] name last made one = (one, tt)
shown_behind (other ∷ names) (first ∷ shown) name last made one = (made.0, shown_behind names shown name last made.1 one)
shown_behind [] (first ∷ shown) name last made one = absurd made
shown_behind (other ∷ names) [] name last made one = absurd made

pub as_made-more : {K : Type 0} (end : K → SinkEnd) (all names : List (List ℕ)) (name : List ℕ) (more sinks : List K) (sink : K) → all ≡ names ++ name ∷ [] → more ≡ sinks ++ sink ∷ []
    → AreAsMade names (map end sinks) → IsAsMade name (end sink) → AreAsMade all (map end more)
as_made-more end all names name more sinks sink are is made one =
    let shown : map end sinks ++ end sink ∷ [] ≡ map end more = sym (ap (map end) is ∙ map-append end sinks (sink ∷ [])) in
    subst (λ (ns : List (List ℕ)). AreAsMade ns (map end more)) (sym are) (subst (λ (ends : List SinkEnd). AreAsMade (names ++ name ∷ []) ends) shown (shown_behind names (map end sinks) name (end sink) made one))

pub out-more : {K : Type 0} (more sinks : List K) (sink : K) (before now : FilesCustody) → more ≡ sinks ++ sink ∷ [] → now ≡ record before { sinks = lent before.sinks } → length sinks ≤ before.sinks.out
    → length more ≤ now.sinks.out
out-more more sinks sink before now is hands few = omega (arith, few, ap length is, length-append sinks (sink ∷ []), ap (λ (custody : FilesCustody). custody.sinks.out) hands)

-- What was given back of sinks, the last first, until these were left.
pub record GaveBack {K : Type 0} (end : K → SinkEnd) (all left : List K) (before now : Snapshot) : Type 0 where
  pub back : List SinkEnd
  pub parts : map end left ++ back ≡ map end all
  pub takes : TakesAllBack back before now

pub back-none : {K : Type 0} (end : K → SinkEnd) (all : List K) (now : Snapshot) → GaveBack end all all now now
back-none end all now = record { back = []; parts = append-nil (map end all); takes = refl }

pub back-more : {K : Type 0} (end : K → SinkEnd) (all left fewer : List K) (sink : K) (before between now : Snapshot) → left ≡ fewer ++ sink ∷ [] → GaveBack end all left before between
    → TakesBack (end sink) between now → GaveBack end all fewer before now
back-more end all left fewer sink before between now is gave takes = record {
  back = end sink ∷ gave.back;
  parts =
      sym (append_assoc (map end fewer) (end sink ∷ []) gave.back)
      ∙ ap (λ (ends : List SinkEnd). ends ++ gave.back) (sym (map-append end fewer (sink ∷ [])) ∙ ap (map end) (sym is))
      ∙ gave.parts;
  takes = (between, gave.takes, takes);
}

-- all were given back
pub back-all : {K : Type 0} (end : K → SinkEnd) (all left : List K) (before now : Snapshot) → left ≡ [] → GaveBack end all left before now → TakesAllBack (map end all) before now
back-all end all left before now none gave = subst (λ (shown : List SinkEnd). TakesAllBack shown before now) (ap (λ (ks : List _). map end ks ++ gave.back) (sym none) ∙ gave.parts) gave.takes

-- as many sinks as names
pub as_made-length : (names : List (List ℕ)) (shown : List SinkEnd) → AreAsMade names shown → length shown ≡ length names
as_made-length [] [] made = refl
as_made-length (name ∷ names) (first ∷ shown) made = ap suc (as_made-length names shown made.1)
as_made-length [] (first ∷ shown) made = absurd made
as_made-length (name ∷ names) [] made = absurd made

-- files that are made have no fault, and neither have sinks that are given back as they were made
pub made-faults : (names : List (List ℕ)) (before now : Snapshot) → MakesFiles names before now → now.faults ≡ before.faults
made-faults [] before now makes = ap (λ (s : Snapshot). s.faults) makes
made-faults (name ∷ later) before now makes = made-faults later makes.0 now makes.2 ∙ makes.1.faults

pub back-faults : (names : List (List ℕ)) (shown : List SinkEnd) (before now : Snapshot) → AreAsMade names shown → TakesAllBack shown before now → now.faults ≡ before.faults
back-faults [] [] before now made takes = ap (λ (s : Snapshot). s.faults) takes
back-faults (name ∷ names) (first ∷ shown) before now made takes =
    takes.2.faults ∙ ap (λ (count : ℕ). count_after (is_faulty count) takes.0.faults) made.0.no_faults ∙ back-faults names shown before takes.0 made.1 takes.1
back-faults [] (first ∷ shown) before now made takes = absurd made
back-faults (name ∷ names) [] before now made takes = absurd made

-- a file that could not be made is one fault
pub fails_at-faults : (names : List (List ℕ)) (place : ℕ) (before now : Snapshot) → FailsAt names place before now → now.faults ≡ one_more before.faults
fails_at-faults names place before now fails =
    back-faults (take place names) fails.shown fails.stopped now fails.stops.as_made fails.takes ∙ fails.stops.fails.faults
    ∙ ap one_more (made-faults (take place names) before fails.stops.made fails.stops.makes)

-- the place of a file that could not be made is one of a name
pub fails_at-within : (names : List (List ℕ)) (place : ℕ) (before now : Snapshot) → FailsAt names place before now → place < length names
fails_at-within names place before now fails = slice_get_within names place fails.stops.name fails.stops.at
