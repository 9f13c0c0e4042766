-- Sources and sinks in memory by their names.
use Rattle.std.proofs.Common.{◌≡◌, ◌≢◌, ℕ, ◌+◌, ◌<◌, Bool, true, false, cond, ◌==◌, List, [], ◌∷◌, length, get_or, drop, find, filter, Option, Some, None, IfSome, refl, sym, ap, ◌∙◌, subst, inl, inr, add-one}
use Rattle.std.proofs.lemmas.Bool.{cases_Bool}
use Rattle.std.proofs.lemmas.List.{at_drop_more, get_or_default}
use Rattle.std.proofs.lemmas.Slice.Eq.{bytes_eq-Decides}
use Rattle.std.specs.List.{slice_get, AllByRecursion}
use Rattle.std.specs.Str.{bytes_eq}
use Rattle.ctl_io.specs.Calls.{next_fails}
use Rattle.ctl_io.specs.Files.{IfFound, IfMade}
use Rattle.ctl_io.specs.Held.{NoFile, ShowsHeld, Stays, AfterFound, IsNamed}
use Rattle.ctl_io.specs.Named.{without_first, is_listed}
use Rattle.ctl_io.specs.MemFiles.{FilesState, source_has, sink_has, held_by, held_of, lent_source, source_answer, after_source, lent_sink, sink_answer}
use Rattle.ctl_io.specs.declared.files.Found.{Found}
use Rattle.ctl_io.specs.declared.files.Found.TheVariants as found
use Rattle.ctl_io.specs.declared.files.Made.{Made}
use Rattle.ctl_io.specs.declared.files.Made.TheVariants as made
use Rattle.ctl_io.specs.declared.memory.named_objects.NamedSource.{NamedSource}
use Rattle.ctl_io.specs.declared.memory.named_objects.NamedSink.{NamedSink}

-- two reads of one place give one element
pub same_read : {A : Type 0} → (xs : List A) (i : ℕ) (a b : A) → i < length xs → a ≡ get_or xs i a → b ≡ get_or xs i b → a ≡ b
same_read xs i a b in_range is_a is_b = is_a ∙ get_or_default xs i a b in_range ∙ sym is_b

pub found_at : {A : Type 0} → (test : A → Bool) (xs : List A) (i : ℕ) (x : A) → i < length xs → x ≡ get_or xs i x → test x ≡ true → find test (drop i xs) ≡ Some x
found_at {A = A} test xs i x in_range is passes =
    at_drop_more (find test) xs i x in_range
    ∙ ap (λ (e : A). find test (e ∷ drop (i + 1) xs)) (sym is)
    ∙ ap (λ b. cond b (Some x) (find test (drop (i + 1) xs))) passes

pub rest_at : {A : Type 0} → (test : A → Bool) (xs : List A) (i : ℕ) (x : A) → i < length xs → x ≡ get_or xs i x → test x ≡ true → without_first test (drop i xs) ≡ drop (i + 1) xs
rest_at {A = A} test xs i x in_range is passes =
    at_drop_more (without_first test) xs i x in_range
    ∙ ap (λ (e : A). without_first test (e ∷ drop (i + 1) xs)) (sym is)
    ∙ ap (λ b. cond b (drop (i + 1) xs) (x ∷ without_first test (drop (i + 1) xs))) passes

-- of those that all have a fact the first that passes has it, and so have the others
pub first_has : {A : Type 0} → (P : A → Type 0) (test : A → Bool) (xs : List A) → AllByRecursion P xs → IfSome (find test xs) P
first_has P test [] all = tt
first_has P test (x ∷ xs) all = elim (test x) as (λ b. IfSome (cond b (Some x) (find test xs)) P) [ true ↦ all.0 | false ↦ first_has P test xs all.1 ]

pub others_have : {A : Type 0} → (P : A → Type 0) (test : A → Bool) (xs : List A) → AllByRecursion P xs → AllByRecursion P (without_first test xs)
others_have P test [] all = tt
others_have P test (x ∷ xs) all = elim (test x) as (λ b. AllByRecursion P (cond b xs (x ∷ without_first test xs))) [ true ↦ all.1 | false ↦ (all.0, others_have P test xs all.1) ]

-- the first that passes is the first of those that pass, and the others are those behind it
pub find_first : {A : Type 0} → (test : A → Bool) (xs : List A) → find test xs ≡ slice_get (filter test xs) 0
find_first test [] = refl
find_first {A = A} test (x ∷ xs) =
    elim (test x) as (λ b. cond b (Some x) (find test xs) ≡ slice_get (cond b (x ∷ filter test xs) (filter test xs)) 0) [ true ↦ refl | false ↦ find_first test xs ]

pub found_passes : {A : Type 0} → (test : A → Bool) (xs : List A) → IfSome (find test xs) (λ x. test x ≡ true)
found_passes test [] = tt
found_passes test (x ∷ xs) =
    elim (cases_Bool (test x)) [
      | inl passes ↦ let P : Bool → Type 0 = λ b. IfSome (cond b (Some x) (find test xs)) (λ y. test y ≡ true) in subst P (sym passes) passes
      | inr fails ↦ let P : Bool → Type 0 = λ b. IfSome (cond b (Some x) (find test xs)) (λ y. test y ≡ true) in subst P (sym fails) (found_passes test xs)
    ]

pub filter_rest : {A : Type 0} → (test : A → Bool) (xs : List A) → filter test (without_first test xs) ≡ drop 1 (filter test xs)
filter_rest test [] = refl
filter_rest {A = A} test (x ∷ xs) =
    let others : List A = without_first test xs in
    elim (cases_Bool (test x)) [
      | inl passes ↦
          ap (λ b. filter test (cond b xs (x ∷ others))) passes
          ∙ sym (ap (λ b. drop 1 (cond b (x ∷ filter test xs) (filter test xs))) passes)
      | inr fails ↦
          ap (λ b. filter test (cond b xs (x ∷ others))) fails
          ∙ ap (λ b. cond b (x ∷ filter test others) (filter test others)) fails
          ∙ filter_rest test xs
          ∙ sym (ap (λ b. drop 1 (cond b (x ∷ filter test xs) (filter test xs))) fails)
    ]

pub filter_others : {A : Type 0} → (test other : A → Bool) (xs : List A) → ((x : A) → test x ≡ true → other x ≡ false) → filter other (without_first test xs) ≡ filter other xs
filter_others test other [] apart = refl
filter_others {A = A} test other (x ∷ xs) apart =
    let rest : List A = without_first test xs in
    elim (cases_Bool (test x)) [
      | inl passes ↦
          ap (λ b. filter other (cond b xs (x ∷ rest))) passes
          ∙ sym (ap (λ b. cond b (x ∷ filter other xs) (filter other xs)) (apart x passes))
      | inr fails ↦
          ap (λ b. filter other (cond b xs (x ∷ rest))) fails
          ∙ ap (λ (ys : List A). cond (other x) (x ∷ ys) ys) (filter_others test other xs apart)
    ]

pub get_next : {A : Type 0} → (xs : List A) (k : ℕ) → slice_get (drop 1 xs) k ≡ slice_get xs (k + 1)
get_next [] k = refl
get_next (x ∷ xs) k = sym (ap (slice_get (x ∷ xs)) (add-one k))

-- what has one name has no other
pub other_name : (its name other : List ℕ) → other ≢ name → bytes_eq its name ≡ true → bytes_eq its other ≡ false
other_name its name other apart has =
    elim (cases_Bool (bytes_eq its other)) [
      | inl same ↦ absurd (apart (sym ((bytes_eq-Decides its other).0 same) ∙ (bytes_eq-Decides its name).0 has))
      | inr differ ↦ differ
    ]

-- an opening of a name leaves those behind it, and those of every other name
pub next_held : (answer : Found NamedSource) (name : List ℕ) (files : FilesState) → AfterFound answer (held_of files name) (held_of (after_source answer name files) name)
next_held (found.Here entry) name files = λ k.
    ap (λ first. cond (is_listed name files.names) (held_by first) NoFile)
    (ap (λ (xs : List NamedSource). slice_get xs k) (filter_rest (source_has name) files.waiting) ∙ get_next (filter (source_has name) files.waiting) k)
next_held found.Missing name files = λ k. refl
next_held found.Failed name files = λ k. refl

pub other_held : (answer : Found NamedSource) (name other : List ℕ) (files : FilesState) → other ≢ name → Stays (held_of files other) (held_of (after_source answer name files) other)
other_held (found.Here entry) name other files apart = λ k.
    ap (λ (xs : List NamedSource). cond (is_listed other files.names) (held_by (slice_get xs k)) NoFile)
    (filter_others (source_has name) (source_has other) files.waiting (λ entry has. other_name entry.name name other apart has))
other_held found.Missing name other files apart = λ k. refl
other_held found.Failed name other files apart = λ k. refl

-- what is handed out is the first of its name, which is listed
lent_first : (objects : ℕ) (first : Option NamedSource) → IfFound (lent_source objects first) (λ entry. first ≡ Some entry)
lent_first objects None = tt
lent_first objects (Some entry) = elim (objects == 0) as (λ b. IfFound (cond b found.Failed (found.Here entry)) (λ e. Some entry ≡ Some e)) [ true ↦ tt | false ↦ refl ]

lent_held : (name : List ℕ) (entry : NamedSource) (waiting : List NamedSource) → find (source_has name) waiting ≡ Some entry → ShowsHeld (held_by (slice_get (filter (source_has name) waiting) 0)) (Some entry.source.left) × IsNamed name (Some entry.name)
lent_held name entry waiting is =
    let P : Option NamedSource → Type 0 = λ first. ShowsHeld (held_by first) (Some entry.source.left) in
    let Q : Option NamedSource → Type 0 = λ first. IfSome first (λ e. source_has name e ≡ true) in
    (subst P (sym is ∙ find_first (source_has name) waiting) refl, (bytes_eq-Decides entry.name name).0 (subst Q is (found_passes (source_has name) waiting)))

-- a fact that follows of what is found
pub if_found : {S : Type 0} → (P Q : S → Type 0) (answer : Found S) → IfFound answer P → ((source : S) → P source → Q source) → IfFound answer Q
if_found P Q (found.Here source) fact follows = follows source fact
if_found P Q found.Missing fact follows = tt
if_found P Q found.Failed fact follows = tt

abbrev pub IsLent : FilesState → List ℕ → NamedSource → Type 0
IsLent files name entry = ShowsHeld (held_of files name 0) (Some entry.source.left) × IsNamed name (Some entry.name)

found_by : (name : List ℕ) (waiting : List NamedSource) (objects : ℕ) (fails listed : Bool) → IfFound (cond fails found.Failed (cond listed (lent_source objects (find (source_has name) waiting)) found.Missing)) (λ entry. ShowsHeld (cond listed (held_by (slice_get (filter (source_has name) waiting) 0)) NoFile) (Some entry.source.left) × IsNamed name (Some entry.name))
found_by name waiting objects true listed = tt
found_by name waiting objects false false = tt
found_by name waiting objects false true =
    if_found (λ entry. find (source_has name) waiting ≡ Some entry) _ (lent_source objects (find (source_has name) waiting)) (lent_first objects (find (source_has name) waiting)) (λ entry is. lent_held name entry waiting is)

pub found_is_lent : (files : FilesState) (name : List ℕ) → IfFound (source_answer files name) (IsLent files name)
found_is_lent files name = found_by name files.waiting files.objects (next_fails files.calls) (is_listed name files.names)

-- what is handed out of the sinks has the name
lent_sink_first : (objects : ℕ) (first : Option NamedSink) → IfMade (lent_sink objects first) (λ entry. first ≡ Some entry)
lent_sink_first objects None = tt
lent_sink_first objects (Some entry) = elim (objects == 0) as (λ b. IfMade (cond b made.Failed (made.Here entry)) (λ e. Some entry ≡ Some e)) [ true ↦ tt | false ↦ refl ]

if_made : {K : Type 0} → (P Q : K → Type 0) (answer : Made K) → IfMade answer P → ((sink : K) → P sink → Q sink) → IfMade answer Q
if_made P Q (made.Here sink) fact follows = follows sink fact
if_made P Q made.Failed fact follows = tt

made_by : (name : List ℕ) (sinks : List NamedSink) (objects : ℕ) (fails : Bool) → IfMade (cond fails made.Failed (lent_sink objects (find (sink_has name) sinks))) (λ entry. IsNamed name (Some entry.name))
made_by name sinks objects true = tt
made_by name sinks objects false =
    let Q : Option NamedSink → Type 0 = λ first. IfSome first (λ e. sink_has name e ≡ true) in
    if_made (λ entry. find (sink_has name) sinks ≡ Some entry) _ (lent_sink objects (find (sink_has name) sinks)) (lent_sink_first objects (find (sink_has name) sinks))
    (λ entry is. (bytes_eq-Decides entry.name name).0 (subst Q is (found_passes (sink_has name) sinks)))

pub made_is_named : (files : FilesState) (name : List ℕ) → IfMade (sink_answer files name) (λ entry. IsNamed name (Some entry.name))
made_is_named files name = made_by name files.sinks files.objects (next_fails files.calls)
