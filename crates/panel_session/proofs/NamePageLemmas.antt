-- Pages of names, one after the other.
use Rattle.std.proofs.Common.{◌≡◌, ◌≢◌, ℕ, zero, suc, ◌+◌, ◌-◌, ◌*◌, ◌/◌, ◌<◌, ◌≤◌, nat_lt, ◌==◌, Bool, true, false, not, ◌||◌, IfSome, if◌then◌else◌, List, [], ◌∷◌, length, Option, None, Some, inl, inr, refl, sym, ap, ◌∙◌, subst, arith}
use Rattle.std.specs.Prelude.{map}
use Rattle.std.specs.List.{range_with_len}
use Rattle.std.proofs.lemmas.Bool.{cases_lt, lt-ltb, le-ltb}
use Rattle.std.proofs.lemmas.Nat.{div-mul-add}
use Rattle.std.proofs.Math.Nat.{add-div_right}
use Rattle.plant_names.specs.declared.paged.Paged.{Paged}
use Rattle.plant_names.specs.declared.paged.Paged.TheVariants.{Nothing, Last, More}
use Rattle.plant_names.specs.Pages.{HaveNumbers, most_names, page_data, page_end, page_names, names_text}
use Rattle.panel_session.specs.NamePages.{all_pages, page_count, page_from}
use Rattle.dle_framing.specs.Frame.{frame}
use Rattle.plant_config.specs.Plant.{PlantData}
use Rattle.panel_session.specs.declared.sending.name_page.NamePage.{NamePage}
use Rattle.panel_session.specs.Text.{Output, with_frame}
use Rattle.panel_session.specs.NamePagesInside.{HasName, pages_from, pages_behind, command_of, level_of, names_of, data_of, end_of, frames_left, AddsNames}

-- a page has ten names or more
pub most-some : (size : ℕ) → 10 ≤ most_names size
most-some size = elim (size == 0) as (λ test. 10 ≤ (if test then 32 else (if size == 1 then 16 else 10))) [
  | true ↦ omega arith
  | false ↦ elim (size == 1) as (λ test. 10 ≤ (if test then 16 else 10)) [ true ↦ omega arith | false ↦ omega arith ]
]

-- how many pages are left
count-none : (size : ℕ) → page_count size 0 ≡ 0
count-none size =
    let most = most_names size in
    let is : 0 + most - 1 ≡ 0 * most + (most - 1) = omega arith in
    ap (λ (n : ℕ). n / most) is ∙ div-mul-add 0 most (most - 1) (omega (arith, most-some size))

count-one : (size count : ℕ) → 0 < count → count ≤ most_names size → page_count size count ≡ 1
count-one size count some within =
    let most = most_names size in
    let is : count + most - 1 ≡ 1 * most + (count - 1) = omega arith in
    ap (λ (n : ℕ). n / most) is ∙ div-mul-add 1 most (count - 1) (omega arith)

count-more : (size count : ℕ) → most_names size < count → page_count size count ≡ suc (page_count size (count - most_names size))
count-more size count past =
    let most = most_names size in
    let is : count + most - 1 ≡ (count - most + most - 1) + most = omega arith in
    let one_more : page_count size count ≡ page_count size (count - most) + 1 = ap (λ (n : ℕ). n / most) is ∙ add-div_right (count - most + most - 1) (omega (arith, most-some size)) in
    omega (arith, one_more)

map-shift : {X : Type 0} (f : ℕ → X) (from count : ℕ) → map f (range_with_len (from + 1) count) ≡ map (λ k. f (k + 1)) (range_with_len from count)
map-shift f from zero = refl
map-shift f from (suc count) = ap (λ more. f (from + 1) ∷ more) (map-shift f (from + 1) count)

module _ (command matrix level size : ℕ) (names : List (List ℕ)) where
  abbrev page_at : ℕ → List ℕ
  page_at first = page_from command matrix level size names first

  from-none : (first : ℕ) → length names ≤ first → pages_from command matrix level size first (Some names) ≡ []
  from-none first past =
      let most = most_names size in
      let none : length names - first ≡ 0 = omega arith in
      ap (λ (left : ℕ). map (λ (page : ℕ). page_at (first + page * most)) (range_with_len 0 (page_count size left))) none
      ∙ ap (λ (count : ℕ). map (λ (page : ℕ). page_at (first + page * most)) (range_with_len 0 count)) (count-none size)

  from-last : (first : ℕ) → first < length names → length names ≤ first + most_names size → pages_from command matrix level size first (Some names) ≡ page_at first ∷ []
  from-last first some within =
      let most = most_names size in
      let here : first + 0 * most ≡ first = omega arith in
      ap (λ (count : ℕ). map (λ (page : ℕ). page_at (first + page * most)) (range_with_len 0 count)) (count-one size (length names - first) (omega arith) (omega arith))
      ∙ ap (λ (number : ℕ). page_at number ∷ []) here

  from-more : (first : ℕ) → first + most_names size < length names
      → pages_from command matrix level size first (Some names) ≡ page_at first ∷ pages_from command matrix level size (first + most_names size) (Some names)
  from-more first past =
      let most = most_names size in
      let here : first + 0 * most ≡ first = omega arith in
      let left : length names - first - most ≡ length names - (first + most) = omega arith in
      let count = page_count size (length names - (first + most)) in
      let counted : page_count size (length names - first) ≡ suc count =
      count-more size (length names - first) (omega arith) ∙ ap (λ (left : ℕ). suc (page_count size left)) left in
      let on : (page : ℕ) → first + (page + 1) * most ≡ first + most + page * most = λ page. omega arith in
      ap (λ (count : ℕ). map (λ (page : ℕ). page_at (first + page * most)) (range_with_len 0 count)) counted
      ∙ (λ i. page_at (here i) ∷ map-shift (λ (page : ℕ). page_at (first + page * most)) 0 count i)
      ∙ (λ i. page_at first ∷ map (λ (page : ℕ). page_at (on page i)) (range_with_len 0 count))

-- A page ends so: of all pages from it on there is none, or it alone, or it and those from another number on.
abbrev Ends : Paged → List (List ℕ) → List ℕ → (ℕ → List (List ℕ)) → Type 0
Ends Nothing pages carried behind = pages ≡ []
Ends Last pages carried behind = pages ≡ carried ∷ []
Ends (More next) pages carried behind = pages ≡ carried ∷ behind next

module _ (command matrix level size : ℕ) where
  abbrev EndsSo : Bool → ℕ → Option (List (List ℕ)) → Paged → Type 0
  EndsSo one first names end =
      Ends end (pages_behind command matrix level size one first names) (page_data command matrix level one size first names)
      (λ next. pages_behind command matrix level size one next names)

  ends : (one : Bool) (first : ℕ) (names : Option (List (List ℕ))) → EndsSo one first names (page_end one size first names)
  ends true first None = refl
  ends false first None = refl
  ends true first (Some names) =
      let one = names_text command matrix level size first (page_names true size first names) in
      elim (nat_lt first (length names)) as (λ test.
      Ends (if not test then Nothing else Last) (if test then one ∷ [] else []) (if test then one else []) (λ next. pages_behind command matrix level size true next (Some names))) [
        | true ↦ refl
        | false ↦ refl
      ]
  ends false first (Some names) =
      let most = most_names size in
      let all = pages_from command matrix level size first (Some names) in
      let At : Bool → Bool → Type 0 = λ some more.
      Ends (if not some then Nothing else (if not more then Last else More (first + most))) all (if some then page_from command matrix level size names first else [])
      (λ next. pages_from command matrix level size next (Some names)) in
      let AtMore : Bool → Type 0 = λ some. At some (nat_lt (first + most) (length names)) in
      elim (cases_lt first (length names)) [
        | (inl some) ↦ subst AtMore (sym (lt-ltb first (length names) some)) (elim (cases_lt (first + most) (length names)) [
          | (inl more) ↦ subst (At true) (sym (lt-ltb (first + most) (length names) more)) (from-more command matrix level size names first more)
          | (inr last) ↦ subst (At true) (sym (le-ltb (first + most) (length names) last)) (from-last command matrix level size names first some last)
        ])
        | (inr past) ↦ subst AtMore (sym (le-ltb first (length names) past)) (from-none command matrix level size names first past)
      ]

  -- Where there are more pages, they begin ten names behind it or more, and are there.
  abbrev Grows : Option (List (List ℕ)) → ℕ → Paged → Type 0
  Grows names first Nothing = Unit {0}
  Grows names first Last = Unit {0}
  Grows names first (More next) = (first + 10 ≤ next) × (next < 65536) × HasName names next

  grows : (one : Bool) (first : ℕ) (names : Option (List (List ℕ))) → IfSome names HaveNumbers → Grows names first (page_end one size first names)
  grows one first None few = tt
  grows one first (Some names) few =
      let most = most_names size in
      let At : Bool → Bool → Type 0 = λ some more.
      Grows (Some names) first (if not some then Nothing else (if one || not more then Last else More (first + most))) in
      let AtMore : Bool → Type 0 = λ some. At some (nat_lt (first + most) (length names)) in
      elim (cases_lt first (length names)) [
        | (inl some) ↦ subst AtMore (sym (lt-ltb first (length names) some)) (elim (cases_lt (first + most) (length names)) [
          | (inl more) ↦ subst (At true) (sym (lt-ltb (first + most) (length names) more))
              (elim one as (λ one. Grows (Some names) first (if one || false then Last else More (first + most))) [
                | true ↦ tt
                | false ↦ (omega (arith, most-some size), omega (arith, few, more), more)
              ])
          | (inr last) ↦ subst (At true) (sym (le-ltb (first + most) (length names) last))
              (elim one as (λ one. Grows (Some names) first (if one || true then Last else More (first + most))) [ true ↦ tt | false ↦ tt ])
        ])
        | (inr past) ↦ subst AtMore (sym (le-ltb first (length names) past)) tt
      ]

  -- A page that is there has bytes.
  written : (one : Bool) (first : ℕ) (names : Option (List (List ℕ))) → page_end one size first names ≢ Nothing → 1 ≤ length (page_data command matrix level one size first names)
  written one first None some = absurd (some refl)
  written one first (Some names) some =
      let its = names_text command matrix level size first (page_names one size first names) in
      let Long : Bool → Type 0 = λ test. 1 ≤ length (if test then its else []) in
      elim (cases_lt first (length names)) [
        | (inl less) ↦ subst Long (sym (lt-ltb first (length names) less)) (omega arith)
        | (inr past) ↦ absurd (some (ap (λ (test : Bool).
            if not test then Nothing else (if one || not (nat_lt (first + most_names size) (length names)) then Last else More (first + most_names size))) (le-ltb first (length names) past)))
      ]

module _ (plant : PlantData) (page : NamePage) where
  pub is_written : (end : Paged) → end ≡ end_of plant page → end ≢ Nothing → 1 ≤ length (data_of plant page)
  is_written end is some =
      written (command_of page.names) page.matrix (level_of page.names) page.size page.one page.first (names_of plant page.matrix page.names) (λ none. some (is ∙ none))

  next_page : (next : ℕ) → More next ≡ end_of plant page → IfSome (names_of plant page.matrix page.names) HaveNumbers → (page.first + 10 ≤ next) × (next < 65536) × HasName (names_of plant page.matrix page.names) next
  next_page next is few =
      let GrowsTo : Paged → Type 0 = λ end. Grows (command_of page.names) page.matrix (level_of page.names) page.size (names_of plant page.matrix page.names) page.first end in
      subst GrowsTo (sym is) (grows (command_of page.names) page.matrix (level_of page.names) page.size page.one page.first (names_of plant page.matrix page.names) few)

-- The pages of all names are those from 0 on.
pub pages_all : (command matrix level size : ℕ) (names : Option (List (List ℕ))) → pages_from command matrix level size 0 names ≡ all_pages command matrix level size names
pages_all command matrix level size None = refl
pages_all command matrix level size (Some names) =
    let most = most_names size in
    let all : length names - 0 ≡ length names = omega arith in
    let same : (page : ℕ) → 0 + page * most ≡ page * most = λ page. omega arith in
    λ i. map (λ (page : ℕ). page_from command matrix level size names (same page i)) (range_with_len 0 (page_count size (all i)))

module _ (plant : PlantData) (page : NamePage) (output : Output) where
  abbrev SoEnds : Paged → Type 0
  SoEnds end = EndsSo (command_of page.names) page.matrix (level_of page.names) page.size page.one page.first (names_of plant page.matrix page.names) end

  so_ends : (end : Paged) → end ≡ end_of plant page → SoEnds end
  so_ends end is =
      subst SoEnds (sym is) (ends (command_of page.names) page.matrix (level_of page.names) page.size page.one page.first (names_of plant page.matrix page.names))

  -- Where there is no page, nothing is sent.
  pub adds_nothing : Nothing ≡ end_of plant page → AddsNames plant page output None output
  adds_nothing is =
      let none : frames_left plant (Some page) ≡ [] = ap (map frame) (so_ends Nothing is) in
      record { frames = []; frames_are = none; adds = refl; next = tt }

  -- The last page is sent,
  pub adds_last : (output_then : Output) → Last ≡ end_of plant page → output_then ≡ with_frame (frame (data_of plant page)) output → AddsNames plant page output None output_then
  adds_last output_then is sent = record { frames = frame (data_of plant page) ∷ []; frames_are = ap (map frame) (so_ends Last is); adds = sent; next = tt }

  -- or one behind which there are more.
  pub adds_more : (next : ℕ) (output_then : Output) → More next ≡ end_of plant page → IfSome (names_of plant page.matrix page.names) HaveNumbers → page.size ≤ 2 → output_then ≡ with_frame (frame (data_of plant page)) output
      → AddsNames plant page output (Some (record page { first = next })) output_then
  adds_more next output_then is few size sent =
      let grows = next_page plant page next is few in
      record {
        frames = frame (data_of plant page) ∷ [];
        frames_are = ap (map frame) (so_ends (More next) is);
        adds = sent;
        next = record { is_page = record { size = size; first = omega (arith, grows.1) }; behind = grows.0; there = grows.2; same = refl };
      }
