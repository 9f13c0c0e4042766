-- A page of a dump and its bytes.
use Rattle.std.proofs.Common.{◌≡◌, ℕ, ◌+◌, ◌*◌, ◌/◌, ◌%◌, ◌<◌, List, [], ◌∷◌, length, All, Option, Some, None, refl, ap, arith}
use Rattle.std.specs.List.{AllByRecursion, flat_map}
use Rattle.std.proofs.lemmas.List.Elements.{All-from_recursion}
use Rattle.swp08_messages.specs.Field.{number_of, IsSource}
use Rattle.swp08_messages.specs.Dump.{wide_bytes, Page, IsPage, page_text}
use Rattle.swp08_messages.proofs.FieldLemmas.{number_of-below}

-- the bytes of the sources of a page
abbrev numbers : List (Option ℕ) → List ℕ
numbers sources = flat_map (λ source. wide_bytes (number_of source)) sources

length-numbers : (sources : List (Option ℕ)) → length (numbers sources) ≡ 2 * length sources
length-numbers [] = refl
length-numbers (source ∷ sources) = omega (arith, length-numbers sources)

pub length-page_text : (page : Page) → length (page_text page) ≡ 5 + 2 * length page.sources
length-page_text page = omega (arith, length-numbers page.sources)

numbers-bytes : (sources : List (Option ℕ)) → AllByRecursion IsSource sources → AllByRecursion (λ b. b < 256) (numbers sources)
numbers-bytes [] of = tt
numbers-bytes (source ∷ sources) of = let below = number_of-below source of.0 in (omega (arith, below), (omega arith, numbers-bytes sources of.1))

pub page_text-bytes : (page : Page) → IsPage page → All (λ b. b < 256) (page_text page)
page_text-bytes page is =
    All-from_recursion (λ b. b < 256) (page_text page)
    (omega arith, (omega (arith, is.matrix, is.level), (omega (arith, is.most), (omega (arith, is.within), (omega arith, numbers-bytes page.sources is.sources)))))

-- A source by the number that stands for it.
one_source : (s t : Option ℕ) → IsSource s → IsSource t → number_of s ≡ number_of t → s ≡ t
one_source None None is_s is_t e = refl
one_source None (Some t) is_s is_t e = absurd (omega (arith, is_t, e))
one_source (Some s) None is_s is_t e = absurd (omega (arith, is_s, e))
one_source (Some s) (Some t) is_s is_t e = ap Some e

one_list : (ss ts : List (Option ℕ)) → AllByRecursion IsSource ss → AllByRecursion IsSource ts → numbers ss ≡ numbers ts → ss ≡ ts
one_list [] [] of_s of_t e = refl
one_list [] (t ∷ ts) of_s of_t e = absurd cc
one_list (s ∷ ss) [] of_s of_t e = absurd cc
one_list (s ∷ ss) (t ∷ ts) of_s of_t e =
    let high : number_of s / 256 ≡ number_of t / 256 = cc in
    let low : number_of s % 256 ≡ number_of t % 256 = cc in
    let rest : numbers ss ≡ numbers ts = cc in
    let first : s ≡ t = one_source s t of_s.0 of_t.0 (omega (arith, high, low)) in
    let others : ss ≡ ts = one_list ss ts of_s.1 of_t.1 rest in
    cc

-- No two pages have one text.
pub page_text-one : (p q : Page) → IsPage p → IsPage q → page_text p ≡ page_text q → p ≡ q
page_text-one p q is_p is_q e =
    let place : p.matrix * 16 + p.level ≡ q.matrix * 16 + q.level = cc in
    let high : p.first / 256 ≡ q.first / 256 = cc in
    let low : p.first % 256 ≡ q.first % 256 = cc in
    let rest : numbers p.sources ≡ numbers q.sources = cc in
    let matrix : p.matrix ≡ q.matrix = omega (arith, place, is_p.level, is_q.level) in
    let level : p.level ≡ q.level = omega (arith, place, is_p.level, is_q.level) in
    let first : p.first ≡ q.first = omega (arith, high, low) in
    let sources : p.sources ≡ q.sources = one_list p.sources q.sources is_p.sources is_q.sources rest in
    λ i. record { matrix = matrix i; level = level i; first = first i; sources = sources i }
