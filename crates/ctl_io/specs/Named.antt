-- Lists of names, and of objects that have one.
use Rattle.std.specs.Prelude.{ℕ, Bool, List, [], ◌∷◌, if◌then◌else◌}
use Rattle.std.specs.List.{list_any}
use Rattle.std.specs.Str.{bytes_eq}

-- whether a name is listed
abbrev pub is_listed : List ℕ → List (List ℕ) → Bool
is_listed name names = list_any (λ other. bytes_eq other name) names

-- the elements without the first that passes a test
abbrev pub without_first : {A : Type 0} → (A → Bool) → List A → List A
without_first test [] = []
without_first test (x ∷ xs) = if test x then xs else x ∷ without_first test xs
