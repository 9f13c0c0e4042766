-- Lists of copies: what is so of each, how they stand in rounds, and how a list of messages is cut.
use Rattle.std.proofs.Common.{◌≡◌, ◌≢◌, ◌⊎◌, List, [], ◌∷◌, ◌++◌, map, inl, inr, refl, sym, ap, ◌∙◌}
use Rattle.std.proofs.lemmas.List.{map-append}
use Rattle.matrix_driver.specs.declared.crosspoint.Crosspoint.{Crosspoint}
use Rattle.std.specs.List.{AllByRecursion}
use Rattle.matrix_driver.specs.Rounds.{IsOld, InRounds}

pub each_map : (P Q : Crosspoint → Type 0) → ((copy : Crosspoint) → P copy → Q copy) → (xs : List Crosspoint) → AllByRecursion P xs → AllByRecursion Q xs
each_map P Q f [] h = tt
each_map P Q f (x ∷ xs) h = (f x h.0, each_map P Q f xs h.1)

pub each_left : (P : Crosspoint → Type 0) (xs ys : List Crosspoint) → AllByRecursion P (xs ++ ys) → AllByRecursion P xs
each_left P [] ys h = tt
each_left P (x ∷ xs) ys h = (h.0, each_left P xs ys h.1)

pub each_right : (P : Crosspoint → Type 0) (xs ys : List Crosspoint) → AllByRecursion P (xs ++ ys) → AllByRecursion P ys
each_right P [] ys h = h
each_right P (x ∷ xs) ys h = each_right P xs ys h.1

pub each_join : (P : Crosspoint → Type 0) (xs ys : List Crosspoint) → AllByRecursion P xs → AllByRecursion P ys → AllByRecursion P (xs ++ ys)
each_join P [] ys h k = k
each_join P (x ∷ xs) ys h k = (h.0, each_join P xs ys h.1 k)

pub each_lose : (P : Crosspoint → Type 0) (xs : List Crosspoint) (copy : Crosspoint) (ys : List Crosspoint) → AllByRecursion P (xs ++ copy ∷ ys) → AllByRecursion P (xs ++ ys)
each_lose P xs copy ys h = each_join P xs ys (each_left P xs (copy ∷ ys) h) (each_right P xs (copy ∷ ys) h).1

pub rounds_present : (before present : Crosspoint) (xs : List Crosspoint) → AllByRecursion (λ one. one ≡ present) xs → InRounds before present xs
rounds_present before present [] h = tt
rounds_present before present (x ∷ xs) h = inr h

pub rounds_lose : (before present : Crosspoint) (xs : List Crosspoint) (copy : Crosspoint) (ys : List Crosspoint) → InRounds before present (xs ++ copy ∷ ys) → InRounds before present (xs ++ ys)
rounds_lose before present [] copy ys (inl h) = h.1
rounds_lose before present [] copy ys (inr h) = rounds_present before present ys h.1
rounds_lose before present (x ∷ xs) copy ys (inl h) = inl (h.0, rounds_lose before present xs copy ys h.1)
rounds_lose before present (x ∷ xs) copy ys (inr h) = inr (h.0, each_lose (λ one. one ≡ present) xs copy ys h.1)

-- one more copy of the present round, at the end
pub rounds_more : (before present : Crosspoint) (xs : List Crosspoint) → InRounds before present xs → InRounds before present (xs ++ present ∷ [])
rounds_more before present [] h = inr (refl, tt)
rounds_more before present (x ∷ xs) (inl h) = inl (h.0, rounds_more before present xs h.1)
rounds_more before present (x ∷ xs) (inr h) = inr (h.0, each_join (λ one. one ≡ present) xs (present ∷ []) h.1 (refl, tt))

-- the first copy of a new round, behind those of the round before
pub rounds_begin : (before present : Crosspoint) (xs : List Crosspoint) → AllByRecursion (IsOld before present) xs → InRounds before present (xs ++ present ∷ [])
rounds_begin before present [] h = inr (refl, tt)
rounds_begin before present (x ∷ xs) h = inl (h.0, rounds_begin before present xs h.1)

-- a copy is of the present round, or it is of the round before, and so are those that stand before it
pub rounds_at : (before present : Crosspoint) (xs : List Crosspoint) (copy : Crosspoint) (ys : List Crosspoint) → InRounds before present (xs ++ copy ∷ ys) → (copy ≡ present) ⊎ ((copy ≢ present) × AllByRecursion (λ one. one ≢ present) xs)
rounds_at before present [] copy ys (inl h) = inr (h.0.other, tt)
rounds_at before present [] copy ys (inr h) = inl h.0
rounds_at before present (x ∷ xs) copy ys (inl h) =
    elim (rounds_at before present xs copy ys h.1) [
      | inl same ↦ inl same
      | inr old ↦ inr (old.0, (h.0.other, old.1))
    ]
rounds_at before present (x ∷ xs) copy ys (inr h) = inl (each_right (λ one. one ≡ present) xs (copy ∷ ys) h.1).0

-- A list of messages that is cut at one is cut at its copy.
pub record IsCut {M : Type 0} (f : Crosspoint → M) (xs : List Crosspoint) (before : List M) (message : M) (behind : List M) : Type 0 where
  pub front : List Crosspoint
  pub copy : Crosspoint
  pub rest : List Crosspoint
  pub parts : xs ≡ front ++ copy ∷ rest
  pub before_is : before ≡ map f front
  pub message_is : message ≡ f copy
  pub behind_is : behind ≡ map f rest

-- two lists that are one begin with one element, and go on alike
heads : {M : Type 0} (x y : M) (xs ys : List M) → x ∷ xs ≡ y ∷ ys → x ≡ y
heads x y xs ys e = cc

tails : {M : Type 0} (x y : M) (xs ys : List M) → x ∷ xs ≡ y ∷ ys → xs ≡ ys
tails x y xs ys e = cc

longer : {M : Type 0} (f : Crosspoint → M) (x : Crosspoint) (xs : List Crosspoint) (y : M) (before : List M) (message : M) (behind : List M) → y ≡ f x → IsCut f xs before message behind → IsCut f (x ∷ xs) (y ∷ before) message behind
longer f x xs y before message behind first of = record {
  front = x ∷ of.front;
  copy = of.copy;
  rest = of.rest;
  parts = ap (λ xs. x ∷ xs) of.parts;
  before_is = ap (λ y. y ∷ before) first ∙ ap (λ ys. f x ∷ ys) of.before_is;
  message_is = of.message_is;
  behind_is = of.behind_is;
}

pub cut : {M : Type 0} (f : Crosspoint → M) (xs : List Crosspoint) (before : List M) (message : M) (behind : List M) → before ++ message ∷ behind ≡ map f xs → IsCut f xs before message behind
cut f [] [] message behind e = cc
cut f (x ∷ xs) [] message behind e =
    record {
      front = [];
      copy = x;
      rest = xs;
      parts = refl;
      before_is = refl;
      message_is = heads message (f x) behind (map f xs) e;
      behind_is = tails message (f x) behind (map f xs) e;
    }
cut f [] (y ∷ before) message behind e = cc
cut f (x ∷ xs) (y ∷ before) message behind e =
    longer f x xs y before message behind (heads y (f x) (before ++ message ∷ behind) (map f xs) e)
    (cut f xs before message behind (tails y (f x) (before ++ message ∷ behind) (map f xs) e))

pub joined : {M : Type 0} (f : Crosspoint → M) (front rest : List Crosspoint) (before behind : List M) → before ≡ map f front → behind ≡ map f rest → before ++ behind ≡ map f (front ++ rest)
joined f front rest before behind e h = ap (λ before. before ++ behind) e ∙ ap (λ behind. map f front ++ behind) h ∙ sym (map-append f front rest)
