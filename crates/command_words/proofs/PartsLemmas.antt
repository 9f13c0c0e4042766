-- What words say of the parts of a form, one after the other.
use Rattle.std.proofs.Common.{◌≡◌, ◌≤◌, ◌<◌, ◌+◌, ◌-◌, refl, sym, ◌∙◌, ap, subst, arith, ℕ, suc, Bool, true, false, List, [], ◌∷◌, length, take, drop, get_or, drop-cons, add-one, Option, Some, None}
use Rattle.std.specs.Prelude.{All, IfSome, IsTrue, ◌↔◌, slice_get}
use Rattle.std.specs.Global.{Global}
use Rattle.std.specs.declared.string.String.{String}
use Rattle.std.specs.String.{string_bytes}
use Rattle.std.proofs.lemmas.Bool.{false≢true}
use Rattle.std.proofs.lemmas.List.{drop-map, drop_all, length-drop, take_all}
use Rattle.std.proofs.lemmas.List.Elements.{All-cons, All-head, All-nil}
use Rattle.std.proofs.lemmas.Option.{get_or_from_slice_get, slice_get_within}
use Rattle.command_words.specs.Parts.{FileKind, Low, Wholes, Prefix, Part, Plant, Whole, Made, Store, Later, Number, Last, AllSay, Said, Says, least_of, number_behind}
use Rattle.command_words.specs.ReadParts.{CanSay, CanSayLast, SayBehind}
use Rattle.command_words.specs.Words.{IsFileName, NameTraces, SaysNumber, texts}

-- ---- a word of one part

module _ (before : ℕ) (part : Part) (word : List ℕ) where
  module _ (low : Low) (most least : ℕ) (is : part ≡ Number low most) (least_is : least ≡ least_of low before) where
    pub number_found : (r : Option ℕ) → IfSome r (SaysNumber least most word) → IfSome r (SayBehind before part word)
    number_found None says = tt
    number_found (Some n) says = subst (λ p. SayBehind before p word n) (sym is) (n, subst (λ l. SaysNumber l most word n) least_is says, refl)

    pub number_only : (r : Option ℕ) → ((n : ℕ) → SaysNumber least most word n → r ≡ Some n)
        → (said : Said part) → Says before part word said → r ≡ Some (number_behind before part said)
    number_only r only =
        subst (λ p. (said : Said p) → Says before p word said → r ≡ Some (number_behind before p said)) (sym is)
        (λ n says. only n (subst (λ l. SaysNumber l most word n) (sym least_is) says))

-- whether a name stands for a part
abbrev pub is_named : Part → Bool
is_named (Number low most) = false
is_named _ = true

pub name_found : (before : ℕ) (part : Part) (word : List ℕ) (r : Option ℕ) → is_named part ≡ true → IfSome r (λ n. (n ≡ before) × IsFileName word) → IfSome r (SayBehind before part word)
name_found before part word None named found = tt
name_found before Plant word (Some n) named found = (word, (refl, found.1), found.0)
name_found before (Whole kind) word (Some n) named found = (word, (refl, found.1), found.0)
name_found before Made word (Some n) named found = (word, (refl, found.1), found.0)
name_found before Store word (Some n) named found = (word, (refl, found.1), found.0)
name_found before (Later kind) word (Some n) named found = (word, (refl, found.1), found.0)
name_found before (Number low most) word (Some n) named found = absurd (false≢true named)

-- ---- the first part, and those behind it

module _ (before : ℕ) (part : Part) (parts : List Part) (last : Last) (word : List ℕ) (words : List (List ℕ)) where
  pub said_behind : (n : ℕ) → SayBehind before part word n → ((said : Said part) → Says before part word said → Some n ≡ Some (number_behind before part said))
      → CanSay before (part ∷ parts) last (word ∷ words) ↔ CanSay n parts last words
  said_behind n found only = (
    λ can.
        let same : number_behind before part can.0.0 ≡ n = let e = only can.0.0 can.1.0 in cc in
        (can.0.1, subst (λ m. AllSay m parts last words can.0.1) same can.1.1),
    λ can. ((found.0, can.0), (found.1, subst (λ m. AllSay m parts last words can.0) found.2 can.1)),
  )

  pub not_said : ((said : Said part) → Says before part word said → None ≡ Some (number_behind before part said)) → CanSay before (part ∷ parts) last (word ∷ words) → ⊥
  not_said only can = let e = only can.0.0 can.1.0 in cc

-- ---- words that are read up to an index

-- So far words say something of the parts, and this number stands before the next.
pub record IsRead (before index : ℕ) (parts : List Part) (last : Last) (words : List (List ℕ)) : Type 0 where
  pub within : index ≤ length words
  pub same : CanSay before (drop index parts) last (drop index words) ↔ CanSay 0 parts last words

pub none_read : (parts : List Part) (last : Last) (words : List (List ℕ)) → IsRead 0 0 parts last words
none_read parts last words = record { within = omega arith; same = (λ can. can, λ can. can) }

-- there is no word for a part
pub no_word : (before : ℕ) (parts : List Part) (last : Last) (words : List (List ℕ)) → 0 < length parts → length words ≤ 0 → CanSay before parts last words → ⊥
no_word before [] last words some few can = omega (arith, some)
no_word before (part ∷ parts) last [] some few can = can.1
no_word before (part ∷ parts) last (word ∷ words) some few can = omega (arith, few)

module _ (before index : ℕ) (parts : List Part) (last : Last) (words : List (List ℕ)) (is : IsRead before index parts last words) (less : index < length parts) where
  pub too_few : length words ≤ index → CanSay 0 parts last words → ⊥
  too_few few can = no_word before (drop index parts) last (drop index words) (omega (arith, less, length-drop {A = Part})) (omega (arith, few, length-drop {A = List ℕ})) (is.same.1 can)

  module _ (part : Part) (word : List ℕ) (part_is : get_or parts index part ≡ part) (word_is : slice_get words index ≡ Some word) where
    within : index < length words
    within = slice_get_within words index word word_is

    parts_are : drop index parts ≡ part ∷ drop (index + 1) parts
    parts_are = rw add-one (drop-cons parts index part less ∙ ap (λ (p : Part). p ∷ drop (suc index) parts) part_is)

    words_are : drop index words ≡ word ∷ drop (index + 1) words
    words_are = rw add-one (drop-cons words index word within ∙ ap (λ (w : List ℕ). w ∷ drop (suc index) words) (get_or_from_slice_get words index word word word_is))

    here : CanSay before (part ∷ drop (index + 1) parts) last (word ∷ drop (index + 1) words) ↔ CanSay 0 parts last words
    here = subst (λ (ps : List Part). CanSay before ps last (word ∷ drop (index + 1) words) ↔ CanSay 0 parts last words) parts_are
        (subst (λ (ws : List (List ℕ)). CanSay before (drop index parts) last ws ↔ CanSay 0 parts last words) words_are is.same)

    pub one_read : (n : ℕ) → SayBehind before part word n → ((said : Said part) → Says before part word said → Some n ≡ Some (number_behind before part said))
        → IsRead n (index + 1) parts last words
    one_read n found only =
        let step = said_behind before part (drop (index + 1) parts) last word (drop (index + 1) words) n found only in
        record { within = omega (arith, within); same = (λ can. here.0 (step.1 can), λ can. step.0 (here.1 can)) }

    pub not_read : ((said : Said part) → Says before part word said → None ≡ Some (number_behind before part said)) → CanSay 0 parts last words → ⊥
    not_read only can = not_said before part (drop (index + 1) parts) last word (drop (index + 1) words) only (here.1 can)

-- all parts are read
pub all_read : (before index : ℕ) (parts : List Part) (last : Last) (words : List (List ℕ)) (b : Bool) → IsRead before index parts last words → length parts ≤ index
    → (IsTrue b ↔ CanSayLast last (drop index words)) → (IsTrue b ↔ CanSay 0 parts last words)
all_read before index parts last words b is past test =
    let here = subst (λ (ps : List Part). CanSay before ps last (drop index words) ↔ CanSay 0 parts last words) (drop_all index parts past) is.same in
    (λ t. here.0 (test.0 t), λ can. test.1 (here.1 can))

-- ---- what stands behind the parts

pub names_last : (last : Last) (kind : FileKind) (words : List (List ℕ)) (b : Bool) → last ≡ Wholes kind → (IsTrue b ↔ NameTraces words) → (IsTrue b ↔ CanSayLast last words)
names_last last kind words b is test = subst (λ l. IsTrue b ↔ CanSayLast l words) (sym is) (λ t. (words, (refl, test.0 t)), λ can. test.1 can.1.1)

pub prefix_last : (last : Last) (words : List (List ℕ)) (b : Bool) → last ≡ Prefix → (IsTrue b ↔ CanSayLast Prefix words) → (IsTrue b ↔ CanSayLast last words)
prefix_last last words b is test = subst (λ l. IsTrue b ↔ CanSayLast l words) (sym is) test

pub few_names : (words : List (List ℕ)) (b : Bool) → length words ≤ 1 → (IsTrue b ↔ All IsFileName words) → (IsTrue b ↔ CanSayLast Prefix words)
few_names [] b few test = (λ t. (None, refl), λ can. test.1 (All-nil IsFileName))
few_names (word ∷ []) b few test = (λ t. (Some word, (refl, All-head IsFileName word [] (test.0 t))), λ can. test.1 (All-cons IsFileName word [] can.1.1 (All-nil IsFileName)))
few_names (word ∷ other ∷ more) b few test = absurd (omega (arith, few))

-- the texts of the words behind so many
pub texts_behind : (words : List (String Global)) (n : ℕ) → texts (take (length words - n) (drop n words)) ≡ drop n (texts words)
texts_behind words n = ap texts (take_all (length words - n) (drop n words) (omega (arith, length-drop {A = String Global}))) ∙ sym (drop-map string_bytes n words)
