-- What files hold of a name. A name may be opened more than once, so they hold something of it for each of its openings
-- from now, numbered from 0.
use Rattle.std.specs.Prelude.{◌≡◌, ◌≢◌, ◌<◌, ℕ, ◌+◌, List, length, Option, Some, IfSome}
use Rattle.ctl_io.specs.declared.files.Found.{Found}
use Rattle.ctl_io.specs.declared.files.Found.TheVariants.{Here, Missing, Failed}

-- What an opening finds: the files don't show it, or there is no such file, or an object that shows this.
pub data HeldOf (X : Type 0) : Type 0 where
  Unshown : HeldOf X
  NoFile : HeldOf X
  Holds : X → HeldOf X

-- what the opening of a source finds, which shows the bytes that it has left
abbrev pub Held : Type 0
Held = HeldOf (List ℕ)

-- There is a file, and where the files show what it holds, that is so.
abbrev pub IfHeld : {X : Type 0} → HeldOf X → (X → Type 0) → Type 0
IfHeld Unshown P = Unit {0}
IfHeld NoFile P = ⊥
IfHeld (Holds its) P = P its

-- There is a file, and where the files show its bytes, they are these.
abbrev pub IsHeld : Held → List ℕ → Type 0
IsHeld held its = IfHeld held (λ bytes. its ≡ bytes)

-- There is a file, and where the files show its bytes, they are more than the limit.
abbrev pub IsLonger : ℕ → Held → Type 0
IsLonger limit held = IfHeld held (λ bytes. limit < length bytes)

-- There is a file, or the files don't show whether there is.
abbrev pub MayBeHere : Held → Type 0
MayBeHere held = IfHeld held (λ bytes. Unit {0})

-- An object that is handed out shows what the files hold.
abbrev pub ShowsHeld : {X : Type 0} → HeldOf X → Option X → Type 0
ShowsHeld held shown = IfHeld held (λ its. shown ≡ Some its)

-- There is no such file, or the files don't show whether there is.
abbrev pub MayBeMissing : {X : Type 0} → HeldOf X → Type 0
MayBeMissing Unshown = Unit {0}
MayBeMissing NoFile = Unit {0}
MayBeMissing (Holds its) = ⊥

-- Each opening of a name finds what it would have found before.
abbrev pub Stays : {H : Type 0} → (ℕ → H) → (ℕ → H) → Type 0
Stays before now = (opening : ℕ) → now opening ≡ before opening

-- The next opening of a name is gone: each finds what the one behind it would have found before.
abbrev pub CountsOn : {H : Type 0} → (ℕ → H) → (ℕ → H) → Type 0
CountsOn before now = (opening : ℕ) → now opening ≡ before (opening + 1)

-- The openings of every name stay.
abbrev pub AllStay : {H : Type 0} → (List ℕ → ℕ → H) → (List ℕ → ℕ → H) → Type 0
AllStay before now = (name : List ℕ) → Stays (before name) (now name)

-- The openings of every other name stay.
abbrev pub OtherOpeningsStay : {H : Type 0} → List ℕ → (List ℕ → ℕ → H)
    → (List ℕ → ℕ → H) → Type 0
OtherOpeningsStay name before now = (other : List ℕ) → other ≢ name
    → Stays (before other) (now other)

-- The openings of every name stay, but of the name that an object shows.
abbrev pub AllStayBut : {H : Type 0} → Option (List ℕ) → (List ℕ → ℕ → H)
    → (List ℕ → ℕ → H) → Type 0
AllStayBut shown before now =
    (other : List ℕ) → shown ≢ Some other → Stays (before other) (now other)

-- what becomes of the openings of a name where an object was asked for
abbrev pub AfterFound : {S H : Type 0} → Found S → (ℕ → H) → (ℕ → H) → Type 0
AfterFound (Here source) before now = CountsOn before now
AfterFound Missing before now = Stays before now
AfterFound Failed before now = Stays before now

-- Where an object shows the name of its file, that is this one.
abbrev pub IsNamed : List ℕ → Option (List ℕ) → Type 0
IsNamed name shown = IfSome shown (λ its. its ≡ name)
