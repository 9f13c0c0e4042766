-- What a standby answers to a request that comes, and what becomes of it, row by row. The rows are looked at in their order.
use Rattle.std.specs.Prelude.{◌≡◌, ◌≢◌, ℕ, ◌<◌, ◌≤◌}
use Rattle.plant_core.specs.declared.request.Request.{Request}
use Rattle.standby.specs.declared.took.Took.{Took}
use Rattle.standby.specs.declared.took.Took.TheVariants.{Old, Beyond, Differs, Kept, Applied}
use Rattle.standby.specs.Standby.{Data, IsKeptAt, limit, keeps, applies}

-- It was applied before: the position is below the applied number, and nothing changed.
pub record IsOld (old : Data) (position : ℕ) (new : Data) : Type 0 where
  pub below : position < old.applied
  pub unchanged : new ≡ old

-- It is beyond the window: the position isn't below the applied number and the window together, and nothing changed.
pub record IsBeyond (old : Data) (position told : ℕ) (new : Data) : Type 0 where
  pub told_is : told ≡ limit old
  pub beyond : told ≤ position
  pub unchanged : new ≡ old

-- Another request is kept for the position, and nothing changed.
pub record IsDifferent (old : Data) (position : ℕ) (request : Request) (new : Data)
    : Type 0 where
  pub other : Request
  pub kept : IsKeptAt old position other
  pub another : other ≢ request
  pub unchanged : new ≡ old

-- The position is in the window, and no other request is kept for it.
pub record MayBeTaken (old : Data) (position : ℕ) (request : Request) : Type 0 where
  pub within : position < limit old
  pub alone : (other : Request) → IsKeptAt old position other → other ≡ request

-- It is above the applied number, and is kept from now on, if it wasn't.
pub record IsKept (old : Data) (position : ℕ) (request : Request) (new : Data) : Type 0 where
  pub may : MayBeTaken old position request
  pub above : old.applied < position
  pub is : new ≡ keeps old position request

-- It is the one that was missing: it is stepped, then those that are kept in a row behind it, and the new applied number is
-- told.
pub record IsApplied (old : Data) (position : ℕ) (request : Request) (told : ℕ) (new : Data)
    : Type 0 where
  pub may : MayBeTaken old position request
  pub here : position ≡ old.applied
  pub is : new ≡ applies old request
  pub told_is : told ≡ new.applied

-- A request comes at a position, and this is answered.
abbrev pub Takes : Data → ℕ → Request → Took → Data → Type 0
Takes old position request Old new = IsOld old position new
Takes old position request (Beyond told) new = IsBeyond old position told new
Takes old position request Differs new = IsDifferent old position request new
Takes old position request Kept new = IsKept old position request new
Takes old position request (Applied told) new = IsApplied old position request told new
