-- What a crash leaves of a disk, by what its type says and by its past.
use Rattle.std.proofs.Common.{ℕ, List, Option, None, Some}
use Rattle.ctl_io.specs.DiskPast.{DiskPast, IsMadeBy}
use Rattle.command_rows.specs.LentDisk.{LeavesNow}

-- what has P by the type has P by the past
pub leaves_now : (past : Option DiskPast) (contents : Option (List ℕ)) (may_leave : List ℕ → Type 0) (moment : ℕ) (left_since : ℕ → List ℕ → Type 0) (P : List ℕ → Type 0)
    → IsMadeBy past contents may_leave moment left_since → ((c : List ℕ) → may_leave c → P c) → LeavesNow past P
leaves_now None contents may_leave moment left_since P made has = tt
leaves_now (Some past) contents may_leave moment left_since P made has = λ c may. has c (made.no_less c may)
