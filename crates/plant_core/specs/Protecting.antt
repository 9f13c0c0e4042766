-- What protects and lifts do to the owners, and what is answered.
use Rattle.std.specs.Prelude.{ℕ, nat_eq, Bool, if◌then◌else◌, Option, Some, None, unwrap_or, is_some}
use Rattle.std.specs.Option.{option_eq}
use Rattle.std.specs.FinMap.{get}
use Rattle.swp08_messages.specs.declared.point.Point.{Point}
use Rattle.swp08_messages.specs.declared.message.Message.{Message}
use Rattle.swp08_messages.specs.declared.message.Message.TheVariants.{ProtectTally, ProtectConnected, ProtectDisconnected}
use Rattle.protects.specs.Owners.{Owners, allows, may_lift, taken, lifted}
use Rattle.change_boards.specs.declared.sort.Sort.TheVariants.{Protect}
use Rattle.history_lock.specs.Step.{Stepped}
use Rattle.plant_core.specs.declared.answer.Answer.{Answer}
use Rattle.plant_core.specs.State.{State, device_of, is_master}
use Rattle.plant_core.specs.Noticed.{marked_for_others}
use Rattle.plant_core.specs.Connects.{says}

-- a message that tells the owner of a place: whether there is one, and its number, 0 where there is none
abbrev pub owner_told : (Point → Bool → ℕ → Message) → Point → Option ℕ → Message
owner_told message at owner = message at (is_some owner) (unwrap_or owner 0)

-- whether a destination has the same owner
abbrev pub has_same_owner : Owners → Owners → ℕ → Bool
has_same_owner one other dest = option_eq nat_eq (get one dest) (get other dest)

-- the state with these owners, which differ at most in one destination: the other panels are given notice where they do
abbrev pub with_owners : State → ℕ → ℕ → Owners → State
with_owners state asker dest owners = record state {
  owners = owners;
  boards = if has_same_owner state.owners owners dest then state.boards
      else marked_for_others state.boards asker dest Protect;
}

-- A panel protects a destination for its device where no other device protects it.
abbrev pub protected : State → ℕ → Point → Option ℕ → Stepped State Answer
protected state panel at None = says state (owner_told ProtectTally at None)
protected state panel at (Some dest) =
    let device = device_of state.plant panel in
    if allows state.owners device dest
    then says (with_owners state panel dest (taken state.owners device dest))
    (owner_told ProtectConnected at (Some device))
    else says state (owner_told ProtectTally at (get state.owners dest))

-- A panel lifts the protect of a destination where no other device protects it, or the panel is a master.
abbrev pub unprotected : State → ℕ → Point → Option ℕ → Stepped State Answer
unprotected state panel at None = says state (owner_told ProtectTally at None)
unprotected state panel at (Some dest) =
    let device = device_of state.plant panel in
    let master = is_master state.plant panel in
    if may_lift state.owners device master dest
    then says (with_owners state panel dest (lifted state.owners device master dest))
    (owner_told ProtectDisconnected at None)
    else says state (owner_told ProtectTally at (get state.owners dest))
