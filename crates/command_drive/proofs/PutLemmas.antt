-- How many messages are on a way.
use Rattle.std.proofs.Common.{◌≡◌, ℕ, ◌+◌, ◌≤◌, true, false, if◌then◌else◌, List, [], ◌∷◌, ◌++◌, All, length, suc, Option, Some, None, refl, arith, length-append}
use Rattle.std.specs.Option.{option_to_list}
use Rattle.std.proofs.lemmas.List.Elements.{All-cons, All-nil}
use Rattle.swp08_messages.specs.declared.message.Message.{Message}
use Rattle.swp08_messages.specs.declared.message.Message.TheVariants.{Connect, ExtConnect}
use Rattle.matrix_driver.specs.World.{told_by}
use Rattle.command_drive.specs.Drive.{is_lost, put_one, put}

put_one_length : (every number : ℕ) (way : List Message) (message : Message) → length (put_one every number way message) ≤ length way + 1
put_one_length every number way message =
    elim (is_lost every number) as (λ b. length (if b then way else way ++ message ∷ []) ≤ length way + 1) [
      | true ↦ omega arith
      | false ↦ omega (arith, length-append way (message ∷ []))
    ]

pub put_length : (every before : ℕ) (way messages : List Message) → length (put every before way messages) ≤ length way + length messages
put_length every before way [] = omega arith
put_length every before way (message ∷ messages) =
    omega (arith, put_one_length every (suc before) way message, put_length every (suc before) (put_one every (suc before) way message) messages)

-- one message on an empty way
pub one_put : (IsSo : Message → Type 0) (every number : ℕ) (message : Message) → IsSo message → All IsSo (put_one every number [] message)
one_put IsSo every number message is =
    elim (is_lost every number) as (λ b. All IsSo (if b then [] else message ∷ [])) [
      | true ↦ All-nil IsSo
      | false ↦ All-cons IsSo message [] is (All-nil IsSo)
    ]

pub few_sent : (message : Option Message) → length (option_to_list message) ≤ 1
few_sent None = omega arith
few_sent (Some message) = omega arith

pub few_told : (message : Message) → length (told_by message) ≤ 1
few_told (Connect at source) = omega arith
few_told (ExtConnect at source) = omega arith
few_told message = omega arith

-- where one message at most is on two ways, and there is one on one of them
pub none_else : {M : Type 0} (xs ys : List M) → length xs + length ys ≡ 0 → (xs ≡ []) × (ys ≡ [])
none_else [] [] e = (refl, refl)
none_else [] (y ∷ ys) e = absurd (omega (arith, e))
none_else (x ∷ xs) ys e = absurd (omega (arith, e))
