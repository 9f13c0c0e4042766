-- What the laws of a message's DATA say.
use Rattle.std.specs.Prelude.{◌≡◌, ℕ, List, Result, Ok, Err}
use Rattle.swp08_messages.specs.declared.fault.ReadFault.{ReadFault}
use Rattle.swp08_messages.specs.declared.message.Message.{Message}
use Rattle.swp08_messages.specs.Spelled.{Spells}
use Rattle.swp08_messages.specs.Refused.{IsRefused}
use Rattle.swp08_messages.specs.Dump.{Page, IsPage, page_text}

-- No DATA spells two messages. [profile]
abbrev pub SpellsOne : Type 0
SpellsOne = (bytes : List ℕ) (m n : Message) → Spells bytes m → Spells bytes n → m ≡ n

-- DATA is refused with one fault at most. [profile]
abbrev pub IsRefusedOnce : List ℕ → Type 0
IsRefusedOnce bytes = (f g : ReadFault) → IsRefused bytes f → IsRefused bytes g → f ≡ g

-- A message that the DATA spells is what was read. [profile]
abbrev pub ReadsSpelled : List ℕ → Result Message ReadFault → Type 0
ReadsSpelled bytes result = (message : Message) → Spells bytes message → result ≡ Ok message

-- A fault with which the DATA is refused is what was answered. [profile]
abbrev pub ReadsRefused : List ℕ → Result Message ReadFault → Type 0
ReadsRefused bytes result = (fault : ReadFault) → IsRefused bytes fault → result ≡ Err fault

-- No two pages of a dump have the same DATA. [profile]
abbrev pub DataOfOnePage : Type 0
DataOfOnePage = (p q : Page) → IsPage p → IsPage q → page_text p ≡ page_text q → p ≡ q
