-- What is read of a store's bytes.
use Rattle.std.specs.Prelude.{◌≡◌, ℕ, List, drop, Option, Some, None}
use Rattle.state_store.specs.Slots.{in_slot, gate_is_open, number_of}
use Rattle.state_store.specs.Kept.{Kept, Start, saved, number_kept, head_of, heads_in, kept_in}
use Rattle.state_store.specs.declared.slot.Slot.{Slot}
use Rattle.state_store.specs.declared.heads.Head.{Head}
use Rattle.state_store.specs.declared.heads.Heads.{Heads}

-- the head of a slot that begins with these bytes
abbrev pub leading_head : List ℕ → Head
leading_head bytes = record { is_open = gate_is_open bytes; number = number_of (drop 1 bytes) }

-- A slot has this head.
abbrev pub HasHead : ℕ → Slot → Head → List ℕ → Type 0
HasHead n slot head all = head_of (in_slot n slot all) ≡ head

-- The slots have these heads.
abbrev pub HasHeads : ℕ → Heads → List ℕ → Type 0
HasHeads n heads all = heads_in n all ≡ heads

-- what a store keeps whose standing slot is this and has this entry
abbrev pub kept_by : Option Slot → List ℕ → Kept
kept_by None entry = Start
kept_by (Some slot) entry = saved entry

-- The bytes keep this entry if a slot stands, and the start if none does.
abbrev pub HasRead : ℕ → Option Slot → List ℕ → List ℕ → Type 0
HasRead n slot entry all = kept_in n all ≡ kept_by slot entry

-- This is the number of what the bytes keep.
abbrev pub HasNumber : ℕ → ℕ → List ℕ → Type 0
HasNumber n number all = number ≡ number_kept (kept_in n all)
