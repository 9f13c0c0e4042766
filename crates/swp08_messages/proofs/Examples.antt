-- The definitions at worked DATA.
use Rattle.std.proofs.Common.{◌≡◌, true, false, inl, inr, [], ◌∷◌, Some, None, refl, arith}
use Rattle.swp08_messages.specs.declared.message.Message.TheVariants.{Interrogate, Connect, Tally, Connected, ProtectAsk, ProtectTally, ProtectConnect, ProtectConnected, ProtectDisconnect, ProtectDisconnected, DumpAsk, SourceNamesAsk, SourceNameAsk, DestNamesAsk, DestNameAsk, Store, Stored, Go, GoDone, EntryAsk, Entry, ExtInterrogate, ExtConnect, ExtTally, ExtConnected}
use Rattle.swp08_messages.specs.declared.go_status.GoStatus.TheVariants.{Protected, NoTie}
use Rattle.swp08_messages.specs.declared.validity.Validity.TheVariants.{Last, NoEntry}
use Rattle.swp08_messages.specs.declared.point.Point.{Point}
use Rattle.swp08_messages.specs.declared.fault.ReadFault.TheVariants.{WrongLength}
use Rattle.swp08_messages.specs.Text.{text}
use Rattle.swp08_messages.specs.Dump.{dump_text}
use Rattle.swp08_messages.specs.Spelled.{Spells}
use Rattle.swp08_messages.specs.Refused.{IsRefused}

abbrev five : Point
five = record { matrix = 0; level = 0; dest = 5 }

interrogates_5 : text (Interrogate five) ≡ 1 ∷ 0 ∷ 0 ∷ 5 ∷ []
interrogates_5 = refl

connects_5_to_3 : text (Connect five (Some 3)) ≡ 2 ∷ 0 ∷ 0 ∷ 5 ∷ 3 ∷ []
connects_5_to_3 = refl

tells_5_parked : text (Tally five None) ≡ 3 ∷ 0 ∷ 7 ∷ 5 ∷ 127 ∷ []
tells_5_parked = refl

tells_1000_connected_to_300 : text (Connected (record { matrix = 14; level = 9; dest = 1000 }) (Some 300)) ≡ 4 ∷ 233 ∷ 114 ∷ 104 ∷ 44 ∷ []
tells_1000_connected_to_300 = refl

asks_for_level_1 : text (DumpAsk 0 1) ≡ 21 ∷ 1 ∷ []
asks_for_level_1 = refl

asks_for_source_300 : text (SourceNameAsk 1 2 1 300) ≡ 101 ∷ 0x12 ∷ 1 ∷ 1 ∷ 44 ∷ []
asks_for_source_300 = refl

dumps_4_parked : dump_text 0 1 0 (None ∷ None ∷ None ∷ None ∷ []) ≡ 23 ∷ 1 ∷ 4 ∷ 0 ∷ 0 ∷ 3 ∷ 255 ∷ 3 ∷ 255 ∷ 3 ∷ 255 ∷ 3 ∷ 255 ∷ []
dumps_4_parked = refl

-- the bits of a level aren't looked at where a matrix is asked for
names_in_another_way : Spells (102 ∷ 0x2F ∷ 1 ∷ []) (DestNamesAsk 2 1)
names_in_another_way = record {
  in_range = (omega arith, (omega arith, tt));
  behind = 0x2F ∷ 1 ∷ [];
  parts = refl;
  fields = inl (refl, (refl, tt));
}

-- bits 3 and 7 of a multiplier aren't looked at, nor bits 0 to 2 of an interrogate's
a_connect_in_another_way : Spells (2 ∷ 0 ∷ 0x88 ∷ 5 ∷ 3 ∷ []) (Connect five (Some 3))
a_connect_in_another_way = record {
  in_range = ((omega arith, omega arith), ((omega arith, omega arith), (omega arith, (omega arith, tt))));
  behind = 0 ∷ 0x88 ∷ 5 ∷ 3 ∷ [];
  parts = refl;
  fields = inl (refl, (refl, (refl, (refl, tt))));
}

an_interrogate_in_another_way : Spells (1 ∷ 0 ∷ 0xFF ∷ 5 ∷ []) (Interrogate (record { matrix = 0; level = 0; dest = 901 }))
an_interrogate_in_another_way = record {
  in_range = ((omega arith, omega arith), (omega arith, (omega arith, tt)));
  behind = 0 ∷ 0xFF ∷ 5 ∷ [];
  parts = refl;
  fields = inl (refl, (refl, (refl, tt)));
}

asks_who_protects_5 : text (ProtectAsk five) ≡ 10 ∷ 0 ∷ 0 ∷ 5 ∷ []
asks_who_protects_5 = refl

-- a device may stand behind the destination, which isn't kept: neither its low part nor its part of the multiplier
asks_who_protects_5_with_a_device : Spells (10 ∷ 0 ∷ 7 ∷ 5 ∷ 127 ∷ []) (ProtectAsk five)
asks_who_protects_5_with_a_device = record {
  in_range = ((omega arith, omega arith), (omega arith, (omega arith, tt)));
  behind = 0 ∷ 7 ∷ 5 ∷ 127 ∷ [];
  parts = refl;
  fields = inr (refl, (refl, (refl, (refl, tt))));
}

tells_5_protected_by_1 : text (ProtectConnected five true 1) ≡ 13 ∷ 0 ∷ 1 ∷ 0 ∷ 5 ∷ 1 ∷ []
tells_5_protected_by_1 = refl

stores_4_in_salvo_7 : text (Store (record { matrix = 0; level = 0; dest = 4 }) (Some 3) 7) ≡ 0x78 ∷ 0 ∷ 0 ∷ 4 ∷ 3 ∷ 7 ∷ []
stores_4_in_salvo_7 = refl

sets_salvo_7 : text (Go false 7) ≡ 0x79 ∷ 0 ∷ 7 ∷ []
sets_salvo_7 = refl

tells_salvo_7_protected : text (GoDone Protected 7) ≡ 0x7B ∷ 3 ∷ 7 ∷ []
tells_salvo_7_protected = refl

tells_the_last_entry_of_salvo_7 : text (Entry (record { matrix = 0; level = 0; dest = 6 }) (Some 3) 7 2 Last) ≡ 0x7D ∷ 0 ∷ 0 ∷ 6 ∷ 3 ∷ 7 ∷ 2 ∷ 1 ∷ []
tells_the_last_entry_of_salvo_7 = refl

-- the numbers at their limits
abbrev last : Point
last = record { matrix = 15; level = 15; dest = 1023 }

connects_the_last : text (Connect last (Some 1022)) ≡ 2 ∷ 255 ∷ 0x77 ∷ 127 ∷ 126 ∷ []
connects_the_last = refl

protects_the_last : text (ProtectConnect last 1023) ≡ 12 ∷ 255 ∷ 0x77 ∷ 127 ∷ 127 ∷ []
protects_the_last = refl

stores_the_last : text (Store last (Some 1022) 127) ≡ 0x78 ∷ 255 ∷ 0x77 ∷ 127 ∷ 126 ∷ 127 ∷ []
stores_the_last = refl

asks_for_the_last_name : text (DestNameAsk 3 0 65535) ≡ 103 ∷ 0x30 ∷ 0 ∷ 255 ∷ 255 ∷ []
asks_for_the_last_name = refl

asks_for_the_last_entry : text (EntryAsk 127 255) ≡ 0x7C ∷ 127 ∷ 255 ∷ []
asks_for_the_last_entry = refl

asks_for_sources : text (SourceNamesAsk 1 2 0) ≡ 100 ∷ 0x12 ∷ 0 ∷ []
asks_for_sources = refl

-- a device that is told though none protects the destination
tells_5_not_protected_by_300 : text (ProtectTally five false 300) ≡ 11 ∷ 0 ∷ 0 ∷ 2 ∷ 5 ∷ 44 ∷ []
tells_5_not_protected_by_300 = refl

lifts_1000_for_300 : text (ProtectDisconnect (record { matrix = 14; level = 9; dest = 1000 }) 300) ≡ 14 ∷ 0xE9 ∷ 0x72 ∷ 104 ∷ 44 ∷ []
lifts_1000_for_300 = refl

tells_the_last_lifted : text (ProtectDisconnected last true 128) ≡ 15 ∷ 255 ∷ 1 ∷ 0x71 ∷ 127 ∷ 0 ∷ []
tells_the_last_lifted = refl

tells_4_stored_parked : text (Stored (record { matrix = 0; level = 0; dest = 4 }) None 0) ≡ 0x7A ∷ 0 ∷ 7 ∷ 4 ∷ 127 ∷ 0 ∷ []
tells_4_stored_parked = refl

clears_salvo_127 : text (Go true 127) ≡ 0x79 ∷ 1 ∷ 127 ∷ []
clears_salvo_127 = refl

tells_no_tie : text (GoDone NoTie 127) ≡ 0x7B ∷ 4 ∷ 127 ∷ []
tells_no_tie = refl

tells_no_entry : text (Entry (record { matrix = 0; level = 0; dest = 0 }) (Some 0) 7 255 NoEntry) ≡ 0x7D ∷ 0 ∷ 0 ∷ 0 ∷ 0 ∷ 7 ∷ 255 ∷ 2 ∷ []
tells_no_entry = refl

dumps_the_last : dump_text 15 15 1022 (Some 0 ∷ Some 1022 ∷ []) ≡ 23 ∷ 255 ∷ 2 ∷ 3 ∷ 254 ∷ 0 ∷ 0 ∷ 3 ∷ 254 ∷ []
dumps_the_last = refl

-- the extended commands: numbers past those of the others, a parked destination, and the last numbers
connects_2000_to_1500 : text (ExtConnect (record { matrix = 0; level = 0; dest = 2000 }) (Some 1500)) ≡ 130 ∷ 0 ∷ 0 ∷ 7 ∷ 0xD0 ∷ 5 ∷ 0xDC ∷ []
connects_2000_to_1500 = refl

asks_for_3000 : text (ExtInterrogate (record { matrix = 0; level = 0; dest = 3000 })) ≡ 129 ∷ 0 ∷ 0 ∷ 0x0B ∷ 0xB8 ∷ []
asks_for_3000 = refl

tells_3000_parked : text (ExtTally (record { matrix = 0; level = 0; dest = 3000 }) None) ≡ 131 ∷ 0 ∷ 0 ∷ 0x0B ∷ 0xB8 ∷ 255 ∷ 255 ∷ []
tells_3000_parked = refl

tells_the_last_of_all_connected : text (ExtConnected (record { matrix = 15; level = 15; dest = 65535 }) (Some 65534)) ≡ 132 ∷ 15 ∷ 15 ∷ 255 ∷ 255 ∷ 255 ∷ 254 ∷ []
tells_the_last_of_all_connected = refl

refuses_nothing : IsRefused [] (WrongLength 0 1)
refuses_nothing = (refl, refl)
