-- What sections of one entry answer.
use Rattle.std.proofs.Common.{◌≡◌, Some, None, Err, refl, append-nil}
use Rattle.toml.specs.Data.{Data, string, integer, float, boolean, datetime, array, table, Members, no_members, as_table, get_member}
use Rattle.plant_file.specs.declared.fault.Section.TheVariants as sections
use Rattle.plant_file.specs.declared.fault.Field.TheVariants as fields
use Rattle.plant_file.specs.declared.fault.PlantFault.TheVariants.{WrongType}
use Rattle.plant_file.specs.Spelling.{section_name}
use Rattle.plant_file.specs.Rows.{key, Words, Required}
use Rattle.plant_file.specs.Format.{top_keys, server_keys}
use Rattle.plant_file.specs.Document.{as_text, text_for}
use Rattle.plant_file.specs.KeyFaults.{place, key_faults, entry_faults, section_faults}
use Rattle.plant_file.specs.Reading.{server_entry}
use Rattle.plant_file.specs.ReadingInside.{key_answer, keys_answer, entry_answer, only_answer}

-- the title
pub title-answer : (document : Members)
    → only_answer (text_for top_keys fields.Title) top_keys document ≡ key_answer as_text sections.Top 0 document (key fields.Title (Words 1 40) Required)
unfolding only_answer key_answer section_faults
title-answer document =
    rw (append-nil (key_faults sections.Top 0 document (key fields.Title (Words 1 40) Required)), append-nil (key_faults sections.Top 0 document (key fields.Title (Words 1 40) Required))) refl

-- the server's section, which is absent
pub server-absent : (document : Members) → None ≡ get_member (section_name sections.Server) document
    → only_answer server_entry server_keys document ≡ entry_answer server_entry server_keys 0 no_members
unfolding only_answer keys_answer section_faults
server-absent document none = rw (← none) refl

is_table : (d : Data) (entry : Members) → Some entry ≡ as_table d → d ≡ table entry
is_table (string text) entry is = cc
is_table (integer number) entry is = cc
is_table (float number) entry is = cc
is_table (boolean flag) entry is = cc
is_table (datetime time) entry is = cc
is_table (array own) entry is = cc
is_table (table own) entry is = cc

-- it is a table
pub server-table : (document : Members) (d : Data) (entry : Members) → Some d ≡ get_member (section_name sections.Server) document → Some entry ≡ as_table d
    → only_answer server_entry server_keys document ≡ entry_answer server_entry server_keys 0 entry
unfolding only_answer keys_answer section_faults
server-table document d entry found is = rw (← found, is_table d entry is, append-nil (entry_faults server_keys 0 entry)) refl

-- it is something else
pub server-other : (document : Members) (d : Data) → Some d ≡ get_member (section_name sections.Server) document → None ≡ as_table d
    → only_answer server_entry server_keys document ≡ Err (WrongType (place sections.Server 0 fields.Whole))
unfolding only_answer section_faults
server-other document (string text) found is = rw (← found) refl
server-other document (integer number) found is = rw (← found) refl
server-other document (float number) found is = rw (← found) refl
server-other document (boolean flag) found is = rw (← found) refl
server-other document (datetime time) found is = rw (← found) refl
server-other document (array own) found is = rw (← found) refl
server-other document (table own) found is = cc
