-- Files that are read whole, one after the other.
use Rattle.std.proofs.Common.{◌≡◌, ℕ, ◌+◌, ◌-◌, ◌<◌, inl, inr, List, [], ◌∷◌, ◌++◌, length, drop, get_or, Ok, Err, refl, sym, ◌∙◌, ap, subst, append_assoc, append-nil}
use Rattle.std.specs.Global.{Global}
use Rattle.std.specs.declared.string.String.{String}
use Rattle.std.specs.String.{string_bytes}
use Rattle.std.proofs.lemmas.List.{drop_more}
use Rattle.line_text.specs.Lines.{lines}
use Rattle.command_words.specs.Words.{texts}
use Rattle.command_rows.specs.Moment.{Snapshot}
use Rattle.command_rows.specs.End.{Stopped, NoMemory}
use Rattle.command_rows.specs.Opener.{ReadsWhole, ReadsAll}
use Rattle.command_rows.proofs.OpensLemmas.{if_held}

-- the texts of the words from one on
pub texts-from : (words : List (String Global)) (i : ℕ) (word : String Global) (name : List ℕ) → i < length words → word ≡ get_or words i word → name ≡ string_bytes word
    → texts (drop i words) ≡ name ∷ texts (drop (i + 1) words)
texts-from words i word name less is named =
    ap texts (drop_more words i word less) ∙ ap (λ (n : List ℕ). n ∷ texts (drop (i + 1) words)) (sym (named ∙ ap string_bytes is))

-- Of files of these names some were read, into this text, and what becomes of the rest with so many bytes left becomes of all.
pub record HasRead (word : List ℕ) (most : ℕ) (names : List (List ℕ)) (before : Snapshot) (rest : List (List ℕ)) (now : Snapshot) (left : ℕ) (text : List ℕ) : Type 0 where
  pub well : (last : Snapshot) (more : List (List ℕ)) → ReadsAll word left rest now last (Ok more) → ReadsAll word most names before last (Ok (lines text ++ more))
  pub stops : (last : Snapshot) (stopped : Stopped) → ReadsAll word left rest now last (Err stopped) → ReadsAll word most names before last (Err stopped)

pub read_none : (word : List ℕ) (most : ℕ) (names : List (List ℕ)) (before : Snapshot) → HasRead word most names before names before most []
read_none word most names before = record { well = λ last more reads. reads; stops = λ last stopped reads. reads }

module _ {word : List ℕ} {most : ℕ} {names : List (List ℕ)} {before : Snapshot} (name : List ℕ) (rest : List (List ℕ)) (now next : Snapshot) (left : ℕ) (text : List ℕ)
    (so : HasRead word most names before (name ∷ rest) now left text) where
  -- the next was read
  pub read_next : (bytes joined : List ℕ) (fewer : ℕ) → ReadsWhole word left name now next (Ok bytes) → fewer ≡ left - length bytes → lines joined ≡ lines text ++ lines bytes
      → HasRead word most names before rest next fewer joined
  read_next bytes joined fewer reads is joins = record {
    well = λ last more others.
        subst (λ (ls : List (List ℕ)). ReadsAll word most names before last (Ok ls))
        (sym (append_assoc (lines text) (lines bytes) more) ∙ ap (λ (ls : List (List ℕ)). ls ++ more) (sym joins))
        (so.well last (lines bytes ++ more)
        (more, record { bytes = bytes; between = next; reads = reads; others = (subst (λ (n : ℕ). ReadsAll word n rest next last (Ok more)) is others, refl) }));
    stops = λ last stopped others.
        so.stops last stopped (inr (record { bytes = bytes; between = next; reads = reads; others = subst (λ (n : ℕ). ReadsAll word n rest next last (Err stopped)) is others }));
  }

  -- the next was read, and memory ran out
  pub read_memory : (bytes : List ℕ) → ReadsWhole word left name now next (Ok bytes) → ReadsAll word most names before next (Err NoMemory)
  read_memory bytes reads =
      so.stops next NoMemory (inl (record { finds = if_held (now.held name 0) (λ bytes is. tt) reads.finds.0; reads = reads.reads }))

  -- the next stops the run
  pub read_stop : (stopped : Stopped) → ReadsWhole word left name now next (Err stopped) → ReadsAll word most names before next (Err stopped)
  read_stop stopped reads = so.stops next stopped (inl reads)

-- all were read
pub read_all : {word : List ℕ} {most : ℕ} {names : List (List ℕ)} {before : Snapshot} (now : Snapshot) (left : ℕ) (text : List ℕ) → HasRead word most names before [] now left text
    → ReadsAll word most names before now (Ok (lines text))
read_all {word} {most} {names} {before} now left text so =
    subst (λ (ls : List (List ℕ)). ReadsAll word most names before now (Ok ls)) (append-nil (lines text)) (so.well now [] (refl, refl))
