-- How the lines of a trace are read.
use Rattle.std.proofs.Common.{◌≡◌, ℕ, ◌+◌, ◌<◌, List, [], ◌∷◌, ◌++◌, length, refl, sym, ap, ◌∙◌, arith, length-append}
use Rattle.std.proofs.lemmas.List.{append_assoc}
use Rattle.line_text.specs.Lines.{lines}
use Rattle.plant_config.specs.Plant.{PlantData}
use Rattle.trace_audit.specs.declared.kept.Kept.{Kept}
use Rattle.trace_lines.specs.Trace.{TracedEntry, LineTells}
use Rattle.trace_audit.specs.Verdict.{LinesTell}
use Rattle.trace_audit.specs.KeptInside.{AreKept, IsReadSoFar}

-- Lines tell as many entries as they are,
told-length : (plant : PlantData) (read : List (List ℕ)) (entries : List TracedEntry) → LinesTell plant read entries → length read ≡ length entries
told-length plant [] [] told = refl
told-length plant (line ∷ read) (entry ∷ entries) told = omega (arith, told-length plant read entries told.1)
told-length plant [] (entry ∷ entries) told = absurd told
told-length plant (line ∷ read) [] told = absurd told

-- and a line more tells an entry more.
told-more : (plant : PlantData) (read : List (List ℕ)) (entries : List TracedEntry) (line : List ℕ) (entry : TracedEntry) → LinesTell plant read entries → LineTells plant line entry → LinesTell plant (read ++ line ∷ []) (entries ++ entry ∷ [])
told-more plant [] [] line entry told tells = (tells, tt)
told-more plant (first ∷ read) (one ∷ entries) line entry told tells = (told.0, told-more plant read entries line entry told.1 tells)
told-more plant [] (one ∷ entries) line entry told tells = absurd told
told-more plant (first ∷ read) [] line entry told tells = absurd told

-- how many lines were read
pub read-count : (plant : PlantData) (text rest : List ℕ) (kept : Kept) (count : ℕ) → IsReadSoFar plant text rest kept count → kept.lines ≡ count
read-count plant text rest kept count is =
    is.read.kept_are.lines ∙ sym (told-length plant is.before is.read.entries is.read.told) ∙ sym is.counted

-- One line more was read.
pub read-more : (plant : PlantData) (text rest line after : List ℕ) (entry : TracedEntry) (old new : Kept) (count : ℕ) → IsReadSoFar plant text rest old count → lines rest ≡ line ∷ lines after → length after < length rest → LineTells plant line entry
    → ((entries : List TracedEntry) → AreKept plant old entries → AreKept plant new (entries ++ entry ∷ [])) → IsReadSoFar plant text after new (count + 1)
read-more plant text rest line after entry old new count so_far splits shorter tells keeps = record {
  before = so_far.before ++ line ∷ [];
  read = record {
    entries = so_far.read.entries ++ entry ∷ [];
    told = told-more plant so_far.before so_far.read.entries line entry so_far.read.told tells;
    kept_are = keeps so_far.read.entries so_far.read.kept_are;
  };
  place = so_far.place ∙ ap (λ (more : List (List ℕ)). so_far.before ++ more) splits ∙ sym (append_assoc so_far.before (line ∷ []) (lines after));
  counted = omega (arith, so_far.counted, length-append so_far.before (line ∷ []));
  fewer = omega (arith, so_far.fewer, shorter);
}
