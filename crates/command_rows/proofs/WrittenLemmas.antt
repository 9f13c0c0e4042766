-- What is written in parts.
use Rattle.std.proofs.Common.{◌≡◌, ℕ, Bool, true, false, List, [], ◌∷◌, ◌+◌, ◌++◌, length, take, Option, sym, ◌∙◌, ap, subst, append_assoc, arith}
use Rattle.std.specs.Prelude.{codes}
use Rattle.std.specs.Fmt.{decimal}
use Rattle.std.specs.Bool.{OnTrue, OnFalse}
use Rattle.std.proofs.Math.Seq.{take-append-add}
use Rattle.std.proofs.lemmas.List.{length-append}
use Rattle.ctl_io.specs.Sink.{appended, AppendsPart}
use Rattle.ctl_io.proofs.SinkLemmas.{appended-appended}
use Rattle.command_rows.specs.Lines.{line, plant_refused}

-- a shorter front of what comes behind a front is a shorter front
pub front-part : (front line : List ℕ) (before mid now : Option (List ℕ)) → mid ≡ appended before front → AppendsPart line mid now → AppendsPart (front ++ line) before now
front-part front line before mid now wrote part = record {
  count = length front + part.count;
  shorter = omega (arith, part.shorter, length-append front line);
  appends =
      part.appends
      ∙ ap (λ (w : Option (List ℕ)). appended w (take part.count line)) wrote
      ∙ appended-appended before front (take part.count line)
      ∙ ap (appended before) (sym (take-append-add front line part.count));
}

-- the end of two parts that are appended one after the other, by the answer to the second
pub both-all : (done : Bool) (front line : List ℕ) (before mid now : Option (List ℕ)) → mid ≡ appended before front → OnTrue done (now ≡ appended mid line)
    → OnTrue done (now ≡ appended before (front ++ line))
both-all true front line before mid now wrote all = all ∙ ap (λ (w : Option (List ℕ)). appended w line) wrote ∙ appended-appended before front line
both-all false front line before mid now wrote all = all

pub both-front : (done : Bool) (front line : List ℕ) (before mid now : Option (List ℕ)) → mid ≡ appended before front → OnFalse done (AppendsPart line mid now)
    → OnFalse done (AppendsPart (front ++ line) before now)
both-front true front line before mid now wrote part = part
both-front false front line before mid now wrote part = front-part front line before mid now wrote part

-- a line with a number in it, by its parts
pub number-all : (done : Bool) (front end : List ℕ) (number : ℕ) (before now : Option (List ℕ)) → OnTrue done (now ≡ appended before (front ++ decimal number ++ (end ++ 10 ∷ [])))
    → OnTrue done (now ≡ appended before (line (front ++ decimal number ++ end)))
number-all false front end number before now all = all
number-all true front end number before now all = all ∙ ap (appended before) (sym (append_assoc (front ++ decimal number) end (10 ∷ [])))

pub number-front : (front end : List ℕ) (number : ℕ) (before now : Option (List ℕ)) → AppendsPart (front ++ decimal number ++ (end ++ 10 ∷ [])) before now
    → AppendsPart (line (front ++ decimal number ++ end)) before now
number-front front end number before now part = subst (λ (t : List ℕ). AppendsPart t before now) (sym (append_assoc (front ++ decimal number) end (10 ∷ []))) part

-- the line of a refused plant, by its parts
pub plant-all : (done : Bool) (why text : List ℕ) (before now : Option (List ℕ)) → text ≡ why → OnTrue done (now ≡ appended before (codes "plant refused: " ++ text ++ codes "\n"))
    → OnTrue done (now ≡ appended before (plant_refused why))
plant-all false why text before now is all = all
plant-all true why text before now is all = all ∙ ap (λ (t : List ℕ). appended before (codes "plant refused: " ++ t ++ codes "\n")) is

pub plant-front : (done : Bool) (why text : List ℕ) (before now : Option (List ℕ)) → text ≡ why → OnFalse done (AppendsPart (codes "plant refused: " ++ text ++ codes "\n") before now)
    → OnFalse done (AppendsPart (plant_refused why) before now)
plant-front true why text before now is part = part
plant-front false why text before now is part = subst (λ (t : List ℕ). AppendsPart (codes "plant refused: " ++ t ++ codes "\n") before now) is part
