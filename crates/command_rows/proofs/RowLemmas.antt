-- How rows end that ask nothing of the files.
use Rattle.std.proofs.Common.{◌≡◌, ℕ, inl, inr, List, Option, Ok, refl, ◌∙◌, ap, subst, arith}
use Rattle.ctl_io.specs.Faults.{Rose, one_more}
use Rattle.ctl_io.specs.Sink.{appended, AppendsPart}
use Rattle.ctl_io.proofs.SinkLemmas.{appended-appended}
use Rattle.command_words.specs.Parts.{Part, Last}
use Rattle.command_rows.specs.Moment.{Snapshot, Output, Moment}
use Rattle.command_rows.specs.End.{End, ComesTo, behind, done}
use Rattle.command_rows.specs.Opener.{AllGiven, OpensOn}
use Rattle.command_rows.specs.Row.{Promise, RowEnds, RunsOn, Alone, EndsAlone}
use Rattle.command_rows.proofs.OpensLemmas.{match_false}
use Rattle.command_rows.proofs.WrittenLemmas.{front-part}

-- a row that left the files alone ends as it promises
pub alone : (parts : List Part) (last : Last) (Ends : AllGiven parts last → End → Type 0) (given : AllGiven parts last) (files : Snapshot) (before now : Output) (status : ℕ) → EndsAlone (Ends given) before now status
    → RowEnds (Alone parts last Ends given) (record { files = files; output = before }) (record { files = files; output = now }) status
alone parts last Ends given files before now status so = record {
  end = so.end;
  ends = (so.ends, refl);
  own = record {
    not_words = so.not_words;
    not_plant = so.not_plant;
    faults = match_false (Rose files.faults files.faults) (files.faults ≡ files.faults) so.end.is_file_fault so.no_fault refl;
  };
  comes = so.comes;
}

-- and so it runs
pub runs_alone : (parts : List Part) (last : Last) (Ends : AllGiven parts last → End → Type 0) (words : List (List ℕ)) (given : AllGiven parts last) (files opened : Snapshot) (before now : Output) (status : ℕ)
    → OpensOn parts last words files opened (Ok given) → EndsAlone (Ends given) before now status
    → RunsOn parts last (Alone parts last Ends) words (record { files = files; output = before }) (record { files = opened; output = now }) status
runs_alone parts last Ends words given files opened before now status opens so said say =
    inr (record { given = given; opened = opened; lead = opens said say; ends = alone parts last Ends given opened before now status so })

-- a row that ends so with what was given runs so
pub runs_opened : (parts : List Part) (last : Last) (Ends : Promise parts last) (words : List (List ℕ)) (given : AllGiven parts last) (files opened : Snapshot) (before : Output) (now : Moment) (status : ℕ)
    → OpensOn parts last words files opened (Ok given) → RowEnds (Ends given) (record { files = opened; output = before }) now status
    → RunsOn parts last Ends words (record { files = files; output = before }) now status
runs_opened parts last Ends words given files opened before now status opens ends said say = inr (record { given = given; opened = opened; lead = opens said say; ends = ends })

-- what ends so ends also as is promised of such ends
pub ends_weaker : {P Q : End → Type 0} (before now : Output) (status : ℕ) → ((end : End) → P end → Q end) → EndsAlone P before now status → EndsAlone Q before now status
ends_weaker before now status weaker so = record {
  end = so.end;
  ends = weaker so.end so.ends;
  not_words = so.not_words;
  not_plant = so.not_plant;
  no_fault = so.no_fault;
  comes = so.comes;
}

-- an end that is come to behind a moment at which nothing was written yet
pub later : (end : End) (status : ℕ) (before mid now : Output) → mid.written ≡ before.written → mid.faults ≡ before.faults → ComesTo end status mid now → ComesTo end status before now
later end status before mid now written faults (inl is) =
    inl (record { status_is = is.status_is; appends = is.appends ∙ ap (λ (w : Option (List ℕ)). appended w end.text) written; faults = is.faults ∙ faults })
later end status before mid now written faults (inr is) = inr (record {
  status_is = is.status_is;
  appends = subst (λ (w : Option (List ℕ)). AppendsPart end.text w now.written) written is.appends;
  faults = is.faults ∙ ap one_more faults;
})

-- an end that is come to behind a text that was written
pub comes_behind : (front : List ℕ) (end : End) (status : ℕ) (before mid now : Output) → mid.written ≡ appended before.written front → mid.faults ≡ before.faults → ComesTo end status mid now → ComesTo (behind front end) status before now
comes_behind front end status before mid now wrote faults (inl is) = inl (record {
  status_is = is.status_is;
  appends = is.appends ∙ ap (λ (w : Option (List ℕ)). appended w end.text) wrote ∙ appended-appended before.written front end.text;
  faults = is.faults ∙ faults;
})
comes_behind front end status before mid now wrote faults (inr is) =
    inr (record { status_is = is.status_is; appends = front-part front end.text before.written mid.written now.written wrote is.appends; faults = is.faults ∙ ap one_more faults })

-- all was done
pub whole : (Ends : End → Type 0) (output : List ℕ) (before now : Output) → Ends (done output) → now.written ≡ appended before.written output → now.faults ≡ before.faults → EndsAlone Ends before now 0
whole Ends output before now ends appends faults = record {
  end = done output;
  ends = ends;
  not_words = λ h. omega (arith, h);
  not_plant = λ h. omega (arith, h);
  no_fault = refl;
  comes = inl (record { status_is = refl; appends = appends; faults = faults });
}

-- or a front of it
pub cut : (Ends : End → Type 0) (output : List ℕ) (before now : Output) → Ends (done output) → AppendsPart output before.written now.written → now.faults ≡ one_more before.faults → EndsAlone Ends before now 7
cut Ends output before now ends appends faults = record {
  end = done output;
  ends = ends;
  not_words = λ h. omega (arith, h);
  not_plant = λ h. omega (arith, h);
  no_fault = refl;
  comes = inr (record { status_is = refl; appends = appends; faults = faults });
}
