-- What was put into an output, piece by piece.
use Rattle.std.proofs.Common.{◌≡◌, ℕ, ◌+◌, ◌≤◌, Bool, true, false, not, List, [], ◌++◌, length, take, Option, refl, sym, ◌∙◌, ap, subst, append_assoc, arith, length-append}
use Rattle.std.proofs.lemmas.List.{append-nil, take-append-le}
use Rattle.std.proofs.Math.Seq.{take-append-add}
use Rattle.std.specs.Bool.{OnTrue, OnFalse}
use Rattle.ctl_io.specs.Faults.{one_more, count_after}
use Rattle.ctl_io.specs.Sink.{appended, AppendsPart}
use Rattle.ctl_io.proofs.SinkLemmas.{appended-appended}
use Rattle.record_replay.specs.declared.output.Output.{Output}
use Rattle.record_replay.specs.OutputInside.{IsWhole, IsCut, IsPut, HasPut, Puts, PutsLines}
use Rattle.record_replay.specs.Streamed.{most_waiting}

-- a front of a text is one of the text with more behind it
unfoldable pub AppendsPart-more : (text more : List ℕ) (before now : Option (List ℕ)) → AppendsPart text before now → AppendsPart (text ++ more) before now
AppendsPart-more text more before now part = record {
  count = part.count;
  shorter = omega (arith, length-append text more, part.shorter);
  appends = part.appends ∙ ap (appended before) (sym (take-append-le _ text more (omega (arith, part.shorter))));
}

-- what comes behind is put into the buffer
pub IsPut-buffered : (failed : Bool) (begun : ℕ) (text buffer more : List ℕ) (before now : Option (List ℕ)) (first count : ℕ) → IsPut failed begun text buffer before now first count → IsPut failed begun (text ++ more) (buffer ++ more) before now first count
unfolding AppendsPart-more
IsPut-buffered false begun text buffer more before now first count h = record {
  within = omega (arith, h.within, length-append text more);
  given = h.given;
  text_is = ap (λ xs. xs ++ more) h.text_is ∙ append_assoc h.given buffer more;
  appends = h.appends;
  count = h.count;
}
IsPut-buffered true begun text buffer more before now first count h = record { appends = AppendsPart-more text more before now h.appends; waited = h.waited; count = h.count }

-- and so an output is that puts it there
pub puts_buffered : {K : Type 0} (written : K → Option (List ℕ)) (faults : K → ℕ) (more : List ℕ) (old new : Output K) → new.out.ghost_name ≡ old.out.ghost_name → new.out.now ≡ old.out.now → new.failed ≡ old.failed → new.buffer.now ≡ old.buffer.now ++ more
    → Puts written faults more old new
puts_buffered {K} written faults more old new same_sink same_out same_failed buffered = record {
  same_sink = same_sink;
  puts = λ before count begun text h.
      let Failed : Bool → Type 0 = λ failed. IsPut failed begun (text ++ more) new.buffer.now before (written new.out.now) count (faults new.out.now) in
      let Out : K → Type 0 = λ out. IsPut old.failed begun (text ++ more) new.buffer.now before (written out) count (faults out) in
      let Buffer : List ℕ → Type 0 = λ buffer. IsPut old.failed begun (text ++ more) buffer before (written old.out.now) count (faults old.out.now) in
      subst Failed (sym same_failed)
      (subst Out (sym same_out)
      (subst Buffer (sym buffered) (IsPut-buffered old.failed begun text old.buffer.now more before (written old.out.now) count (faults old.out.now) h)));
}

-- the buffer is given to the sink
IsWhole-given : (begun : ℕ) (text buffer : List ℕ) (before mid now : Option (List ℕ)) (first count : ℕ) → IsWhole begun text buffer before mid first count → now ≡ appended mid buffer → now ≡ appended before text
IsWhole-given begun text buffer before mid now first count h e =
    e ∙ ap (λ m. appended m buffer) h.appends ∙ appended-appended before h.given buffer ∙ ap (appended before) (sym h.text_is)

-- a write of the buffer fails
IsWhole-cut : (begun : ℕ) (text buffer : List ℕ) (before mid now : Option (List ℕ)) (first count after : ℕ) → IsWhole begun text buffer before mid first count → length buffer ≤ most_waiting → after ≡ one_more count → AppendsPart buffer mid now
    → IsCut begun text before now first after
IsWhole-cut begun text buffer before mid now first count after h most e part =
    let all : length text ≡ length h.given + length buffer = ap length h.text_is ∙ length-append h.given buffer in
    record {
      appends = record {
        count = length h.given + part.count;
        shorter = omega (arith, part.shorter, all);
        appends = part.appends ∙ ap (λ m. appended m (take part.count buffer)) h.appends ∙ appended-appended before h.given (take part.count buffer) ∙ ap (appended before) (sym (ap (take (length h.given + part.count)) h.text_is ∙ take-append-add h.given buffer part.count));
      };
      waited = omega (arith, h.within, all, most);
      count = e ∙ ap one_more h.count;
    }

-- what it is where no write failed
IsWhole-unfailed : (failed : Bool) (begun : ℕ) (text buffer : List ℕ) (before now : Option (List ℕ)) (first count : ℕ) → failed ≡ false → IsPut failed begun text buffer before now first count → IsWhole begun text buffer before now first count
IsWhole-unfailed false begun text buffer before now first count e h = h
IsWhole-unfailed true begun text buffer before now first count e h = absurd (cc)

-- the sink takes the buffer, or a write fails
pub IsPut-taken : (taken failed : Bool) (begun : ℕ) (text buffer piece : List ℕ) (before mid now : Option (List ℕ)) (first count after : ℕ) → failed ≡ false → piece ≡ buffer → length piece ≤ most_waiting → OnTrue taken (now ≡ appended mid piece) → OnFalse taken (AppendsPart piece mid now) → after ≡ count_after (not taken) count → IsPut failed begun text buffer before mid first count → IsPut (not taken) begun text [] before now first after
IsPut-taken true failed begun text buffer piece before mid now first count after f is most all part e h =
    let whole = IsWhole-unfailed failed begun text buffer before mid first count f h in
    record {
      within = whole.within;
      given = text;
      text_is = sym (append-nil text);
      appends = IsWhole-given begun text buffer before mid now first count whole (all ∙ ap (appended mid) is);
      count = e ∙ whole.count;
    }
IsPut-taken false failed begun text buffer piece before mid now first count after f is most all part e h =
    IsWhole-cut begun text buffer before mid now first count after (IsWhole-unfailed failed begun text buffer before mid first count f h)
    (subst (λ (xs : List ℕ). length xs ≤ most_waiting) is most) e (subst (λ (xs : List ℕ). AppendsPart xs mid now) is part)

-- where a write of the last piece fails
pub OnFalse-cut : (taken failed : Bool) (buffer piece : List ℕ) (mid now : Option (List ℕ)) (count after : ℕ) → failed ≡ false → piece ≡ buffer → length piece ≤ most_waiting → OnTrue taken (now ≡ appended mid piece) → OnFalse taken (AppendsPart piece mid now) → after ≡ count_after (not taken) count → OnFalse taken ((before : Option (List ℕ)) (first begun : ℕ) (text : List ℕ) → IsPut failed begun text buffer before mid first count → IsCut begun text before now first after)
OnFalse-cut true failed buffer piece mid now count after f is most all part e = tt
OnFalse-cut false failed buffer piece mid now count after f is most all part e = λ before first begun text. IsPut-taken false failed begun text buffer piece before mid now first count after f is most all part e

-- where no write failed, all that was put stands before the next line
IsPut-begins : (failed : Bool) (begun : ℕ) (text buffer : List ℕ) (before now : Option (List ℕ)) (first count : ℕ) → failed ≡ false → IsPut failed begun text buffer before now first count → IsPut failed (length text) text buffer before now first count
IsPut-begins false begun text buffer before now first count e h = record { within = omega arith; given = h.given; text_is = h.text_is; appends = h.appends; count = h.count }
IsPut-begins true begun text buffer before now first count e h = absurd (cc)

module _ {K : Type 0} (written : K → Option (List ℕ)) (faults : K → ℕ) where
  -- No lines are put into an output that stays as it is.
  pub lines_none : (output : Output K) → PutsLines written faults [] [] output output
  lines_none output = record {
    same_sink = refl;
    puts = λ before count text h.
        let none = sym (append-nil text) in
        let Has : List ℕ → Type 0 = λ all. HasPut written faults before count (length all) all output in
        subst Has none h;
  }

  -- A line more is put, before which no write failed.
  pub lines_more : (earlier lines line : List ℕ) (first mid last : Output K) → mid.failed ≡ false → PutsLines written faults earlier lines first mid → Puts written faults line mid last → PutsLines written faults lines (lines ++ line) first last
  lines_more earlier lines line first mid last unfailed far here = record {
    same_sink = here.same_sink ∙ far.same_sink;
    puts = λ before count text h.
        let At : List ℕ → Type 0 = λ all. HasPut written faults before count (length (text ++ lines)) all last in
        subst At (append_assoc text lines line)
        (here.puts before count (length (text ++ lines)) (text ++ lines)
        (IsPut-begins mid.failed (length (text ++ earlier)) (text ++ lines) mid.buffer.now before (written mid.out.now) count (faults mid.out.now) unfailed (far.puts before count text h)));
  }

  -- Nothing more is put.
  pub lines_stay : (earlier lines : List ℕ) (first mid last : Output K) → PutsLines written faults earlier lines first mid → Puts written faults [] mid last → PutsLines written faults earlier lines first last
  lines_stay earlier lines first mid last far here = record {
    same_sink = here.same_sink ∙ far.same_sink;
    puts = λ before count text h.
        let At : List ℕ → Type 0 = λ all. HasPut written faults before count (length (text ++ earlier)) all last in
        subst At (append-nil (text ++ lines)) (here.puts before count (length (text ++ earlier)) (text ++ lines) (far.puts before count text h));
  }
