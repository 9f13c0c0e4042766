use Rattle.std.proofs.Common.{◌≡◌, ◌+◌, ◌++◌, vec_len, vec_capacity}
use Rattle.plant_names.specs.Pages.{fitted}
use Rattle.plant_names.proofs.page.push_fitted.Given as goal

-- The name was appended in so many bytes as places so far.
abbrev pub invariant-loop-place : goal.invariant-loop-place
invariant-loop-place l = record {
  text : l.out.items ≡ l.initial.out.items ++ fitted l.place l.name;
  len : vec_len l.out ≡ vec_len l.initial.out + l.place;
  capacity : vec_capacity l.out ≡ vec_capacity l.initial.out;
}
