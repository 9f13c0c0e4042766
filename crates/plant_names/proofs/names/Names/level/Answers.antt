use Rattle.std.proofs.Common.{◌≡◌, ◌≤◌, ◌*◌, ◌+◌, ◌⊎◌, None, ap, inl, inr, subst, sym, arith}
use Rattle.std.specs.Option.{option_map, option_copied}
use Rattle.std.proofs.lemmas.Option.{get_or_from_slice_get}
use Rattle.plant_config.specs.Sites.{level_at}
use Rattle.plant_names.specs.NamesInside.{named, placed, IsNamed}
use Rattle.plant_names.proofs.LevelLemmas.{level_at-none, named-IsNamed, placed-at, IfSome-named, OnSome-all}
use Rattle.plant_names.proofs.names.Names.level.Goals as goal
use Rattle.plant_names.proofs.names.Names.level.Goals.{then-matrix-ge16-via-then-matrix-ge16, then-matrix-ge16-via-else-matrix-ge16+then-level-ge16}

pub returns-then-matrix-ge16 : goal.returns-then-matrix-ge16
returns-then-matrix-ge16 c =
    let out : (16 ≤ c.args.matrix) ⊎ (16 ≤ c.args.level) = elim c.then-matrix-ge16.branch [
      | then-matrix-ge16-via-then-matrix-ge16 w ↦ inl (omega arith)
      | then-matrix-ge16-via-else-matrix-ge16+then-level-ge16 w ↦ inr (omega arith)
    ] in
    let plant = c.self.inside.plant.value in
    record {
      names = subst (λ plant. None ≡ option_map (named plant) (level_at plant c.args.matrix c.args.level)) c.self.view_is (sym (ap (option_map (named plant)) (level_at-none plant c.self.invariant.is c.args.matrix c.args.level out)));
      limits = tt;
      matrix = tt;
      level = tt;
    }

pub returns : goal.returns
returns c =
    let plant = c.self.inside.plant.value in
    let place = c.args.matrix * 16 + c.args.level in
    let entry = get_or_from_slice_get c.self.inside.levels.items place (placed plant place) c.index.result.now (c.self.invariant.all_levels.each place (omega arith)) in
    let at = placed-at plant c.args.matrix c.args.level (omega arith) in
    let found : option_copied c.as_ref.result ≡ option_map (named plant) (level_at plant c.args.matrix c.args.level) = cc in
    record {
      names = subst (λ plant. option_copied c.as_ref.result ≡ option_map (named plant) (level_at plant c.args.matrix c.args.level)) c.self.view_is found;
      limits = IfSome-named plant IsNamed (level_at plant c.args.matrix c.args.level) c.as_ref.result found (named-IsNamed plant c.self.invariant.is _);
      matrix = OnSome-all c.as_ref.result (omega arith);
      level = OnSome-all c.as_ref.result (omega arith);
    }
