use Rattle.std.proofs.Common.{◌^◌, ℕ, ◌<◌, Bool, ◌&&◌, unwrap_or, ap, subst, ◌∙◌, arith}
use Rattle.std.specs.Ordering.{nat_cmp}
use Rattle.std.specs.BTreeMap.{get}
use Rattle.plant_core.specs.StateFault.{shares_by_origin}
use Rattle.plant_core.specs.FirstTies.{key_number, ComesFirst}
use Rattle.plant_core.proofs.FirstTieLemmas.{tie_first_within, origin_first_within, all_by_firsts, both_more}
use Rattle.plant_core.proofs.first_ties.all_share_by_origin.Goals as goal

pub shares_by_origin-shares-requires-clause-earlier :
    goal.shares_by_origin-shares-requires-clause-earlier
shares_by_origin-shares-requires-clause-earlier c =
    let small : c.args.tie < 2 ^ 32 = omega (arith, c.get.ensures) in
    let small_too : c.args.origin < 2 ^ 32 = omega (arith, c.get-2.ensures) in
    let is = c.in_ok-same_tie.ensures.first ∙ ap (λ (number : ℕ). unwrap_or (get nat_cmp c.args.by_tie.now number) c.args.dest) (c.key_number.ensures ∙ ap (key_number c.args.pool) c.get.ensures) in
    omega (arith, is, tie_first_within c.args.plant.now c.args.bytes.now c.args.dest c.args.pool c.args.tie c.args.origin c.args.by_tie.now c.args.by_origin.now c.requires.pool c.requires.tie c.requires.origin small small_too c.requires.earlier c.requires.firsts)

pub shares_by_origin-requires-clause-earlier : goal.shares_by_origin-requires-clause-earlier
shares_by_origin-requires-clause-earlier c =
    let small : c.args.tie < 2 ^ 32 = omega (arith, c.get.ensures) in
    let small_too : c.args.origin < 2 ^ 32 = omega (arith, c.get-2.ensures) in
    let is = c.in_ok-same_origin.ensures.first ∙ ap (λ (number : ℕ). unwrap_or (get nat_cmp c.args.by_origin.now number) c.args.dest) (c.key_number-2.ensures ∙ ap (key_number c.args.pool) c.get-2.ensures) in
    omega (arith, is, origin_first_within c.args.plant.now c.args.bytes.now c.args.dest c.args.pool c.args.tie c.args.origin c.args.by_tie.now c.args.by_origin.now c.requires.pool c.requires.tie c.requires.origin small small_too c.requires.earlier c.requires.firsts)

pub returns-clause-all : goal.returns-clause-all
returns-clause-all c =
    let plant = c.args.plant.now in
    let bytes = c.args.bytes.now in
    let small : c.args.tie < 2 ^ 32 = omega (arith, c.get.ensures) in
    let small_too : c.args.origin < 2 ^ 32 = omega (arith, c.get-2.ensures) in
    let tie_is = c.in_ok-same_tie.ensures.first ∙ ap (λ (number : ℕ). unwrap_or (get nat_cmp c.args.by_tie.now number) c.args.dest) (c.key_number.ensures ∙ ap (key_number c.args.pool) c.get.ensures) in
    let origin_is = c.in_ok-same_origin.ensures.first ∙ ap (λ (number : ℕ). unwrap_or (get nat_cmp c.args.by_origin.now number) c.args.dest) (c.key_number-2.ensures ∙ ap (key_number c.args.pool) c.get-2.ensures) in
    ap (λ (shares : Bool). shares && c.shares_by_origin.result) (c.shares_by_origin-shares.ensures ∙ ap (shares_by_origin plant bytes c.args.dest) tie_is)
    ∙ ap (λ (shares : Bool). shares_by_origin plant bytes c.args.dest (unwrap_or (get nat_cmp c.args.by_tie.now (key_number c.args.pool c.args.tie)) c.args.dest) && shares) (c.shares_by_origin.ensures ∙ ap (shares_by_origin plant bytes c.args.dest) origin_is)
    ∙ all_by_firsts plant bytes c.args.dest c.args.pool c.args.tie c.args.origin c.args.by_tie.now c.args.by_origin.now c.requires.pool c.requires.tie c.requires.origin small small_too c.requires.earlier c.requires.firsts

pub returns-clause-firsts : goal.returns-clause-firsts
returns-clause-firsts c =
    let small : c.args.tie < 2 ^ 32 = omega (arith, c.get.ensures) in
    let small_too : c.args.origin < 2 ^ 32 = omega (arith, c.get-2.ensures) in
    both_more c.args.plant.now c.args.bytes.now c.args.dest c.args.pool c.args.tie c.args.origin c.args.by_tie.now c.args.by_origin.now c.requires.pool c.requires.tie c.requires.origin small small_too c.requires.earlier c.requires.firsts c.first_at.new.firsts c.first_at-2.new.firsts
    (subst (λ (number : ℕ). ComesFirst c.args.by_tie.now c.first_at.new.firsts number c.args.dest) (c.key_number.ensures ∙ ap (key_number c.args.pool) c.get.ensures) c.in_ok-same_tie.ensures.firsts)
    (subst (λ (number : ℕ). ComesFirst c.args.by_origin.now c.first_at-2.new.firsts number c.args.dest) (c.key_number-2.ensures ∙ ap (key_number c.args.pool) c.get-2.ensures) c.in_ok-same_origin.ensures.firsts)
