use Rattle.std.proofs.Common.{◌∙◌, inr, refl, ap, subst, List, ℕ}
use Rattle.ctl_io.specs.Sink.{appended, AppendsPart}
use Rattle.command_rows.proofs.RowLemmas.{whole, cut}
use Rattle.command_check.specs.Check.{check_text, CheckEnds}
use Rattle.command_check.proofs.row.say.Goals as goal

pub returns-then-write_all : goal.returns-then-write_all
returns-then-write_all g c =
    whole (CheckEnds c.args.plant.now) (check_text c.args.plant.now) _ _ (inr refl)
    (c.if-write_all.ensures.all ∙ ap (appended (g.K.Sink.written c.args.out.now)) (c.as_bytes.ensures.value ∙ c.in-Ok.ensures)) c.if-write_all.ensures.count

pub returns : goal.returns
returns g c =
    let before = g.K.Sink.written c.args.out.now in
    let now = g.K.Sink.written c.write_all.new.sink in
    cut (CheckEnds c.args.plant.now) (check_text c.args.plant.now) _ _ (inr refl)
    (subst (λ (text : List ℕ). AppendsPart text before now) (c.as_bytes.ensures.value ∙ c.in-Ok.ensures) c.if-write_all.ensures.part) c.if-write_all.ensures.count
