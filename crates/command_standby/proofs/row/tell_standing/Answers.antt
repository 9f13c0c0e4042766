use Rattle.std.proofs.Common.{◌∙◌, inr, refl, ap, subst, List, ℕ}
use Rattle.ctl_io.specs.Sink.{appended, AppendsPart}
use Rattle.command_rows.proofs.RowLemmas.{whole, cut}
use Rattle.command_standby.specs.Standing.{standing_text}
use Rattle.command_standby.specs.FollowInside.{Stands}
use Rattle.command_standby.proofs.row.tell_standing.Goals as goal

pub returns-then-write_all : goal.returns-then-write_all
returns-then-write_all g c =
    let standby = c.args.standby.now in
    let passed = c.args.passed.now in
    whole (Stands standby passed) (standing_text standby passed) _ _ (inr refl)
    (c.if-write_all.ensures.all ∙ ap (appended (g.K.Sink.written c.args.out.now)) (c.as_bytes.ensures.value ∙ c.in-Ok.ensures)) c.if-write_all.ensures.count

pub returns : goal.returns
returns g c =
    let standby = c.args.standby.now in
    let passed = c.args.passed.now in
    let before = g.K.Sink.written c.args.out.now in
    let now = g.K.Sink.written c.write_all.new.sink in
    cut (Stands standby passed) (standing_text standby passed) _ _ (inr refl)
    (subst (λ (text : List ℕ). AppendsPart text before now) (c.as_bytes.ensures.value ∙ c.in-Ok.ensures) c.if-write_all.ensures.part) c.if-write_all.ensures.count
