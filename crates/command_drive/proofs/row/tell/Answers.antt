use Rattle.std.proofs.Common.{◌∙◌, inr, refl, ap, subst, List, ℕ}
use Rattle.ctl_io.specs.Sink.{appended, AppendsPart}
use Rattle.command_rows.proofs.RowLemmas.{whole, cut}
use Rattle.command_drive.specs.DriveRow.{drive_lines}
use Rattle.command_drive.specs.DriveInside.{TellsEnds}
use Rattle.command_drive.proofs.row.tell.Goals as goal

pub returns-then-write_all : goal.returns-then-write_all
returns-then-write_all g c =
    let it = c.args.counts.now in
    whole (TellsEnds it) (drive_lines it.wants it.sent it.settled it.agree) _ _ (inr refl)
    (c.if-write_all.ensures.all ∙ ap (appended (g.K.Sink.written c.args.out.now)) (c.as_bytes.ensures.value ∙ c.in-Ok.ensures)) c.if-write_all.ensures.count

pub returns : goal.returns
returns g c =
    let it = c.args.counts.now in
    let before = g.K.Sink.written c.args.out.now in
    let now = g.K.Sink.written c.write_all.new.sink in
    cut (TellsEnds it) (drive_lines it.wants it.sent it.settled it.agree) _ _ (inr refl)
    (subst (λ (text : List ℕ). AppendsPart text before now) (c.as_bytes.ensures.value ∙ c.in-Ok.ensures) c.if-write_all.ensures.part) c.if-write_all.ensures.count
