use Rattle.std.proofs.Common.{refl, sym, ap, ◌∙◌, subst, List, ◌++◌, [], ◌∷◌, ◌≡◌, None}
use Rattle.atomic_table.specs.Table.{opening}
use Rattle.history_lock.specs.Rule.{Kept, maker}
use Rattle.history_lock.specs.declared.view.Desk.{Desk}
use Rattle.history_lock.proofs.Comes.{opens}
use Rattle.history_lock.proofs.make.lay.Goals as goal

pub new-requires : goal.new-requires
new-requires g c =
    let desk : Desk g.row.M.Denot g.row.M-Request.Denot = record { machine = c.args.machine; asked = None } in
    let desks : c.push_reserved.new.self.items ≡ desk ∷ [] = c.push_reserved.ensures.items ∙ ap (λ (xs : List (Desk g.row.M.Denot g.row.M-Request.Denot)). xs ++ desk ∷ []) c.in_ok-slots.ensures.items in
    subst (λ (xs : List (Desk g.row.M.Denot g.row.M-Request.Denot)). Kept g.M.Machine.step g.M.Machine.Fits g.M.Machine.room c.args.start.now (opening (0 ∷ 0 ∷ []) xs (maker g.M.Machine.step g.M.Machine.Fits g.M.Machine.room c.args.start.now)))
    (sym desks) (opens g.M.Machine.step g.M.Machine.Fits g.M.Machine.room c.args.start.now c.args.machine c.requires desk refl)
