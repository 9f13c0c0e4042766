use Rattle.std.proofs.Common.{◌≡◌, ◌∙◌, Ok, Err, inl, sym, ap, rules}
use Rattle.toml.specs.View.{table_view}
use Rattle.plant_file.proofs.ReadingInside.{answered}
use Rattle.plant_file.proofs.DocumentAnswer.{sections-Ok, section-value, only-Ok, only-value, sections-fails, only-fails, sections-none, sections-all, data-read}
use Rattle.plant_file.proofs.read.document.read_document.Goals as goal

pub returns-in_err-title : goal.returns-in_err-title
returns-in_err-title c =
    let is : c.from_residual.result ≡ Err c.in_err-title.field-0.0 = search rules in
    rw is (only-fails _ _ _ _ _ _ _ (sections-all (table_view c.args.document.now)) c.in_err-title.ensures)

pub returns-in_err-server : goal.returns-in_err-server
returns-in_err-server c =
    let is : c.from_residual-in_err-server.result ≡ Err c.in_err-server.field-0.0 = search rules in
    rw is (only-fails _ _ _ _ _ _ _ (sections-all (table_view c.args.document.now) ∙ only-Ok _ _ _ _ _ _ (answered _ _ c.in_ok-title.ensures)) c.in_err-server.ensures)

pub returns-in_err-levels : goal.returns-in_err-levels
returns-in_err-levels c =
    let is : c.from_residual-in_err-levels.result ≡ Err c.in_err-levels.field-0.0 = search rules in
    rw is (sections-fails _ _ _ _ _ _ _ (sections-all (table_view c.args.document.now) ∙ only-Ok _ _ _ _ _ _ (answered _ _ c.in_ok-title.ensures) ∙ only-Ok _ _ _ _ _ _ (answered _ _ c.in_ok-server.ensures)) c.in_err-levels.ensures)

pub returns-in_err-remotes : goal.returns-in_err-remotes
returns-in_err-remotes c =
    let is : c.from_residual-in_err-remotes.result ≡ Err c.in_err-remotes.field-0.0 = search rules in
    rw is (sections-fails _ _ _ _ _ _ _ (sections-all (table_view c.args.document.now) ∙ only-Ok _ _ _ _ _ _ (answered _ _ c.in_ok-title.ensures) ∙ only-Ok _ _ _ _ _ _ (answered _ _ c.in_ok-server.ensures) ∙ sections-Ok _ _ _ _ _ _ (answered _ _ c.in_ok-levels.ensures)) c.in_err-remotes.ensures)

pub returns-in_err-pools : goal.returns-in_err-pools
returns-in_err-pools c =
    let is : c.from_residual-in_err-pools.result ≡ Err c.in_err-pools.field-0.0 = search rules in
    rw is (sections-fails _ _ _ _ _ _ _ (sections-all (table_view c.args.document.now) ∙ only-Ok _ _ _ _ _ _ (answered _ _ c.in_ok-title.ensures) ∙ only-Ok _ _ _ _ _ _ (answered _ _ c.in_ok-server.ensures) ∙ sections-Ok _ _ _ _ _ _ (answered _ _ c.in_ok-levels.ensures) ∙ sections-Ok _ _ _ _ _ _ (answered _ _ c.in_ok-remotes.ensures)) c.in_err-pools.ensures)

pub returns-in_err-devices : goal.returns-in_err-devices
returns-in_err-devices c =
    let is : c.from_residual-in_err-devices.result ≡ Err c.in_err-devices.field-0.0 = search rules in
    rw is (sections-fails _ _ _ _ _ _ _ (sections-all (table_view c.args.document.now) ∙ only-Ok _ _ _ _ _ _ (answered _ _ c.in_ok-title.ensures) ∙ only-Ok _ _ _ _ _ _ (answered _ _ c.in_ok-server.ensures) ∙ sections-Ok _ _ _ _ _ _ (answered _ _ c.in_ok-levels.ensures) ∙ sections-Ok _ _ _ _ _ _ (answered _ _ c.in_ok-remotes.ensures) ∙ sections-Ok _ _ _ _ _ _ (answered _ _ c.in_ok-pools.ensures)) c.in_err-devices.ensures)

pub returns-in_err-buses : goal.returns-in_err-buses
returns-in_err-buses c =
    let is : c.from_residual-in_err-buses.result ≡ Err c.in_err-buses.field-0.0 = search rules in
    rw is (sections-fails _ _ _ _ _ _ _ (sections-all (table_view c.args.document.now) ∙ only-Ok _ _ _ _ _ _ (answered _ _ c.in_ok-title.ensures) ∙ only-Ok _ _ _ _ _ _ (answered _ _ c.in_ok-server.ensures) ∙ sections-Ok _ _ _ _ _ _ (answered _ _ c.in_ok-levels.ensures) ∙ sections-Ok _ _ _ _ _ _ (answered _ _ c.in_ok-remotes.ensures) ∙ sections-Ok _ _ _ _ _ _ (answered _ _ c.in_ok-pools.ensures) ∙ sections-Ok _ _ _ _ _ _ (answered _ _ c.in_ok-devices.ensures)) c.in_err-buses.ensures)

pub returns-in_err-air : goal.returns-in_err-air
returns-in_err-air c =
    let is : c.from_residual-in_err-air.result ≡ Err c.in_err-air.field-0.0 = search rules in
    rw is (sections-fails _ _ _ _ _ _ _ (sections-all (table_view c.args.document.now) ∙ only-Ok _ _ _ _ _ _ (answered _ _ c.in_ok-title.ensures) ∙ only-Ok _ _ _ _ _ _ (answered _ _ c.in_ok-server.ensures) ∙ sections-Ok _ _ _ _ _ _ (answered _ _ c.in_ok-levels.ensures) ∙ sections-Ok _ _ _ _ _ _ (answered _ _ c.in_ok-remotes.ensures) ∙ sections-Ok _ _ _ _ _ _ (answered _ _ c.in_ok-pools.ensures) ∙ sections-Ok _ _ _ _ _ _ (answered _ _ c.in_ok-devices.ensures) ∙ sections-Ok _ _ _ _ _ _ (answered _ _ c.in_ok-buses.ensures)) c.in_err-air.ensures)

pub returns-in_err-preview : goal.returns-in_err-preview
returns-in_err-preview c =
    let is : c.from_residual-in_err-preview.result ≡ Err c.in_err-preview.field-0.0 = search rules in
    rw is (sections-fails _ _ _ _ _ _ _ (sections-all (table_view c.args.document.now) ∙ only-Ok _ _ _ _ _ _ (answered _ _ c.in_ok-title.ensures) ∙ only-Ok _ _ _ _ _ _ (answered _ _ c.in_ok-server.ensures) ∙ sections-Ok _ _ _ _ _ _ (answered _ _ c.in_ok-levels.ensures) ∙ sections-Ok _ _ _ _ _ _ (answered _ _ c.in_ok-remotes.ensures) ∙ sections-Ok _ _ _ _ _ _ (answered _ _ c.in_ok-pools.ensures) ∙ sections-Ok _ _ _ _ _ _ (answered _ _ c.in_ok-devices.ensures) ∙ sections-Ok _ _ _ _ _ _ (answered _ _ c.in_ok-buses.ensures) ∙ sections-Ok _ _ _ _ _ _ (answered _ _ c.in_ok-air.ensures)) c.in_err-preview.ensures)

pub returns-in_err-displays : goal.returns-in_err-displays
returns-in_err-displays c =
    let is : c.from_residual-in_err-displays.result ≡ Err c.in_err-displays.field-0.0 = search rules in
    rw is (sections-fails _ _ _ _ _ _ _ (sections-all (table_view c.args.document.now) ∙ only-Ok _ _ _ _ _ _ (answered _ _ c.in_ok-title.ensures) ∙ only-Ok _ _ _ _ _ _ (answered _ _ c.in_ok-server.ensures) ∙ sections-Ok _ _ _ _ _ _ (answered _ _ c.in_ok-levels.ensures) ∙ sections-Ok _ _ _ _ _ _ (answered _ _ c.in_ok-remotes.ensures) ∙ sections-Ok _ _ _ _ _ _ (answered _ _ c.in_ok-pools.ensures) ∙ sections-Ok _ _ _ _ _ _ (answered _ _ c.in_ok-devices.ensures) ∙ sections-Ok _ _ _ _ _ _ (answered _ _ c.in_ok-buses.ensures) ∙ sections-Ok _ _ _ _ _ _ (answered _ _ c.in_ok-air.ensures) ∙ sections-Ok _ _ _ _ _ _ (answered _ _ c.in_ok-preview.ensures)) c.in_err-displays.ensures)

pub returns-in_err-panels : goal.returns-in_err-panels
returns-in_err-panels c =
    let is : c.from_residual-in_err-panels.result ≡ Err c.in_err-panels.field-0.0 = search rules in
    rw is (sections-fails _ _ _ _ _ _ _ (sections-all (table_view c.args.document.now) ∙ only-Ok _ _ _ _ _ _ (answered _ _ c.in_ok-title.ensures) ∙ only-Ok _ _ _ _ _ _ (answered _ _ c.in_ok-server.ensures) ∙ sections-Ok _ _ _ _ _ _ (answered _ _ c.in_ok-levels.ensures) ∙ sections-Ok _ _ _ _ _ _ (answered _ _ c.in_ok-remotes.ensures) ∙ sections-Ok _ _ _ _ _ _ (answered _ _ c.in_ok-pools.ensures) ∙ sections-Ok _ _ _ _ _ _ (answered _ _ c.in_ok-devices.ensures) ∙ sections-Ok _ _ _ _ _ _ (answered _ _ c.in_ok-buses.ensures) ∙ sections-Ok _ _ _ _ _ _ (answered _ _ c.in_ok-air.ensures) ∙ sections-Ok _ _ _ _ _ _ (answered _ _ c.in_ok-preview.ensures) ∙ sections-Ok _ _ _ _ _ _ (answered _ _ c.in_ok-displays.ensures)) c.in_err-panels.ensures)

pub returns : goal.returns
returns c =
    let read = data-read (table_view c.args.document.now) _ _ _ _ _ _ _ _ _ _ _ (only-value _ _ _ _ (answered _ _ c.in_ok-title.ensures)) (only-value _ _ _ _ (answered _ _ c.in_ok-server.ensures)) (section-value _ _ _ _ (answered _ _ c.in_ok-levels.ensures)) (section-value _ _ _ _ (answered _ _ c.in_ok-remotes.ensures)) (section-value _ _ _ _ (answered _ _ c.in_ok-pools.ensures)) (section-value _ _ _ _ (answered _ _ c.in_ok-devices.ensures)) (section-value _ _ _ _ (answered _ _ c.in_ok-buses.ensures)) (section-value _ _ _ _ (answered _ _ c.in_ok-air.ensures)) (section-value _ _ _ _ (answered _ _ c.in_ok-preview.ensures)) (section-value _ _ _ _ (answered _ _ c.in_ok-displays.ensures)) (section-value _ _ _ _ (answered _ _ c.in_ok-panels.ensures)) in
    inl (sym (sections-all (table_view c.args.document.now) ∙ only-Ok _ _ _ _ _ _ (answered _ _ c.in_ok-title.ensures) ∙ only-Ok _ _ _ _ _ _ (answered _ _ c.in_ok-server.ensures) ∙ sections-Ok _ _ _ _ _ _ (answered _ _ c.in_ok-levels.ensures) ∙ sections-Ok _ _ _ _ _ _ (answered _ _ c.in_ok-remotes.ensures) ∙ sections-Ok _ _ _ _ _ _ (answered _ _ c.in_ok-pools.ensures) ∙ sections-Ok _ _ _ _ _ _ (answered _ _ c.in_ok-devices.ensures) ∙ sections-Ok _ _ _ _ _ _ (answered _ _ c.in_ok-buses.ensures) ∙ sections-Ok _ _ _ _ _ _ (answered _ _ c.in_ok-air.ensures) ∙ sections-Ok _ _ _ _ _ _ (answered _ _ c.in_ok-preview.ensures) ∙ sections-Ok _ _ _ _ _ _ (answered _ _ c.in_ok-displays.ensures) ∙ sections-Ok _ _ _ _ _ _ (answered _ _ c.in_ok-panels.ensures) ∙ sections-none _ _ ∙ ap Ok read))
