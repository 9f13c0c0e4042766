use Rattle.std.proofs.Common.{◌≡◌, ◌∙◌, Ok, Err, inl, sym, ap, rules}
use Rattle.toml.specs.View.{table_view}
use Rattle.plant_file.specs.Reading.{server_entry}
use Rattle.plant_file.proofs.ReadingInside.{keys-Ok, keys-Err, keys-none, key-value}
use Rattle.plant_file.proofs.read.server.read_server_keys.Goals as goal

pub returns-in_err-listen : goal.returns-in_err-listen
returns-in_err-listen c =
    let is : c.from_residual.result ≡ Err c.in_err-listen.field-0.0 = search rules in
    rw is (inl (sym (keys-Err _ _ _ _ _ _ _ _ c.in_err-listen.ensures)))

pub returns-in_err-display : goal.returns-in_err-display
returns-in_err-display c =
    let is : c.from_residual-in_err-display.result ≡ Err c.in_err-display.field-0.0 = search rules in
    rw is (inl (sym (keys-Ok _ _ _ _ _ _ _ _ c.in_ok-listen.ensures ∙ keys-Err _ _ _ _ _ _ _ _ c.in_err-display.ensures)))

pub returns-in_err-idle_ms : goal.returns-in_err-idle_ms
returns-in_err-idle_ms c =
    let is : c.from_residual-in_err-idle_ms.result ≡ Err c.in_err-idle_ms.field-0.0 = search rules in
    rw is (inl (sym (keys-Ok _ _ _ _ _ _ _ _ c.in_ok-listen.ensures ∙ keys-Ok _ _ _ _ _ _ _ _ c.in_ok-display.ensures ∙ keys-Err _ _ _ _ _ _ _ _ c.in_err-idle_ms.ensures.answer)))

pub returns-in_err-idle_limit : goal.returns-in_err-idle_limit
returns-in_err-idle_limit c =
    let is : c.from_residual-in_err-idle_limit.result ≡ Err c.in_err-idle_limit.field-0.0 = search rules in
    rw is (inl (sym (keys-Ok _ _ _ _ _ _ _ _ c.in_ok-listen.ensures ∙ keys-Ok _ _ _ _ _ _ _ _ c.in_ok-display.ensures ∙ keys-Ok _ _ _ _ _ _ _ _ c.in_ok-idle_ms.ensures.answer ∙ keys-Err _ _ _ _ _ _ _ _ c.in_err-idle_limit.ensures.answer)))

pub returns-in_err-turns : goal.returns-in_err-turns
returns-in_err-turns c =
    let is : c.from_residual-in_err-turns.result ≡ Err c.in_err-turns.field-0.0 = search rules in
    rw is (inl (sym (keys-Ok _ _ _ _ _ _ _ _ c.in_ok-listen.ensures ∙ keys-Ok _ _ _ _ _ _ _ _ c.in_ok-display.ensures ∙ keys-Ok _ _ _ _ _ _ _ _ c.in_ok-idle_ms.ensures.answer ∙ keys-Ok _ _ _ _ _ _ _ _ c.in_ok-idle_limit.ensures.answer ∙ keys-Err _ _ _ _ _ _ _ _ c.in_err-turns.ensures.answer)))

pub returns-in_err-sessions : goal.returns-in_err-sessions
returns-in_err-sessions c =
    let is : c.from_residual-in_err-sessions.result ≡ Err c.in_err-sessions.field-0.0 = search rules in
    rw is (inl (sym (keys-Ok _ _ _ _ _ _ _ _ c.in_ok-listen.ensures ∙ keys-Ok _ _ _ _ _ _ _ _ c.in_ok-display.ensures ∙ keys-Ok _ _ _ _ _ _ _ _ c.in_ok-idle_ms.ensures.answer ∙ keys-Ok _ _ _ _ _ _ _ _ c.in_ok-idle_limit.ensures.answer ∙ keys-Ok _ _ _ _ _ _ _ _ c.in_ok-turns.ensures.answer ∙ keys-Err _ _ _ _ _ _ _ _ c.in_err-sessions.ensures.answer)))

pub returns-in_err-refresh_every : goal.returns-in_err-refresh_every
returns-in_err-refresh_every c =
    let is : c.from_residual-in_err-refresh_every.result ≡ Err c.in_err-refresh_every.field-0.0 = search rules in
    rw is (inl (sym (keys-Ok _ _ _ _ _ _ _ _ c.in_ok-listen.ensures ∙ keys-Ok _ _ _ _ _ _ _ _ c.in_ok-display.ensures ∙ keys-Ok _ _ _ _ _ _ _ _ c.in_ok-idle_ms.ensures.answer ∙ keys-Ok _ _ _ _ _ _ _ _ c.in_ok-idle_limit.ensures.answer ∙ keys-Ok _ _ _ _ _ _ _ _ c.in_ok-turns.ensures.answer ∙ keys-Ok _ _ _ _ _ _ _ _ c.in_ok-sessions.ensures.answer ∙ keys-Err _ _ _ _ _ _ _ _ c.in_err-refresh_every.ensures.answer)))

pub returns-in_err-brightness : goal.returns-in_err-brightness
returns-in_err-brightness c =
    let is : c.from_residual-in_err-brightness.result ≡ Err c.in_err-brightness.field-0.0 = search rules in
    rw is (inl (sym (keys-Ok _ _ _ _ _ _ _ _ c.in_ok-listen.ensures ∙ keys-Ok _ _ _ _ _ _ _ _ c.in_ok-display.ensures ∙ keys-Ok _ _ _ _ _ _ _ _ c.in_ok-idle_ms.ensures.answer ∙ keys-Ok _ _ _ _ _ _ _ _ c.in_ok-idle_limit.ensures.answer ∙ keys-Ok _ _ _ _ _ _ _ _ c.in_ok-turns.ensures.answer ∙ keys-Ok _ _ _ _ _ _ _ _ c.in_ok-sessions.ensures.answer ∙ keys-Ok _ _ _ _ _ _ _ _ c.in_ok-refresh_every.ensures.answer ∙ keys-Err _ _ _ _ _ _ _ _ c.in_err-brightness.ensures.answer)))

pub returns : goal.returns
returns c =
    let listen = key-value _ _ _ _ _ _ c.in_ok-listen.ensures in
    let display = key-value _ _ _ _ _ _ c.in_ok-display.ensures in
    let idle_ms = key-value _ _ _ _ _ _ c.in_ok-idle_ms.ensures.answer in
    let idle_limit = key-value _ _ _ _ _ _ c.in_ok-idle_limit.ensures.answer in
    let turns = key-value _ _ _ _ _ _ c.in_ok-turns.ensures.answer in
    let sessions = key-value _ _ _ _ _ _ c.in_ok-sessions.ensures.answer in
    let refresh_every = key-value _ _ _ _ _ _ c.in_ok-refresh_every.ensures.answer in
    let brightness = key-value _ _ _ _ _ _ c.in_ok-brightness.ensures.answer in
    let listen_text = c.in_ok-listen-2.ensures in
    let display_text = c.in_ok-display-2.ensures in
    let read : server_entry (table_view c.args.entry.now.table.now) ≡ record { listen = c.in_ok-listen-2.listen; display = c.in_ok-display-2.display; idle_ms = c.in_ok-idle_ms.field-0; idle_limit = c.in_ok-idle_limit.field-0; turns = c.in_ok-turns.turns; sessions = c.in_ok-sessions.field-0; refresh_every = c.in_ok-refresh_every.field-0; brightness = c.in_ok-brightness.field-0 } = cc in
    inl (sym (keys-Ok _ _ _ _ _ _ _ _ c.in_ok-listen.ensures ∙ keys-Ok _ _ _ _ _ _ _ _ c.in_ok-display.ensures ∙ keys-Ok _ _ _ _ _ _ _ _ c.in_ok-idle_ms.ensures.answer ∙ keys-Ok _ _ _ _ _ _ _ _ c.in_ok-idle_limit.ensures.answer ∙ keys-Ok _ _ _ _ _ _ _ _ c.in_ok-turns.ensures.answer ∙ keys-Ok _ _ _ _ _ _ _ _ c.in_ok-sessions.ensures.answer ∙ keys-Ok _ _ _ _ _ _ _ _ c.in_ok-refresh_every.ensures.answer ∙ keys-Ok _ _ _ _ _ _ _ _ c.in_ok-brightness.ensures.answer ∙ keys-none _ _ _ _ ∙ ap Ok read))
