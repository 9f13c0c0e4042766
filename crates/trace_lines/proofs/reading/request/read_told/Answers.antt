use Rattle.std.proofs.Common.{List, ℕ, sym, subst}
use Rattle.trace_lines.specs.LineInside.{BeginsWithNumber, BeginsWithMessage}
use Rattle.trace_lines.proofs.RequestLemmas.{told_parts}
use Rattle.trace_lines.proofs.ScreenLemmas.{panel_small}
use Rattle.trace_lines.proofs.reading.request.read_told.Goals as goal

pub returns-in_default-clause-only : goal.returns-in_default-clause-only
returns-in_default-clause-only c = λ panel item message behind begins.
    let parts = told_parts c.args.plant.now c.args.text.now behind panel item message (panel_small c.args.plant.now panel c.in_default.ensures.plant begins.fits.0) begins in
    c.in_default.ensures.only panel parts.second parts.has_panel

pub returns-in_default-read_number-clause-only : goal.returns-in_default-read_number-clause-only
returns-in_default-read_number-clause-only c = λ panel item message behind begins.
    let parts = told_parts c.args.plant.now c.args.text.now behind panel item message (panel_small c.args.plant.now panel c.in-Some.ensures.plant begins.fits.0) begins in
    let first = c.in-Some.ensures.only panel parts.second parts.has_panel in
    c.in_default-read_number.ensures.only item parts.third (subst (λ (line : List ℕ). BeginsWithNumber line item parts.third) (sym first.1) parts.has_item)

pub returns-in_default-read_message-clause-only : goal.returns-in_default-read_message-clause-only
returns-in_default-read_message-clause-only c = λ panel item message behind begins.
    let parts = told_parts c.args.plant.now c.args.text.now behind panel item message (panel_small c.args.plant.now panel c.in-Some.ensures.plant begins.fits.0) begins in
    let first = c.in-Some.ensures.only panel parts.second parts.has_panel in
    let second = c.in-Some-read_number.ensures.only item parts.third (subst (λ (line : List ℕ). BeginsWithNumber line item parts.third) (sym first.1) parts.has_item) in
    c.in_default-read_message.ensures.only message behind (subst (λ (line : List ℕ). BeginsWithMessage line message behind) (sym second.1) parts.has_message)

pub returns-clause-only : goal.returns-clause-only
returns-clause-only c = λ panel item message behind begins.
    let parts = told_parts c.args.plant.now c.args.text.now behind panel item message (panel_small c.args.plant.now panel c.in-Some.ensures.plant begins.fits.0) begins in
    let first = c.in-Some.ensures.only panel parts.second parts.has_panel in
    let second = c.in-Some-read_number.ensures.only item parts.third (subst (λ (line : List ℕ). BeginsWithNumber line item parts.third) (sym first.1) parts.has_item) in
    let third = c.in-Some-read_message.ensures.only message behind (subst (λ (line : List ℕ). BeginsWithMessage line message behind) (sym second.1) parts.has_message) in
    (cc (first.0, second.0, third.0), third.1)
