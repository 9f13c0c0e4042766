use Rattle.std.proofs.Common.{ℕ, [], refl, ap, ◌∙◌}
use Rattle.panel_session.specs.Session.{StandsFor, Awaits}
use Rattle.plant_core.specs.declared.request.Request.TheVariants.{Leave}
use Rattle.trace_lines.specs.TraceLine.{told_line}
use Rattle.panel_session.proofs.session.Session.leave_line.Goals as goal

pub returns : goal.returns
unfolding StandsFor Awaits
returns c = (
  (refl, λ _. tt, ap (λ line. record c.args.self.now { line = line }) c.write.follows.holds-at-none),
  record {
    same = tt;
    stood = λ plant panel past stands. c.write.ensures.line ∙ ap (λ (panel : ℕ). told_line c.args.position (Leave panel) []) stands.0.panel_is;
    awaited = λ plant panel past request awaits. c.write.ensures.line ∙ ap (λ (panel : ℕ). told_line c.args.position (Leave panel) []) awaits.0.panel_is;
  },
)
